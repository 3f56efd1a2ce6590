-- `is_open`: each way out is one of the tests.
use Rattle.std.specs.Prelude.{◌%◌}
use Rattle.lists.specs.Proving.{le-ltb}
use Rattle.block.proofs.SitesLaw.{open-no-input, open-choices}
use Rattle.block.proofs.sites.is_open.Goals as goal

pub returns-then-i-k : goal.returns-then-i-k
returns-then-i-k c = let a = c.args in λ n l. open-choices n a.k a.choices.now a.i l c.if-i-k.true

pub returns-else-i-k : goal.returns-else-i-k
returns-else-i-k c = let a = c.args in λ n l. rw (le-ltb (a.i % 16) a.k c.if-i-k.false) (open-no-input n a.k a.choices.now a.i l c.if-i-k.false)
