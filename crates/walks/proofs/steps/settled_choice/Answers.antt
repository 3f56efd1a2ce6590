use Rattle.lists.specs.Proving.{rules, arith}
use Rattle.walks.proofs.steps.settled_choice.Goals as goal

pub returns-then-i-eq255 : goal.returns-then-i-eq255
returns-then-i-eq255 c = record { none = λ e. search rules; some = λ n. absurd (n c.if-i-eq255.true); settled = λ e. omega arith }

pub bounds-p-from : goal.bounds-p-from
bounds-p-from c = omega (arith, c.from.ensures, c.requires c.if-i-eq255.false)

pub returns : goal.returns
returns c = record { none = λ e. absurd (c.if-i-eq255.false e); some = λ n. rw c.from.ensures (search rules); settled = c.if-c-eq256.false }
