-- `compare_loaded`: each way out is a case of what comparing comes to.
use Rattle.std.proofs.Common.{rules}
use mathlib.Core.Path.{◌∙◌}
use Rattle.mutation.proofs.OperateLaw.{valid, low, compare-refused, compare-short, compare-done}
use Rattle.mutation.proofs.conform.compare_loaded.Goals as goal

pub returns-in_err-machine : goal.returns-in_err-machine
returns-in_err-machine c = λ sh ld. compare-refused sh _ (c.in_err-machine.ensures sh ld.loads.tabled) _ (search rules)

pub returns-then-buffer-from : goal.returns-then-buffer-from
returns-then-buffer-from c = λ sh ld. let tb = ld.loads.tabled in
    rw c.new.ensures (compare-short tb (c.in_ok-machine.ensures sh tb) _ (c.from.ensures ∙ c.states.ensures) (rw (c.from-2.ensures ∙ c.bound.ensures) at c.if-buffer-from.true))

pub distinguish-requires-clause-valid : goal.distinguish-requires-clause-valid
distinguish-requires-clause-valid c = let tb = c.requires.1.loads.tabled in valid tb (c.in_ok-machine.ensures _ tb)

pub distinguish-requires-clause-start_bound : goal.distinguish-requires-clause-start_bound
distinguish-requires-clause-start_bound c = let tb = c.requires.1.loads.tabled in low tb (c.in_ok-machine.ensures _ tb)

pub returns : goal.returns
returns c = λ sh ld. let tb = ld.loads.tabled in
    compare-done tb (c.in_ok-machine.ensures sh tb) _ (c.from.ensures ∙ c.states.ensures) (rw (c.from-2.ensures ∙ c.bound.ensures) at c.if-buffer-from.false) c.distinguish.ensures.value c.distinguish.ensures.buf_after
