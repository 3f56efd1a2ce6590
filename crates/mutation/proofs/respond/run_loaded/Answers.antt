-- `run_loaded`: each way out is a case of what running comes to.
use Rattle.std.proofs.Common.{rules}
use Rattle.mutation.proofs.OperateLaw.{runnable, run-refused, run-over, run_short, run-done}
use Rattle.mutation.proofs.respond.run_loaded.Goals as goal

pub returns-in_err-machine : goal.returns-in_err-machine
returns-in_err-machine c = λ sh ld. run-refused sh _ (c.in_err-machine.ensures sh ld.loads.tabled) _ _ (search rules)

pub returns-in-Some : goal.returns-in-Some
returns-in-Some c = λ sh ld. let tb = ld.loads.tabled in rw c.new.ensures (run-over tb (c.in_ok-machine.ensures sh tb) _ c.inputs.ensures c.first_over.ensures _ c.in-Some.is)

pub returns-then-buffer-inputs : goal.returns-then-buffer-inputs
returns-then-buffer-inputs c = λ sh ld. let tb = ld.loads.tabled in
    rw c.new-then-buffer-inputs.ensures (run_short tb (c.in_ok-machine.ensures sh tb) _ c.inputs.ensures c.first_over.ensures c.in_default.is _ c.if-buffer-inputs.true)

pub respond-set-requires : goal.respond-set-requires
respond-set-requires c = let (sh, ld) = c.requires in
    let tb = ld.loads.tabled in
    record { runnable = runnable tb (c.in_ok-machine.ensures sh tb) _ c.inputs.ensures c.first_over.ensures c.in_default.is; inputs_in_bounds = c.if-buffer-inputs.false }

pub returns : goal.returns
returns c = λ sh ld. let tb = ld.loads.tabled in
    run-done tb (c.in_ok-machine.ensures sh tb) _ c.inputs.ensures c.first_over.ensures c.in_default.is _ c.if-buffer-inputs.false
    c.respond-set.ensures.buffer_after c.respond-set.ensures.value c.counted-used.ensures
