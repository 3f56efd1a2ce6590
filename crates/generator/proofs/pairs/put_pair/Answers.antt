-- `put_pair`: pair i is that of the state i / k and the input i % k.
use Rattle.std.proofs.Common.{◌/◌, ◌%◌, arith}
use Rattle.generator.proofs.laws.PairLaw.{pair-state, pair-input}
use Rattle.generator.proofs.laws.DraftLaw.{rule-in}
use Rattle.generator.proofs.StandingLaw.{pair_put}
use Rattle.generator.proofs.pairs.put_pair.Goals as goal

pub overflow_cast-s : goal.overflow_cast-s
overflow_cast-s c =
    let w = c.requires.ready.size in
    rw c.from-inputs.ensures (omega (arith, w.states.few, pair-state _ w.inputs.some _ _ c.requires.i_bound))

pub overflow_cast-x : goal.overflow_cast-x
overflow_cast-x c =
    let w = c.requires.ready.size in
    rw c.from-inputs.ensures (omega (arith, w.inputs.few, pair-input _ w.inputs.some c.args.i))

pub draw_pair-pair-requires-clause-s_lt_states : goal.draw_pair-pair-requires-clause-s_lt_states
draw_pair-pair-requires-clause-s_lt_states c = rw c.from-inputs.ensures (pair-state _ c.requires.ready.size.inputs.some _ _ c.requires.i_bound)

pub put_fault-requires-clause-output_lt_outputs : goal.put_fault-requires-clause-output_lt_outputs
put_fault-requires-clause-output_lt_outputs c =
    let w = c.requires.ready.size in
    let z = c.args.size in
    let in-range = rule-in z w c.args.draws.now.seed (c.args.i / z.inputs) (c.args.i % z.inputs) (pair-state _ w.inputs.some _ _ c.requires.i_bound) (pair-input _ w.inputs.some c.args.i) in
    rw (c.draw_pair-pair.ensures.pair, c.from-inputs.ensures) in-range.output

pub returns-clause-put : goal.returns-clause-put
returns-clause-put c = pair_put c.args.size _ _ _ _ c.draw_pair-pair.result _ _ _ _ (rw c.from-inputs.ensures at c.draw_pair-pair.ensures.pair) c.put.ensures c.put_fault.ensures
