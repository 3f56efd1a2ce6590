-- `mark_test`: the inputs before i are marked.
use native.Mathlib.Omega.{arith}
use mathlib.Core.Path.{refl}
use Rattle.std.specs.Prelude.{◌+◌, ◌-◌, ◌≡◌}
use Rattle.usage.proofs.TriedLaw.{marking-more, marking-end}
use Rattle.usage.proofs.tried.mark_test.Goals as goal

pub loop-i-init : goal.loop-i-init
loop-i-init c =
    let e : c.args.start + 0 ≡ c.args.start = omega arith in
    let f : c.args.inputs - 0 ≡ c.args.inputs = omega arith in
    rw (e, f) (record { inside = c.requires; is = refl })

pub loop-i-preserved : goal.loop-i-preserved
loop-i-preserved c = marking-more c.loop-i.invariant (omega arith) c.some_place-k.ensures.0 c.marked-used.ensures (omega arith) (omega arith)

pub returns : goal.returns
returns c = marking-end c.loop-i.invariant (omega arith)
