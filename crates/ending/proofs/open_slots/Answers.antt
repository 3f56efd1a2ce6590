use Rattle.std.proofs.Common.{◌≡◌, ℕ, ◌+◌, ap, ◌∙◌, arith}
use Rattle.sheet.specs.declared.Size.{Size}
use Rattle.sheet.specs.Sheet.{open_below, waking_slots}
use Rattle.ending.proofs.EndLaw as laws
use Rattle.ending.proofs.open_slots.Goals as goal

pub loop-s-init : goal.loop-s-init
loop-s-init c = (omega arith, λ sh e h k. laws.slots-none sh _ k)

pub loop-s-preserved : goal.loop-s-preserved
loop-s-preserved c = (omega arith, λ sh e h k. laws.slots-more sh _ _ _ (c.loop-s.invariant.1 sh e h k) (c.open_at-n.ensures.counted sh e h))

pub returns : goal.returns
returns c =
    let a = c.args in
    λ sh h.
    let e : c.loop-s.s ≡ a.size.states = omega arith in
    laws.slots-all sh _
    (c.loop-s.invariant.1 sh h.size (laws.linked _ c.unruled_choices-unruled.ensures h) (c.waking_slots-n.ensures.counted sh h.starts-are)
    ∙ ap (λ (n : ℕ). waking_slots sh + open_below sh n) (e ∙ ap (λ (z : Size). z.states) h.size))
