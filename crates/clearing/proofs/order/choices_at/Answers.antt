use native.Mathlib.Omega.{arith}
use mathlib.Core.Path.{refl, ◌≡◌, ap, ◌∙◌}
use Prim.Native.Nat.{ℕ, ◌+◌}
use lib.ListN.{get_or}
use lib.Pow.{pow_pos}
use Rattle.clearing.specs.laws.SlotLaw.{top_one}
use Rattle.clearing.proofs.order.choices_at.Goals as goal

pub returns-then-by-eq0 : goal.returns-then-by-eq0
returns-then-by-eq0 c = (refl, λ j t. absurd (omega (arith, t.least, pow_pos j, c.if-by-eq0.true)))

pub overflow_add-result : goal.overflow_add-result
overflow_add-result c = let top = c.highest.ensures in
    record { fits = omega (arith, c.from.ensures, c.requires.1 c.from.result (omega (arith, c.from.ensures, top.low))) }

pub returns : goal.returns
returns c = (
  refl,
  λ j t.
      let same : c.from.result ≡ j = c.from.ensures ∙ top_one c.highest.ensures t in
      ap (λ (i : ℕ). get_or c.args.p.now i 0 + 1) same,
)
