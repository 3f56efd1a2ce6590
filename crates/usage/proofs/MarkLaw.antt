-- One slot more.
use Prim.Native.Nat.{ℕ, ◌*◌, ◌%◌, ◌^◌, ◌≤◌, ◌<◌}
use native.Mathlib.Omega.{arith}
use mathlib.Core.Path.{◌≡◌, refl, ◌∙◌, ap}
use mathlib.Core.List.{List}
use borrow.Author.Tests.{lt-ltb, le-ltb}
use lib.Bits.{bit_or}
use lib.Pow.{shl_exact}
use Rattle.model.specs.Used.{mark}
use Rattle.block.specs.Layout.{site_at}
use Rattle.usage.specs.Marks.{slot_at}

-- the code's `set | (1 << i)`
pub or-shl : (set i : ℕ) → i < 32 → bit_or set ((1 * 2 ^ i) % 2 ^ 32) ≡ bit_or set (2 ^ i)
or-shl set i l =
    let e : 1 * 2 ^ i ≡ 2 ^ i = omega arith in
    ap (λ (n : ℕ). bit_or set n) (shl_exact 1 i 32 (omega arith) (omega arith) ∙ e)

module _ (m : List ℕ) (set k : ℕ) {i : ℕ} (e : i ≡ site_at m k) where
  pub marked-slot : {r : ℕ} → i < 32 → r ≡ bit_or set (2 ^ i) → r ≡ mark set (slot_at m k)
  unfolding slot_at
  marked-slot l er = er ∙ rw (← e, lt-ltb i 32 l) refl

  pub marked-none : 32 ≤ i → set ≡ mark set (slot_at m k)
  unfolding slot_at
  marked-none l = rw (← e, le-ltb i 32 l) refl
