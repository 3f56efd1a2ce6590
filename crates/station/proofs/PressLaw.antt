-- The inputs of a test in its PRESS commands.
use Rattle.lists.specs.Options.{coded}
use Prim.Native.Nat.{ℕ, zero, suc, ◌+◌, ◌-◌, ◌*◌, ◌/◌, ◌<◌, ◌≤◌}
use native.Mathlib.Nat.{le_of_suc-le-suc}
use native.Mathlib.Omega.{arith}
use mathlib.Core.Path.{◌≡◌, refl, ◌∙◌, ap}
use mathlib.Core.Bool.{Bool, true, false}
use mathlib.Core.List.{List, [], ◌∷◌}
use borrow.Author.Tests.{leb-true, leb-false}
use lib.Dec.{leb}
use lib.ListN.{length, get_or, get_or-eq_default}
use lib.Seq.{drop-nil}
use Rattle.std.specs.Prelude.{Some, None}
use Rattle.sheet.specs.Sheet.{Sheet}
use Rattle.sheet.specs.Reading.{accepted, reading}
use Rattle.sheet.specs.Encode.{operand_bytes, press_bytes}
use Rattle.sheet.specs.Part.{parting, part_of}
use Rattle.sheet.specs.laws.PartLaw.{presses-length, part-presses}
use Rattle.station.specs.Station.{current, element_at}
use Rattle.station.proofs.laws.ProgressLaw.{element-at, element-out}

pub presses-at : (t : List ℕ) (i : ℕ) → i < length t → get_or (press_bytes t) (2 * i + 1) 0 ≡ get_or t i 0
unfolding operand_bytes
presses-at [] i l = absurd (omega arith)
presses-at (x ∷ t) zero l = refl
presses-at (x ∷ t) (suc i) l = let e : 2 * suc i + 1 ≡ suc (suc (2 * i + 1)) = omega arith in rw e (presses-at t i (le_of_suc-le-suc l))

module _ {part : List ℕ} (t : List ℕ) (e : part ≡ press_bytes t) where
  pub part_length : length part ≡ 2 * length t
  part_length = ap length e ∙ presses-length t

  pub found_at : (i : ℕ) → i < length part / 2 → Some (get_or part (2 * i + 1) 0) ≡ coded (element_at t i)
  found_at i l =
      let inside : i < length t = omega (arith, part_length) in
      rw (element-at t i inside) (ap Some (ap (λ (p : List ℕ). get_or p (2 * i + 1) 0) e ∙ presses-at t i inside))

  pub found_none : (i : ℕ) → length part / 2 ≤ i → None ≡ coded (element_at t i)
  found_none i l = let out : length t ≤ i = omega (arith, part_length) in rw (element-out t i out) refl

-- the part of a test, also of one that is not there
pub part-is : (s : List ℕ) (sh : Sheet) (i : ℕ) → reading s ≡ accepted sh → part_of s (parting s i) ≡ press_bytes (get_or sh.tests i [])
unfolding parting operand_bytes
part-is s sh i e = go (leb (length sh.tests) i) refl
  where
    go : (b : Bool) → leb (length sh.tests) i ≡ b → part_of s (parting s i) ≡ press_bytes (get_or sh.tests i [])
    go true k = rw (e, k, get_or-eq_default sh.tests [] (leb-true (length sh.tests) i k)) refl
    go false k = part-presses s sh i e (leb-false (length sh.tests) i k)

-- no test has begun, or the last begun is the one before
pub none-begun : (ts : List (List ℕ)) (n i : ℕ) → n ≡ 0 → None ≡ coded (element_at (current ts n) i)
unfolding current
none-begun ts n i e = rw (e, drop-nil i) refl

pub current-is : (ts : List (List ℕ)) (n : ℕ) → (n ≡ 0 → ⊥) → current ts n ≡ get_or ts (n - 1) []
unfolding current
current-is ts zero h = absurd (h refl)
current-is ts (suc n) h = let e : suc n - 1 ≡ n = omega arith in rw e refl
