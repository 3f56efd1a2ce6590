-- The numbers and places of refusals.
use Rattle.std.specs.Prelude.{◌≡◌, List, ℕ, ◌≤◌, length, Err}
use Rattle.std.specs.Prelude.{Result as Answer}
use Rattle.std.proofs.Common.{◌∙◌, ap, arith}
use Rattle.sheet.specs.declared.Refusal.{Refusal}
use Rattle.sheet.specs.declared.Summary.{Summary}
use Rattle.sheet.specs.Reading.{Reading, accepted, refused, reading}
use Rattle.sheet.specs.Tables.{refusal_of, read_answer}
use Rattle.lists.specs.laws.TestLaw.{never}
use Rattle.sheet.specs.laws.ReadingLaw.{Ending, accepts, rejects, ending}

-- reading refuses with one of 01's numbers 1 to 12, at a place of the sheet or its end
pub refusal-numbers : (s : List ℕ) (number place : ℕ) → reading s ≡ refused number place → (1 ≤ number) × (number ≤ 12) × (place ≤ length s)
refusal-numbers s number place = one (reading s) (ending (λ p at. Unit {0}) s (λ p q at e i m. tt) tt)
  where
    one : (r : Reading) → Ending (λ p at. Unit {0}) s r → r ≡ refused number place → (1 ≤ number) × (number ≤ 12) × (place ≤ length s)
    one r (accepts sh a) e = never (cc)
    one r (rejects n l a) e =
        let same_number : n ≡ number = cc in
        let same_place : l ≡ place = cc in
        (omega arith, omega arith, omega arith)

-- what an operation hands on of a refusal of Read
pub refusal-told : (r : Refusal) (a : Reading) (number place : ℕ) → Err r ≡ read_answer a → a ≡ refused number place → (r.number ≡ number) × (r.place ≡ place)
refusal-told r a number place e f =
    let h : Err r ≡ read_answer (refused number place) = e ∙ ap read_answer f in
    let g : r ≡ refusal_of number place = cc in
    (ap (λ (x : Refusal). x.number) g, ap (λ (x : Refusal). x.place) g)

-- a refused reading, by what is answered
pub refused-by : (r : Refusal) (a : Reading) → read_answer a ≡ Err r → a ≡ refused r.number r.place
refused-by r (accepted sh) e = never (cc)
refused-by r (refused number place) e =
    let g : refusal_of number place ≡ r = cc in
    let f : Refusal → Reading = λ x. refused x.number x.place in
    ap f g
