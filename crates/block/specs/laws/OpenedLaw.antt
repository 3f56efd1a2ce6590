-- A sheet that is read: what is known of an accepted one, and of a refused one.
use Rattle.std.specs.Prelude.{◌≡◌, Ok, Err}
use Rattle.std.specs.Prelude.{Result as Answer}
use Rattle.lists.specs.Proving.{ℕ, refl, sym, ◌∙◌, ap, List, never}
use Rattle.sheet.specs.declared.Refusal.{Refusal}
use Rattle.sheet.specs.declared.Summary.{Summary}
use Rattle.sheet.specs.Sheet.{Sheet}
use Rattle.sheet.specs.Reading.{accepted, refused, Reading, reading, summary_of}
use Rattle.sheet.specs.Tables.{refusal_of, read_answer}
use Rattle.sheet.specs.laws.AcceptedLaw.{short-enough}
use Rattle.sheet.specs.laws.EncodedLaw.{encoded}
use Rattle.sheet.specs.laws.RefusalLaw.{refused-by}
use Rattle.block.specs.Tabled.{Loads, ReadFrom}

pub record Accepted (s : List ℕ) (size : Summary) (m starts lengths : List ℕ) : Type 0 where
  pub sheet : Sheet
  pub is : reading s ≡ accepted sheet
  pub holds : ReadFrom sheet s starts lengths size.tests m

module _ (s : List ℕ) {r : Answer Summary Refusal} (e : r ≡ read_answer (reading s)) where
  pub opened : {size : Summary} {m starts lengths : List ℕ} → r ≡ Ok size → ((sh : Sheet) → reading s ≡ accepted sh → Loads sh m starts lengths) →
      Accepted s size m starts lengths
  unfolding summary_of
  opened {size} {m} {starts} {lengths} h loads = go (reading s) refl
    where
      go : (d : Reading) → reading s ≡ d → Accepted s size m starts lengths
      go (accepted sh) is =
          let a : Ok size ≡ Ok (summary_of sh) = sym h ∙ e ∙ ap read_answer is in
          let z : size ≡ summary_of sh = cc in
          record { sheet = sh; is = is; holds = record { loads = loads sh is; bytes = encoded s sh is; many = ap (λ (x : Summary). x.tests) z; short = short-enough s sh is } }
      go (refused number place) is =
          let a : Ok size ≡ Err (refusal_of number place) = sym h ∙ e ∙ ap read_answer is in
          never (cc)

  pub closed-by : (number place : ℕ) → r ≡ Err (refusal_of number place) → reading s ≡ refused number place
  closed-by number place h = refused-by (refusal_of number place) (reading s) (sym e ∙ h)
