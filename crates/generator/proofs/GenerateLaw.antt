-- What `generate` answers, case by case.
use Rattle.std.proofs.Common.{◌≡◌, ℕ, ◌*◌, ◌<◌, ◌≤◌, true, false, List, [], length, take, refl, arith, le-ltb, lt-ltb}
use Rattle.sheet.specs.declared.Size.{Size}
use Rattle.lists.specs.Lists.{joined, overlay}
use Rattle.lists.specs.laws.TestLaw.{not-true-false}
use Rattle.sheet.specs.Reading.{accepted, refused, size_in_range}
use Rattle.sheet.specs.Encode.{encode}
use Rattle.sheet.specs.WellFormed.{SizeIn}
use Rattle.sheet.specs.laws.CommandLaw.{size_in_lem, in_size}
use Rattle.std.specs.Prelude.{Err}
use Rattle.std.specs.Prelude.{Result as Answer}
use Rattle.sheet.specs.declared.Refusal.{Refusal}
use Rattle.sheet.specs.Tables.{refusal_of}
use Rattle.writing.specs.Drawing.{drawing, drawing_of}
use Rattle.writing.specs.Writing.{writing, written_answer, sheet_writes}
use Rattle.writing.proofs.laws.WritingLaw.{refuses, writes, written-again}
use Rattle.generator.specs.Generating.{drafted, sheet_from, generating}
use Rattle.generator.specs.Generated.{ToldGenerated}
use Rattle.generator.specs.words.Standing.{Standing}
use Rattle.generator.proofs.laws.GeneratedLaw.{short, read_back, generated}

module _ (seed : ℕ) (z : Size) (room : ℕ) where
  -- in range and with room, it is the sheet
  pub generating-sheet : SizeIn z → 16384 ≤ room → generating seed z room ≡ accepted (encode (sheet_from seed z))
  unfolding generating
  generating-sheet w h = rw (in_size z w, le-ltb room 16384 h)

  -- and its tables are written
  module _ {standing : ℕ} {rs rs' fs fs' : List ℕ} (w : SizeIn z) (h : 16384 ≤ room)
      (s : Standing (drafted z seed (z.states * z.inputs)) (z.states * z.inputs) standing rs rs' fs fs') where
    pub written-tables : (pairs : ℕ) → pairs ≡ z.states * z.inputs
        → writing (drawing z false (take (4 * pairs) rs') (take (4 * standing) fs') [] [] []) room ≡ generating seed z room
    unfolding sheet_from drawing_of joined
    written-tables pairs e =
        rw (e, s.rules.front, s.faults.front, generating-sheet w h)
        (written-again room (encode (sheet_from seed z)) (sheet_from seed z) (read_back seed z w) (omega (arith, short seed z w)))

  out-range : size_in_range z ≡ false → generating seed z room ≡ refused 4 0
  unfolding generating
  out-range e = rw e

  short-room : SizeIn z → room < 16384 → generating seed z room ≡ refused 16 0
  unfolding generating
  short-room w h = rw (in_size z w, lt-ltb room 16384 h)

module _ (seed : ℕ) (z : Size) (old : List ℕ) where
  abbrev Promised : Answer ℕ Refusal → List ℕ → Type 0
  Promised r new =
      (r ≡ written_answer (generating seed z (length old))) × ((new ≡ overlay (sheet_writes (generating seed z (length old))) old) × ToldGenerated z r old new)

  -- what the answer tells
  pub promised : (r : Answer ℕ Refusal) (new : List ℕ) → r ≡ written_answer (generating seed z (length old)) → new ≡ overlay (sheet_writes (generating seed z (length old))) old → Promised r new
  promised r new a b =
      let x = generating seed z (length old) in (
        a,
        (
          b,
          record {
            range = λ n. refuses x r old new a b 4 (out-range seed z (length old) (not-true-false _ (λ e. n (size_in_lem z e))));
            short = λ w h. refuses x r old new a b 16 (short-room seed z (length old) w h);
            sheet = λ w h. (encode (sheet_from seed z), writes x r old new a b (generating-sheet seed z (length old) w h), generated seed z w);
          },
        ),
      )

  pub out_of_range : size_in_range z ≡ false → Promised (Err (refusal_of 4 0)) old
  out_of_range e = let k = out-range seed z (length old) e in promised _ old (rw k refl) (rw k refl)

  pub no_room : size_in_range z ≡ true → length old < 16384 → Promised (Err (refusal_of 16 0)) old
  no_room w h = let k = short-room seed z (length old) (size_in_lem z w) h in promised _ old (rw k refl) (rw k refl)
