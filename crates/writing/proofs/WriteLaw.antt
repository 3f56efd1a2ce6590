-- What `put` and `write` answer, case by case.
use Prim.Native.Nat.{ℕ, ◌≤◌}
use native.Mathlib.Omega.{arith}
use mathlib.Core.Path.{◌≡◌, refl, sym, ◌∙◌, ap}
use mathlib.Core.Bool.{Bool, true, false, cond}
use mathlib.Core.List.{List}
use lib.Dec.{ltb}
use lib.ListN.{length, take, drop, replicate, length-replicate}
use lib.Seq.{take-append_seam}
use borrow.Author.Tests.{ltb-false}
use Rattle.std.specs.Prelude.{Result as Answer, Ok, Err}
use Rattle.sheet.specs.declared.Refusal.{Refusal}
use Rattle.sheet.specs.declared.Summary.{Summary}
use Rattle.lists.specs.Lists.{overlay}
use Rattle.sheet.specs.Reading.{Result, accepted, refused, Reading, reading}
use Rattle.sheet.specs.Encode.{encode}
use Rattle.sheet.specs.Tables.{read_answer, refusal_of}
use Rattle.lists.specs.laws.TestLaw.{never}
use Rattle.writing.specs.Drawing.{Drawing, is_cut, sheet_of}
use Rattle.writing.specs.Writing.{placed, writing, written_answer, sheet_writes, Spells, ToldWritten}
use Rattle.writing.specs.words.Spelled.{length_of}
use Rattle.writing.proofs.laws.DrawingLaw.{whole}
use Rattle.writing.proofs.laws.LengthLaw.{sheet-length}
use Rattle.writing.proofs.laws.WritingLaw.{refuses, writes, spells, cut-refused, unread-refused, short-refused, written-again}

-- the answer and the buffer are those of an outcome
abbrev Puts : Result (List ℕ) → Answer ℕ Refusal → List ℕ → List ℕ → Type 0
Puts x r old new = (r ≡ written_answer x) × (new ≡ overlay (sheet_writes x) old)

pub puts-refused : (x : Result (List ℕ)) (number : ℕ) (l : List ℕ) → x ≡ refused number 0 → Puts x (Err (refusal_of number 0)) l l
puts-refused x number l e = rw e (refl, refl)

-- ---- put: what was read decides

module _ (s : List ℕ) (room : ℕ) where
  module _ (summary : Summary) (e : Ok summary ≡ read_answer (reading s)) where
    placed-accepted : placed (reading s) s room ≡ cond (ltb room (length s)) (refused 16 0) (accepted s)
    placed-accepted = one (reading s) e
      where
        one : (r : Reading) → Ok summary ≡ read_answer r → placed r s room ≡ cond (ltb room (length s)) (refused 16 0) (accepted s)
        one (accepted sh) q = refl
        one (refused n p) q = never (cc)

-- ---- write

abbrev Promised : Drawing → Answer ℕ Refusal → List ℕ → List ℕ → Type 0
Promised d r old new =
    (r ≡ written_answer (writing d (length old))) × ((new ≡ overlay (sheet_writes (writing d (length old))) old) × ToldWritten d r old new)

module _ (d : Drawing) (old : List ℕ) where
  -- what the answer tells
  module _ (r : Answer ℕ Refusal) (new : List ℕ) (p : Puts (writing d (length old)) r old new) where
    spelt : (n : ℕ) → r ≡ Ok n → Spells d (take n new)
    spelt n h = one (writing d (length old)) refl p
      where
        one : (x : Result (List ℕ)) → writing d (length old) ≡ x → Puts x r old new → Spells d (take n new)
        one (accepted s) e q =
            let m : n ≡ length s = cc q.0 in
            rw (m, q.1, take-append_seam s (drop (length s) old)) (spells d (length old) s e)
        one (refused number place) e q = never (cc q.0)

    promised : Promised d r old new
    promised =
        let room = length old in
        let refuse = refuses (writing d room) r old new p.0 p.1 in (
          p.0,
          (
            p.1,
            record {
              cut = λ h. refuse 2 (cut-refused room d h);
              unread = λ sh number place t e. refuse number (rw (← t) (unread-refused room sh number place e));
              short = λ s sh t e h. refuse 16 (rw (← t) (short-refused room s sh e h));
              spells = spelt;
              again = λ s sh t e h. writes (writing d room) r old new p.0 p.1 (rw (← t) (written-again room s sh e h));
            },
          ),
        )

  pub write-cut : is_cut d ≡ true → (why : Refusal) → why ≡ refusal_of 2 0 → Promised d (Err why) old old
  unfolding writing
  write-cut e why w = rw w (promised _ old (puts-refused (writing d (length old)) 2 old (rw e)))

-- tables that are not cut, and whether their sheet is too long
pub record Sized (d : Drawing) (long : Bool) : Type 0 where
  pub uncut : is_cut d ≡ false
  pub is : long ≡ ltb 16384 (length_of d.quiet (length d.rules) (length d.faults) (length d.starts) (length d.lengths) (length d.presses))

module _ {d : Drawing} {long : Bool} (z : Sized d long) where
  measured : long ≡ ltb 16384 (length (encode (sheet_of d)))
  measured = z.is ∙ ap (ltb 16384) (sym (sheet-length d (whole d z.uncut)))

  pub write-long : (old : List ℕ) → long ≡ true → (why : Refusal) → why ≡ refusal_of 1 0 → Promised d (Err why) old old
  unfolding writing reading
  write-long old h why w = rw w (promised d old _ old (puts-refused (writing d (length old)) 1 old (rw (z.uncut, ← measured, h))))

  -- there is room in the array that the sheet is spelled in
  module _ (fits : long ≡ false) where
    pub spell-room : length (encode (sheet_of d)) ≤ length {A = ℕ} (replicate 16384 0)
    spell-room = omega (arith, ltb-false 16384 (length (encode (sheet_of d))) (sym measured ∙ fits), length-replicate {A = ℕ} 16384 0)

  pub write-spelled : (r : Answer ℕ Refusal) (old new s : List ℕ) → s ≡ encode (sheet_of d) → Puts (placed (reading s) s (length old)) r old new → Promised d r old new
  unfolding writing
  write-spelled r old new s e p = promised d old r new (rw (z.uncut, ← e) p)
