-- What writing means.
use Rattle.std.specs.Prelude.{ℕ, ◌≤◌, ◌<◌, ◌≡◌, refl, Bool, true, false, cond, List, ltb, length, drop}
use Rattle.std.specs.Prelude.{Result as Answer}
use Rattle.std.proofs.Common.{sym, ◌∙◌, ap}
use Rattle.std.proofs.Math.Seq.{take-append_seam}
use borrow.Author.Tests.{lt-ltb, le-ltb}
use Rattle.sheet.specs.Sheet.{Sheet}
use Rattle.lists.specs.Lists.{overlay}
use Rattle.sheet.specs.Reading.{Result, accepted, refused, Reading, reading}
use Rattle.sheet.specs.Encode.{encode}
use Rattle.lists.specs.laws.TestLaw.{never}
use Rattle.sheet.specs.laws.EncodedLaw.{encoded}
use Rattle.sheet.specs.laws.InjectiveLaw.{encode_injective}
use Rattle.sheet.specs.declared.Refusal.{Refusal}
use Rattle.writing.specs.Drawing.{Drawing, Whole, is_cut, sheet_of, drawing_of}
use Rattle.writing.specs.Writing.{placed, writing, written_answer, sheet_writes, Spells, Refuses, Writes}
use Rattle.writing.proofs.laws.DrawingLaw.{sheet-again, never-cut, whole, cut, drawing-again}

-- what an outcome makes of the answer and the buffer
module _ (x : Result (List ℕ)) (r : Answer ℕ Refusal) (old new : List ℕ) (a : r ≡ written_answer x) (b : new ≡ overlay (sheet_writes x) old) where
  pub refuses : (number : ℕ) → x ≡ refused number 0 → Refuses number r old new
  refuses number e = record { answer = rw e at a; untouched = rw e at b }

  pub writes : {s : List ℕ} → x ≡ accepted s → Writes s r new
  writes {s} e = let f : new ≡ overlay s old = rw e at b in record { answer = rw e at a; front = rw (f, take-append_seam s (drop (length s) old)) refl }

-- bytes that were placed read to a sheet
pub record Taken (s t : List ℕ) : Type 0 where
  pub sheet : Sheet
  pub reads : reading s ≡ accepted sheet
  pub same : s ≡ t

pub placed-taken : (s t : List ℕ) (room : ℕ) → placed (reading s) s room ≡ accepted t → Taken s t
placed-taken s t room = one (reading s) refl (ltb room (length s)) refl
  where
    one : (r : Reading) → reading s ≡ r → (b : Bool) → ltb room (length s) ≡ b → placed r s room ≡ accepted t → Taken s t
    one (refused number place) e b k h = never (cc)
    one (accepted sh) e true k h = never (cc (rw k at h))
    one (accepted sh) e false k h = record { sheet = sh; reads = e; same = cc (rw k at h) }

-- a written sheet spells the tables
pub spells : (d : Drawing) (room : ℕ) (s : List ℕ) → writing d room ≡ accepted s → Spells d s
unfolding writing
spells d room s = one (is_cut d) refl
  where
    one : (b : Bool) → is_cut d ≡ b → cond b (refused 2 0) (placed (reading (encode (sheet_of d))) (encode (sheet_of d)) room) ≡ accepted s → Spells d s
    one true k h = never (cc)
    one false k h =
        let t = placed-taken (encode (sheet_of d)) s room h in
        record {
          sheet = t.sheet;
          reads = ap reading (sym t.same) ∙ t.reads;
          tables = ap drawing_of (encode_injective t.sheet (sheet_of d) (encoded (encode (sheet_of d)) t.sheet t.reads)) ∙ drawing-again d (whole d k);
        }

module _ (room : ℕ) where
  pub cut-refused : (d : Drawing) → (Whole d → ⊥) → writing d room ≡ refused 2 0
  unfolding writing
  cut-refused d h = rw (cut d h)

  -- the tables of a sheet: what reading refuses in it
  pub unread-refused : (sh : Sheet) (number place : ℕ) → reading (encode sh) ≡ refused number place → writing (drawing_of sh) room ≡ refused number 0
  unfolding writing
  unread-refused sh number place e = rw (never-cut sh, sheet-again sh, e)

  -- of an accepted one: no room for its bytes, or its very bytes
  module _ (s : List ℕ) (sh : Sheet) (e : reading s ≡ accepted sh) where
    pub short-refused : room < length s → writing (drawing_of sh) room ≡ refused 16 0
    unfolding writing
    short-refused h = rw (never-cut sh, sheet-again sh, encoded s sh e, e, lt-ltb room (length s) h)

    pub written-again : length s ≤ room → writing (drawing_of sh) room ≡ accepted s
    unfolding writing
    written-again h = rw (never-cut sh, sheet-again sh, encoded s sh e, e, le-ltb room (length s) h)
