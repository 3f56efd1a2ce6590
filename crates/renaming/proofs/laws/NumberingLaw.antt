-- 02's Point 12, from the bytes: what becomes of an accepted sheet.
use Rattle.std.specs.Prelude.{ℕ, ◌≤◌, ◌≡◌, refl, List, length}
use Rattle.std.proofs.Common.{arith, sym, ◌∙◌, ap, le-ltb}
use Rattle.sheet.specs.Sheet.{Sheet}
use Rattle.sheet.specs.Encode.{encode}
use Rattle.sheet.specs.Reading.{accepted, reading}
use Rattle.sheet.specs.laws.AcceptedLaw.{well-formed, short-enough}
use Rattle.sheet.specs.laws.AcceptsLaw.{accepts}
use Rattle.sheet.specs.laws.EncodedLaw.{encoded}
use Rattle.renaming.specs.Renaming.{number_of, numbered, numbering, Numbers}
use Rattle.renaming.proofs.laws.FirstLaw.{first-reached}
use Rattle.renaming.proofs.laws.NumberedLaw.{numbered_is, numbered-well-formed, numbered-length, numbered-again, equal-bytes}
use Rattle.renaming.proofs.laws.CompleteLaw.{numbered-complete}

pub numbering-is : (s : List ℕ) (sh : Sheet) (room : ℕ) → reading s ≡ accepted sh → length s ≤ room → numbering s room ≡ accepted (encode (numbered sh))
unfolding numbering
numbering-is s sh room e l = rw (e, le-ltb room (length s) l) refl

-- 02, Point 12: what becomes of an accepted sheet
pub numbered-told : (s : List ℕ) (sh : Sheet) → reading s ≡ accepted sh → Numbers s sh (encode (numbered sh))
numbered-told s sh e =
    let wf = well-formed s sh e in
    let now = numbered sh in
    let long : length (encode now) ≡ length s = numbered-length sh wf ∙ ap length (encoded s sh e) in
    let read : reading (encode now) ≡ accepted now = accepts now (numbered-well-formed sh wf) (omega (arith, short-enough s sh e)) in
    record {
      sheet = now;
      reads = read;
      long = long;
      names = number_of sh;
      is = numbered_is sh wf;
      first = record { sooner = first-reached sh wf };
      alike = λ u other room r l. (
        λ h. let same : encode now ≡ encode (numbered other) = cc (numbering-is u other room r l) in (equal-bytes sh other wf (well-formed u other r)).0 same,
        λ h. numbering-is u other room r l ∙ ap (λ t. accepted t) (sym ((equal-bytes sh other wf (well-formed u other r)).1 h)),
      );
      again = λ room l. numbering-is (encode now) now room read l ∙ ap (λ sheet. accepted (encode sheet)) (numbered-again sh wf);
      complete = numbered-complete sh wf;
    }
