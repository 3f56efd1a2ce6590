-- Spelling one part after another.
use Rattle.std.specs.Prelude.{ℕ, ◌+◌, ◌≤◌, ◌<◌, ◌≡◌, refl, List, [], ◌∷◌, ◌++◌, length, set, take, drop}
use Rattle.std.proofs.Common.{add-one, arith, sym, ◌∙◌, ap, ap₂, append_assoc, append-nil, length-append, length-set, take-append-drop, take-suc-set, drop-set-lt, drop-drop}
use Rattle.lists.specs.Lists.{overlay}
use Rattle.writing.specs.words.Spelled.{Spelled}

pub spelled_none : {l : List ℕ} {at : ℕ} → Spelled l l at at []
spelled_none {l} {at} = record { long = refl; many = omega arith; front = sym (append-nil (take at l)); back = refl }

pub spelled-byte : (l : List ℕ) (at b : ℕ) → at < length l → Spelled l (set l at b) at (at + 1) (b ∷ [])
spelled-byte l at b h =
    record {
      long = length-set l at b;
      many = refl;
      front = rw add-one (take-suc-set l at b h);
      back = drop-set-lt (at + 1) l at b (omega arith);
    }

pub spelled-both : {old mid new : List ℕ} {at m to : ℕ} {xs ys : List ℕ} → Spelled old mid at m xs → Spelled mid new m to ys → Spelled old new at to (xs ++ ys)
spelled-both {old} {mid} {new} {at} {m} {to} {xs} {ys} u v =
    let skip : (l : List ℕ) → drop to l ≡ drop (length ys) (drop m l) = λ l. ap (λ (n : ℕ). drop n l) v.many ∙ sym (drop-drop (length ys) m l) in
    record {
      long = v.long ∙ u.long;
      many = omega (arith, u.many, v.many, length-append xs ys);
      front = v.front ∙ ap (λ (l : List ℕ). l ++ ys) u.front ∙ append_assoc (take at old) xs ys;
      back = v.back ∙ skip mid ∙ ap (drop (length ys)) u.back ∙ sym (skip old);
    }

-- at the front of a buffer
pub spelled-front : {old new : List ℕ} {to : ℕ} {bytes : List ℕ} → Spelled old new 0 to bytes → new ≡ overlay bytes old
spelled-front {old} {new} {to} {bytes} s =
    let e : to ≡ length bytes = omega (arith, s.many) in
    sym (take-append-drop to new) ∙ ap₂ (λ (a b : List ℕ). a ++ b) s.front (s.back ∙ ap (λ (n : ℕ). drop n old) e)

-- of the bytes `whole`, for which there is room from `at` on, all but `rest` are spelled
pub record Spelling (old new : List ℕ) (at to : ℕ) (whole rest : List ℕ) : Type 0 where
  pub done : List ℕ
  pub wrote : Spelled old new at to done
  pub split : done ++ rest ≡ whole
  pub fits : at + length whole ≤ length old

-- of the rest, this part comes next
pub record Next (rest part later : List ℕ) : Type 0 where
  pub is : rest ≡ part ++ later

pub spelling-start : {old : List ℕ} {at : ℕ} {whole : List ℕ} → at + length whole ≤ length old → Spelling old old at at whole whole
spelling-start h = record { done = []; wrote = spelled_none; split = refl; fits = h }

module _ {old new : List ℕ} {at to : ℕ} {whole rest : List ℕ} (s : Spelling old new at to whole rest) where
  pub spelling-end : rest ≡ [] → Spelled old new at to whole
  spelling-end e = rw (sym (sym (append-nil s.done) ∙ ap (λ (l : List ℕ). s.done ++ l) (sym e) ∙ s.split)) s.wrote

  -- the next part fits, and is spelled
  module _ {part later : List ℕ} (n : Next rest part later) where
    pub spelling-room : to + length part ≤ length new
    spelling-room =
        omega (arith, s.wrote.long, s.wrote.many, s.fits, ap length s.split, length-append s.done rest, ap length n.is, length-append part later)

    pub spelling-more : {next : List ℕ} {r : ℕ} → Spelled new next to r part → Spelling old next at r whole later
    spelling-more p =
        record {
          done = s.done ++ part;
          wrote = spelled-both s.wrote p;
          split = append_assoc s.done part later ∙ ap (λ (l : List ℕ). s.done ++ l) (sym n.is) ∙ s.split;
          fits = s.fits;
        }
