-- Numbering the slots: what holds after the pairs before an index.
use Rattle.std.specs.Prelude.{◌+◌, ◌-◌, ◌*◌, ◌/◌, ◌%◌, ◌<◌, ◌≤◌, ◌≡◌, ◌&&◌, ◌∷◌, ◌++◌}
use Rattle.lists.specs.Proving.{arith, ℕ, zero, suc, refl, sym, ◌∙◌, ap, Bool, true, false, cond, by_cases, List, [], length, get_or, set, drop, replicate, length-set, length-replicate, length-append, get_or-replicate, get_or-set_same, get_or-set_other, drop-cons, append_snoc, ltb, ℕ_discrete, dec_lt, add-one, lt-ltb, le-ltb}
use mathlib.Core.List.{append-nil}
use lib.Seq.{set_at}
use Rattle.lists.specs.Lists.{overlay}
use Rattle.block.specs.Sites.{open_at, open_choices, Numbered}

module _ (n k : ℕ) (choices : List ℕ) (i : ℕ) where
  open-no-state : n ≤ i / 16 → open_at n k choices i ≡ false
  unfolding open_at
  open-no-state l = rw (le-ltb (i / 16) n l) refl

  pub open-no-input : i / 16 < n → k ≤ i % 16 → false ≡ open_at n k choices i
  unfolding open_at
  open-no-input ls l = rw (lt-ltb (i / 16) n ls, le-ltb (i % 16) k l) refl

  pub open-choices : i / 16 < n → i % 16 < k → ltb 1 (get_or choices i 0) ≡ open_at n k choices i
  unfolding open_at
  open-choices ls l = rw (lt-ltb (i / 16) n ls, lt-ltb (i % 16) k l) refl

module _ (first : List ℕ) (n k : ℕ) (choices : List ℕ) (i : ℕ) where
  -- one pair further
  pub choices-open : open_at n k choices i ≡ true → open_choices first n k choices (suc i) ≡ open_choices first n k choices i ++ get_or choices i 0 ∷ []
  unfolding open_choices
  choices-open e = rw e refl

  pub choices-shut : open_at n k choices i ≡ false → open_choices first n k choices (suc i) ≡ open_choices first n k choices i
  unfolding open_choices
  choices-shut e = rw e (append-nil (open_choices first n k choices i))

  pub choices-longer : length (open_choices first n k choices i) ≤ length (open_choices first n k choices (suc i))
  unfolding open_choices
  choices-longer = omega (arith, length-append (open_choices first n k choices i) (cond (open_at n k choices i) (get_or choices i 0 ∷ []) []))

pub choices-most : (first : List ℕ) (n k : ℕ) (choices : List ℕ) (i d : ℕ) → length (open_choices first n k choices i) ≤ length (open_choices first n k choices (i + d))
choices-most first n k choices i zero = let e : i + 0 ≡ i = omega arith in rw e (omega arith)
choices-most first n k choices i (suc d) =
    let e : i + suc d ≡ suc (i + d) = omega arith in
    rw e (omega (arith, choices-most first n k choices i d, choices-longer first n k choices (i + d)))

-- past the last state there is no open pair
choices-past : (first : List ℕ) (n k : ℕ) (choices : List ℕ) (i d : ℕ) → 16 * n ≤ i → open_choices first n k choices (i + d) ≡ open_choices first n k choices i
choices-past first n k choices i zero l = let e : i + 0 ≡ i = omega arith in rw e refl
choices-past first n k choices i (suc d) l =
    let e : i + suc d ≡ suc (i + d) = omega arith in
    rw e (choices-shut first n k choices (i + d) (open-no-state n k choices (i + d) (omega arith)) ∙ choices-past first n k choices i d l)

pub record Numbering (first : List ℕ) (n k : ℕ) (choices site slots : List ℕ) (count i : ℕ) : Type 0 where
  pub most : i ≤ 256
  pub counts : count ≡ length (open_choices first n k choices i)
  pub full : length site ≡ 256
  pub sites : (t : ℕ) → t < 256 → get_or site t 0 ≡ cond (ltb t i && open_at n k choices t) (length (open_choices first n k choices t)) 255
  pub slotted : slots ≡ overlay (open_choices first n k choices i) (replicate 32 1)

module _ (first : List ℕ) (n k : ℕ) (choices : List ℕ) where
  pub number-start : (site slots : List ℕ) (count : ℕ) → site ≡ replicate 256 255 → slots ≡ overlay first (replicate 32 1) → count ≡ length first →
      Numbering first n k choices site slots count 0
  unfolding open_choices
  number-start site slots count e es ec =
      record {
        most = omega arith;
        counts = ec;
        full = rw e (length-replicate {A = ℕ} 256 255);
        sites = λ t l. rw (e, get_or-replicate {A = ℕ} 256 t 255 0 l, le-ltb t 0 (omega arith)) refl;
        slotted = es;
      }

  pub few-before : (i : ℕ) → i ≤ 256 → length (open_choices first n k choices 256) ≤ 32 → length (open_choices first n k choices i) ≤ 32
  few-before i l few = let e : i + (256 - i) ≡ 256 = omega arith in omega (arith, rw e at (choices-most first n k choices i (256 - i)))

  -- an open pair takes the next number, so there is still room
  pub room : (i : ℕ) → i < 256 → length (open_choices first n k choices 256) ≤ 32 → open_at n k choices i ≡ true → length (open_choices first n k choices i) < 32
  room i l few e =
      let h : length (open_choices first n k choices i ++ get_or choices i 0 ∷ []) ≤ 32 = rw (choices-open first n k choices i e) at (few-before (suc i) l few) in
      omega (arith, length-append (open_choices first n k choices i) (get_or choices i 0 ∷ []))

  module _ (site slots : List ℕ) (count i : ℕ) (inv : Numbering first n k choices site slots count i) (low : i < 256) where
    -- tests before the next index
    earlier : (t : ℕ) → (t ≡ i → ⊥) → ltb t (i + 1) ≡ ltb t i
    earlier t ne =
        by_cases (dec_lt t i)
        (λ l. lt-ltb t (i + 1) (omega arith) ∙ sym (lt-ltb t i l))
        (λ nl. le-ltb t (i + 1) (omega (arith, apart t ne nl)) ∙ sym (le-ltb t i (omega arith)))
      where
        apart : (t : ℕ) → (t ≡ i → ⊥) → (t < i → ⊥) → i < t
        apart t ne nl = by_cases (ℕ_discrete t i) (λ e. absurd (ne e)) (λ g. omega arith)

    pub number-open : length (open_choices first n k choices 256) ≤ 32 → open_at n k choices i ≡ true →
        Numbering first n k choices (set site i count) (set slots count (get_or choices i 0)) (count + 1) (i + 1)
    number-open few e =
        let here = open_choices first n k choices i in
        let next : open_choices first n k choices (i + 1) ≡ here ++ get_or choices i 0 ∷ [] = rw add-one (choices-open first n k choices i e) in
        let space : length here < 32 = room i low few e in
        record {
          most = omega arith;
          counts = rw (next, length-append here (get_or choices i 0 ∷ [])) (omega (arith, inv.counts));
          full = length-set site i count ∙ inv.full;
          sites = λ t l. by_cases (ℕ_discrete t i)
              (λ et. rw (et, get_or-set_same site i count 0 (omega (arith, inv.full)), lt-ltb i (i + 1) (omega arith), e) inv.counts)
              (λ ne. get_or-set_other site i t count 0 ne ∙ inv.sites t l ∙ ap (λ (b : Bool). cond (b && open_at n k choices t) (length (open_choices first n k choices t)) 255) (sym (earlier t ne)));
          slotted =
              ap (λ (l : List ℕ). set l count (get_or choices i 0)) (inv.slotted ∙ ap (λ (l : List ℕ). here ++ l) (drop-cons (replicate 32 1) (length here) 1 (rw (length-replicate {A = ℕ} 32 1) space)))
              ∙ set_at here _ (drop (suc (length here)) (replicate 32 1)) (get_or choices i 0) count (sym inv.counts)
              ∙ sym (append_snoc here (get_or choices i 0) (drop (suc (length here)) (replicate 32 1)))
              ∙ rw (next, length-append here (get_or choices i 0 ∷ []), add-one) refl;
        }

    pub number-shut : open_at n k choices i ≡ false → Numbering first n k choices site slots count (i + 1)
    number-shut e =
        let next : open_choices first n k choices (i + 1) ≡ open_choices first n k choices i = rw add-one (choices-shut first n k choices i e) in
        record {
          most = omega arith;
          counts = rw next inv.counts;
          full = inv.full;
          sites = λ t l. by_cases (ℕ_discrete t i)
              (λ et. inv.sites t l ∙ rw (et, e, le-ltb i i (omega arith), lt-ltb i (i + 1) (omega arith)) refl)
              (λ ne. inv.sites t l ∙ ap (λ (b : Bool). cond (b && open_at n k choices t) (length (open_choices first n k choices t)) 255) (sym (earlier t ne)));
          slotted = rw next inv.slotted;
        }

  pub number-end : (site slots pairs : List ℕ) (count i : ℕ) → Numbering first n k choices site slots count i → 16 * n ≤ i →
      Numbered first n k choices (record { site = site; slots = slots; pairs = pairs; count = count })
  number-end site slots pairs count i inv l =
      let d : i + (256 - i) ≡ 256 = omega (arith, inv.most) in
      let e : open_choices first n k choices 256 ≡ open_choices first n k choices i = rw d at (choices-past first n k choices i (256 - i) l) in
      record { site = λ t lt. inv.sites t lt ∙ here-or-past t; slots = rw e inv.slotted; count = rw e inv.counts }
    where
      here-or-past : (t : ℕ) → cond (ltb t i && open_at n k choices t) (length (open_choices first n k choices t)) 255 ≡ cond (open_at n k choices t) (length (open_choices first n k choices t)) 255
      here-or-past t =
          by_cases (dec_lt t i)
          (λ h. rw (lt-ltb t i h) refl)
          (λ nh. rw (le-ltb t i (omega arith), open-no-state n k choices t (omega arith)) refl)
