-- Laws for code: the states met, in two tables. `order` has them at its front, and `number` at each state its place among them, 255 where it is not met.
use Rattle.std.specs.Prelude.{ℕ, zero, suc, ◌+◌, ◌≤◌, ◌<◌, ◌≡◌, refl, Bool, true, false, cond, List, [], ◌∷◌, ◌++◌, eqb, ltb, length, get_or, set, drop, replicate}
use Rattle.std.proofs.Common.{le_of_suc-le-suc, arith, sym, ◌∙◌, ap, subst, length-append, length-set, drop_of_length-le, get_or-set_same, get_or-set_other, drop-cons, ltb-true, ltb-false, lt-ltb, le-ltb, eq-eqb, ne_eqb}
use Rattle.std.proofs.Math.Logic.{by_cases}
use Rattle.std.proofs.Math.Decide.{ℕ_discrete}
use Rattle.std.proofs.lemmas.List.{get_or-replicate}
use Rattle.std.proofs.Math.ListN.{get_or-append}
use Rattle.std.proofs.Math.Seq.{get_or-append_seam}
use Rattle.lists.specs.Lists.{maybe, first}
use Rattle.sheet.specs.Sheet.{Sheet}
use Rattle.sheet.specs.WellFormed.{WellFormed}
use Rattle.renaming.specs.Ordering.{place_in}
use Rattle.renaming.specs.Renaming.{meet, order, number_of}
use Rattle.renaming.proofs.laws.PlaceLaw.{place-below}
use Rattle.renaming.proofs.laws.MetLaw.{order-has}

-- the place of a state among those met, 255 where it is not one of them
abbrev pub mark_of : List ℕ → ℕ → ℕ
mark_of met t = cond (ltb (place_in t met) (length met)) (place_in t met) 255

pub record Marked (met order number : List ℕ) (count : ℕ) : Type 0 where
  pub ordered : length order ≡ 16
  pub numbered : length number ≡ 16
  pub counted : count ≡ length met
  pub few : count ≤ 16
  pub stands : (i : ℕ) → i < count → get_or order i 0 ≡ get_or met i 0
  pub marks : (t : ℕ) → t < 16 → get_or number t 0 ≡ mark_of met t

-- places with t behind
place-snoc : (u t : ℕ) (met : List ℕ) → place_in u met < length met → place_in u (met ++ t ∷ []) ≡ place_in u met
unfolding place_in
place-snoc u t [] l = absurd (omega arith)
place-snoc u t (y ∷ met) l = go (eqb u y) (place-snoc u t met) l
  where
    go : (b : Bool) → (place_in u met < length met → place_in u (met ++ t ∷ []) ≡ place_in u met) → cond b zero (suc (place_in u met)) < suc (length met) →
        cond b zero (suc (place_in u (met ++ t ∷ []))) ≡ cond b zero (suc (place_in u met))
    go true h k = refl
    go false h k = ap suc (h (le_of_suc-le-suc k))

place_out : (u t : ℕ) (met : List ℕ) → length met ≤ place_in u met → place_in u (met ++ t ∷ []) ≡ length met + cond (eqb u t) 0 1
unfolding place_in
place_out u t [] l = go (eqb u t)
  where
    go : (b : Bool) → cond b zero (suc zero) ≡ 0 + cond b 0 1
    go true = refl
    go false = refl
place_out u t (y ∷ met) l = go (eqb u y) (place_out u t met) l
  where
    go : (b : Bool) → (length met ≤ place_in u met → place_in u (met ++ t ∷ []) ≡ length met + cond (eqb u t) 0 1) → suc (length met) ≤ cond b zero (suc (place_in u met)) →
        cond b zero (suc (place_in u (met ++ t ∷ []))) ≡ suc (length met) + cond (eqb u t) 0 1
    go true h k = absurd (omega arith)
    go false h k = omega (arith, h (le_of_suc-le-suc k))

module _ {met o number : List ℕ} {count : ℕ} (m : Marked met o number count) (t : ℕ) (low : t < 16) where
  -- t is met: nothing changes
  pub marked-old : (get_or number t 0 ≡ 255 → ⊥) → Marked (meet met t) o number count
  marked-old marked = go (ltb (place_in t met) (length met)) refl
    where
      go : (b : Bool) → ltb (place_in t met) (length met) ≡ b → Marked (cond b met (met ++ t ∷ [])) o number count
      go true e = m
      go false e = absurd (marked (m.marks t low ∙ rw e refl))

  -- a state without a mark is not met
  pub unmarked : get_or number t 0 ≡ 255 → length met ≤ place_in t met
  unmarked free = go (ltb (place_in t met) (length met)) refl
    where
      go : (b : Bool) → ltb (place_in t met) (length met) ≡ b → length met ≤ place_in t met
      go true e =
          let place = ltb-true (place_in t met) (length met) e in
          let same : place_in t met ≡ 255 = sym (m.marks t low ∙ rw e refl) ∙ free in
          let few = m.few in
          absurd (omega (arith, m.counted))
      go false e = ltb-false (place_in t met) (length met) e

  -- t is new: it is the last
  pub marked-new : get_or number t 0 ≡ 255 → count < 16 → Marked (meet met t) (set o count t) (set number t count) (count + 1)
  marked-new free room = go (ltb (place_in t met) (length met)) refl
    where
      long : length (met ++ t ∷ []) ≡ length met + 1
      long = length-append met (t ∷ [])

      at : (out : length met ≤ place_in t met) (i : ℕ) → i < count + 1 → get_or (set o count t) i 0 ≡ get_or (met ++ t ∷ []) i 0
      at out i l =
          by_cases (ℕ_discrete i count)
          (λ same. ap (λ j. get_or (set o count t) j 0) same ∙ get_or-set_same o count t 0 (omega (arith, m.ordered)) ∙ sym (ap (λ j. get_or (met ++ t ∷ []) j 0) (same ∙ m.counted) ∙ get_or-append_seam met t [] 0))
          (λ other. get_or-set_other o count i t 0 other ∙ m.stands i (omega arith) ∙ sym (get_or-append met (t ∷ []) 0 i (omega (arith, m.counted))))

      mark : (out : length met ≤ place_in t met) (u : ℕ) → u < 16 → get_or (set number t count) u 0 ≡ mark_of (met ++ t ∷ []) u
      mark out u l =
          by_cases (ℕ_discrete u t)
          (λ same.
          let place : place_in u (met ++ t ∷ []) ≡ length met = place_out u t met (subst (λ v. length met ≤ place_in v met) (sym same) out) ∙ rw (eq-eqb u t same) (omega arith) in
          ap (λ v. get_or (set number t count) v 0) same ∙ get_or-set_same number t count 0 (omega (arith, m.numbered)) ∙ rw (place, long, lt-ltb (length met) (length met + 1) (omega arith)) m.counted)
          (λ other. get_or-set_other number t u count 0 other ∙ m.marks u l ∙ kept u other (ltb (place_in u met) (length met)) refl)
        where
          kept : (v : ℕ) → (v ≡ t → ⊥) → (b : Bool) → ltb (place_in v met) (length met) ≡ b → cond b (place_in v met) 255 ≡ mark_of (met ++ t ∷ []) v
          kept v other true e =
              let inside = ltb-true (place_in v met) (length met) e in
              rw (place-snoc v t met inside, long, lt-ltb (place_in v met) (length met + 1) (omega arith)) refl
          kept v other false e =
              let place : place_in v (met ++ t ∷ []) ≡ length met + 1 = place_out v t met (ltb-false (place_in v met) (length met) e) ∙ rw (ne_eqb v t other) refl in
              rw (place, long, le-ltb (length met + 1) (length met + 1) (omega arith)) refl

      go : (b : Bool) → ltb (place_in t met) (length met) ≡ b → Marked (cond b met (met ++ t ∷ [])) (set o count t) (set number t count) (count + 1)
      go true e = let place = ltb-true (place_in t met) (length met) e in absurd (omega (arith, unmarked free))
      go false e =
          let out = ltb-false (place_in t met) (length met) e in
          record {
            ordered = simp length-set m.ordered;
            numbered = simp length-set m.numbered;
            counted = omega (arith, long, m.counted);
            few = omega arith;
            stands = at out;
            marks = mark out;
          }

-- before the search state 0 is met
pub marked-none : Marked (0 ∷ []) (replicate 16 0) (set (replicate 16 255) 0 0) 1
unfolding place_in
marked-none =
    record {
      ordered = refl;
      numbered = refl;
      counted = refl;
      few = omega arith;
      stands = λ i l. let zeroth : i ≡ 0 = omega arith in ap (λ j. get_or (replicate 16 0) j 0) zeroth ∙ ap (λ j. get_or (0 ∷ []) j 0) (sym zeroth);
      marks = go;
    }
  where
    go : (t : ℕ) → t < 16 → get_or (set (replicate 16 255) 0 0) t 0 ≡ mark_of (0 ∷ []) t
    go zero l = refl
    go (suc t) l = get_or-set_other (replicate 16 255) 0 (suc t) 0 0 (λ e. omega arith) ∙ get_or-replicate 16 (suc t) 255 0 l ∙ rw (ne_eqb (suc t) 0 (λ e. omega arith)) refl

-- the state to look at next, if there is one
pub look-next : {A : Type 0} (met : List ℕ) (i : ℕ) (a : A) (f : ℕ → A) → i < length met → maybe (first (drop i met)) a f ≡ f (get_or met i 0)
look-next met i a f l = rw (drop-cons met i 0 l) refl

pub look_none : {A : Type 0} (met : List ℕ) (i : ℕ) (a : A) (f : ℕ → A) → length met ≤ i → maybe (first (drop i met)) a f ≡ a
look_none met i a f l = rw (drop_of_length-le met {i = i} l) refl

-- after the search the marks are the numbers
pub marked_all : (sh : Sheet) → WellFormed sh → {o number : List ℕ} {count : ℕ} → Marked (order sh) o number count → (t : ℕ) → t < sh.size.states → get_or number t 0 ≡ number_of sh t
unfolding number_of
marked_all sh wf m t l =
    let few = wf.size.states.few in
    m.marks t (omega arith) ∙ rw (lt-ltb (place_in t (order sh)) (length (order sh)) (place-below t (order sh) (order-has sh wf t l))) refl
