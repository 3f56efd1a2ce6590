-- `mutants` lists exactly the mutants, in dictionary order, and there is one.
use Rattle.std.specs.Prelude.{ℕ, ◌<◌, ◌≡◌, refl, Bool, true, false, cond, ltb, replicate}
use Rattle.std.proofs.Common.{arith, sym, subst, ⊎_elim, ltb-true}
use Rattle.std.proofs.Math.Logic.{inl, inr}
use mathlib.Core.List.Memᴰ
use mathlib.Core.List.{List, [], ◌∷◌, map, Memᴰ}
use Rattle.lists.specs.Lists.{All, Ascending, Before, up_to, joined}
use Rattle.sheet.specs.Sheet.{Sheet, choices_at, is_open, waking_choices, waking_slots}
use Rattle.model.specs.Mutant.{Suspect, keep_open, suspects, slots, choice_lists, mutants, InRange, IsMutant}
use Rattle.lists.specs.laws.AllLaw.{all-every, all_append, all-mem, all_map, all-joined}
use Rattle.lists.specs.laws.MemberLaw.{mem-map, map-mem, mem-joined, joined-mem, up_to-below, up_to-has, up_to-ascending, ascending-map, ascending-append}

-- a list of choices in range is among all lists of choices
pub choices-listed : (cs b : List ℕ) → InRange cs b → Memᴰ b (choice_lists cs)
unfolding InRange choice_lists
choices-listed [] [] r = Memᴰ.head refl
choices-listed [] (i ∷ b) r = absurd r
choices-listed (c ∷ cs) [] r = absurd r
choices-listed (c ∷ cs) (i ∷ b) r =
    mem-joined (λ (j : ℕ). map (λ (t : List ℕ). j ∷ t) (choice_lists cs)) (up_to-has c i r.0)
    (mem-map (λ (t : List ℕ). i ∷ t) (choices-listed cs b r.1))

-- what is among all lists of choices is in range
pub choices-in-range : (cs b : List ℕ) → Memᴰ b (choice_lists cs) → InRange cs b
unfolding InRange choice_lists
choices-in-range [] b m =
    ⊎_elim (λ e. subst (λ (t : List ℕ). InRange [] t) (sym e) tt) (λ t. absurd (Memᴰ.not-nil t)) (Memᴰ.cases_cons m)
choices-in-range (c ∷ cs) b m =
    let j = joined-mem (λ (i : ℕ). map (λ (t : List ℕ). i ∷ t) (choice_lists cs)) (up_to c) m in
    let t = map-mem (λ (t : List ℕ). j.0 ∷ t) (choice_lists cs) j.2 in
    let below = all-mem (λ (i : ℕ). i < c) (up_to c) j.0 (up_to-below c) j.1 in
    subst (λ (s : List ℕ). InRange (c ∷ cs) s) (sym t.2) (below, choices-in-range cs t.0 t.1)

-- every mutant is listed
pub listed : (sh : Sheet) (b : List ℕ) → IsMutant sh b → Memᴰ b (mutants sh)
unfolding mutants IsMutant
listed sh b r = choices-listed (slots sh) b r

-- what is listed is a mutant
pub listed-in-range : (sh : Sheet) (b : List ℕ) → Memᴰ b (mutants sh) → IsMutant sh b
unfolding mutants IsMutant
listed-in-range sh b m = choices-in-range (slots sh) b m

-- the lists that begin with i
block : List (List ℕ) → ℕ → List (List ℕ)
block bs i = map (λ (b : List ℕ). i ∷ b) bs

module _ (bs : List (List ℕ)) where
  block-after : (i j : ℕ) (c : List ℕ) → i < j → All (Before (i ∷ c)) (block bs j)
  unfolding block Before
  block-after i j c l =
      all_map (Before (i ∷ c)) (λ (b : List ℕ). j ∷ b) bs (all-every (λ (b : List ℕ). Before (i ∷ c) (j ∷ b)) (λ b. inl l) bs)

  blocks-after : (i : ℕ) (c : List ℕ) (js : List ℕ) → All (λ (j : ℕ). i < j) js → All (Before (i ∷ c)) (joined (block bs) js)
  unfolding joined
  blocks-after i c [] a = tt
  blocks-after i c (j ∷ js) a =
      all_append (Before (i ∷ c)) (block bs j) (joined (block bs) js) (block-after i j c a.0) (blocks-after i c js a.1)

  blocks-ascending : Ascending Before bs → (js : List ℕ) → Ascending ◌<◌ js → Ascending Before (joined (block bs) js)
  unfolding joined Ascending block Before
  blocks-ascending h [] a = tt
  blocks-ascending h (j ∷ js) a =
      ascending-append Before (block bs j) (joined (block bs) js)
      (ascending-map Before Before (λ (b : List ℕ). j ∷ b) (λ x y r. inr (refl, r)) bs h)
      (blocks-ascending h js a.1)
      (all_map (λ (b : List ℕ). All (Before b) (joined (block bs) js)) (λ (b : List ℕ). j ∷ b) bs
      (all-every (λ (b : List ℕ). All (Before (j ∷ b)) (joined (block bs) js)) (λ b. blocks-after j b js a.0) bs))

-- the lists of choices ascend
pub choices-ascending : (cs : List ℕ) → Ascending Before (choice_lists cs)
unfolding choice_lists Ascending block
choices-ascending [] = (tt, tt)
choices-ascending (c ∷ cs) = blocks-ascending (choice_lists cs) (choices-ascending cs) (up_to c) (up_to-ascending c)

-- each mutant stands before all that follow it
pub mutants-ascending : (sh : Sheet) → Ascending Before (mutants sh)
unfolding mutants
mutants-ascending sh = choices-ascending (slots sh)

open-choices : (sh : Sheet) (s x : ℕ) → is_open sh s x ≡ true → 1 < choices_at sh s x
unfolding is_open
open-choices sh s x e = ltb-true 1 (choices_at sh s x) e

-- each byte of a mutant has two choices at least
pub slots-open : (sh : Sheet) → All (λ (c : ℕ). 1 < c) (slots sh)
unfolding slots suspects waking_slots
slots-open sh =
    all_append (λ (c : ℕ). 1 < c) (replicate (waking_slots sh) (waking_choices sh)) _ (waking (waking_choices sh) (ltb 1 (waking_choices sh)) refl)
    (all_map (λ (c : ℕ). 1 < c) (λ (u : Suspect). choices_at sh u.state u.input) (suspects sh)
    (all-joined Open row (up_to sh.size.states) (all-every (λ (s : ℕ). All Open (row s)) in_row (up_to sh.size.states))))
  where
    waking : (c : ℕ) (b : Bool) → ltb 1 c ≡ b → All (λ (i : ℕ). 1 < i) (replicate (cond b 1 0) c)
    waking c true e = (ltb-true 1 c e, tt)
    waking c false e = tt

    Open : Suspect → Type 0
    Open u = 1 < choices_at sh u.state u.input

    row : ℕ → List Suspect
    row s = joined (λ (x : ℕ). keep_open sh s x) (up_to sh.size.inputs)

    kept : (s x : ℕ) (b : Bool) → is_open sh s x ≡ b → All Open (cond b (record { state = s; input = x } ∷ []) [])
    kept s x true e = (open-choices sh s x e, tt)
    kept s x false e = tt

    in_row : (s : ℕ) → All Open (row s)
    in_row s =
        all-joined Open (λ (x : ℕ). keep_open sh s x) (up_to sh.size.inputs)
        (all-every (λ (x : ℕ). All Open (keep_open sh s x)) (λ x. kept s x (is_open sh s x) refl) (up_to sh.size.inputs))

-- where every number is above 0, some list is in range
some-in-range : (cs : List ℕ) → All (λ (c : ℕ). 1 < c) cs → (b : List ℕ) × InRange cs b
unfolding InRange
some-in-range [] a = ([], tt)
some-in-range (c ∷ cs) a = let r = some-in-range cs a.1 in (0 ∷ r.0, (omega (arith, a.0), r.1))

-- every sheet has a mutant
pub some-mutant : (sh : Sheet) → (b : List ℕ) × IsMutant sh b
unfolding IsMutant
some-mutant sh = some-in-range (slots sh) (slots-open sh)
