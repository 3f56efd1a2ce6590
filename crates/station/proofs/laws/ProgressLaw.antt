-- How far a suite has come: what was given and what was taken, test by test.
use Prim.Native.Nat.{ℕ, zero, suc, ◌<◌, ◌≤◌}
use Rattle.std.proofs.Common.{le_of_suc-le-suc, arith, ◌∙◌, take-append-drop, take-suc, take_all}
use Rattle.std.specs.Prelude.{◌≡◌, length, take, drop}
use Rattle.std.proofs.Math.Path.{refl, sym, ap}
use Rattle.std.proofs.Math.Option.{Option, none, some}
use mathlib.Core.List.{List, [], ◌∷◌, ◌++◌, map, append_assoc, append-nil}
use Rattle.std.proofs.Math.ListN.{get_or}
use Rattle.std.proofs.Math.Seq.{drop-nil, take-take, get_or-take, split_at}
use Rattle.lists.specs.Lists.{maybe, joined}
use Rattle.lists.specs.laws.ListLaw.{map-append, joined-append}
use Rattle.lists.specs.laws.TestLaw.{never}
use Rattle.sheet.specs.Sheet.{Sheet}
use Rattle.model.specs.Mutant.{rule, specified}
use Rattle.model.specs.Implementation.{Event, reset, input, suite_events}
use Rattle.model.proofs.laws.SuiteLaw.{specified-length}
use Rattle.station.specs.Station.{current, element_at, expected}

-- ---- an element
pub element-none : (xs : List ℕ) (i : ℕ) → element_at xs i ≡ none → length xs ≤ i
element-none [] i e = omega arith
element-none (x ∷ xs) zero e = never (cc)
element-none (x ∷ xs) (suc i) e = let h = element-none xs i e in omega arith

pub record Element (xs : List ℕ) (i x : ℕ) : Type 0 where
  pub inside : i < length xs
  pub is : get_or xs i 0 ≡ x

pub element-some : (xs : List ℕ) (i x : ℕ) → element_at xs i ≡ some x → Element xs i x
element-some [] zero x e = never (cc)
element-some [] (suc i) x e = never (cc)
element-some (y ∷ xs) zero x e = record { inside = omega arith; is = cc }
element-some (y ∷ xs) (suc i) x e = let h = element-some xs i x e in record { inside = omega (arith, h.inside); is = h.is }

pub element-take : (xs : List ℕ) (i x : ℕ) → element_at xs i ≡ some x → take (suc i) xs ≡ take i xs ++ x ∷ []
element-take xs i x e = let h = element-some xs i x e in take-suc xs i 0 h.inside ∙ rw h.is refl

pub element-at : (t : List ℕ) (i : ℕ) → i < length t → element_at t i ≡ some (get_or t i 0)
element-at [] i l = absurd (omega arith)
element-at (x ∷ t) zero l = refl
element-at (x ∷ t) (suc i) l = element-at t i (le_of_suc-le-suc l)

pub element-out : (t : List ℕ) (i : ℕ) → length t ≤ i → element_at t i ≡ none
element-out [] i l = rw (drop-nil i) refl
element-out (x ∷ t) zero l = absurd (omega arith)
element-out (x ∷ t) (suc i) l = element-out t i (le_of_suc-le-suc l)

-- ---- by so many tests begun and a position in the last of them: f of each test before it, and g of the position and the test
unfoldable pub progress : {B : Type 0} → (List ℕ → List B) → (ℕ → List ℕ → List B) → List (List ℕ) → ℕ → ℕ → List B
progress f g ts zero i = []
progress f g ts (suc n) i = joined f (take n ts) ++ g i (get_or ts n [])

module _ {B : Type 0} (f : List ℕ → List B) (g : ℕ → List ℕ → List B) where
  -- one position more
  pub progress-more : (ts : List (List ℕ)) (n i : ℕ) (b : B) → 0 < n → g (suc i) (current ts n) ≡ g i (current ts n) ++ b ∷ [] →
      progress f g ts n (suc i) ≡ progress f g ts n i ++ b ∷ []
  unfolding progress current
  progress-more ts zero i b l e = absurd (omega arith)
  progress-more ts (suc n) i b l e = ap (λ (r : List B). joined f (take n ts) ++ r) e ∙ sym (append_assoc (joined f (take n ts)) (g i (get_or ts n [])) (b ∷ []))

  -- what is left to come
  pub progress-front : ((i : ℕ) (t : List ℕ) → (rest : List B) × (g i t ++ rest ≡ f t)) → (ts : List (List ℕ)) (n i : ℕ) → n ≤ length ts →
      (rest : List B) × (progress f g ts n i ++ rest ≡ joined f ts)
  unfolding progress joined
  progress-front split ts zero i l = (joined f ts, refl)
  progress-front split ts (suc n) i l = ((split i t).0 ++ later, front)
    where
      t : List ℕ
      t = get_or ts n []

      before : List B
      before = joined f (take n ts)

      later : List B
      later = joined f (drop (suc n) ts)

      front : (before ++ g i t) ++ ((split i t).0 ++ later) ≡ joined f ts
      front =
          append_assoc before (g i t) ((split i t).0 ++ later)
          ∙ ap (λ (r : List B). before ++ r) (sym (append_assoc (g i t) (split i t).0 later) ∙ ap (λ (r : List B). r ++ later) (split i t).1)
          ∙ sym (ap (joined f) (split_at ts n [] l) ∙ joined-append f (take n ts) (t ∷ drop (suc n) ts))

  module _ (whole : (i : ℕ) (t : List ℕ) → length t ≤ i → g i t ≡ f t) where
    -- at the end of a test
    pub progress-through : (ts : List (List ℕ)) (n i : ℕ) → n ≤ length ts → length (current ts n) ≤ i → progress f g ts n i ≡ joined f (take n ts)
    unfolding progress current joined
    progress-through ts zero i l k = refl
    progress-through ts (suc n) i l k =
        rw (take-suc ts n [] l, joined-append f (take n ts) (get_or ts n [] ∷ []), whole i (get_or ts n []) k, append-nil (f (get_or ts n []))) refl

    -- the next test begins
    pub progress-next : (ts : List (List ℕ)) (n i : ℕ) → n ≤ length ts → length (current ts n) ≤ i →
        progress f g ts (suc n) 0 ≡ progress f g ts n i ++ g 0 (get_or ts n [])
    unfolding progress
    progress-next ts n i l k = rw (progress-through ts n i l k) refl

    -- none is left
    pub progress-all : (ts : List (List ℕ)) (n i : ℕ) → n ≡ length ts → length (current ts n) ≤ i → progress f g ts n i ≡ joined f ts
    progress-all ts n i e k = progress-through ts n i (omega arith) k ∙ ap (joined f) (take_all n ts (omega arith))

-- the first tests, so many, are equal
module _ (ts us : List (List ℕ)) where
  pub current-agree : (n : ℕ) → take n ts ≡ take n us → current ts n ≡ current us n
  unfolding current
  current-agree zero e = refl
  current-agree (suc n) e =
      sym (get_or-take (suc n) ts n [] (omega arith)) ∙ ap (λ (l : List (List ℕ)). get_or l n []) e ∙ get_or-take (suc n) us n [] (omega arith)

  pub progress-agree : {B : Type 0} (f : List ℕ → List B) (g : ℕ → List ℕ → List B) (n i : ℕ) → take n ts ≡ take n us → progress f g ts n i ≡ progress f g us n i
  unfolding progress current
  progress-agree f g zero i e = refl
  progress-agree f g (suc n) i e =
      let before = sym (take-take n (suc n) ts (omega arith)) ∙ ap (take n) e ∙ take-take n (suc n) us (omega arith) in
      rw (before, current-agree (suc n) e) refl

-- ---- the events given
abbrev pub test_events : List ℕ → List Event
test_events t = reset ∷ map input t

abbrev pub part_events : ℕ → List ℕ → List Event
part_events i t = reset ∷ map input (take i t)

abbrev pub events_to : List (List ℕ) → ℕ → ℕ → List Event
events_to ts n i = progress test_events part_events ts n i

pub events-whole : (i : ℕ) (t : List ℕ) → length t ≤ i → part_events i t ≡ test_events t
events-whole i t l = rw (take_all i t l) refl

pub events-more : (i x : ℕ) (t : List ℕ) → element_at t i ≡ some x → part_events (suc i) t ≡ part_events i t ++ input x ∷ []
events-more i x t e = rw (element-take t i x e, map-append input (take i t) (x ∷ [])) refl

pub suite-joined : (ts : List (List ℕ)) → joined test_events ts ≡ suite_events ts
unfolding joined suite_events
suite-joined [] = refl
suite-joined (t ∷ ts) = rw (suite-joined ts) refl

pub events-front : (ts : List (List ℕ)) (n i : ℕ) → n ≤ length ts → (rest : List Event) × (events_to ts n i ++ rest ≡ suite_events ts)
events-front ts n i l = let f = progress-front test_events part_events split ts n i l in (f.0, f.1 ∙ suite-joined ts)
  where
    split : (i : ℕ) (t : List ℕ) → (rest : List Event) × (part_events i t ++ rest ≡ test_events t)
    split i t = (map input (drop i t), ap (λ (l : List Event). reset ∷ l) (sym (map-append input (take i t) (drop i t)) ∙ ap (map input) (take-append-drop i t)))

-- ---- the outputs taken
abbrev pub part_outputs : Sheet → ℕ → List ℕ → List ℕ
part_outputs sh i t = take i (expected sh t)

abbrev pub outputs_to : Sheet → List (List ℕ) → ℕ → ℕ → List ℕ
outputs_to sh ts n i = progress (expected sh) (part_outputs sh) ts n i

pub expected-short : (sh : Sheet) (t : List ℕ) → length (expected sh t) ≤ length t
unfolding expected specified
expected-short sh t = go (specified sh t) refl
  where
    go : (o : Option (List ℕ)) → specified sh t ≡ o → length (maybe o [] (λ os. os)) ≤ length t
    go none e = omega arith
    go (some os) e = omega (arith, specified-length (rule sh) 0 t os (unfold specified in e))

pub outputs-whole : (sh : Sheet) (i : ℕ) (t : List ℕ) → length t ≤ i → part_outputs sh i t ≡ expected sh t
outputs-whole sh i t l = take_all i (expected sh t) (omega (arith, expected-short sh t))

pub outputs-front : (sh : Sheet) (n i : ℕ) → n ≤ length sh.tests → (more : List ℕ) × (outputs_to sh sh.tests n i ++ more ≡ joined (expected sh) sh.tests)
outputs-front sh n i l = progress-front (expected sh) (part_outputs sh) (λ j t. (drop j (expected sh t), take-append-drop j (expected sh t))) sh.tests n i l

-- the specified outputs go by the RULEs alone
pub expected-agree : (a b : Sheet) → a.rules ≡ b.rules → (t : List ℕ) → expected a t ≡ expected b t
unfolding expected specified rule
expected-agree a b e t = rw e refl
