-- The same judgement, computed quicker: each round's pairs of states are kept in a table. It serves to compute examples;
-- nothing is defined by it.
use Rattle.std.specs.Prelude.{ℕ, zero, suc, ◌*◌, ◌<◌, ◌≡◌, refl, Bool, false, cond, List, [], ◌∷◌, ltb, get_or}
use Rattle.std.proofs.Common.{not-suc-le-zero, le_of_suc-le-suc, sym, ◌∙◌, ap}
use Rattle.std.proofs.Math.Option.{Option, none, some}
use Rattle.lists.specs.Lists.{maybe}
use Rattle.sheet.specs.Sheet.{Sheet}
use Rattle.sheet.specs.WellFormed.{WellFormed}
use Rattle.model.specs.Machine.{Pair}
use Rattle.model.specs.Mutant.{against, mutants}
use Rattle.model.specs.Compare.{least, shows, within, best, shortest, distance, compare_from, compare_pair}
use Rattle.model.specs.Suite.{first_failed_of, compare_of, Judgement, complete, or_else, survivor_among, judge_of}
use Rattle.model.proofs.laws.StaysLaw.{Closed, closed, some-state, start-below}
use Rattle.model.proofs.laws.CompareLaw.{best-agrees}

-- f 0, f 1, .., f (n - 1)
unfoldable pub tabulate : {A : Type 0} → ℕ → (ℕ → A) → List A
tabulate zero f = []
tabulate (suc n) f = f zero ∷ tabulate n (λ i. f (suc i))

tabulated : {A : Type 0} (n : ℕ) (f : ℕ → A) (i : ℕ) (d : A) → i < n → get_or (tabulate n f) i d ≡ f i
unfolding tabulate
tabulated zero f i d l = absurd (not-suc-le-zero l)
tabulated (suc n) f zero d l = refl
tabulated (suc n) f (suc i) d l = tabulated n (λ j. f (suc j)) i d (le_of_suc-le-suc l)

-- what a table says of the states p and q
unfoldable pub cell_at : List (List Bool) → ℕ → ℕ → Bool
cell_at t p q = get_or (get_or t p []) q false

-- the pairs of states that j inputs distinguish
unfoldable pub rounds : Pair → ℕ → List (List Bool)
rounds m zero = []
rounds m (suc j) =
    let t = rounds m j in
    tabulate m.states (λ p. tabulate m.states (λ q. ltb (least m.inputs (shows m (cell_at t) p q)) m.inputs))

rounds-within : (m : Pair) (j p q : ℕ) → Closed m → p < m.states → q < m.states → cell_at (rounds m j) p q ≡ within m j p q
unfolding rounds cell_at within best
rounds-within m zero p q cl lp lq = refl
rounds-within m (suc j) p q cl lp lq =
    ap (λ (r : List Bool). get_or r q false) (tabulated m.states (λ a. tabulate m.states (cell a)) p [] lp)
    ∙ tabulated m.states (cell p) q false lq
    ∙ ap (λ (x : ℕ). ltb x m.inputs) (best-agrees m (cell_at (rounds m j)) j p q cl lp lq (λ a b la lb. rounds-within m j a b cl la lb))
  where
    cell : ℕ → ℕ → Bool
    cell a b = ltb (least m.inputs (shows m (cell_at (rounds m j)) a b)) m.inputs

-- compare, by the table of the last round
unfoldable pub compare_quick : Pair → Option (List ℕ)
compare_quick m =
    let found = some (shortest m (distance m 0 m.start) 0 m.start) in
    cond (cell_at (rounds m (m.states * m.states)) 0 m.start) found none

-- the first of the mutants that passes the suite and is nonconforming, by tables
unfoldable pub first_quick : Sheet → List (List ℕ) → Judgement
first_quick sh [] = complete
first_quick sh (b ∷ bs) =
    let rest = first_quick sh bs in
    let found = or_else b (compare_quick (against sh b)) rest in
    maybe (first_failed_of sh b) found (λ f. rest)

-- judge, by tables
unfoldable pub judge_quick : Sheet → Judgement
judge_quick sh = first_quick sh (mutants sh)

compare_same : (m : Pair) → Closed m → 0 < m.states → m.start < m.states → compare_quick m ≡ compare_pair m
unfolding compare_quick compare_pair compare_from
compare_same m cl l ls = rw (rounds-within m (m.states * m.states) 0 m.start cl l ls) refl

first-same : (sh : Sheet) → WellFormed sh → (bs : List (List ℕ)) → first_quick sh bs ≡ survivor_among sh bs
unfolding first_quick survivor_among compare_of
first-same sh wf [] = refl
first-same sh wf (b ∷ bs) = rw (first-same sh wf bs, compare_same (against sh b) (closed sh b wf) (some-state sh wf) (start-below sh b wf)) refl

-- the quick judgement is the judgement
pub quick : (sh : Sheet) → WellFormed sh → judge_of sh ≡ judge_quick sh
unfolding judge_of judge_quick
quick sh wf = sym (first-same sh wf (mutants sh))
