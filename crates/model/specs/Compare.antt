-- The shortest, then smallest, distinguishing sequence.
use Rattle.std.specs.Prelude.{ℕ, zero, suc, ◌*◌, Bool, true, false, cond, List, [], ◌∷◌, eqb, ltb}
use Rattle.std.proofs.Math.Option.{Option, none, some}
use Rattle.lists.specs.Lists.{maybe}
use Rattle.model.specs.Machine.{Move, Pair}

-- the least i below n that passes the test; n if there is none
unfoldable pub least : ℕ → (ℕ → Bool) → ℕ
least zero g = zero
least (suc n) g =
    let more = suc (least n (λ i. g (suc i))) in
    cond (g zero) zero more

abbrev pub target : Option Move → ℕ
target none = 0
target (some r) = r.target

-- at the states p and q the input x shows another output than specified, or leads to states of which w holds
unfoldable pub shows : Pair → (ℕ → ℕ → Bool) → ℕ → ℕ → ℕ → Bool
shows m w p q x =
    let t = m.move q x in
    maybe (m.rule p x) false (λ r. let next = w r.target t.target in cond (eqb r.output t.output) next true)

-- some sequence of at most j inputs distinguishes the states p and q
unfoldable pub within : Pair → ℕ → ℕ → ℕ → Bool
within m zero = λ p q. false
within m (suc j) = λ p q. ltb (least m.inputs (shows m (within m j) p q)) m.inputs

-- the smallest input to take where the shortest distinguishing sequence has suc j inputs
unfoldable pub best : Pair → ℕ → ℕ → ℕ → ℕ
best m j p q = least m.inputs (shows m (within m j) p q)

-- the smallest of the shortest distinguishing sequences, where those have j inputs
unfoldable pub shortest : Pair → ℕ → ℕ → ℕ → List ℕ
shortest m zero p q = []
shortest m (suc j) p q =
    let x = best m j p q in
    x ∷ shortest m j (target (m.rule p x)) (m.move q x).target

-- the length of the shortest distinguishing sequence from p and q, where there is one of at most n × n inputs
unfoldable pub distance : Pair → ℕ → ℕ → ℕ
distance m p q = least (m.states * m.states) (λ j. within m j p q)

-- from p and q: none if they conform
unfoldable pub compare_from : Pair → ℕ → ℕ → Option (List ℕ)
compare_from m p q =
    let found = some (shortest m (distance m p q) p q) in
    cond (within m (m.states * m.states) p q) found none

-- from the starts of both
unfoldable pub compare_pair : Pair → Option (List ℕ)
compare_pair m = compare_from m 0 m.start

-- what is written of it: the distinguishing sequence, if there is one
abbrev pub found : Option (List ℕ) → List ℕ
found none = []
found (some xs) = xs
