-- What a mutant does on the test suite (01: list), and the judgement.
use Rattle.std.specs.Prelude.{ℕ, zero, suc, ◌≡◌, cond, List, [], ◌∷◌, ◌++◌, eqb, get_or, take}
use Rattle.std.proofs.Math.Option.{Option, none, some}
use Rattle.lists.specs.Lists.{maybe}
use Rattle.sheet.specs.Sheet.{Sheet}
use Rattle.model.specs.Machine.{Pair}
use Rattle.model.specs.Mutant.{later, initial, mutants, against}
use Rattle.model.specs.Used.{Usage, used_on}
use Rattle.model.specs.Compare.{compare_pair}

-- from the specification's state p and the machine's state q: the position of the first output that differs from the specified one
unfoldable pub wrong_from : Pair → ℕ → ℕ → List ℕ → Option ℕ
wrong_from m p q [] = none
wrong_from m p q (x ∷ xs) =
    let t = m.move q x in
    maybe (m.rule p x) none (λ r.
    let rest = later (wrong_from m r.target t.target xs) in
    cond (eqb r.output t.output) rest (some zero))

-- the position of the mutant's first wrong output in a test
unfoldable pub wrong_in : Sheet → List ℕ → List ℕ → Option ℕ
wrong_in sh b t = wrong_from (against sh b) 0 (initial sh b) t

pub record Place : Type 0 where
  pub test : ℕ
  pub position : ℕ

abbrev pub later_test : Option Place → Option Place
later_test none = none
later_test (some f) = some (record { test = suc f.test; position = f.position })

unfoldable pub first_failed_in : Sheet → List ℕ → List (List ℕ) → Option Place
first_failed_in sh b [] = none
first_failed_in sh b (t ∷ ts) =
    let rest = later_test (first_failed_in sh b ts) in
    maybe (wrong_in sh b t) rest (λ i. some (record { test = zero; position = i }))

-- the first test that the mutant fails, and the position in it of the first wrong output, both from 0
unfoldable pub first_failed_of : Sheet → List ℕ → Option Place
first_failed_of sh b = first_failed_in sh b sh.tests

-- the tests up to and including the step with the first wrong output; all of them where none is wrong
abbrev pub tried_of : List (List ℕ) → Option Place → List (List ℕ)
tried_of ts none = ts
tried_of ts (some f) = take f.test ts ++ take (suc f.position) (get_or ts f.test []) ∷ []

-- the first failed test, if there is one, and the slots used until its first wrong output
pub record Finding : Type 0 where
  pub first : Option Place
  pub used : Usage

unfoldable pub finding_of : Sheet → List ℕ → Finding
finding_of sh b = let f = first_failed_of sh b in record { first = f; used = used_on sh b (tried_of sh.tests f) }

-- the mutant fails no test
abbrev pub Passes : Sheet → List ℕ → Type 0
Passes sh b = first_failed_of sh b ≡ none

-- the mutant's shortest, then smallest, distinguishing sequence; none if it conforms
unfoldable pub compare_of : Sheet → List ℕ → Option (List ℕ)
compare_of sh b = compare_pair (against sh b)

pub data Judgement : Type 0 where
  complete : Judgement
  survivor : List ℕ → List ℕ → Judgement

abbrev pub or_else : List ℕ → Option (List ℕ) → Judgement → Judgement
or_else b none j = j
or_else b (some xs) j = survivor b xs

-- the first of the mutants that passes the suite and is nonconforming, with its distinguishing sequence
unfoldable pub survivor_among : Sheet → List (List ℕ) → Judgement
survivor_among sh [] = complete
survivor_among sh (b ∷ bs) =
    let rest = survivor_among sh bs in
    let found = or_else b (compare_of sh b) rest in
    maybe (first_failed_of sh b) found (λ f. rest)

unfoldable pub judge_of : Sheet → Judgement
judge_of sh = survivor_among sh (mutants sh)
