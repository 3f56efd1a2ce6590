-- The sheet: a specified machine, its possible faults, the states a mutant may wake in, a test suite; and what can be asked of its rules.
use Rattle.std.specs.Prelude.{ℕ, zero, suc, ◌+◌, ◌*◌, Bool, false, ◌&&◌, ◌||◌, cond, List, [], ◌∷◌, eqb, ltb, length}
use Rattle.std.proofs.Math.Option.{Option, none, some}
use Rattle.sheet.specs.declared.Row.{Row}
use Rattle.sheet.specs.declared.Size.{Size}
use Rattle.lists.specs.Lists.{maybe, first, any, all, count}

pub record Sheet : Type 0 where
  pub size : Size
  pub quiet : Bool
  pub rules : List Row
  pub faults : List Row
  pub starts : List ℕ
  pub tests : List (List ℕ)

-- by these RULEs and FAULTs ascend
abbrev pub pair_of : Row → List ℕ
pair_of r = r.source ∷ r.input ∷ []

abbrev pub row_of : Row → List ℕ
row_of r = r.source ∷ r.input ∷ r.output ∷ r.target ∷ []

abbrev pub is_at : Row → ℕ → ℕ → Bool
is_at r s x = eqb r.source s && eqb r.input x

-- the rows at a state and an input, in their order
unfoldable pub rows_at : List Row → ℕ → ℕ → List Row
rows_at [] s x = []
rows_at (r ∷ rs) s x =
    let rest = rows_at rs s x in
    let here = r ∷ rest in
    cond (is_at r s x) here rest

-- the RULE at a state and an input (an accepted sheet has one at most)
unfoldable pub rule_at : List Row → ℕ → ℕ → Option Row
rule_at rules s x = first (rows_at rules s x)

-- the state that inputs lead to along RULEs; none where one of them has no RULE
unfoldable pub after : List Row → ℕ → List ℕ → Option ℕ
after rules s [] = some s
after rules s (x ∷ xs) = maybe (rule_at rules s x) none (λ r. after rules r.target xs)

-- a RULE leads from s on x to t
unfoldable pub leads : List Row → ℕ → ℕ → ℕ → Bool
leads rules s x t = maybe (rule_at rules s x) false (λ r. eqb r.target t)

-- states that at most j inputs along RULEs reach from 0
unfoldable pub reached_within : Sheet → ℕ → ℕ → Bool
reached_within sh zero t = eqb t 0
reached_within sh (suc j) t =
    reached_within sh j t || any (λ s. reached_within sh j s && any (λ x. leads sh.rules s x t) sh.size.inputs) sh.size.states

unfoldable pub all_reached : Sheet → Bool
all_reached sh = all (reached_within sh sh.size.states) sh.size.states

-- how many choices a pair without a RULE has: every output with every next state; on a quiet sheet (02) the one that gives output 0 and stays
unfoldable pub unruled_choices : Sheet → ℕ
unruled_choices sh = cond sh.quiet 1 (sh.size.outputs * sh.size.states)

-- how many choices a state and an input of the sheet have: the RULE and its FAULTs
unfoldable pub choices_at : Sheet → ℕ → ℕ → ℕ
choices_at sh s x = maybe (rule_at sh.rules s x) (unruled_choices sh) (λ r. suc (length (rows_at sh.faults s x)))

-- an open pair has two or more
unfoldable pub is_open : Sheet → ℕ → ℕ → Bool
is_open sh s x = ltb 1 (choices_at sh s x)

unfoldable pub open_below : Sheet → ℕ → ℕ
open_below sh zero = 0
open_below sh (suc s) = open_below sh s + count (is_open sh s) sh.size.inputs

-- the number of open pairs
unfoldable pub open_pairs : Sheet → ℕ
open_pairs sh = open_below sh sh.size.states

-- the states in which a mutant may wake, in 02's order of choices: state 0, then the STARTs
unfoldable pub wakings : Sheet → List ℕ
wakings sh = 0 ∷ sh.starts

-- how many choices a mutant has for them
unfoldable pub waking_choices : Sheet → ℕ
waking_choices sh = length (wakings sh)

-- 1 if there is a choice among them, as it counts like an open pair
unfoldable pub waking_slots : Sheet → ℕ
waking_slots sh = cond (ltb 1 (waking_choices sh)) 1 0

-- how many choices make up a mutant: where it wakes, if there is a choice, and the open pairs
unfoldable pub open_slots : Sheet → ℕ
open_slots sh = waking_slots sh + open_pairs sh
