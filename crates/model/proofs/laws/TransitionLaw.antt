-- The transitions of a state and an input: how many there are, and which one a choice names.
use Prim.Native.Nat.{ℕ, zero, suc, ◌+◌, ◌*◌, ◌/◌, ◌%◌, ◌<◌, ◌≤◌}
use Rattle.std.proofs.Common.{div-lt_iff_lt-mul, div-add-mod', mod-lt, mul-zero, zero-mul, suc-mul, mul-le-mul, mul-le-mul_right, ◌∙◌, get_or-append-add}
use Rattle.std.proofs.Math.Nat.{mul-pos}
use native.Mathlib.Omega.{arith}
use Rattle.std.specs.Prelude.{◌≡◌, Bool, length}
use Rattle.std.proofs.Math.Path.{refl, sym, ap}
use Rattle.std.proofs.Math.Logic.{inl, inr, by_cases}
use Rattle.std.proofs.Math.Decide.{ℕ_discrete, dec_lt}
use Rattle.std.proofs.Math.Bool.{true, false, cond}
use Rattle.std.proofs.Math.Option.{Option, none, some}
use mathlib.Core.List.{List, [], ◌∷◌, ◌++◌, map}
use borrow.Author.Tests.{ltb-true, ltb-false}
use Rattle.std.proofs.Math.ListN.{get_or, get_or-append, get_or-map}
use Rattle.std.proofs.lemmas.List.{length-map}
use Rattle.sheet.specs.declared.Row.{Row}
use Rattle.sheet.specs.declared.Size.{Size}
use Rattle.lists.specs.Lists.{maybe, All, Ascending, Before, up_to, joined}
use Rattle.sheet.specs.Sheet.{Sheet, row_of, is_at, rows_at, rule_at, unruled_choices, choices_at, is_open}
use Rattle.sheet.specs.Tables.{no_row}
use Rattle.sheet.specs.WellFormed.{Mutates, WellFormed}
use Rattle.model.specs.Machine.{Move}
use Rattle.model.specs.Mutant.{move_of, stay, unruled, transitions, idle}
use Rattle.lists.specs.laws.ListLaw.{all_both, ascending-of, get_or-map-below, joined-split, length-up_to, get_or-up_to, length-joined-even}
use Rattle.model.proofs.laws.StaysLaw.{RowAt, rows-at, rule-row}

-- without a rule every output goes with every next state, but on a quiet sheet
pub unruled-count : (sh : Sheet) (s : ℕ) → length (unruled sh s) ≡ unruled_choices sh
unfolding unruled unruled_choices
unruled-count sh s = go sh.quiet
  where
    moves : ℕ → List Move
    moves o = map (λ t. record { output = o; target = t }) (up_to sh.size.states)

    go : (quiet : Bool) → length (cond quiet (stay s ∷ []) (joined moves (up_to sh.size.outputs))) ≡ cond quiet 1 (sh.size.outputs * sh.size.states)
    go true = refl
    go false =
        length-joined-even moves sh.size.states sh.size.outputs
        (λ o. length-map (up_to sh.size.states) (λ t. record { output = o; target = t }) ∙ length-up_to sh.size.states)

-- as many transitions as choices
pub transition-count : (sh : Sheet) (s x : ℕ) → length (transitions sh s x) ≡ choices_at sh s x
unfolding transitions choices_at
transition-count sh s x = go (rule_at sh.rules s x)
  where
    go : (o : Option Row) →
        length (maybe o (unruled sh s) (λ r. move_of r ∷ map move_of (rows_at sh.faults s x)))
        ≡ maybe o (unruled_choices sh) (λ r. suc (length (rows_at sh.faults s x)))
    go none = unruled-count sh s
    go (some r) = ap suc (length-map (rows_at sh.faults s x) move_of)

-- with a rule, choice 0 is the rule
pub rule-choice : (sh : Sheet) (s x : ℕ) (r : Row) → rule_at sh.rules s x ≡ some r → get_or (transitions sh s x) 0 idle ≡ move_of r
unfolding transitions
rule-choice sh s x r e = rw e refl

-- and choice c + 1 is fault c of the pair
pub fault-choice : (sh : Sheet) (s x c : ℕ) (r : Row) → rule_at sh.rules s x ≡ some r →
    get_or (transitions sh s x) (suc c) idle ≡ move_of (get_or (rows_at sh.faults s x) c no_row)
unfolding transitions
fault-choice sh s x c r e = rw e (get_or-map move_of (rows_at sh.faults s x) c no_row)

-- the places of the list of all moves
unruled-at : (n m c : ℕ) → c < m * n →
    get_or (joined (λ o. map (λ t. record { output = o; target = t }) (up_to n)) (up_to m)) c idle ≡ record { output = c / n; target = c % n }
unruled-at n m c l =
    let some-state : 0 < n = positive n l in
    let o = c / n in
    let t = c % n in
    let lo : o < m = (div-lt_iff_lt-mul some-state).1 l in
    let lt : t < n = mod-lt c some-state in
    let d = joined-split (row n) m o lo in
    let size : length (joined (row n) (up_to o)) ≡ o * n = length-joined-even (row n) n o (row-length n) in
    let split : length (joined (row n) (up_to o)) + t ≡ c = rw size (div-add-mod' c n) in
    ap (λ (i : List Move). get_or i c idle) d.1
    ∙ ap (λ (i : ℕ). get_or (joined (row n) (up_to o) ++ (row n o ++ d.0)) i idle) (sym split)
    ∙ get_or-append-add (joined (row n) (up_to o)) (row n o ++ d.0) t idle
    ∙ get_or-append (row n o) d.0 idle t (rw (row-length n o) lt)
    ∙ get_or-map-below (λ (i : ℕ). record { output = o; target = i }) (up_to n) t idle 0 (rw (length-up_to n) lt)
    ∙ ap (λ (i : ℕ). record { output = o; target = i }) (get_or-up_to n t 0 lt)
  where
    positive : (k : ℕ) → c < m * k → 0 < k
    positive zero h = absurd (omega (arith, mul-zero m))
    positive (suc k) h = omega arith

    row : ℕ → ℕ → List Move
    row k o = map (λ t. record { output = o; target = t }) (up_to k)

    row-length : (k o : ℕ) → length (row k o) ≡ k
    row-length k o = length-map (up_to k) (λ t. record { output = o; target = t }) ∙ length-up_to k

-- without a rule, but on a quiet sheet, choice c is the output c / n and the next state c % n
module _ (sh : Sheet) (s x c : ℕ) (e : rule_at sh.rules s x ≡ none) where
  unquiet-choice : sh.quiet ≡ false → c < sh.size.outputs * sh.size.states →
      get_or (transitions sh s x) c idle ≡ record { output = c / sh.size.states; target = c % sh.size.states }
  unfolding transitions unruled
  unquiet-choice q l = rw (e, q) (unruled-at sh.size.states sh.size.outputs c l)

  -- so it is where there are several
  pub unruled-choice : 1 < unruled_choices sh → c < unruled_choices sh →
      get_or (transitions sh s x) c idle ≡ record { output = c / sh.size.states; target = c % sh.size.states }
  unfolding unruled_choices
  unruled-choice several l = go sh.quiet refl several l
    where
      go : (quiet : Bool) → sh.quiet ≡ quiet → 1 < cond quiet 1 (sh.size.outputs * sh.size.states) → c < cond quiet 1 (sh.size.outputs * sh.size.states) →
          get_or (transitions sh s x) c idle ≡ record { output = c / sh.size.states; target = c % sh.size.states }
      go true q h k = absurd (omega arith)
      go false q h k = unquiet-choice q k

-- so a suspect has them
pub open-unruled : (sh : Sheet) (s x : ℕ) → rule_at sh.rules s x ≡ none → is_open sh s x ≡ true → 1 < unruled_choices sh
unfolding is_open choices_at
open-unruled sh s x e o = ltb-true 1 (unruled_choices sh) (rw e at o)

-- and where there is one it stays: the sheet is quiet, or has one state and one output
pub only-choice : (sh : Sheet) (s x : ℕ) → rule_at sh.rules s x ≡ none → s < sh.size.states → unruled_choices sh ≡ 1 →
    get_or (transitions sh s x) 0 idle ≡ stay s
unfolding transitions unruled unruled_choices
only-choice sh s x e ls one = go sh.quiet refl one
  where
    single : (o n : ℕ) → s < n → o * n ≡ 1 → n ≡ 1
    single zero n l h = absurd (omega (arith, zero-mul n))
    single (suc o) n l h = omega (arith, suc-mul o n)

    go : (quiet : Bool) → sh.quiet ≡ quiet → cond quiet 1 (sh.size.outputs * sh.size.states) ≡ 1 → get_or (transitions sh s x) 0 idle ≡ stay s
    go true q h = rw (e, q) refl
    go false q h =
        let n = sh.size.states in
        let one_state : n ≡ 1 = single sh.size.outputs n ls h in
        let zeroth : s ≡ 0 = omega arith in
        unquiet-choice sh s x 0 e q (omega arith) ∙ rw (one_state, zeroth) refl

-- from lo on and below n; and not r
abbrev InFrom : {A : Type 0} → (A → ℕ) → ℕ → ℕ → A → Type 0
InFrom key n lo y = (lo ≤ key y) × (key y < n)

abbrev InFromBut : {A : Type 0} → (A → ℕ) → ℕ → ℕ → ℕ → A → Type 0
InFromBut key n r lo y = (lo ≤ key y) × (key y < n) × (key y ≡ r → ⊥)

-- numbers that ascend from lo and stay below n
ascending-few : {A : Type 0} (key : A → ℕ) (n : ℕ) (ys : List A) (lo : ℕ) → lo ≤ n →
    All (InFrom key n lo) ys → Ascending (λ (y z : A). key y < key z) ys → length ys + lo ≤ n
unfolding Ascending
ascending-few key n [] lo l a c = omega arith
ascending-few key n (y ∷ ys) lo l a c =
    let later = all_both _ _ (InFrom key n (suc (key y))) (λ z h g. (h, g.1)) ys c.0 a.1 in
    let ih = ascending-few key n ys (suc (key y)) a.0.1 later c.1 in
    omega (arith, a.0.0)

-- and leave out one number r
ascending-fewer : {A : Type 0} (key : A → ℕ) (n r : ℕ) → r < n → (ys : List A) (lo : ℕ) → lo ≤ r →
    All (InFromBut key n r lo) ys → Ascending (λ (y z : A). key y < key z) ys → length ys + lo < n
unfolding Ascending
ascending-fewer key n r lr [] lo l a c = omega arith
ascending-fewer key n r lr (y ∷ ys) lo l a c =
    by_cases (dec_lt (key y) r)
    (λ less.
    let later = all_both _ _ (InFromBut key n r (suc (key y))) (λ z h g. (h, g.1, g.2)) ys c.0 a.1 in
    let ih = ascending-fewer key n r lr ys (suc (key y)) less later c.1 in
    omega (arith, a.0.0))
    (λ more.
    let ne : r < key y = apart (key y) a.0.2 more in
    let later = all_both _ _ (InFrom key n (suc (key y))) (λ z h g. (h, g.1)) ys c.0 a.1 in
    let rest = ascending-few key n ys (suc (key y)) a.0.1 later c.1 in
    omega arith)
  where
    apart : (k : ℕ) → (k ≡ r → ⊥) → (k < r → ⊥) → r < k
    apart k ne nl = by_cases (ℕ_discrete k r) (λ e. absurd (ne e)) (λ g. omega arith)

module _ (s x : ℕ) where
  -- what holds of each row holds of the rows at a state and an input
  pub all-rows : (P : Row → Type 0) (rs : List Row) → All P rs → All P (rows_at rs s x)
  unfolding rows_at
  all-rows P [] a = tt
  all-rows P (r ∷ rs) a = go (is_at r s x) (all-rows P rs a.1)
    where
      go : (b : Bool) → All P (rows_at rs s x) → All P (cond b (r ∷ rows_at rs s x) (rows_at rs s x))
      go true h = (a.0, h)
      go false h = h

  -- and so does their order
  pub ascending-rows : (R : Row → Row → Type 0) (rs : List Row) → Ascending R rs → Ascending R (rows_at rs s x)
  unfolding rows_at Ascending
  ascending-rows R [] a = tt
  ascending-rows R (r ∷ rs) a = go (is_at r s x) (all-rows (R r) rs a.0) (ascending-rows R rs a.1)
    where
      go : (b : Bool) → All (R r) (rows_at rs s x) → Ascending R (rows_at rs s x) → Ascending R (cond b (r ∷ rows_at rs s x) (rows_at rs s x))
      go true here h = (here, h)
      go false here h = h

-- a move as one number, its place among all moves
code : ℕ → Row → ℕ
code n r = r.output * n + r.target

less-output : (n o t o' t' : ℕ) → o < o' → t < n → o * n + t < o' * n + t'
less-output n o t o' t' l lt = let h : suc o * n ≤ o' * n = mul-le-mul_right n l in omega arith

module _ (z : Size) (s x : ℕ) where
  code_below : (r : Row) → RowAt z s x r → code z.states r < z.outputs * z.states
  unfolding code
  code_below r at = let h = less-output z.states r.output r.target z.outputs 0 at.row.output at.row.target in omega arith

  code-less : (q r : Row) → RowAt z s x q → RowAt z s x r → Before (row_of q) (row_of r) → code z.states q < code z.states r
  unfolding code Before
  code-less q r aq ar (inl l) = absurd (omega (arith, aq.source, ar.source))
  code-less q r aq ar (inr (e, inl l)) = absurd (omega (arith, aq.input, ar.input))
  code-less q r aq ar (inr (e, inr (f, inl l))) = less-output z.states q.output q.target r.output r.target l aq.row.target
  code-less q r aq ar (inr (e, inr (f, inr (g, inl l)))) = let h : q.output * z.states ≡ r.output * z.states = ap (λ o. o * z.states) g in omega arith
  code-less q r aq ar (inr (e, inr (f, inr (g, inr (h, b))))) = absurd b

  code_same : (q r : Row) → RowAt z s x q → RowAt z s x r → code z.states q ≡ code z.states r → q ≡ r
  unfolding code
  code_same q r aq ar e =
      by_cases (dec_lt q.output r.output)
      (λ l. absurd (omega (arith, less-output z.states q.output q.target r.output r.target l aq.row.target)))
      (λ nl.
      by_cases (dec_lt r.output q.output)
      (λ l. absurd (omega (arith, less-output z.states r.output r.target q.output q.target l ar.row.target)))
      (λ nm.
      let eo : q.output ≡ r.output = omega arith in
      let ep : q.output * z.states ≡ r.output * z.states = ap (λ o. o * z.states) eo in
      let et : q.target ≡ r.target = omega arith in
      let es : q.source ≡ r.source = aq.source ∙ sym ar.source in
      let ei : q.input ≡ r.input = aq.input ∙ sym ar.input in
      λ i. record { source = es i; input = ei i; output = eo i; target = et i }))

module _ (sh : Sheet) (wf : WellFormed sh) where
  unruled-some : 1 ≤ unruled_choices sh
  unfolding unruled_choices
  unruled-some = go sh.quiet
    where
      go : (quiet : Bool) → 1 ≤ cond quiet 1 (sh.size.outputs * sh.size.states)
      go true = omega arith
      go false = mul-pos wf.size.outputs.some wf.size.states.some

  -- a pair without a rule that is no suspect has one
  pub shut-unruled : (s x : ℕ) → rule_at sh.rules s x ≡ none → is_open sh s x ≡ false → unruled_choices sh ≡ 1
  unfolding is_open choices_at
  shut-unruled s x e o = let few = ltb-false 1 (unruled_choices sh) (rw e at o) in omega (arith, unruled-some, few)

  -- every state and input has a choice
  pub choices-some : (s x : ℕ) → 1 ≤ choices_at sh s x
  unfolding choices_at
  choices-some s x = go (rule_at sh.rules s x)
    where
      go : (o : Option Row) → 1 ≤ maybe o (unruled_choices sh) (λ r. suc (length (rows_at sh.faults s x)))
      go none = unruled-some
      go (some r) = omega arith

  moves-few : sh.size.outputs * sh.size.states ≤ 256
  moves-few =
      let h : sh.size.outputs * sh.size.states ≤ 16 * 16 = mul-le-mul wf.size.outputs.few wf.size.states.few in
      omega arith

  unruled-few : unruled_choices sh ≤ 256
  unfolding unruled_choices
  unruled-few = go sh.quiet
    where
      go : (quiet : Bool) → cond quiet 1 (sh.size.outputs * sh.size.states) ≤ 256
      go true = omega arith
      go false = moves-few

  -- the faults of a pair are fewer than all moves: they differ from each other and from the rule
  pub faults-few : (s x : ℕ) (r : Row) → rule_at sh.rules s x ≡ some r →
      length (rows_at sh.faults s x) < sh.size.outputs * sh.size.states
  faults-few s x r e =
      let z = sh.size in
      let here = rows_at sh.faults s x in
      let key = code z.states in
      let there = rule-row sh wf s x r e in
      let at = rows-at z s x sh.faults wf.faults in
      let few = ascending-fewer key (z.outputs * z.states) (key r) (code_below z s x r there) here 0 (omega arith)
      (all_both (RowAt z s x) (Mutates sh.rules) _
      (λ q a m. (omega arith, code_below z s x q a, λ same. other q a m (code_same z s x q r a there same)))
      here at (all-rows s x (Mutates sh.rules) sh.faults wf.faults-mutate))
      (ascending-of (RowAt z s x) (λ (p q : Row). Before (row_of p) (row_of q)) _ (code-less z s x) here at
      (ascending-rows s x _ sh.faults wf.faults-ascend)) in
      omega arith
    where
      other : (q : Row) → RowAt sh.size s x q → Mutates sh.rules q → q ≡ r → ⊥
      other q a m same =
          let t : rule_at sh.rules s x ≡ some m.rule = rw (a.source, a.input) at m.there in
          let u : m.rule ≡ r = cc in
          m.other (same ∙ sym u)

  -- a pair has at most 256 choices
  pub choices-few : (s x : ℕ) → choices_at sh s x ≤ 256
  unfolding choices_at
  choices-few s x = go (rule_at sh.rules s x) refl
    where
      go : (o : Option Row) → rule_at sh.rules s x ≡ o → maybe o (unruled_choices sh) (λ r. suc (length (rows_at sh.faults s x))) ≤ 256
      go none e = unruled-few
      go (some r) e = omega (arith, faults-few s x r e, moves-few)
