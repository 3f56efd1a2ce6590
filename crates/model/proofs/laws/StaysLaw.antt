-- The machines of a well-formed sheet stay among its states, inputs and outputs.
use Rattle.std.specs.Prelude.{ℕ, zero, ◌<◌, ◌≡◌, Bool, true, false, cond, ◌&&◌, List, [], ◌∷◌, map, eqb, ltb, get_or}
use Rattle.std.proofs.Common.{arith, eqb-true, ltb-true}
use Rattle.std.proofs.Math.Path.{refl}
use Rattle.std.proofs.Math.Option.{Option, none, some}
use Rattle.sheet.specs.declared.Row.{Row}
use Rattle.sheet.specs.declared.Size.{Size}
use Rattle.lists.specs.Lists.{maybe, All, up_to, joined}
use Rattle.sheet.specs.Sheet.{Sheet, rows_at, rule_at}
use Rattle.sheet.specs.WellFormed.{RowIn, WellFormed}
use Rattle.sheet.specs.laws.WakingLaw.{waking-in}
use Rattle.lists.specs.laws.TestLaw.{never}
use Rattle.model.specs.Machine.{Move, Pair}
use Rattle.model.specs.Mutant.{move_of, rule, stay, unruled, transitions, suspects, site_in, slot_of, idle, acts, step, start_slot, initial, against}
use Rattle.lists.specs.laws.AllLaw.{all-imp, all_get_d, all_first, all_map, all-joined}
use Rattle.lists.specs.laws.MemberLaw.{up_to-below}

-- the rules' inputs are below `inputs`, and every move goes to a state below `states`
pub record Closed (m : Pair) : Type 0 where
  pub input-below : (s x : ℕ) (r : Move) → m.rule s x ≡ some r → x < m.inputs
  pub rule-below : (s x : ℕ) (r : Move) → s < m.states → m.rule s x ≡ some r → r.target < m.states
  pub move-below : (s x : ℕ) → s < m.states → x < m.inputs → (m.move s x).target < m.states

-- a row in range that stands at a state and an input
pub record RowAt (z : Size) (s x : ℕ) (r : Row) : Type 0 where
  pub row : RowIn z r
  pub source : r.source ≡ s
  pub input : r.input ≡ x

-- a move in range
pub record MoveIn (z : Size) (t : Move) : Type 0 where
  pub output : t.output < z.outputs
  pub target : t.target < z.states

-- what the specified move at a state and an input comes from
pub record RuleAt (z : Size) (s x : ℕ) (t : Move) : Type 0 where
  pub state : s < z.states
  pub input : x < z.inputs
  pub move : MoveIn z t

-- the rows found at a state and an input stand there
pub rows-at : (z : Size) (s x : ℕ) (rs : List Row) → All (RowIn z) rs → All (RowAt z s x) (rows_at rs s x)
unfolding rows_at
rows-at z s x [] a = tt
rows-at z s x (r ∷ rs) a = go (eqb r.source s) refl (eqb r.input x) refl (rows-at z s x rs a.1)
  where
    go : (b : Bool) → eqb r.source s ≡ b → (c : Bool) → eqb r.input x ≡ c → All (RowAt z s x) (rows_at rs s x) →
        All (RowAt z s x) (cond (b && c) (r ∷ rows_at rs s x) (rows_at rs s x))
    go false eb c ec h = h
    go true eb false ec h = h
    go true eb true ec h = (record { row = a.0; source = eqb-true r.source s eb; input = eqb-true r.input x ec }, h)

module _ (sh : Sheet) (wf : WellFormed sh) where
  -- there is a state
  pub some-state : 0 < sh.size.states
  some-state = wf.size.states.some

  -- the rule found at a state and an input stands there
  pub rule-row : (s x : ℕ) (r : Row) → rule_at sh.rules s x ≡ some r → RowAt sh.size s x r
  unfolding rule_at
  rule-row s x r e = all_first (RowAt sh.size s x) (rows_at sh.rules s x) r (rows-at sh.size s x sh.rules wf.rules) e

  -- a specified move is in range, and so are its state and input
  pub rule-in : (s x : ℕ) (t : Move) → rule sh s x ≡ some t → RuleAt sh.size s x t
  unfolding rule
  rule-in s x t e = go (rule_at sh.rules s x) refl e
    where
      go : (o : Option Row) → rule_at sh.rules s x ≡ o → maybe o none (λ r. some (move_of r)) ≡ some t → RuleAt sh.size s x t
      go none er h = never (cc)
      go (some r) er h =
          let at = rule-row s x r er in
          let eo : r.output ≡ t.output = cc in
          let et : r.target ≡ t.target = cc in
          record {
            state = omega (arith, at.source, at.row.source);
            input = omega (arith, at.input, at.row.input);
            move = record { output = omega (arith, at.row.output); target = omega (arith, at.row.target) };
          }

  -- every transition of a state and an input is in range
  pub transitions-in : (s x : ℕ) → s < sh.size.states → All (MoveIn sh.size) (transitions sh s x)
  unfolding transitions unruled
  transitions-in s x ls = go (rule_at sh.rules s x) refl
    where
      In : Move → Type 0
      In = MoveIn sh.size

      row_in : (r : Row) → RowAt sh.size s x r → In (move_of r)
      row_in r at = record { output = at.row.output; target = at.row.target }

      moves : ℕ → List Move
      moves o = map (λ (t : ℕ). record { output = o; target = t }) (up_to sh.size.states)

      moves-in : (o : ℕ) → o < sh.size.outputs → All In (moves o)
      moves-in o lo =
          all_map In (λ (t : ℕ). record { output = o; target = t }) (up_to sh.size.states)
          (all-imp (λ (t : ℕ). In (record { output = o; target = t })) (λ (t : ℕ). t < sh.size.states)
          (λ t l. record { output = lo; target = l }) (up_to sh.size.states) (up_to-below sh.size.states))

      unruled-in : (quiet : Bool) → All In (cond quiet (stay s ∷ []) (joined moves (up_to sh.size.outputs)))
      unruled-in true = (record { output = wf.size.outputs.some; target = ls }, tt)
      unruled-in false =
          all-joined In moves (up_to sh.size.outputs)
          (all-imp (λ (o : ℕ). All In (moves o)) (λ (o : ℕ). o < sh.size.outputs) moves-in (up_to sh.size.outputs) (up_to-below sh.size.outputs))

      go : (o : Option Row) → rule_at sh.rules s x ≡ o →
          All In (maybe o (cond sh.quiet (stay s ∷ []) (joined moves (up_to sh.size.outputs))) (λ r. move_of r ∷ map move_of (rows_at sh.faults s x)))
      go none e = unruled-in sh.quiet
      go (some r) e = (
        row_in r (rule-row s x r e),
        all_map In move_of (rows_at sh.faults s x)
            (all-imp (λ (q : Row). In (move_of q)) (RowAt sh.size s x) row_in (rows_at sh.faults s x)
            (rows-at sh.size s x sh.faults wf.faults)),
      )

  -- what a mutant does is in range, whatever its bytes, the state and the input
  pub step_in : (b : List ℕ) (s x : ℕ) → MoveIn sh.size (step sh b s x)
  unfolding step acts
  step_in b s x = go (ltb s sh.size.states) refl (ltb x sh.size.inputs)
    where
      idle-in : MoveIn sh.size idle
      idle-in = record { output = wf.size.outputs.some; target = some-state }

      i : ℕ
      i = maybe (slot_of sh (site_in (suspects sh) s x)) zero (λ i. get_or b i 0)

      go : (c : Bool) → ltb s sh.size.states ≡ c → (d : Bool) → MoveIn sh.size (cond (c && d) (get_or (transitions sh s x) i idle) idle)
      go true e true = all_get_d (MoveIn sh.size) (transitions sh s x) i idle (transitions-in s x (ltb-true s sh.size.states e)) idle-in
      go true e false = idle-in
      go false e d = idle-in

-- the specification and a mutant of a well-formed sheet
pub closed : (sh : Sheet) (b : List ℕ) → WellFormed sh → Closed (against sh b)
closed sh b wf =
    record {
      input-below = λ s x r e. (rule-in sh wf s x r e).input;
      rule-below = λ s x r l e. (rule-in sh wf s x r e).move.target;
      move-below = λ s x l lx. (step_in sh wf b s x).target;
    }

-- a mutant starts at a state
pub start-below : (sh : Sheet) (b : List ℕ) → WellFormed sh → initial sh b < sh.size.states
unfolding initial
start-below sh b wf = waking-in wf (maybe (start_slot sh) zero (λ i. get_or b i 0))
