-- A walk along the rules of a test.
use Rattle.lists.specs.Options.{coded}
use Prim.Native.Nat.{ℕ, zero, suc, ◌+◌, ◌*◌, ◌/◌, ◌%◌, ◌<◌, ◌≤◌}
use native.Mathlib.Nat.{le_of_suc-le-suc}
use native.Mathlib.Omega.{arith}
use mathlib.Core.Path.{◌≡◌, refl, sym, ◌∙◌, ap}
use mathlib.Core.Option.{Option, none, some}
use mathlib.Core.List.{List, [], ◌∷◌, ◌++◌}
use lib.ListN.{length, get_or, take, drop}
use Rattle.std.specs.Prelude.{Some, None}
use lib.Seq.{split_at, take-suc}
use Rattle.lists.specs.Lists.{maybe}
use Rattle.lists.specs.laws.TestLaw.{never}
use Rattle.lists.specs.laws.AllLaw.{all_get_d}
use Rattle.sheet.specs.declared.Row.{Row}
use Rattle.sheet.specs.Sheet.{Sheet, rule_at, after}
use Rattle.sheet.specs.Reading.{accepted, reading}
use Rattle.sheet.specs.Encode.{press_bytes}
use Rattle.sheet.specs.declared.Tables.{Tables}
use Rattle.sheet.specs.Tables.{by_pair, tables_of, loaded_of}
use Rattle.sheet.specs.WellFormed.{TestIn}
use Rattle.sheet.specs.words.Tabled.{ByPair}
use Rattle.sheet.specs.laws.AcceptedLaw.{well-formed}
use Rattle.sheet.specs.laws.TablesLaw.{table-length, table_at}
use Rattle.model.specs.Machine.{specified_from}
use Rattle.model.specs.Mutant.{move_of, rule, specified}
use Rattle.model.proofs.laws.StaysLaw.{rule-row}
use Rattle.model.proofs.laws.SuiteLaw.{Following, specified-uncons, after-specified, specified-length}
use Rattle.station.specs.declared.Phase.{Phase}
use Rattle.station.specs.declared.Phase.TheVariants as phase
use Rattle.station.specs.declared.State.{State}
use Rattle.station.specs.Station.{current, element_at, expected, due_by}
use Rattle.station.specs.words.Parts.{Ruled, Walk}
use Rattle.station.proofs.laws.ProgressLaw.{element-some, element-out, expected-short}
use Rattle.station.proofs.PressLaw.{presses-at, part_length}

-- ---- the tables
by-pair : (g : ℕ → ℕ → ℕ) → ByPair (by_pair g) g
by-pair g =
    record {
      size = table-length (λ i. g (i / 16) (i % 16));
      at =
          λ s x ls lx.
          let high : (s * 16 + x) / 16 ≡ s = omega arith in
          let low : (s * 16 + x) % 16 ≡ x = omega arith in
          table_at (λ i. g (i / 16) (i % 16)) (s * 16 + x) (omega arith) ∙ rw (high, low) refl;
    }

pub ruled : (s : List ℕ) (sh : Sheet) (t : Tables) → reading s ≡ accepted sh → t ≡ loaded_of (reading s) → Ruled sh s t
unfolding tables_of
ruled s sh t e f =
    let is : t ≡ tables_of sh = f ∙ rw e refl in
    record { read = e; outputs-are = rw is (by-pair _); targets-are = rw is (by-pair _) }

-- ---- one step
after-append : (rules : List Row) (s : ℕ) (xs ys : List ℕ) → after rules s (xs ++ ys) ≡ maybe (after rules s xs) none (λ u. after rules u ys)
unfolding after
after-append rules s [] ys = refl
after-append rules s (x ∷ xs) ys = go (rule_at rules s x) (λ u. after-append rules u xs ys)
  where
    go : (o : Option Row) → ((u : ℕ) → after rules u (xs ++ ys) ≡ maybe (after rules u xs) none (λ v. after rules v ys)) →
        maybe o none (λ r. after rules r.target (xs ++ ys)) ≡ maybe (maybe o none (λ r. after rules r.target xs)) none (λ v. after rules v ys)
    go none ih = refl
    go (some r) ih = ih r.target

-- the rule at the state that the first inputs lead to
record Stepped (rules : List Row) (t : List ℕ) (j s : ℕ) : Type 0 where
  row : Row
  there : rule_at rules s (get_or t j 0) ≡ some row
  further : after rules 0 (take (suc j) t) ≡ some row.target

stepped : (rules : List Row) (t : List ℕ) (j s end : ℕ) → after rules 0 t ≡ some end → after rules 0 (take j t) ≡ some s → j < length t → Stepped rules t j s
unfolding after
stepped rules t j s end e h l = go (rule_at rules s (get_or t j 0)) refl on
  where
    on : after rules s (get_or t j 0 ∷ drop (suc j) t) ≡ some end
    on =
        ap (λ (o : Option ℕ). maybe o none (λ u. after rules u (get_or t j 0 ∷ drop (suc j) t))) (sym h)
        ∙ sym (after-append rules 0 (take j t) (get_or t j 0 ∷ drop (suc j) t)) ∙ ap (after rules 0) (sym (split_at t j 0 l)) ∙ e

    go : (o : Option Row) → rule_at rules s (get_or t j 0) ≡ o → maybe o none (λ r. after rules r.target (drop (suc j) t)) ≡ some end → Stepped rules t j s
    go none er k = never (cc)
    go (some r) er k =
        record {
          row = r;
          there = er;
          further = ap (after rules 0) (take-suc t j 0 l) ∙ after-append rules 0 (take j t) (get_or t j 0 ∷ []) ∙ rw (h, er) refl;
        }

-- the specified output there
specified-at : (sh : Sheet) (t os : List ℕ) (p j s : ℕ) (r : Row) → specified_from (rule sh) p t ≡ some os → after sh.rules p (take j t) ≡ some s → j < length t →
    rule_at sh.rules s (get_or t j 0) ≡ some r → element_at os j ≡ some r.output
unfolding after rule
specified-at sh [] os p j s r e h l er = absurd (omega arith)
specified-at sh (x ∷ t) os p zero s r e h l er =
    let f = specified-uncons (rule sh) p x t os e in
    let same : p ≡ s = cc in
    let is : maybe (rule_at sh.rules p x) none (λ q. some (move_of q)) ≡ some f.move = unfold rule in f.ruled in
    let there : rule_at sh.rules p x ≡ some r = rw same er in
    let moves : some (move_of r) ≡ some f.move = rw there at is in
    let output : r.output ≡ f.move.output = cc in
    rw f.is (ap (λ (o : ℕ). some o) (sym output))
specified-at sh (x ∷ t) os p (suc j) s r e h l er = go (rule_at sh.rules p x) refl (λ u es hs. specified-at sh t f.rest u j s r es hs (le_of_suc-le-suc l) er) h
  where
    f : Following (rule sh) p x t os
    f = specified-uncons (rule sh) p x t os e

    go : (o : Option Row) → rule_at sh.rules p x ≡ o →
        ((u : ℕ) → specified_from (rule sh) u t ≡ some f.rest → after sh.rules u (take j t) ≡ some s → element_at f.rest j ≡ some r.output) →
        maybe o none (λ q. after sh.rules q.target (take j t)) ≡ some s → element_at os (suc j) ≡ some r.output
    go none eo ih k = never (cc)
    go (some q) eo ih k =
        let is : maybe (rule_at sh.rules p x) none (λ q. some (move_of q)) ≡ some f.move = unfold rule in f.ruled in
        let moves : some (move_of q) ≡ some f.move = rw eo at is in
        let target : f.move.target ≡ q.target = cc in
        rw f.is (ih q.target (rw target at f.specifies) k)

-- ---- along a test
module _ {sh : Sheet} {t part : List ℕ} {tables : Tables} (w : Walk sh t part tables) {j s : ℕ} (reached : after sh.rules 0 (take j t) ≡ some s)
    (l : j < length part / 2) where
  inside : j < length t
  inside = omega (arith, part_length t w.bytes)

  here : Stepped sh.rules t j s
  here = stepped sh.rules t j s w.test.reached w.test.defined reached inside

  press-is : get_or part (2 * j + 1) 0 ≡ get_or t j 0
  press-is = ap (λ (p : List ℕ). get_or p (2 * j + 1) 0) w.bytes ∙ presses-at t j inside

  pub state-low : s < 16
  state-low = let at = rule-row sh w.formed s (get_or t j 0) here.row here.there in omega (arith, at.source, at.row.source, w.formed.size.states.few)

  pub press-low : get_or part (2 * j + 1) 0 < 16
  press-low = let at = rule-row sh w.formed s (get_or t j 0) here.row here.there in omega (arith, press-is, at.input, at.row.input, w.formed.size.inputs.few)

  -- the tables at that place
  pub walk-on : {at : ℕ} → at ≡ s * 16 + get_or part (2 * j + 1) 0 → after sh.rules 0 (take (suc j) t) ≡ some (get_or tables.target at 0)
  walk-on {at} e =
      let is = w.targets-are.at s (get_or part (2 * j + 1) 0) state-low press-low in
      let there : rule_at sh.rules s (get_or part (2 * j + 1) 0) ≡ some here.row = rw press-is here.there in
      here.further ∙ ap (λ (v : ℕ). some v) (sym (ap (λ (i : ℕ). get_or tables.target i 0) e ∙ is ∙ rw there refl))

  pub walk-output : {at : ℕ} → at ≡ s * 16 + get_or part (2 * j + 1) 0 → Some (get_or tables.output at 0) ≡ coded (element_at (expected sh t) j)
  unfolding expected specified
  walk-output {at} e =
      let is = w.outputs-are.at s (get_or part (2 * j + 1) 0) state-low press-low in
      let there : rule_at sh.rules s (get_or part (2 * j + 1) 0) ≡ some here.row = rw press-is here.there in
      let os = after-specified sh 0 w.test.reached t w.test.defined in
      let element = specified-at sh t os.0 0 j s here.row os.1 reached inside here.there in
      rw (os.1, element) (ap Some (ap (λ (i : ℕ). get_or tables.output i 0) e ∙ is ∙ rw there refl))

pub walk_start : (sh : Sheet) (t : List ℕ) → after sh.rules 0 (take 0 t) ≡ some 0
unfolding after
walk_start sh t = refl

pub walk-out : {sh : Sheet} {t part : List ℕ} {tables : Tables} → Walk sh t part tables → (j : ℕ) → length part / 2 ≤ j → None ≡ coded (element_at (expected sh t) j)
unfolding expected specified
walk-out {sh} {t} w j l =
    let os = after-specified sh 0 w.test.reached t w.test.defined in
    let out : length os.0 ≤ j = omega (arith, part_length t w.bytes, specified-length (rule sh) 0 t os.0 os.1) in
    rw (os.1, element-out os.0 j out) refl

-- every test of the sheet, and one that is not there
empty-in : (rules : List Row) → TestIn rules []
unfolding after
empty-in rules = record { reached = 0; defined = refl; short = omega arith }

pub walks : {sh : Sheet} {s part : List ℕ} {tables : Tables} → Ruled sh s tables → (i : ℕ) → part ≡ press_bytes (get_or sh.tests i []) → Walk sh (get_or sh.tests i []) part tables
walks {sh} {s} r i e =
    let wf = well-formed s sh r.read in
    record { formed = wf; test = all_get_d (TestIn sh.rules) sh.tests i [] wf.tests (empty-in sh.rules); bytes = e; outputs-are = r.outputs-are; targets-are = r.targets-are }

-- an output is there: the position is in a test
pub position-low : {sh : Sheet} {s : List ℕ} {tables : Tables} → Ruled sh s tables → (n i e : ℕ) → element_at (expected sh (current sh.tests n)) i ≡ some e → i < 256
unfolding current
position-low {sh} {s} r zero i e h = go (element-nothing i) h
  where
    element-nothing : (i : ℕ) → element_at (expected sh []) i ≡ none
    element-nothing i = element-out (expected sh []) i (omega (arith, expected-short sh []))

    go : element_at (expected sh []) i ≡ none → element_at (expected sh []) i ≡ some e → i < 256
    go a b = never (cc)
position-low {sh} {s} r (suc n) i e h =
    let wf = well-formed s sh r.read in
    let t = get_or sh.tests n [] in
    let few = (all_get_d (TestIn sh.rules) sh.tests n [] wf.tests (empty-in sh.rules)).short in
    omega (arith, (element-some (expected sh t) i e h).inside, expected-short sh t)

-- the output that is due is in a test
pub due-low : {sh : Sheet} {s : List ℕ} {tables : Tables} → Ruled sh s tables → (st : State) (p : Phase) {e : ℕ} → due_by p sh st ≡ some e → st.position < 256
due-low r st phase.Ready h = never (cc)
due-low r st phase.Due {e} h = position-low r st.begun st.position e h
due-low r st phase.Passed h = never (cc)
due-low r st phase.Failed h = never (cc)

pub none-expected : (sh : Sheet) (n i : ℕ) → n ≡ 0 → None ≡ coded (element_at (expected sh (current sh.tests n)) i)
unfolding current
none-expected sh n i e = rw e (rw (element-out (expected sh []) i (omega (arith, expected-short sh []))) refl)
