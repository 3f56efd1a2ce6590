-- The first failed test: which tests gave every specified output, and where the first wrong output stands.
use Prim.Native.Nat.{ℕ, zero, suc, ◌<◌, suc-le-suc}
use Rattle.std.proofs.Math.Nat.{le_of_suc-le-suc}
use Rattle.std.proofs.Common.{arith, sym, ◌∙◌}
use Rattle.std.specs.Prelude.{◌≡◌, Bool, get_or}
use Rattle.std.proofs.Math.Path.{refl, ap, ap₂}
use Rattle.std.proofs.Math.Bool.{true, false, cond}
use Rattle.std.proofs.Math.Option.{Option, none, some}
use mathlib.Core.List.{List, [], ◌∷◌}
use borrow.Author.Tests.{eqb-true, eqb-false, eq-eqb, ne_eqb}
use Rattle.std.proofs.Math.Dec.{eqb}
use Rattle.std.proofs.Math.ListN.{length, take}
use Rattle.sheet.specs.declared.Row.{Row}
use Rattle.lists.specs.Lists.{maybe, All}
use Rattle.sheet.specs.Sheet.{Sheet, rule_at, after}
use Rattle.sheet.specs.WellFormed.{TestIn, WellFormed}
use Rattle.lists.specs.laws.TestLaw.{never}
use Rattle.model.specs.Machine.{Move, Pair, prepend, outputs_from, specified_from}
use Rattle.model.specs.Mutant.{move_of, rule, later, initial, outputs, specified, against}
use Rattle.model.specs.Suite.{wrong_from, wrong_in, Place, later_test, first_failed_in, first_failed_of, Passes}
use Rattle.model.specs.Verdict.{RightOn, FirstFailed, FailedMeans}
use Rattle.lists.specs.laws.AllLaw.{all-imp}

-- as many outputs as inputs
pub outputs-length : (move : ℕ → ℕ → Move) (s : ℕ) (xs : List ℕ) → length (outputs_from move s xs) ≡ length xs
unfolding outputs_from
outputs-length move s [] = refl
outputs-length move s (x ∷ xs) = ap suc (outputs-length move (move s x).target xs)

-- the first input has a rule, and the others follow from its next state
pub record Following (rule : ℕ → ℕ → Option Move) (s x : ℕ) (xs os : List ℕ) : Type 0 where
  pub move : Move
  pub ruled : rule s x ≡ some move
  pub rest : List ℕ
  pub specifies : specified_from rule move.target xs ≡ some rest
  pub is : os ≡ move.output ∷ rest

-- the specified outputs of a longer sequence, taken apart
pub specified-uncons : (rule : ℕ → ℕ → Option Move) (s x : ℕ) (xs os : List ℕ) → specified_from rule s (x ∷ xs) ≡ some os →
    Following rule s x xs os
unfolding specified_from
specified-uncons rule s x xs os e = go (rule s x) refl e
  where
    more : (r : Move) → rule s x ≡ some r → (w : Option (List ℕ)) → specified_from rule r.target xs ≡ w → prepend r.output w ≡ some os →
        Following rule s x xs os
    more r er none ew h = never (cc)
    more r er (some rest) ew h = let z : os ≡ r.output ∷ rest = cc in record { move = r; ruled = er; rest = rest; specifies = ew; is = z }

    go : (o : Option Move) → rule s x ≡ o → maybe o none (λ r. prepend r.output (specified_from rule r.target xs)) ≡ some os →
        Following rule s x xs os
    go none er h = never (cc)
    go (some r) er h = more r er (specified_from rule r.target xs) refl h

-- and put together
pub specified-cons : (rule : ℕ → ℕ → Option Move) (s x : ℕ) (xs os : List ℕ) (r : Move) → rule s x ≡ some r →
    specified_from rule r.target xs ≡ some os → specified_from rule s (x ∷ xs) ≡ some (r.output ∷ os)
unfolding specified_from
specified-cons rule s x xs os r e h = rw (e, h) refl

-- as many specified outputs as inputs
pub specified-length : (rule : ℕ → ℕ → Option Move) (s : ℕ) (xs os : List ℕ) → specified_from rule s xs ≡ some os → length os ≡ length xs
unfolding specified_from
specified-length rule s [] os e = let z : [] ≡ os = cc in rw (← z) refl
specified-length rule s (x ∷ xs) os e =
    let f = specified-uncons rule s x xs os e in
    rw f.is (ap suc (specified-length rule f.move.target xs f.rest f.specifies))

-- a sequence that leads along rules has specified outputs
pub after-specified : (sh : Sheet) (s t : ℕ) (xs : List ℕ) → after sh.rules s xs ≡ some t → (os : List ℕ) × (specified_from (rule sh) s xs ≡ some os)
unfolding after specified_from rule
after-specified sh s t [] e = ([], refl)
after-specified sh s t (x ∷ xs) e = go (rule_at sh.rules s x) (λ s'. after-specified sh s' t xs) e
  where
    go : (o : Option Row) → ((s' : ℕ) → after sh.rules s' xs ≡ some t → (os : List ℕ) × (specified_from (rule sh) s' xs ≡ some os)) →
        maybe o none (λ r. after sh.rules r.target xs) ≡ some t →
        (os : List ℕ) × (maybe (maybe o none (λ r. some (move_of r))) none (λ m. prepend m.output (specified_from (rule sh) m.target xs)) ≡ some os)
    go none h e' = never (cc)
    go (some r) h e' = let w = h r.target e' in (r.output ∷ w.0, rw w.1 refl)

-- a sequence with specified outputs, one for each input
pub record Specified (sh : Sheet) (t : List ℕ) : Type 0 where
  pub expected : List ℕ
  pub is : specified sh t ≡ some expected
  pub long : length expected ≡ length t

-- each test of a well-formed sheet has specified outputs
pub test-specified : (sh : Sheet) → WellFormed sh → All (Specified sh) sh.tests
unfolding specified
test-specified sh wf =
    all-imp (Specified sh) (TestIn sh.rules)
    (λ t h.
    let w = after-specified sh 0 h.reached t h.defined in
    record { expected = w.0; is = w.1; long = specified-length (rule sh) 0 t w.0 w.1 })
    sh.tests wf.tests

-- the outputs before i are right, and the one there is wrong
pub record Differ (rs os : List ℕ) (i : ℕ) : Type 0 where
  pub reached : i < length rs
  pub agree : take i os ≡ take i rs
  pub wrong : get_or os i 0 ≡ get_or rs i 0 → ⊥

module _ (m : Pair) where
  -- no wrong output: the same outputs
  none-wrong : (xs rs : List ℕ) (p q : ℕ) → specified_from m.rule p xs ≡ some rs → wrong_from m p q xs ≡ none → rs ≡ outputs_from m.move q xs
  unfolding specified_from outputs_from wrong_from
  none-wrong [] rs p q s e = cc
  none-wrong (x ∷ xs) rs p q s e =
      let f = specified-uncons m.rule p x xs rs s in
      let t = m.move q x in
      rw f.is (go f.move (eqb f.move.output t.output) refl (wrong_from m f.move.target t.target xs)
      (none-wrong xs f.rest f.move.target t.target f.specifies) (rw f.ruled at e))
    where
      go : (r : Move) (c : Bool) → eqb r.output (m.move q x).output ≡ c → {rest : List ℕ} (w : Option ℕ) →
          (w ≡ none → rest ≡ outputs_from m.move (m.move q x).target xs) → cond c (later w) (some zero) ≡ none →
          r.output ∷ rest ≡ (m.move q x).output ∷ outputs_from m.move (m.move q x).target xs
      go r true ec none h n = ap₂ (λ (o : ℕ) (os : List ℕ). o ∷ os) (eqb-true r.output (m.move q x).output ec) (h refl)
      go r true ec (some i) h n = never (cc)
      go r false ec w h n = never (cc)

  -- the same outputs: none is wrong
  same-right : (xs : List ℕ) (p q : ℕ) → specified_from m.rule p xs ≡ some (outputs_from m.move q xs) → wrong_from m p q xs ≡ none
  unfolding specified_from outputs_from wrong_from
  same-right [] p q s = refl
  same-right (x ∷ xs) p q s =
      let t = m.move q x in
      let f = specified-uncons m.rule p x xs (t.output ∷ outputs_from m.move t.target xs) s in
      let is : t.output ∷ outputs_from m.move t.target xs ≡ f.move.output ∷ f.rest = f.is in
      let same : f.move.output ≡ t.output = cc in
      let others : f.rest ≡ outputs_from m.move t.target xs = cc in
      rw (
        f.ruled,
        eq-eqb f.move.output t.output same,
        same-right xs f.move.target t.target (f.specifies ∙ ap (λ os. some os) others),
      ) refl

  -- a wrong output is the first one
  first-wrong : (xs rs : List ℕ) (p q i : ℕ) → specified_from m.rule p xs ≡ some rs → wrong_from m p q xs ≡ some i → Differ rs (outputs_from m.move q xs) i
  unfolding specified_from outputs_from wrong_from
  first-wrong [] rs p q i s e = never (cc)
  first-wrong (x ∷ xs) rs p q i s e =
      let f = specified-uncons m.rule p x xs rs s in
      let t = m.move q x in
      rw f.is (go f.move (eqb f.move.output t.output) refl (wrong_from m f.move.target t.target xs)
      (λ j. first-wrong xs f.rest f.move.target t.target j f.specifies) (rw f.ruled at e))
    where
      go : (r : Move) (c : Bool) → eqb r.output (m.move q x).output ≡ c → {rest : List ℕ} (w : Option ℕ) →
          ((j : ℕ) → w ≡ some j → Differ rest (outputs_from m.move (m.move q x).target xs) j) → cond c (later w) (some zero) ≡ some i →
          Differ (r.output ∷ rest) ((m.move q x).output ∷ outputs_from m.move (m.move q x).target xs) i
      go r true ec none h n = never (cc)
      go r true ec (some j) h n =
          let z : suc j ≡ i = cc in
          let d = h j refl in
          rw (← z)
          (record {
            reached = suc-le-suc d.reached;
            agree = ap₂ (λ (o : ℕ) (os : List ℕ). o ∷ os) (sym (eqb-true r.output (m.move q x).output ec)) d.agree;
            wrong = d.wrong;
          })
      go r false ec w h n =
          let z : zero ≡ i = cc in
          rw (← z) (record { reached = omega arith; agree = refl; wrong = λ same. eqb-false r.output (m.move q x).output ec (sym same) })

  -- and only the first one is the answer
  wrong_first : (xs rs : List ℕ) (p q i : ℕ) → specified_from m.rule p xs ≡ some rs → Differ rs (outputs_from m.move q xs) i → wrong_from m p q xs ≡ some i
  unfolding specified_from outputs_from wrong_from
  wrong_first [] rs p q i s d = let z : rs ≡ [] = cc in let l = rw z at d.reached in absurd (omega (arith, l))
  wrong_first (x ∷ xs) rs p q i s d =
      let f = specified-uncons m.rule p x xs rs s in
      rw f.ruled (go f.move f.rest i (λ j. wrong_first xs f.rest f.move.target (m.move q x).target j f.specifies) (rw f.is at d))
    where
      go : (r : Move) (rest : List ℕ) (k : ℕ) →
          ((j : ℕ) → Differ rest (outputs_from m.move (m.move q x).target xs) j → wrong_from m r.target (m.move q x).target xs ≡ some j) →
          Differ (r.output ∷ rest) ((m.move q x).output ∷ outputs_from m.move (m.move q x).target xs) k →
          cond (eqb r.output (m.move q x).output) (later (wrong_from m r.target (m.move q x).target xs)) (some zero) ≡ some k
      go r rest zero ih e = rw (ne_eqb r.output (m.move q x).output (λ same. e.wrong (sym same))) refl
      go r rest (suc k) ih e =
          let g : (m.move q x).output ∷ take k (outputs_from m.move (m.move q x).target xs) ≡ r.output ∷ take k rest = e.agree in
          let same : r.output ≡ (m.move q x).output = cc in
          let others : take k (outputs_from m.move (m.move q x).target xs) ≡ take k rest = cc in
          rw (eq-eqb r.output (m.move q x).output same, ih k (record { reached = le_of_suc-le-suc e.reached; agree = others; wrong = e.wrong })) refl

module _ (sh : Sheet) (b : List ℕ) where
  -- no output of the test is wrong: the mutant is right on it
  pub none_right : (t : List ℕ) → Specified sh t → wrong_in sh b t ≡ none → RightOn sh b t
  unfolding wrong_in specified outputs
  none_right t s e = s.is ∙ ap (λ os. some os) (none-wrong (against sh b) t s.expected 0 (initial sh b) s.is e)

  -- and back
  pub right-none : (t : List ℕ) → RightOn sh b t → wrong_in sh b t ≡ none
  unfolding wrong_in specified outputs
  right-none t e = same-right (against sh b) t 0 (initial sh b) e

  -- the first wrong output of the mutant on the test stands at i
  pub record WrongOn (t : List ℕ) (i : ℕ) : Type 0 where
    pub expected : List ℕ
    pub specifies : specified sh t ≡ some expected
    pub differ : Differ expected (outputs sh b t) i

  -- a wrong output is the first one
  pub some-wrong : (t : List ℕ) (i : ℕ) → Specified sh t → wrong_in sh b t ≡ some i → WrongOn t i
  unfolding wrong_in specified outputs
  some-wrong t i s e =
      record {
        expected = s.expected;
        specifies = s.is;
        differ = first-wrong (against sh b) t s.expected 0 (initial sh b) i s.is e;
      }

  -- and only the first one is the answer
  pub wrong-some : (t : List ℕ) (i : ℕ) → WrongOn t i → wrong_in sh b t ≡ some i
  unfolding wrong_in specified outputs
  wrong-some t i w = wrong_first (against sh b) t w.expected 0 (initial sh b) i w.specifies w.differ

  -- the first failed one of some tests: those before it are right
  record FailedIn (ts : List (List ℕ)) (f : Place) : Type 0 where
    is : f.test < length ts
    before : (i : ℕ) → i < f.test → RightOn sh b (get_or ts i [])
    here : WrongOn (get_or ts f.test []) f.position

  MeansIn : List (List ℕ) → Option Place → Type 0
  MeansIn ts none = (i : ℕ) → i < length ts → RightOn sh b (get_or ts i [])
  MeansIn ts (some f) = FailedIn ts f

  means-in : (ts : List (List ℕ)) → All (Specified sh) ts → MeansIn ts (first_failed_in sh b ts)
  unfolding first_failed_in MeansIn
  means-in [] a = λ i l. absurd (omega arith)
  means-in (t ∷ ts) a = go (wrong_in sh b t) refl (first_failed_in sh b ts) (means-in ts a.1)
    where
      go : (w : Option ℕ) → wrong_in sh b t ≡ w → (o : Option Place) → MeansIn ts o →
          MeansIn (t ∷ ts) (maybe w (later_test o) (λ i. some (record { test = zero; position = i })))
      go none ew none h = first_then
        where
          first_then : (i : ℕ) → i < suc (length ts) → RightOn sh b (get_or (t ∷ ts) i [])
          first_then zero l = none_right t a.0 ew
          first_then (suc i) l = h i (le_of_suc-le-suc l)
      go none ew (some f) h = record { is = suc-le-suc h.is; before = first_then; here = h.here }
        where
          first_then : (i : ℕ) → i < suc f.test → RightOn sh b (get_or (t ∷ ts) i [])
          first_then zero l = none_right t a.0 ew
          first_then (suc i) l = h.before i (le_of_suc-le-suc l)
      go (some i) ew o h = record { is = omega arith; before = λ j l. absurd (omega arith); here = some-wrong t i a.0 ew }

  right-in : (ts : List (List ℕ)) → ((i : ℕ) → i < length ts → RightOn sh b (get_or ts i [])) → first_failed_in sh b ts ≡ none
  unfolding first_failed_in
  right-in [] h = refl
  right-in (t ∷ ts) h = rw (right-none t (h 0 (omega arith)), right-in ts (λ i l. h (suc i) (suc-le-suc l))) refl

  failed-in : (ts : List (List ℕ)) (f : Place) → All (Specified sh) ts → FailedIn ts f → first_failed_in sh b ts ≡ some f
  unfolding first_failed_in
  failed-in ts f a d = go ts f.test a d.is d.before d.here
    where
      go : (us : List (List ℕ)) (j : ℕ) → All (Specified sh) us → j < length us → ((i : ℕ) → i < j → RightOn sh b (get_or us i [])) →
          WrongOn (get_or us j []) f.position → first_failed_in sh b us ≡ some (record { test = j; position = f.position })
      go [] j s l r w = absurd (omega arith)
      go (t ∷ us) zero s l r w = rw (wrong-some t f.position w) refl
      go (t ∷ us) (suc j) s l r w =
          rw (right-none t (r 0 (omega arith)), go us j s.1 (le_of_suc-le-suc l) (λ i m. r (suc i) (suc-le-suc m)) w) refl

  -- a mutant that is right on every test passes the suite
  pub right-passes : ((i : ℕ) → i < length sh.tests → RightOn sh b (get_or sh.tests i [])) → Passes sh b
  unfolding first_failed_of
  right-passes h = right-in sh.tests h

  module _ (wf : WellFormed sh) where
    -- what the first failed test tells
    pub failed-means : FailedMeans sh b (first_failed_of sh b)
    unfolding first_failed_of MeansIn
    failed-means = go (first_failed_in sh b sh.tests) (means-in sh.tests (test-specified sh wf))
      where
        go : (o : Option Place) → MeansIn sh.tests o → FailedMeans sh b o
        go none h = h
        go (some f) h =
            record {
              is = h.is;
              before = h.before;
              expected = h.here.expected;
              specifies = h.here.specifies;
              reached = h.here.differ.reached;
              agree = h.here.differ.agree;
              wrong = h.here.differ.wrong;
            }

    -- a mutant that passes the suite is right on every test
    pub passes-right : Passes sh b → (i : ℕ) → i < length sh.tests → RightOn sh b (get_or sh.tests i [])
    passes-right e = rw e at failed-means

    -- only the first failed test is the answer
    pub failed-is : (f : Place) → FirstFailed sh b f → first_failed_of sh b ≡ some f
    unfolding first_failed_of
    failed-is f h =
        failed-in sh.tests f (test-specified sh wf)
        (record {
          is = h.is;
          before = h.before;
          here =
              record {
                expected = h.expected;
                specifies = h.specifies;
                differ = record { reached = h.reached; agree = h.agree; wrong = h.wrong };
              };
        })
