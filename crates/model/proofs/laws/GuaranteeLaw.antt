-- Demand 3: a complete suite guarantees every specified output, on every list of resets and inputs, of whatever length.
use Rattle.std.specs.Prelude.{ℕ, suc, ◌<◌, ◌≡◌, length}
use Rattle.std.proofs.Common.{arith, sym, ◌∙◌}
use Rattle.std.proofs.Math.Path.{refl, ap}
use Rattle.std.proofs.Math.Logic.{⊎_elim}
use Rattle.std.proofs.Math.Option.{Option, none, some}
use mathlib.Core.List.{List, [], ◌∷◌, ◌++◌, map}
use Rattle.sheet.specs.declared.Row.{Row}
use Rattle.lists.specs.Lists.{maybe, All}
use Rattle.sheet.specs.Sheet.{Sheet, rule_at, after}
use Rattle.sheet.specs.WellFormed.{TestIn, WellFormed}
use Rattle.lists.specs.laws.TestLaw.{never}
use Rattle.model.specs.Machine.{Move, Pair, outputs_from, specified_from, ConformingFrom}
use Rattle.model.specs.Mutant.{rule, initial, outputs, specified, against, IsMutant, Conforming}
use Rattle.model.specs.Suite.{Passes}
use Rattle.model.specs.Implementation.{Event, reset, input, InputsBelow, ResetFirst, Proper, respond_from, respond, move_from, output_of, target_of, required_from, required, Gives, Implementation, BehavesAs, GivesAll, suite_events, PassesSuite, Guaranteed}
use Rattle.model.specs.Verdict.{RightOn, Complete}
use Rattle.model.proofs.laws.StaysLaw.{closed, some-state, start-below, rule-row}
use Rattle.model.proofs.laws.CompareLaw.{conforms-or-distinguished, conforming-not}
use Rattle.lists.specs.laws.ListLaw.{all-at-index, index-all}
use Rattle.model.proofs.laws.SuiteLaw.{specified-uncons, specified-cons, Specified, test-specified, right-passes, passes-right}

-- the output is the specified one, if there is one
unfoldable Given : Option Move → ℕ → Type 0
Given none o = Unit {0}
Given (some r) o = o ≡ r.output

gives_cons : (o : Option Move) (out : ℕ) (os : List ℕ) (rs : List (Option ℕ)) → Given o out → Gives os rs → Gives (out ∷ os) (output_of o ∷ rs)
unfolding Given Gives
gives_cons none out os rs h g = g
gives_cons (some r) out os rs h g = (h, g)

gives-uncons : (o : Option Move) (out : ℕ) (os : List ℕ) (rs : List (Option ℕ)) → Gives (out ∷ os) (output_of o ∷ rs) → Given o out × Gives os rs
unfolding Given Gives
gives-uncons none out os rs g = (tt, g)
gives-uncons (some r) out os rs g = g

-- the inputs of a list of events
unfoldable pub inputs_in : List Event → List ℕ
inputs_in [] = []
inputs_in (reset ∷ es) = inputs_in es
inputs_in (input x ∷ es) = x ∷ inputs_in es

gives-length : (os : List ℕ) (rs : List (Option ℕ)) → Gives os rs → length os ≡ length rs
unfolding Gives
gives-length [] [] g = refl
gives-length [] (r ∷ rs) g = absurd g
gives-length (o ∷ os) [] g = absurd g
gives-length (o ∷ os) (none ∷ rs) g = ap suc (gives-length os rs g)
gives-length (o ∷ os) (some r ∷ rs) g = ap suc (gives-length os rs g.1)

required-length : (rule : ℕ → ℕ → Option Move) (st : Option ℕ) (es : List Event) → length (required_from rule st es) ≡ length (inputs_in es)
unfolding required_from inputs_in
required-length rule st [] = refl
required-length rule st (reset ∷ es) = required-length rule (some 0) es
required-length rule st (input x ∷ es) = ap suc (required-length rule (target_of (move_from rule st x)) es)

-- what gives every specified output gives one output for each input
pub gives-each : (sh : Sheet) (implementation : Implementation) (es : List Event) → GivesAll sh implementation es → length (implementation es) ≡ length (inputs_in es)
unfolding GivesAll required
gives-each sh implementation es g = gives-length (implementation es) (required sh es) g ∙ required-length (rule sh) none es

module _ (m : Pair) where
  -- what conforms gives the specified output, and conforms after it
  conforming-next : (p q x : ℕ) (r : Move) → ConformingFrom m p q → m.rule p x ≡ some r →
      ((m.move q x).output ≡ r.output) × ConformingFrom m r.target (m.move q x).target
  unfolding ConformingFrom outputs_from specified_from
  conforming-next p q x r conf e =
      let h : _ = conf (x ∷ []) (r.output ∷ []) (specified-cons m.rule p x [] [] r e refl) in (
        cc,
        λ xs os eo. let t : _ = conf (x ∷ xs) (r.output ∷ os) (specified-cons m.rule p x xs os r e eo) in cc,
      )

  -- the specification's state is unknown, or the machine conforms from here
  unfoldable Ok : Option ℕ → ℕ → Type 0
  Ok none q = Unit {0}
  Ok (some p) q = ConformingFrom m p q

  ok-next : (st : Option ℕ) (q x : ℕ) → Ok st q → (o : Option Move) → move_from m.rule st x ≡ o →
      Given o (m.move q x).output × Ok (target_of o) (m.move q x).target
  unfolding Ok Given
  ok-next none q x ok none e = (tt, tt)
  ok-next none q x ok (some r) e = never (cc)
  ok-next (some p) q x ok none e = (tt, tt)
  ok-next (some p) q x ok (some r) e = conforming-next p q x r ok e

  -- a conforming machine gives every specified output, on any list of events
  gives : (start : ℕ) → ConformingFrom m 0 start → (es : List Event) (st : Option ℕ) (q : ℕ) → Ok st q →
      Gives (respond_from m.move start q es) (required_from m.rule st es)
  unfolding Ok respond_from required_from Gives
  gives start conf [] st q ok = tt
  gives start conf (reset ∷ es) st q ok = gives start conf es (some 0) start conf
  gives start conf (input x ∷ es) st q ok =
      let o = move_from m.rule st x in
      let t = m.move q x in
      let h = ok-next st q x ok o refl in
      gives_cons o t.output (respond_from m.move start t.target es) (required_from m.rule (target_of o) es) h.0
      (gives start conf es (target_of o) t.target h.1)

  -- every specified output is given on a list of events
  abbrev GivesFrom : ℕ → Option ℕ → ℕ → List Event → Type 0
  GivesFrom start st q es = Gives (respond_from m.move start q es) (required_from m.rule st es)

  -- what is given on the inputs of a test and on what follows them is given on what follows
  test-rest : (start : ℕ) (t : List ℕ) (rest : List Event) (st : Option ℕ) (q : ℕ) → GivesFrom start st q (map input t ++ rest) →
      (st' : Option ℕ) × (q' : ℕ) × GivesFrom start st' q' rest
  unfolding respond_from required_from
  test-rest start [] rest st q g = (st, q, g)
  test-rest start (x ∷ xs) rest st q g =
      let o = move_from m.rule st x in
      let t = m.move q x in
      let es = map input xs ++ rest in
      test-rest start xs rest (target_of o) t.target
      (gives-uncons o t.output (respond_from m.move start t.target es) (required_from m.rule (target_of o) es) g).1

  -- and the test's outputs are the specified ones
  test-right : (start : ℕ) (t : List ℕ) (rest : List Event) (p q : ℕ) (os : List ℕ) → GivesFrom start (some p) q (map input t ++ rest) →
      specified_from m.rule p t ≡ some os → os ≡ outputs_from m.move q t
  unfolding respond_from required_from specified_from outputs_from Given
  test-right start [] rest p q os g e = cc
  test-right start (x ∷ xs) rest p q os g e =
      let f = specified-uncons m.rule p x xs os e in
      let t = m.move q x in
      let es = map input xs ++ rest in
      let outs = respond_from m.move start t.target es in
      let g₁ : Gives (t.output ∷ outs) (output_of (m.rule p x) ∷ required_from m.rule (target_of (m.rule p x)) es) = g in
      let h = gives-uncons (some f.move) t.output outs (required_from m.rule (some f.move.target) es) (rw f.ruled at g₁) in
      let ih = test-right start xs rest f.move.target t.target f.rest h.1 f.specifies in
      f.is ∙ ap (λ o. o ∷ f.rest) (sym h.0) ∙ ap (λ l. t.output ∷ l) ih

  -- a right test, and what follows it from whatever states
  right-gives : (start : ℕ) (t : List ℕ) (rest : List Event) (p q : ℕ) → specified_from m.rule p t ≡ some (outputs_from m.move q t) →
      ((st : Option ℕ) (q' : ℕ) → GivesFrom start st q' rest) → GivesFrom start (some p) q (map input t ++ rest)
  unfolding respond_from required_from specified_from outputs_from Given
  right-gives start [] rest p q e h = h (some p) q
  right-gives start (x ∷ xs) rest p q e h =
      let t = m.move q x in
      let outs = outputs_from m.move t.target xs in
      let f = specified-uncons m.rule p x xs (t.output ∷ outs) e in
      let es = map input xs ++ rest in
      let is : t.output ∷ outs ≡ f.move.output ∷ f.rest = f.is in
      let same : t.output ≡ f.move.output = cc in
      let others : f.rest ≡ outs = cc in
      rw f.ruled
      (gives_cons (some f.move) t.output (respond_from m.move start t.target es)
      (required_from m.rule (some f.move.target) es) same
      (right-gives start xs rest f.move.target t.target (f.specifies ∙ ap (λ os. some os) others) h))

module _ (sh : Sheet) (b : List ℕ) where
  -- a mutant that gives every specified output on the suite's list is right on each test
  suite-right : (ts : List (List ℕ)) → All (Specified sh) ts → (st : Option ℕ) (q : ℕ) →
      GivesFrom (against sh b) (initial sh b) st q (suite_events ts) → All (RightOn sh b) ts
  unfolding suite_events respond_from required_from specified outputs
  suite-right [] a st q g = tt
  suite-right (t ∷ ts) a st q g =
      let m = against sh b in
      let start = initial sh b in
      let r = test-rest m start t (suite_events ts) (some 0) start g in (
        a.0.is ∙ ap (λ os. some os) (test-right m start t (suite_events ts) 0 start a.0.expected g a.0.is),
        suite-right ts a.1 r.0 r.1 r.2,
      )

  -- a mutant that is right on each test gives every specified output on the suite's list
  suite-gives : (ts : List (List ℕ)) → All (RightOn sh b) ts → (st : Option ℕ) (q : ℕ) →
      GivesFrom (against sh b) (initial sh b) st q (suite_events ts)
  unfolding suite_events respond_from required_from specified outputs Gives
  suite-gives [] a st q = tt
  suite-gives (t ∷ ts) a st q = right-gives (against sh b) (initial sh b) t (suite_events ts) 0 (initial sh b) a.0 (suite-gives ts a.1)

suite-reset-first : (ts : List (List ℕ)) → ResetFirst (suite_events ts)
unfolding ResetFirst suite_events
suite-reset-first [] = tt
suite-reset-first (t ∷ ts) = tt

module _ (sh : Sheet) (wf : WellFormed sh) where
  test_below : (s t : ℕ) (xs : List ℕ) (rest : List Event) → after sh.rules s xs ≡ some t → InputsBelow sh.size.inputs rest →
      InputsBelow sh.size.inputs (map input xs ++ rest)
  unfolding after InputsBelow
  test_below s t [] rest e below = below
  test_below s t (x ∷ xs) rest e below = go (rule_at sh.rules s x) refl (λ s' h. test_below s' t xs rest h below) e
    where
      go : (o : Option Row) → rule_at sh.rules s x ≡ o →
          ((s' : ℕ) → after sh.rules s' xs ≡ some t → InputsBelow sh.size.inputs (map input xs ++ rest)) →
          maybe o none (λ r. after sh.rules r.target xs) ≡ some t →
          (x < sh.size.inputs) × InputsBelow sh.size.inputs (map input xs ++ rest)
      go none er ih h = never (cc)
      go (some r) er ih h = let at = rule-row sh wf s x r er in (omega (arith, at.input, at.row.input), ih r.target h)

  suite-below : (ts : List (List ℕ)) → All (TestIn sh.rules) ts → InputsBelow sh.size.inputs (suite_events ts)
  unfolding suite_events InputsBelow
  suite-below [] a = tt
  suite-below (t ∷ ts) a = test_below 0 a.0.reached t (suite_events ts) a.0.defined (suite-below ts a.1)

  -- the list of the whole suite is one that an implementation may get
  pub suite-proper : Proper sh (suite_events sh.tests)
  unfolding Proper
  suite-proper = (suite-reset-first sh.tests, suite-below sh.tests wf.tests)

  -- an implementation that behaves as a mutant and passes the suite: the mutant passes it
  pub passes-suite : (b : List ℕ) (implementation : Implementation) → BehavesAs sh b implementation → PassesSuite sh implementation → Passes sh b
  unfolding BehavesAs PassesSuite GivesAll respond required
  passes-suite b implementation behaves passes =
      let suite = suite_events sh.tests in
      let right = suite-right sh b sh.tests (test-specified sh wf) none (initial sh b) (rw (behaves suite suite-proper) at passes) in
      right-passes sh b (λ i l. all-at-index (RightOn sh b) sh.tests i [] l right)

  -- and if the mutant passes the suite, so does an implementation that behaves as it
  pub suite-passes : (b : List ℕ) (implementation : Implementation) → BehavesAs sh b implementation → Passes sh b → PassesSuite sh implementation
  unfolding BehavesAs PassesSuite GivesAll respond required
  suite-passes b implementation behaves passes =
      rw (behaves (suite_events sh.tests) suite-proper)
      (suite-gives sh b sh.tests (index-all (RightOn sh b) sh.tests [] (passes-right sh b wf passes)) none (initial sh b))

  -- a mutant that passes a complete suite conforms
  pub complete-conforming : Complete sh → (b : List ℕ) → IsMutant sh b → Passes sh b → Conforming sh b
  unfolding Complete
  complete-conforming complete b mutant passes =
      let m = against sh b in
      ⊎_elim (λ conf. conf)
      (λ d. absurd (complete b mutant (λ conf. conforming-not m 0 (initial sh b) d.0 conf d.1) passes))
      (conforms-or-distinguished m 0 (initial sh b) (closed sh b wf) (some-state sh wf) (start-below sh b wf))

  -- the guarantee: one claim about the whole list of events
  pub guarantee : Complete sh → Guaranteed sh
  unfolding Guaranteed BehavesAs GivesAll respond required Ok
  guarantee complete implementation b mutant behaves passes es proper =
      let conf = complete-conforming complete b mutant (passes-suite b implementation behaves passes) in
      rw (behaves es proper) (gives (against sh b) (initial sh b) conf es none (initial sh b) tt)
