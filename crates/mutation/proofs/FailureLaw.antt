-- The first failed test, along the log of an accepted sheet's suite.
use Rattle.std.specs.Prelude.{Option as Maybe, Some, None}
use Prim.Native.Nat.{ℕ}
use native.Mathlib.Omega.{arith}
use mathlib.Core.Path.{◌≡◌, refl, ◌∙◌, ap, ap₂}
use mathlib.Core.Option.{Option, none, some}
use mathlib.Core.List.{List, []}
use lib.ListN.{get_or, take}
use Rattle.sheet.specs.Sheet.{Sheet}
use Rattle.sheet.specs.Reading.{accepted}
use Rattle.model.specs.Mutant.{rule, specified}
use Rattle.model.specs.Used.{mark, mark_all, counted}
use Rattle.model.specs.Suite.{Place, first_failed_of, tried_of, finding_of}
use Rattle.model.specs.Verdict.{FirstFailed}
use Rattle.model.specs.Log.{failed_in}
use Rattle.model.proofs.laws.SuiteLaw.{specified-length, failed-means}
use Rattle.block.specs.Logged.{observations}
use Rattle.logs.specs.declared.walk.Wrong.{Wrong}
use Rattle.logs.specs.Tests.{tests_at}
use Rattle.logs.specs.Walked.{moves_in, wrong_of}
use Rattle.logs.specs.laws.TestsLaw.{length_at}
use Rattle.logs.specs.laws.WalkedLaw.{walked-failed}
use Rattle.search.specs.laws.TabulatesLaw.{tabulates}
use Rattle.mutation.specs.declared.Used.{Used}
use Rattle.usage.specs.Marks.{start_slot_of, acts_in}
use Rattle.usage.specs.Tried.{Inside, place_of, Reached}
use Rattle.usage.specs.laws.MarksLaw.{used-tried}
use Rattle.machine.specs.declared.laying.Machine.{Machine}
use Rattle.machine.specs.Fits.{Machined}
use Rattle.mutation.specs.declared.Tested.{Tested}
use Rattle.mutation.specs.Answers.{used_of, tested_of}
use Rattle.logs.specs.Suites.{SuiteIn, Logged}
use Rattle.logs.specs.laws.SuitesLaw.{wf, suite, located}

-- its tests are inside the sheet
pub inside : {sh : Sheet} {s starts lengths m : List ℕ} {tests room : ℕ} → SuiteIn sh s starts lengths tests m room → Inside s starts lengths tests
inside su = record { few = (located su).few; each = λ t l. ((located su).each t l).inside }

place-wrong : (o : Option Place) → place_of (wrong_of o) ≡ o
place-wrong none = refl
place-wrong (some f) = refl

module _ {sh : Sheet} {b s starts lengths m log : List ℕ} {tests room n : ℕ} (su : SuiteIn sh s starts lengths tests m room)
    {r : Machine} (is : Machined sh b r) (lg : Logged sh log n) {w : Maybe Wrong}
    (ew : w ≡ wrong_of (failed_in (moves_in r.output r.target) r.start r.start 0 0 (observations (take n log)))) where
  -- what the walk finds is the first failed test
  found-wrong : w ≡ wrong_of (first_failed_of sh b)
  found-wrong =
      ew
      ∙ ap wrong_of
      (ap (failed_in (moves_in r.output r.target) r.start r.start 0 0) lg.is ∙ walked-failed sh (wf su) b (tabulates (wf su) b is.moves) r.start is.start)

  found-place : place_of w ≡ first_failed_of sh b
  found-place = ap place_of found-wrong ∙ place-wrong (first_failed_of sh b)

  -- it is an output of a test
  pub found-reached : Reached lengths tests w
  found-reached = go w found-place
    where
      go : (v : Maybe Wrong) → place_of v ≡ first_failed_of sh b → Reached lengths tests v
      go None e = tt
      go (Some v) e =
          let f : FirstFailed sh b (record { test = v.test; position = v.position }) = rw (← e) at (failed-means sh b (wf su)) in
          let long = specified-length (rule sh) 0 (get_or sh.tests v.test []) f.expected (unfold specified in f.specifies) in
          let many = length_at sh v.test f.is (omega (arith, f.is, (wf su).few-tests)) in
          (omega (arith, f.is, su.many), rw su.lengths-are (omega (arith, f.reached, long, many)))

  -- and the slots used until then are told with it
  pub first_found : {set : ℕ} {u : Used} {t : Tested} →
      set ≡ mark_all (acts_in m r.target) r.start (mark 0 (start_slot_of m)) (tried_of (tests_at s starts lengths tests) (place_of w)) → u ≡ used_of (counted set) →
      t ≡ record { failed = w; used = u } → t ≡ tested_of (finding_of sh b)
  unfolding finding_of
  first_found {set} {u} es eu et =
      let is-used : u ≡ used_of (counted (mark_all (acts_in m r.target) r.start (mark 0 (start_slot_of m)) (tried_of sh.tests (first_failed_of sh b)))) =
      eu ∙ ap used_of (ap counted (es ∙ rw (found-place, suite su) refl)) in
      et ∙ ap₂ (λ (v : Maybe Wrong) (x : Used). record { failed = v; used = x }) found-wrong
      (is-used ∙ ap used_of (used-tried su.tabled b (tabulates (wf su) b is.moves) is.start (first_failed_of sh b)))
