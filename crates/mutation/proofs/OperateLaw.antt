-- The operations on an accepted sheet: each way out is a case of what they come to.
use Rattle.std.specs.Prelude.{Result as Answer, Ok, Err, Option as Maybe, Some, None}
use Prim.Native.Nat.{ℕ, ◌*◌, ◌≤◌, ◌<◌}
use native.Mathlib.Omega.{arith}
use mathlib.Core.Path.{◌≡◌, refl, sym, ◌∙◌, ap}
use mathlib.Core.Option.{Option, none, some}
use mathlib.Core.List.{List}
use borrow.Author.Tests.{lt-ltb, le-ltb}
use lib.Dec.{ltb}
use lib.ListN.{length}
use Rattle.lists.specs.Lists.{overlay}
use Rattle.lists.specs.Options.{coded}
use Rattle.lists.specs.laws.TestLaw.{never}
use Rattle.sheet.specs.Sheet.{Sheet}
use Rattle.sheet.specs.Reading.{Result, accepted, refused}
use Rattle.lists.specs.laws.ListLaw.{index-all}
use Rattle.model.specs.Machine.{outputs_from}
use Rattle.model.specs.Mutant.{outputs, IsMutant}
use Rattle.model.specs.Compare.{compare_pair, found}
use Rattle.model.specs.Used.{mark, mark_from, counted}
use Rattle.model.specs.Suite.{finding_of, compare_of}
use Rattle.model.specs.Operations.{refuse_if, refuse_at, first_over, with_mutant, compare_on, Response, response_of, run_on}
use Rattle.model.proofs.laws.StaysLaw.{start-below}
use Rattle.model.proofs.laws.OperationLaw.{mutant-goes-on, over_none}
use Rattle.block.specs.Layout.{states_of, inputs_of}
use Rattle.block.specs.Tabled.{Tabled}
use Rattle.machine.specs.declared.laying.Machine.{Machine}
use Rattle.sheet.specs.declared.Refusal.{Refusal}
use Rattle.sheet.specs.Tables.{refusal_of}
use Rattle.machine.specs.Product.{tables, moves_in, Valid}
use Rattle.machine.specs.Differences.{Difference, difference_of}
use Rattle.machine.specs.Fits.{Machined, fit_of}
use Rattle.machine.specs.laws.LaidLaw.{moves-step, tables-against, tables-valid}
use Rattle.machine.specs.laws.FitsLaw.{fit_refused}
use Rattle.search.specs.laws.TabulatesLaw.{tabulates}
use Rattle.mutation.specs.declared.Used.{Used}
use Rattle.usage.specs.Marks.{start_slot_of, acts_in}
use Rattle.usage.specs.laws.MarksLaw.{InputsOf, used-run}
use Rattle.mutation.specs.declared.Tested.{Tested}
use Rattle.mutation.specs.Answers.{used_of, failed_answer, Runs, Compares}
use Rattle.mutation.specs.Operate.{Runnable}

-- a refusal leaves the buffer
runs-refused : {o : Result Response} {why : Refusal} {buffer : List ℕ} → o ≡ refused why.number why.place → Runs o (Err why) buffer buffer
runs-refused e = record { answer = rw e refl; bytes = rw e refl }

compares-refused : {o : Result (Option (List ℕ))} {why : Refusal} {buffer : List ℕ} → o ≡ refused why.number why.place → Compares o (Err why) buffer buffer
compares-refused e = record { answer = rw e refl; bytes = rw e refl }

-- 13 and 14
module _ (sh : Sheet) (b : List ℕ) {why : Refusal} (e : fit_of sh b ≡ Err why) where
  pub run-refused : {r : Answer Used Refusal} {buffer : List ℕ} (xs : List ℕ) (room : ℕ) → r ≡ Err why → Runs (run_on sh b xs room) r buffer buffer
  unfolding run_on
  run-refused xs room er = rw er (runs-refused (fit_refused sh b why e (refuse_at (first_over sh.size.inputs xs) 15 (refuse_if (ltb room (length xs)) 16 0 (accepted (response_of sh b xs))))))

  pub compare-refused : {r : Answer Difference Refusal} {buffer : List ℕ} (room : ℕ) → r ≡ Err why → Compares (compare_on sh b room) r buffer buffer
  unfolding compare_on
  compare-refused room er = rw er (compares-refused (fit_refused sh b why e (refuse_if (ltb room (sh.size.states * sh.size.states)) 16 0 (accepted (compare_of sh b)))))

  pub failed-refused : {r : Answer Tested Refusal} → r ≡ Err why → r ≡ failed_answer (with_mutant sh b (accepted (finding_of sh b)))
  failed-refused er = er ∙ sym (ap failed_answer (fit_refused sh b why e (accepted (finding_of sh b))))

module _ {sh : Sheet} {m : List ℕ} (tb : Tabled sh m) {b : List ℕ} {r : Machine} (is : Machined sh b r) where
  pub valid : Valid m r.target
  valid = tables-valid tb b is.moves

  pub low : r.start < states_of m
  low = omega (arith, is.start, tb.states, start-below sh b tb.formed)

  outputs-are : (xs : List ℕ) → outputs_from (moves_in m r.output r.target) r.start xs ≡ outputs sh b xs
  unfolding outputs
  outputs-are xs = rw (moves-step tb b is.moves, is.start) refl

  compare-is : compare_pair (tables m r.start r.output r.target) ≡ compare_of sh b
  unfolding compare_of
  compare-is = ap compare_pair (tables-against tb b is.moves r.start is.start)

  module _ {k : ℕ} (xs : List ℕ) (ek : k ≡ inputs_of m) {o : Maybe ℕ} (eo : o ≡ coded (first_over k xs)) where
    run_on_lem : (room : ℕ) → run_on sh b xs room ≡ refuse_at (first_over k xs) 15 (refuse_if (ltb room (length xs)) 16 0 (accepted (response_of sh b xs)))
    unfolding run_on
    run_on_lem room = rw (ek ∙ tb.inputs) (mutant-goes-on sh b (refuse_at (first_over sh.size.inputs xs) 15 (refuse_if (ltb room (length xs)) 16 0 (accepted (response_of sh b xs)))) is.is)

    -- 15
    pub run-over : {over : ℕ} {buffer : List ℕ} (room : ℕ) → o ≡ Some over → Runs (run_on sh b xs room) (Err (refusal_of 15 over)) buffer buffer
    run-over {over} room e = runs-refused (run_on_lem room ∙ go (first_over k xs) (sym e ∙ eo))
      where
        go : (p : Option ℕ) → Some over ≡ coded p → refuse_at p 15 (refuse_if (ltb room (length xs)) 16 0 (accepted (response_of sh b xs))) ≡ refused 15 over
        go none h = never (cc)
        go (some i) h = let same : i ≡ over = cc in ap (λ (j : ℕ). refused 15 j) same

    module _ (l : o ≡ None) where
      none_over : first_over k xs ≡ none
      none_over = go (first_over k xs) (sym l ∙ eo)
        where
          go : (p : Option ℕ) → None ≡ coded p → p ≡ none
          go none h = refl
          go (some i) h = never (cc)

      pub runnable : Runnable m r.target r.start xs
      runnable = record { valid = valid; low = low; below = rw (← ek) (over_none k xs none_over) }

      -- 16
      pub run_short : {buffer : List ℕ} (room : ℕ) → room < length xs → Runs (run_on sh b xs room) (Err (refusal_of 16 0)) buffer buffer
      run_short room h = runs-refused (run_on_lem room ∙ rw (none_over, lt-ltb room (length xs) h) refl)

      inputs_are : InputsOf sh xs
      inputs_are = index-all (λ (x : ℕ). x < sh.size.inputs) xs 0 (rw (ek ∙ tb.inputs) at (over_none k xs none_over))

      pub run-done : {old new : List ℕ} {set : ℕ} {u : Used} (room : ℕ) → length xs ≤ room →
          new ≡ overlay (outputs_from (moves_in m r.output r.target) r.start xs) old →
          set ≡ mark_from (acts_in m r.target) (mark 0 (start_slot_of m)) r.start xs → u ≡ used_of (counted set) →
          Runs (run_on sh b xs room) (Ok u) old new
      unfolding response_of
      run-done room h w es eu =
          let o : run_on sh b xs room ≡ accepted (response_of sh b xs) = run_on_lem room ∙ rw (none_over, le-ltb room (length xs) h) refl in
          let used = used-run tb b (tabulates tb.formed b is.moves) is.start xs inputs_are in
          record { answer = rw o (ap (λ (v : Used). Ok v) (eu ∙ ap used_of (ap counted es ∙ used))); bytes = rw o (w ∙ rw (outputs-are xs) refl) }

  module _ {n : ℕ} (room : ℕ) (en : n ≡ states_of m) where
    compare-on : compare_on sh b room ≡ refuse_if (ltb room (n * n)) 16 0 (accepted (compare_of sh b))
    unfolding compare_on
    compare-on = rw (en ∙ tb.states) (mutant-goes-on sh b (refuse_if (ltb room (sh.size.states * sh.size.states)) 16 0 (accepted (compare_of sh b))) is.is)

    pub compare-short : {buffer : List ℕ} → room < n * n → Compares (compare_on sh b room) (Err (refusal_of 16 0)) buffer buffer
    compare-short h = compares-refused (compare-on ∙ rw (lt-ltb room (n * n) h) refl)

    pub compare-done : {d : Difference} {old new : List ℕ} → n * n ≤ room → d ≡ difference_of (compare_pair (tables m r.start r.output r.target)) →
        new ≡ overlay (found (compare_pair (tables m r.start r.output r.target))) old → Compares (compare_on sh b room) (Ok d) old new
    compare-done h ed w =
        let o : compare_on sh b room ≡ accepted (compare_of sh b) = compare-on ∙ rw (le-ltb room (n * n) h) refl in
        record { answer = rw o (ap (λ (d : Difference). Ok d) (rw compare-is at ed)); bytes = rw o (rw compare-is at w) }
