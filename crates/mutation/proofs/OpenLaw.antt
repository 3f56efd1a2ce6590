-- The operations on a sheet that was read, accepted or refused, and what their answers tell.
use Rattle.std.specs.Prelude.{Result as Answer, Ok, Err}
use Prim.Native.Nat.{ℕ, ◌*◌}
use mathlib.Core.Path.{◌≡◌, refl, ◌∙◌, subst}
use mathlib.Core.Option.{Option, none, some}
use mathlib.Core.List.{List, [], ◌∷◌}
use borrow.Author.Tests.{le-ltb}
use lib.Dec.{ltb}
use lib.ListN.{length, take, drop}
use lib.Seq.{take-append_seam}
use Rattle.sheet.specs.Sheet.{Sheet}
use Rattle.sheet.specs.Reading.{accepted, refused, reading}
use Rattle.model.specs.Mutant.{outputs}
use Rattle.model.specs.Used.{Usage, used_on, Uses}
use Rattle.model.specs.Suite.{Place, first_failed_of, tried_of, finding_of, compare_of}
use Rattle.model.specs.Operations.{refuse_if, refuse_at, first_over, with_mutant, running, failing, comparing, compare_on, response_of, run_on}
use Rattle.model.specs.Verdict.{RanMeans, UsedMeans, FailedMeans, ComparedMeans}
use Rattle.model.proofs.laws.OperationLaw.{none_over, mutant-goes-on}
use Rattle.model.proofs.laws.Demands.{ran-told, used-told, failed-told, compared-told}
use Rattle.sheet.specs.declared.Refusal.{Refusal}
use Rattle.machine.specs.Differences.{Difference, difference_of}
use Rattle.mutation.specs.declared.Used.{Used}
use Rattle.mutation.specs.declared.Tested.{Tested}
use Rattle.lists.specs.Lists.{overlay}
use Rattle.model.specs.Compare.{found}
use Rattle.mutation.specs.Answers.{used_of, Runs, tested_of, failed_answer, Compares}
use Rattle.mutation.specs.Operate.{ToldRan, FailedSays, ToldFailed, ComparedSays, ToldCompared}

-- the operations on an accepted sheet
module _ (s : List ℕ) (sh : Sheet) (e : reading s ≡ accepted sh) (b : List ℕ) where
  running-on : (xs : List ℕ) (room : ℕ) → running s b xs room ≡ run_on sh b xs room
  unfolding running
  running-on xs room = rw e refl

  pub ran-loaded : (xs : List ℕ) (room : ℕ) {r : Answer Used Refusal} {old new : List ℕ} → Runs (run_on sh b xs room) r old new → Runs (running s b xs room) r old new
  ran-loaded xs room is = record { answer = rw (running-on xs room) is.answer; bytes = rw (running-on xs room) is.bytes }

  failing-on : failing s b ≡ with_mutant sh b (accepted (finding_of sh b))
  unfolding failing
  failing-on = rw e refl

  pub failed-loaded : {r : Answer Tested Refusal} → r ≡ failed_answer (with_mutant sh b (accepted (finding_of sh b))) → r ≡ failed_answer (failing s b)
  failed-loaded er = rw failing-on er

  comparing-on : (room : ℕ) → comparing s b room ≡ compare_on sh b room
  unfolding comparing
  comparing-on room = rw e refl

  pub compared-loaded : (room : ℕ) {r : Answer Difference Refusal} {old new : List ℕ} → Compares (compare_on sh b room) r old new → Compares (comparing s b room) r old new
  compared-loaded room is = record { answer = rw (comparing-on room) is.answer; bytes = rw (comparing-on room) is.bytes }

-- and on a refused one
module _ (s : List ℕ) {why : Refusal} (e : reading s ≡ refused why.number why.place) (b : List ℕ) where
  pub ran-unread : (xs : List ℕ) (room : ℕ) {r : Answer Used Refusal} {buffer : List ℕ} → r ≡ Err why → Runs (running s b xs room) r buffer buffer
  unfolding running
  ran-unread xs room er = record { answer = rw e er; bytes = rw e refl }

  pub failed-unread : {r : Answer Tested Refusal} → r ≡ Err why → r ≡ failed_answer (failing s b)
  unfolding failing
  failed-unread er = rw e er

  pub compared-unread : (room : ℕ) {r : Answer Difference Refusal} {buffer : List ℕ} → r ≡ Err why → Compares (comparing s b room) r buffer buffer
  unfolding comparing
  compared-unread room er = record { answer = rw e er; bytes = rw e refl }

-- what the answers tell
pub told-ran : (s b xs : List ℕ) (room : ℕ) {r : Answer Used Refusal} {buf₀ buf : List ℕ} → Runs (running s b xs room) r buf₀ buf → ToldRan s b xs room r buf
unfolding ToldRan response_of
told-ran s b xs room {r} {buf₀} {buf} is sh e m below enough =
    let means = ran-told s sh e b xs in
    let front : RanMeans sh b xs (take (length (outputs sh b xs)) (overlay (outputs sh b xs) buf₀)) = rw (take-append_seam (outputs sh b xs) (drop (length (outputs sh b xs)) buf₀)) means in
    rw (is.answer, is.bytes, running-on s sh e b xs room ∙ whole)
    (subst (λ (n : ℕ). RanMeans sh b xs (take n (overlay (outputs sh b xs) buf₀))) means.one_each front, used-told s sh e b (xs ∷ []))
  where
    whole : run_on sh b xs room ≡ accepted (response_of sh b xs)
    whole =
        unfold run_on in
        mutant-goes-on sh b (refuse_at (first_over sh.size.inputs xs) 15 (refuse_if (ltb room (length xs)) 16 0 (accepted (response_of sh b xs)))) m
        ∙ rw (none_over sh.size.inputs xs below, le-ltb room (length xs) enough) refl

pub told-failed : (s b : List ℕ) {r : Answer Tested Refusal} → r ≡ failed_answer (failing s b) → ToldFailed s b r
unfolding ToldFailed finding_of
told-failed s b er sh e m =
    rw (er, failing-on s sh e b, mutant-goes-on sh b (accepted (finding_of sh b)) m)
    (go (first_failed_of sh b) (used_on sh b (tried_of sh.tests (first_failed_of sh b))) (failed-told s sh e b) (used-told s sh e b (tried_of sh.tests (first_failed_of sh b))))
  where
    go : (o : Option Place) (u : Usage) → FailedMeans sh b o → UsedMeans sh (Uses sh b (tried_of sh.tests o)) u → FailedSays sh b (Ok (tested_of (record { first = o; used = u })))
    go none u h g = (h, g)
    go (some f) u h g = (h, g)

pub told-compared : (s b : List ℕ) (room : ℕ) {r : Answer Difference Refusal} {buf₀ buf : List ℕ} → Compares (comparing s b room) r buf₀ buf → ToldCompared s b room r buf
unfolding ToldCompared
told-compared s b room {r} {buf₀} {buf} is sh e m enough =
    let on : comparing s b room ≡ accepted (compare_of sh b) = comparing-on s sh e b room ∙ whole in
    rw (is.answer, is.bytes, on) (go (compare_of sh b) (compared-told s sh e b))
  where
    whole : compare_on sh b room ≡ accepted (compare_of sh b)
    whole =
        unfold compare_on in
        mutant-goes-on sh b (refuse_if (ltb room (sh.size.states * sh.size.states)) 16 0 (accepted (compare_of sh b))) m
        ∙ rw (le-ltb room (sh.size.states * sh.size.states) enough) refl

    go : (o : Option (List ℕ)) → ComparedMeans sh b o → ComparedSays sh b (Ok (difference_of o)) (overlay (found o) buf₀)
    go none h = h
    go (some xs) h = rw (take-append_seam xs (drop (length xs) buf₀)) h
