-- Take: what the search finds from a place is the walk's next mutant.
use Rattle.std.specs.Prelude.{Result as Answer, Ok, Err, Option as Maybe, Some, None}
use Prim.Native.Nat.{ℕ, ◌*◌, ◌≤◌}
use native.Mathlib.Omega.{arith}
use mathlib.Core.Path.{◌≡◌, refl, sym, ◌∙◌, ap, subst}
use mathlib.Core.Option.{Option, none, some}
use mathlib.Core.List.{List}
use lib.ListN.{length, take, drop}
use lib.Seq.{take_at}
use Rattle.lists.specs.Lists.{overlay}
use Rattle.lists.specs.laws.TestLaw.{never}
use Rattle.sheet.specs.declared.Refusal.{Refusal}
use Rattle.sheet.specs.Sheet.{Sheet}
use Rattle.sheet.specs.Reading.{Result, accepted, refused, Reading, reading}
use Rattle.sheet.specs.laws.AcceptedLaw.{well-formed}
use Rattle.model.specs.Mutant.{slots, IsMutant}
use Rattle.model.specs.Compare.{found}
use Rattle.model.specs.Log.{Observation, GivesLog, suite_log}
use Rattle.model.specs.Suite.{Passes}
use Rattle.model.specs.Verdict.{ComparedMeans}
use Rattle.model.specs.Walk.{Standing, start, after, end, with_standing, take_of, take_on, taking, Remains, TakenMeans}
use Rattle.model.specs.Walk.{Taken as Next}
use Rattle.model.proofs.laws.OperationLaw.{mutant-length}
use Rattle.model.proofs.laws.LogLaw.{passes-gives}
use Rattle.model.proofs.laws.WalkLaw.{rest_end, take_none, take-some, taken-means}
use Rattle.block.specs.Tabled.{Tabled}
use Rattle.logs.specs.laws.WalkedLaw.{gives-passes}
use Rattle.cubes.specs.declared.goal.Goal.TheVariants.{Any}
use Rattle.machine.specs.Differences.{Difference, difference_of}
use Rattle.machine.specs.Fits.{fit_answer, fit_of}
use Rattle.machine.specs.laws.FitsLaw.{fit_refused, fit-mutant}
use Rattle.search.specs.declared.settle.Beginning.{Beginning}
use Rattle.search.specs.declared.settle.Beginning.TheVariants.{Front, After}
use Rattle.search.specs.Search.{Wanted, In, part_from, NoneOf, LastOk, Leaving}
use Rattle.search.specs.Shown.{Untouched, Shown, Leaves}
use Rattle.search.specs.Rooms.{with_room, room_of}
use Rattle.search.specs.laws.RoomLaw.{room-refused, room-goes-on, room-there}
use Rattle.search.specs.laws.JudgementLaw.{any}
use Rattle.walking.proofs.laws.TurnLaw.{goes_on}
use Rattle.walking.specs.Taking.{standing_from, Begins, Taken, Takes, TakenSays, LastIs, ToldTaken}

-- ---- what the search found
-- what stands after a place is what the search goes through
later-in : (from : Beginning) {sh : Sheet} {b : List ℕ} → Remains sh (standing_from from) b → In (part_from from) b
later-in Front r = any
later-in (After last) r = (record { at = λ j h. absurd (omega arith) }, r.later)

in-later : (from : Beginning) {sh : Sheet} {b : List ℕ} → IsMutant sh b → Passes sh b → In (part_from from) b → Remains sh (standing_from from) b
in-later Front is ps h = record { is = is; passes = ps; later = tt }
in-later (After last) is ps h = record { is = is; passes = ps; later = h.1 }

-- what passes gives the suite's log
wanted : {sh : Sheet} {l : List Observation} → l ≡ suite_log sh → (b : List ℕ) → Passes sh b → Wanted Any sh l b
wanted {sh} suite b ps = record { gives = subst (GivesLog sh b) (sym suite) (passes-gives sh b ps); meets = tt }

module _ (sh : Sheet) {l : List Observation} {board board' sequence sequence' : List ℕ} (suite : l ≡ suite_log sh) (from : Beginning) where
  -- none is left
  takes-end : NoneOf Any sh l (part_from from) × Untouched board board' sequence sequence' → Takes (accepted (take_of sh (standing_from from))) (Ok None) board board' sequence sequence'
  takes-end f =
      let h = take_none sh (standing_from from) (λ b r. f.0.at b r.is (later-in from r) (wanted suite b r.passes)) in
      record { answer = rw h refl; board = rw h f.1.board; sequence = rw h f.1.sequence }

  -- the next one, with what compare shows
  takes-next : {d : Difference} → Shown Any sh l (part_from from) d board board' sequence sequence' →
      Takes (accepted (take_of sh (standing_from from))) (Ok (Some d)) board board' sequence sequence'
  takes-next s =
      let f = s.first in
      let h = take-some sh (standing_from from) s.mutant (in-later from f.is (gives-passes sh s.mutant (subst (GivesLog sh s.mutant) suite f.wanted.gives)) f.among) (λ c r before. f.first c r.is (later-in from r) before (wanted suite c r.passes)) in
      let w = s.written in
      record { answer = rw h (ap (λ (d : Difference). Ok (Some d)) w.difference); board = rw h w.board; sequence = rw h w.sequence }

  -- by what the search answers
  pub takes-found : (o : Maybe Difference) → Leaves Any sh l (part_from from) o board board' sequence sequence' →
      Takes (accepted (take_of sh (standing_from from))) (Ok o) board board' sequence sequence'
  takes-found None f = takes-end f
  takes-found (Some d) f = takes-next f

-- what the search begins with
pub leaving : {sh : Sheet} {m : List ℕ} {from : Beginning} → Tabled sh m → LastOk from sh → Leaving sh m from
leaving tb ok = record { tabled = tb; is = ok }

-- ---- where a take begins
pub begins-after : (sh : Sheet) (last : List ℕ) → Ok tt ≡ fit_of sh last → IsMutant sh last
begins-after sh last e = fit-mutant sh last (sym e)

pub begins-nowhere : (sh : Sheet) (last : List ℕ) {why : Refusal} → fit_of sh last ≡ Err why → {r : Answer (Maybe Beginning) Refusal} → r ≡ Err why → Begins sh (after last) r
unfolding fit_of
begins-nowhere sh last e er = rw er e

pub last-ok : (sh : Sheet) (at : Standing) (o : Maybe Beginning) → Begins sh at (Ok o) → {from : Beginning} → o ≡ Some from → LastOk from sh
last-ok sh at o be e = (rw e at be).1

-- 13 and 14
unfit : (sh : Sheet) (at : Standing) {why : Refusal} → fit_answer (with_standing sh at (accepted tt)) ≡ Err why → {A : Type 0} (r : Result A) → with_standing sh at r ≡ refused why.number why.place
unfolding fit_of
unfit sh start e r = never (cc)
unfit sh (after l) {why} e r = fit_refused sh l why e r
unfit sh end e r = never (cc)

module _ (sh : Sheet) (at : Standing) where
  last-is : (o : Maybe Beginning) → Begins sh at (Ok o) → LastIs sh at
  last-is None e = rw e tt
  last-is (Some Front) e = rw e.0 tt
  last-is (Some (After last)) e = rw e.0 e.1

  module _ (board sequence : List ℕ) where
    pub takes-unfit : {why : Refusal} → Begins sh at (Err why) → {r : Taken} → r ≡ Err why → Takes (take_on sh at (length board) (length sequence)) r board board sequence sequence
    unfolding take_on
    takes-unfit e er =
        let h = unfit sh at e (with_room sh (length board) (length sequence) (accepted (take_of sh at))) in
        record { answer = rw h er; board = rw h refl; sequence = rw h refl }

    module _ (o : Maybe Beginning) (be : Begins sh at (Ok o)) where
      pub takes-no-room : {why : Refusal} → room_of sh (length board) (length sequence) ≡ Err why → {r : Taken} → r ≡ Err why →
          Takes (take_on sh at (length board) (length sequence)) r board board sequence sequence
      unfolding take_on
      takes-no-room e er =
          let h = goes_on sh at (with_room sh (length board) (length sequence) (accepted (take_of sh at))) (last-is o be) ∙ room-refused sh (length board) (length sequence) e (accepted (take_of sh at)) in
          record { answer = rw h er; board = rw h refl; sequence = rw h refl }

      module _ (e : room_of sh (length board) (length sequence) ≡ Ok tt) where
        goes-on : take_on sh at (length board) (length sequence) ≡ accepted (take_of sh at)
        unfolding take_on
        goes-on = goes_on sh at (with_room sh (length board) (length sequence) (accepted (take_of sh at))) (last-is o be) ∙ room-goes-on sh (length board) (length sequence) e (accepted (take_of sh at))

        -- after the end
        pub takes-stop : o ≡ None → Takes (take_on sh at (length board) (length sequence)) (Ok None) board board sequence sequence
        unfolding take_of
        takes-stop eo =
            let is : at ≡ end = rw eo at be in
            let h = rest_end sh in
            rw (goes-on, is) (record { answer = rw h refl; board = rw h refl; sequence = rw h refl })

        pub takes-from : {from : Beginning} → o ≡ Some from → {r told : Taken} {board' sequence' : List ℕ} → Takes (accepted (take_of sh (standing_from from))) r board board' sequence sequence' →
            told ≡ r → Takes (take_on sh at (length board) (length sequence)) told board board' sequence sequence'
        takes-from {from} eo {r} {told} {board'} {sequence'} ts same =
            let is : at ≡ standing_from from = (rw eo at be).0 in
            rw (goes-on, is) (record { answer = same ∙ ts.answer; board = ts.board; sequence = ts.sequence })

-- ---- what it tells
module _ (s : List ℕ) (at : Standing) (board sequence : List ℕ) where
  pub take-refused : {why : Refusal} → reading s ≡ refused why.number why.place → {r : Taken} → r ≡ Err why →
      Takes (taking s at (length board) (length sequence)) r board board sequence sequence × ToldTaken s at (length board) (length sequence) r board sequence
  unfolding taking ToldTaken
  take-refused {why} h er = (
    record { answer = rw h er; board = rw h refl; sequence = rw h refl },
    λ sh es. let same : ◌≡◌ {A = Reading} (accepted sh) (refused why.number why.place) = sym es ∙ h in never (cc),
  )

  taking-is : (sh : Sheet) → reading s ≡ accepted sh → (rb rs : ℕ) → taking s at rb rs ≡ take_on sh at rb rs
  unfolding taking take_on
  taking-is sh e rb rs = rw e refl

  says : (sh : Sheet) → (o : Option Next) → TakenMeans sh at o → (r : Taken) (board' sequence' : List ℕ) → Takes (accepted o) r board board' sequence sequence' → TakenSays sh at r board' sequence'
  says sh none means r board' sequence' ts = rw ts.answer means
  says sh (some t) means r board' sequence' ts = go t.compared refl means.1 ts.answer ts.sequence
    where
      long : length t.mutant ≡ length (slots sh)
      long = mutant-length sh t.mutant means.0.remains.is

      eb : take (length (slots sh)) board' ≡ t.mutant
      eb = rw ts.board (take_at t.mutant (drop (length t.mutant) board) (length (slots sh)) long)

      go : (o : Option (List ℕ)) → t.compared ≡ o → ComparedMeans sh t.mutant o → r ≡ Ok (Some (difference_of o)) → sequence' ≡ overlay (found o) sequence → TakenSays sh at r board' sequence'
      go none e c er es = rw er (rw eb (means.0, c))
      go (some xs) e c er es =
          let ex : take (length xs) sequence' ≡ xs = rw es (take_at xs (drop (length xs) sequence) (length xs) refl) in
          rw er (rw (eb, ex) (means.0, c))

  -- an accepted one
  pub take-accepted : (sh : Sheet) → reading s ≡ accepted sh → (r : Taken) (board' sequence' : List ℕ) →
      Takes (take_on sh at (length board) (length sequence)) r board board' sequence sequence' →
      Takes (taking s at (length board) (length sequence)) r board board' sequence sequence' × ToldTaken s at (length board) (length sequence) r board' sequence'
  unfolding ToldTaken take_on
  take-accepted sh e r board' sequence' ts = (rw (taking-is sh e (length board) (length sequence)) ts, told)
    where
      told : (sh' : Sheet) → reading s ≡ accepted sh' → LastIs sh' at → length (slots sh') ≤ length board → sh'.size.states * sh'.size.states ≤ length sequence → TakenSays sh' at r board' sequence'
      told sh' e' li lb ls =
          let same : sh ≡ sh' = (let z : ◌≡◌ {A = Reading} (accepted sh) (accepted sh') = sym e ∙ e' in cc) in
          let ts' = subst (λ (t : Sheet). Takes (take_on t at (length board) (length sequence)) r board board' sequence sequence') same ts in
          let e'' = room-there sh' (length board) (length sequence) lb ls in
          let h = goes_on sh' at (with_room sh' (length board) (length sequence) (accepted (take_of sh' at))) li ∙ room-goes-on sh' (length board) (length sequence) e'' (accepted (take_of sh' at)) in
          says sh' (take_of sh' at) (taken-means sh' at (well-formed s sh' e')) r board' sequence' (rw h at ts')
