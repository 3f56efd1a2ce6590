-- The operations on a record: what the scan, the specification and the search found is the answer.
use Rattle.std.specs.Prelude.{Result as Answer, Ok, Err, Option as Maybe, Some, None}
use Rattle.std.specs.Prelude.{◌*◌, ◌≤◌, ◌≡◌}
use Rattle.lists.specs.Proving.{arith, ℕ, refl, sym, ◌∙◌, ap, ap₂, subst, Bool, true, false, Option, some, none, List, length, take, drop, never}
use mathlib.Core.Bool.{not}
use lib.Seq.{take_at}
use Rattle.lists.specs.Lists.{is_none, overlay}
use Rattle.lists.specs.Options.{coded, meant}
use Rattle.sheet.specs.declared.Refusal.{Refusal}
use Rattle.sheet.specs.declared.Summary.{Summary}
use Rattle.sheet.specs.Sheet.{Sheet}
use Rattle.sheet.specs.Reading.{Result, accepted, refused, Reading, reading, summary_of}
use Rattle.sheet.specs.Tables.{refusal_of}
use Rattle.sheet.specs.WellFormed.{WellFormed}
use Rattle.sheet.specs.laws.AcceptedLaw.{well-formed}
use Rattle.model.specs.Mutant.{slots, rule}
use Rattle.model.specs.Compare.{found}
use Rattle.model.specs.Suite.{compare_of}
use Rattle.model.specs.Verdict.{ComparedMeans}
use Rattle.model.specs.Walk.{Taken as Next}
use Rattle.model.proofs.laws.OperationLaw.{mutant-length}
use Rattle.block.specs.Logged.{observations}
use Rattle.block.specs.Tabulated.{rule_of}
use Rattle.block.specs.Tabled.{Tabled, Opened}
use Rattle.block.specs.declared.packing.Loaded.{Loaded}
use Rattle.block.specs.laws.TabledLaw.{rule-same}
use Rattle.cubes.specs.declared.goal.Goal.TheVariants.{Any}
use Rattle.machine.specs.Differences.{Difference, difference_of}
use Rattle.search.specs.Search.{In, every, NoneOf, Decides, Given, Leaving}
use Rattle.search.specs.declared.settle.Beginning.TheVariants.{Front}
use Rattle.search.specs.Shown.{Untouched, Shown, Leaves}
use Rattle.search.specs.Rooms.{with_room, room_of}
use Rattle.search.specs.laws.RoomLaw.{room-refused, room-goes-on, room-there}
use Rattle.records.specs.declared.Recorded.{Recorded}
use Rattle.records.specs.Record.{broken_from, broken_in, differs_from, differs_in, outcome_of, with_record, checking, first_giving, explain_on, explaining}
use Rattle.records.specs.Means.{FirstDifference, ExplainedMeans}
use Rattle.records.specs.Steps.{whole_answer}
use Rattle.records.specs.Answers.{recorded_of, recorded_answer, RecordedSays, ToldRecorded, Explained, Explains, ExplainedSays, ToldExplained, Sized}
use Rattle.records.proofs.laws.ScanLaw.{whole, broken-at}
use Rattle.records.proofs.laws.DifferLaw.{first-difference}
use Rattle.records.proofs.laws.GivenLaw.{giving-none, giving-first, explained-means, given-means}

-- from the first mutant on
pub from_front : {sh : Sheet} {m : List ℕ} → Tabled sh m → Leaving sh m Front
from_front tb = record { tabled = tb; is = tt }

-- ---- beside the specification and the mutants
module _ {sh : Sheet} {m : List ℕ} (tb : Tabled sh m) (log : List ℕ) where
  -- the search's yes or no is the definition's
  pub given_is : {r : Bool} → Decides (Given sh (observations log)) r → r ≡ (outcome_of sh log).given
  unfolding outcome_of
  given_is {r} d = go (first_giving sh log) (explained-means sh log tb.formed) r d.yes d.no
    where
      go : (o : Option Next) → ExplainedMeans sh log o → (b : Bool) → (b ≡ true → Given sh (observations log)) → (b ≡ false → Given sh (observations log) → ⊥) → b ≡ not (is_none o)
      go none e true does does_not = let g = does refl in absurd (e g.mutant (record { is = g.is; gives = g.gives }))
      go none e false does does_not = refl
      go (some t) e true does does_not = refl
      go (some t) e false does does_not = absurd (does_not refl (record { mutant = t.mutant; is = e.0.gives.is; gives = e.0.gives.gives }))

  -- where the specification's tables differ is where the specification does
  differs-is : differs_from (rule_of m) none 0 log ≡ differs_in sh log
  unfolding differs_in
  differs-is = rw (rule-same tb) refl

  pub compares : {o : Maybe ℕ} {r told : Bool} → o ≡ coded (differs_from (rule_of m) none 0 log) → Decides (Given sh (observations log)) r → told ≡ r →
      ◌≡◌ {A = Recorded} (record { differs = o; given = told }) (recorded_of (outcome_of sh log))
  unfolding outcome_of
  compares {o} {r} {told} e d same = ap₂ (λ (f : Maybe ℕ) (b : Bool). record { differs = f; given = b }) (e ∙ ap coded differs-is) (same ∙ given_is d)

  -- ---- the first mutant that gives it
  every_one : (b : List ℕ) → In every b
  every_one b = (record { at = λ j l. absurd (omega arith) }, omega arith)

  module _ {board board' sequence sequence' : List ℕ} where
    explains-nothing : NoneOf Any sh (observations log) every × Untouched board board' sequence sequence' →
        Explains (accepted (first_giving sh log)) (Ok None) board board' sequence sequence'
    explains-nothing f =
        let h = giving-none sh log (λ b g. f.0.at b g.is (every_one b) (record { gives = g.gives; meets = tt })) in
        record { answer = rw h refl; board = rw h f.1.board; sequence = rw h f.1.sequence }

    explains-first : {d : Difference} → Shown Any sh (observations log) every d board board' sequence sequence' →
        Explains (accepted (first_giving sh log)) (Ok (Some d)) board board' sequence sequence'
    explains-first {d} shown =
        let b = shown.mutant in
        let f = shown.first in
        let h = giving-first sh log b (record { is = f.is; gives = f.wanted.gives }) (λ c g l. f.first c g.is (every_one c) l (record { gives = g.gives; meets = tt })) in
        record {
          answer = rw h (ap (λ (d : Difference). Ok (Some d)) shown.written.difference);
          board = rw h shown.written.board;
          sequence = rw h shown.written.sequence;
        }

    -- by what the search answers
    pub explains-found : (o : Maybe Difference) → Leaves Any sh (observations log) every o board board' sequence sequence' →
        Explains (accepted (first_giving sh log)) (Ok o) board board' sequence sequence'
    explains-found None f = explains-nothing f
    explains-found (Some d) f = explains-first f

-- ---- the first broken command
broken_by : (o : Option ℕ) {why : Refusal} → whole_answer o ≡ Err why → {A : Type 0} (r : Result A) → with_record o r ≡ refused why.number why.place
broken_by none e r = never (cc)
broken_by (some at) {why} e {A} r =
    let g : refusal_of 20 at ≡ why = cc in
    let by : Refusal → Result A = λ w. refused w.number w.place in
    ap by g

whole_by : (o : Option ℕ) → whole_answer o ≡ Ok tt → o ≡ none
whole_by none e = refl
whole_by (some at) e = never (cc)

module _ {sh : Sheet} {loaded : Loaded} (sz : Sized sh loaded) (log : List ℕ) where
  scanned : broken_from loaded.size.inputs loaded.size.outputs false 0 0 log ≡ broken_in sh log
  unfolding broken_in
  scanned = rw (sz.inputs_are, sz.outputs-are) refl

  module _ {why : Refusal} (e : whole_answer (broken_from loaded.size.inputs loaded.size.outputs false 0 0 log) ≡ Err why) where
    broken : {A : Type 0} (r : Result A) → with_record (broken_in sh log) r ≡ refused why.number why.place
    broken r = broken_by (broken_in sh log) (ap whole_answer (sym scanned) ∙ e) r

    pub checks-broken : {r : Answer Recorded Refusal} → r ≡ Err why → r ≡ recorded_answer (with_record (broken_in sh log) (accepted (outcome_of sh log)))
    checks-broken er = er ∙ sym (ap recorded_answer (broken (accepted (outcome_of sh log))))

    pub explains-broken : (board sequence : List ℕ) {r : Explained} → r ≡ Err why → Explains (explain_on sh log (length board) (length sequence)) r board board sequence sequence
    unfolding explain_on
    explains-broken board sequence er =
        let h = broken (with_room sh (length board) (length sequence) (accepted (first_giving sh log))) in
        record { answer = rw h er; board = rw h refl; sequence = rw h refl }

  module _ (e : whole_answer (broken_from loaded.size.inputs loaded.size.outputs false 0 0 log) ≡ Ok tt) where
    whole-record : broken_in sh log ≡ none
    whole-record = whole_by (broken_in sh log) (ap whole_answer (sym scanned) ∙ e)

    pub checks-whole : {r : Recorded} → r ≡ recorded_of (outcome_of sh log) → Ok r ≡ recorded_answer (with_record (broken_in sh log) (accepted (outcome_of sh log)))
    checks-whole er = rw whole-record (ap (λ (r : Recorded). Ok r) er)

    -- ---- and the buffers
    module _ (board sequence : List ℕ) where
      pub explains-no-room : {why : Refusal} → room_of sh (length board) (length sequence) ≡ Err why → {r : Explained} → r ≡ Err why →
          Explains (explain_on sh log (length board) (length sequence)) r board board sequence sequence
      unfolding explain_on
      explains-no-room f er =
          let w = whole-record in
          let h = room-refused sh (length board) (length sequence) f (accepted (first_giving sh log)) in
          record { answer = rw (w, h) er; board = rw (w, h) refl; sequence = rw (w, h) refl }

      pub explains-room : room_of sh (length board) (length sequence) ≡ Ok tt → {r : Explained} {board' sequence' : List ℕ} →
          Explains (accepted (first_giving sh log)) r board board' sequence sequence' → Explains (explain_on sh log (length board) (length sequence)) r board board' sequence sequence'
      unfolding explain_on
      explains-room f x = rw (whole-record, room-goes-on sh (length board) (length sequence) f (accepted (first_giving sh log))) x

-- ---- what is told
-- a sheet that was read: the summary has its numbers of inputs and outputs
pub sized : {s : List ℕ} {loaded : Loaded} → (o : Opened s loaded) → Sized o.sheet loaded
unfolding summary_of
sized o = record { tabled = o.holds.loads.tabled; inputs_are = ap (λ (y : Summary). y.inputs) o.size; outputs-are = ap (λ (y : Summary). y.outputs) o.size }

module _ (s log : List ℕ) where
  pub check-refused : {why : Refusal} → reading s ≡ refused why.number why.place → {r : Answer Recorded Refusal} → r ≡ Err why → (r ≡ recorded_answer (checking s log)) × ToldRecorded s log r
  unfolding checking ToldRecorded
  check-refused {why} h er = (rw h er, λ sh es. let same : ◌≡◌ {A = Reading} (accepted sh) (refused why.number why.place) = sym es ∙ h in never (cc))

  record-says : (sh : Sheet) → WellFormed sh → (o : Option ℕ) → broken_in sh log ≡ o → (r : Answer Recorded Refusal) → r ≡ recorded_answer (with_record o (accepted (outcome_of sh log))) → RecordedSays sh log r
  unfolding outcome_of
  record-says sh wf (some at) eo r er = rw er (refl, broken-at sh log at eo)
  record-says sh wf none eo r er = rw er (whole sh log wf eo, rw meant-coded (first-difference sh log), given-means sh log wf)
    where
      meant-coded : meant (coded (differs_in sh log)) ≡ differs_in sh log
      meant-coded = go (differs_in sh log)
        where
          go : (o : Option ℕ) → meant (coded o) ≡ o
          go none = refl
          go (some i) = refl

  pub check-accepted : (sh : Sheet) → reading s ≡ accepted sh → (r : Answer Recorded Refusal) → r ≡ recorded_answer (with_record (broken_in sh log) (accepted (outcome_of sh log))) →
      (r ≡ recorded_answer (checking s log)) × ToldRecorded s log r
  unfolding checking ToldRecorded
  check-accepted sh e r er = (rw e er, told)
    where
      told : (sh' : Sheet) → reading s ≡ accepted sh' → RecordedSays sh' log r
      told sh' e' =
          let same : sh ≡ sh' = (let z : ◌≡◌ {A = Reading} (accepted sh) (accepted sh') = sym e ∙ e' in cc) in
          let er' = subst (λ (t : Sheet). r ≡ recorded_answer (with_record (broken_in t log) (accepted (outcome_of t log)))) same er in
          record-says sh' (well-formed s sh' e') (broken_in sh' log) refl r er'

  module _ (board sequence : List ℕ) where
    pub explain-refused : {why : Refusal} → reading s ≡ refused why.number why.place → {r : Explained} → r ≡ Err why →
        Explains (explaining s log (length board) (length sequence)) r board board sequence sequence × ToldExplained s log (length board) (length sequence) r board sequence
    unfolding explaining ToldExplained
    explain-refused {why} h er = (
      record { answer = rw h er; board = rw h refl; sequence = rw h refl },
      λ sh es. let same : ◌≡◌ {A = Reading} (accepted sh) (refused why.number why.place) = sym es ∙ h in never (cc),
    )

    says : (sh : Sheet) (o : Option Next) → ExplainedMeans sh log o → (r : Explained) (board' sequence' : List ℕ) → Explains (accepted o) r board board' sequence sequence' → ExplainedSays sh log r board' sequence'
    says sh none means r board' sequence' x = rw x.answer means
    says sh (some t) means r board' sequence' x = go t.compared means.1 x.answer x.sequence
      where
        long : length t.mutant ≡ length (slots sh)
        long = mutant-length sh t.mutant means.0.gives.is

        eb : take (length (slots sh)) board' ≡ t.mutant
        eb = rw x.board (take_at t.mutant (drop (length t.mutant) board) (length (slots sh)) long)

        go : (o : Option (List ℕ)) → ComparedMeans sh t.mutant o → r ≡ Ok (Some (difference_of o)) → sequence' ≡ overlay (found o) sequence → ExplainedSays sh log r board' sequence'
        go none c er es = rw er (rw eb (means.0, c))
        go (some xs) c er es =
            let ex : take (length xs) sequence' ≡ xs = rw es (take_at xs (drop (length xs) sequence) (length xs) refl) in
            rw er (rw (eb, ex) (means.0, c))

    explain-says : (sh : Sheet) → WellFormed sh → length (slots sh) ≤ length board → sh.size.states * sh.size.states ≤ length sequence → (o : Option ℕ) → broken_in sh log ≡ o →
        (r : Explained) (board' sequence' : List ℕ) → Explains (explain_on sh log (length board) (length sequence)) r board board' sequence sequence' → ExplainedSays sh log r board' sequence'
    unfolding explain_on
    explain-says sh wf lb ls (some at) eo r board' sequence' x = rw (rw eo at x).answer (refl, broken-at sh log at eo)
    explain-says sh wf lb ls none eo r board' sequence' x =
        let h = room-goes-on sh (length board) (length sequence) (room-there sh (length board) (length sequence) lb ls) (accepted (first_giving sh log)) in
        says sh (first_giving sh log) (explained-means sh log wf) r board' sequence' (rw (eo, h) at x)

    pub explain-accepted : (sh : Sheet) → reading s ≡ accepted sh → (r : Explained) (board' sequence' : List ℕ) →
        Explains (explain_on sh log (length board) (length sequence)) r board board' sequence sequence' →
        Explains (explaining s log (length board) (length sequence)) r board board' sequence sequence' × ToldExplained s log (length board) (length sequence) r board' sequence'
    unfolding explaining ToldExplained
    explain-accepted sh e r board' sequence' x = (rw e x, told)
      where
        told : (sh' : Sheet) → reading s ≡ accepted sh' → length (slots sh') ≤ length board → sh'.size.states * sh'.size.states ≤ length sequence → ExplainedSays sh' log r board' sequence'
        told sh' e' lb ls =
            let same : sh ≡ sh' = (let z : ◌≡◌ {A = Reading} (accepted sh) (accepted sh') = sym e ∙ e' in cc) in
            let x' = subst (λ (t : Sheet). Explains (explain_on t log (length board) (length sequence)) r board board' sequence sequence') same x in
            explain-says sh' (well-formed s sh' e') lb ls (broken_in sh' log) refl r board' sequence' x'
