-- Judge: what the search finds is the judgement.
use Rattle.std.specs.Prelude.{Result as Answer, Ok, Err, Option as Maybe, Some, None}
use Prim.Native.Nat.{ℕ, ◌*◌, ◌≤◌}
use mathlib.Core.Path.{◌≡◌, refl, sym, ◌∙◌, ap, subst}
use mathlib.Core.List.{List}
use lib.ListN.{length, take, drop}
use lib.Seq.{take_at}
use Rattle.sheet.specs.declared.Refusal.{Refusal}
use Rattle.sheet.specs.Sheet.{Sheet}
use Rattle.sheet.specs.Reading.{accepted, refused, Reading, reading}
use Rattle.sheet.specs.WellFormed.{WellFormed}
use Rattle.sheet.specs.laws.AcceptedLaw.{well-formed}
use Rattle.lists.specs.laws.TestLaw.{never}
use Rattle.model.specs.Mutant.{slots}
use Rattle.model.specs.Log.{Observation, suite_log}
use Rattle.model.specs.Suite.{Judgement, complete, survivor, judge_of}
use Rattle.model.specs.Operations.{judging, judge_on}
use Rattle.model.specs.Verdict.{Complete, JudgedMeans}
use Rattle.model.proofs.laws.OperationLaw.{mutant-length}
use Rattle.model.proofs.laws.Demands.{judged-told, complete-told}
use Rattle.block.specs.Tabled.{Tabled}
use Rattle.cubes.specs.declared.goal.Goal.TheVariants.{Nonconforming}
use Rattle.machine.specs.Differences.{Difference}
use Rattle.search.specs.Search.{every, NoneOf, Leaving}
use Rattle.search.specs.declared.settle.Beginning.TheVariants.{Front}
use Rattle.search.specs.Shown.{Untouched, Shown, Leaves}
use Rattle.std.specs.Option.{option_flatten}
use Rattle.search.specs.Rooms.{room_of}
use Rattle.search.specs.laws.RoomLaw.{room-refused, room-goes-on, room-there}
use Rattle.search.specs.laws.JudgementLaw.{none-judged, first-judged}
use Rattle.mutation.specs.Judging.{Judges, Measured, SaysOf, ToldJudged}

-- ---- a sheet that was read

module _ (sh : Sheet) (board sequence : List ℕ) where
  pub judges-refused : {why : Refusal} → room_of sh (length board) (length sequence) ≡ Err why → {r : Answer (Maybe ℕ) Refusal} → r ≡ Err why →
      Judges (judge_on sh (length board) (length sequence)) r board board sequence sequence
  unfolding judge_on
  judges-refused e er = let h = room-refused sh (length board) (length sequence) e (accepted (judge_of sh)) in record { answer = rw h er; board = rw h refl; sequence = rw h refl }

  pub judges-room : room_of sh (length board) (length sequence) ≡ Ok tt → {r : Answer (Maybe ℕ) Refusal} {board' sequence' : List ℕ} →
      Judges (accepted (judge_of sh)) r board board' sequence sequence' → Judges (judge_on sh (length board) (length sequence)) r board board' sequence sequence'
  unfolding judge_on
  judges-room e js = rw (room-goes-on sh (length board) (length sequence) e (accepted (judge_of sh))) js

-- from the first mutant on
pub from_front : {sh : Sheet} {m : List ℕ} → Tabled sh m → Leaving sh m Front
from_front tb = record { tabled = tb; is = tt }

-- ---- what the search found

module _ (sh : Sheet) {l : List Observation} {board board' sequence sequence' : List ℕ} (suite : l ≡ suite_log sh) where
  -- no survivor
  judges-complete : NoneOf Nonconforming sh l every × Untouched board board' sequence sequence' → Judges (accepted (judge_of sh)) (Ok None) board board' sequence sequence'
  judges-complete f = let h = none-judged (subst (λ (k : List Observation). NoneOf Nonconforming sh k every) suite f.0) in record { answer = rw h refl; board = rw h f.1.board; sequence = rw h f.1.sequence }

  -- the first survivor, with what compare shows
  judges-survivor : {d : Difference} → Shown Nonconforming sh l every d board board' sequence sequence' → Judges (accepted (judge_of sh)) (Ok d) board board' sequence sequence'
  judges-survivor {d} shown =
      let s = first-judged (subst (λ (k : List Observation). Shown Nonconforming sh k every d board board' sequence sequence') suite shown) in
      record { answer = rw s.judged (ap (λ (x : Difference). Ok x) s.long); board = rw s.judged s.board; sequence = rw s.judged s.sequence }

  -- by what the search answers
  pub judges-found : (o : Maybe Difference) → Leaves Nonconforming sh l every o board board' sequence sequence' →
      Judges (accepted (judge_of sh)) (Ok (option_flatten o)) board board' sequence sequence'
  judges-found None f = judges-complete f
  judges-found (Some d) f = judges-survivor f

-- a refusal leaves the number
pub measured-refused : (why : Refusal) (n : ℕ) {r : Answer (Maybe ℕ) Refusal} → r ≡ Err why → Measured r n n
measured-refused why n e = rw e refl

-- ---- what it tells

module _ (s board sequence : List ℕ) where
  -- a sheet refused on reading: the same number and place, and nothing is written
  pub judge-refused : {why : Refusal} → reading s ≡ refused why.number why.place → {r : Answer (Maybe ℕ) Refusal} → r ≡ Err why →
      Judges (judging s (length board) (length sequence)) r board board sequence sequence × ToldJudged s (length board) (length sequence) r board sequence
  unfolding judging ToldJudged
  judge-refused {why} h er = (
    record { answer = rw h er; board = rw h refl; sequence = rw h refl },
    λ sh es. let same : ◌≡◌ {A = Reading} (accepted sh) (refused why.number why.place) = sym es ∙ h in never (cc),
  )

  judging-is : (sh : Sheet) → reading s ≡ accepted sh → (rb rs : ℕ) → judging s rb rs ≡ judge_on sh rb rs
  unfolding judging judge_on
  judging-is sh e rb rs = rw e refl

  says : (sh : Sheet) → WellFormed sh → (j : Judgement) → JudgedMeans sh j → (judge_of sh ≡ complete → Complete sh) × (Complete sh → judge_of sh ≡ complete) → judge_of sh ≡ j →
      (r : Answer (Maybe ℕ) Refusal) (board' sequence' : List ℕ) → Judges (accepted j) r board board' sequence sequence' → SaysOf sh r board' sequence'
  says sh wf complete means only-every ej r board' sequence' js =
      record {
        means = rw js.answer means;
        only = λ h. only-every.0 ej;
        every = λ h. js.answer;
      }
  says sh wf (survivor b xs) means only-every ej r board' sequence' js =
      let long = mutant-length sh b means.0.survives.is in
      let eb : take (length (slots sh)) board' ≡ b = rw js.board (take_at b (drop (length b) board) (length (slots sh)) long) in
      let es : take (length xs) sequence' ≡ xs = rw js.sequence (take_at xs (drop (length xs) sequence) (length xs) refl) in
      record {
        means = rw js.answer (rw (eb, es) means);
        only = λ h. let same : ◌≡◌ {A = Answer (Maybe ℕ) Refusal} (Ok (Some (length xs))) (Ok None) = sym js.answer ∙ h in never (cc);
        every = λ h. let same = sym ej ∙ only-every.1 h in never (cc);
      }

  -- an accepted one
  pub judge-accepted : (sh : Sheet) → reading s ≡ accepted sh → (r : Answer (Maybe ℕ) Refusal) (board' sequence' : List ℕ) →
      Judges (judge_on sh (length board) (length sequence)) r board board' sequence sequence' →
      Judges (judging s (length board) (length sequence)) r board board' sequence sequence' × ToldJudged s (length board) (length sequence) r board' sequence'
  unfolding ToldJudged judge_on
  judge-accepted sh e r board' sequence' js = (rw (judging-is sh e (length board) (length sequence)) js, told)
    where
      told : (sh' : Sheet) → reading s ≡ accepted sh' → length (slots sh') ≤ length board → sh'.size.states * sh'.size.states ≤ length sequence → SaysOf sh' r board' sequence'
      told sh' e' lb ls =
          let same : sh ≡ sh' = (let z : ◌≡◌ {A = Reading} (accepted sh) (accepted sh') = sym e ∙ e' in cc) in
          let js' = subst (λ (t : Sheet). Judges (judge_on t (length board) (length sequence)) r board board' sequence sequence') same js in
          let h = room-goes-on sh' (length board) (length sequence) (room-there sh' (length board) (length sequence) lb ls) (accepted (judge_of sh')) in
          says sh' (well-formed s sh' e') (judge_of sh') (judged-told s sh' e') (complete-told s sh' e') refl r board' sequence' (rw h at js')
