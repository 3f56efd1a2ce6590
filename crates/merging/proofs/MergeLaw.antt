-- From the bytes of two sheets to the answer, and what it tells.
use Rattle.std.specs.Prelude.{Result as Answer}
use Rattle.std.specs.Prelude.{Ok, Err, ◌*◌, ◌≤◌, ◌≡◌}
use Rattle.lists.specs.Proving.{arith, ℕ, refl, sym, ◌∙◌, ap, ap₂, Bool, true, false, List, drop, length, take, ltb, lt-ltb, never}
use lib.Seq.{take_at}
use Rattle.lists.specs.Lists.{overlay}
use Rattle.sheet.specs.declared.Refusal.{Refusal}
use Rattle.sheet.specs.declared.Tables.{Tables}
use Rattle.sheet.specs.declared.Summary.{Summary}
use Rattle.sheet.specs.Sheet.{Sheet, open_pairs}
use Rattle.sheet.specs.Encode.{encode}
use Rattle.sheet.specs.Reading.{Result, accepted, refused, Reading, reading, summary_of}
use Rattle.sheet.specs.Tables.{refusal_of, answer_by, read_answer, read_into, tables_of}
use Rattle.sheet.specs.laws.AcceptedLaw.{well-formed}
use Rattle.model.specs.Suite.{complete, judge_of}
use Rattle.model.specs.Operations.{refuse_if, judge_on, judging}
use Rattle.model.specs.Verdict.{Complete}
use Rattle.model.specs.Mutant.{slots}
use Rattle.model.proofs.laws.JudgeLaw.{judged-complete}
use Rattle.renaming.specs.Merging.{Merge, merged, merging, merge_of, merge_on, SameMachine, Merges}
use Rattle.renaming.proofs.laws.MergedLaw.{first-refused, second-refused, merging-is, merged-told, merges}
use Rattle.merging.specs.declared.Concerns.{Concerns}
use Rattle.merging.specs.declared.Concerns.TheVariants as concerns
use Rattle.merging.specs.declared.Unmerged.{Unmerged}
use Rattle.merging.specs.Answers.{concerned, unmerged_by, merged_answer, merged_writes, Refuses, FoundBy, ToldMerge}
use Rattle.merging.specs.words.Outlined.{survey_answer, open_both, Joins}
use Rattle.merging.proofs.OpenLaw.{pairs-are}

-- ---- what was read
-- of an accepted sheet, what reading it tells
pub record Seen (s : List ℕ) (summary : Summary) (tables : Tables) : Type 0 where
  pub sheet : Sheet
  pub is : reading s ≡ accepted sheet
  pub told : summary ≡ summary_of sheet
  pub tabled : tables ≡ tables_of sheet

module _ (s : List ℕ) (which : Concerns) where
  pub refused-is : {u : Unmerged} → survey_answer which (reading s) ≡ Err u → (reading s ≡ refused u.why.number u.why.place) × (u.concerns ≡ which)
  refused-is {u} h = go (reading s) h
    where
      go : (d : Reading) → survey_answer which d ≡ Err u → (d ≡ refused u.why.number u.why.place) × (u.concerns ≡ which)
      go (accepted sh) e = never (cc)
      go (refused n p) e =
          let z : unmerged_by which n p ≡ u = cc in
          (ap (λ (w : Unmerged). refused w.why.number w.why.place) z, sym (ap (λ (w : Unmerged). w.concerns) z))

  pub seen : {summary : Summary} {tables : Tables} → survey_answer which (reading s) ≡ Ok summary → (before : Tables) → tables ≡ read_into (reading s) before → Seen s summary tables
  seen {summary} {tables} h before t = go (reading s) refl
    where
      go : (d : Reading) → reading s ≡ d → Seen s summary tables
      go (refused n p) is = let z : Ok summary ≡ survey_answer which (refused n p) = sym h ∙ ap (survey_answer which) is in never (cc)
      go (accepted sh) is =
          let z : Ok summary ≡ survey_answer which (accepted sh) = sym h ∙ ap (survey_answer which) is in
          record { sheet = sh; is = is; told = cc; tabled = t ∙ ap (λ d. read_into d before) is }

pub size_few : {s : List ℕ} {summary : Summary} {tables : Tables} → Seen s summary tables → (summary.states ≤ 16) × (summary.inputs ≤ 16)
unfolding summary_of
size_few {s} v =
    let w = well-formed s v.sheet v.is in
    (omega (arith, ap (λ (z : Summary). z.states) v.told, w.size.states.few), omega (arith, ap (λ (z : Summary). z.inputs) v.told, w.size.inputs.few))

-- what reading answered of it
pub read-as : {s : List ℕ} {summary : Summary} {tables : Tables} → Seen s summary tables → Ok summary ≡ read_answer (reading s)
read-as v = ap Ok v.told ∙ sym (ap read_answer v.is)

-- the open pairs of both, counted in their tables
pub pairs_of : (s t : List ℕ) {xa xb : Summary} {ta tb : Tables} {n : ℕ} (v : Seen s xa ta) (u : Seen t xb tb) → SameMachine v.sheet u.sheet →
    n ≡ open_both ta.choices tb.choices xa.inputs xa.states → n ≡ open_pairs (merged v.sheet u.sheet)
unfolding summary_of tables_of
pairs_of s t {ta = ta} {tb = tb} v u same e =
    e ∙ ap₂ (open_both ta.choices tb.choices) (ap (λ (z : Summary). z.inputs) v.told) (ap (λ (z : Summary). z.states) v.told)
    ∙ pairs-are same (well-formed s v.sheet v.is) (ap (λ (z : Tables). z.choices) v.tabled) (ap (λ (z : Tables). z.choices) u.tabled)

-- ---- judged complete
complete-of : (s : List ℕ) (m : Sheet) (board sequence : ℕ) → reading s ≡ accepted m → judging s board sequence ≡ accepted complete → Complete m
unfolding judging judge_on
complete-of s m board sequence is e =
    judged-complete m (well-formed s m is) (go (ltb board (length (slots m))) (ltb sequence (m.size.states * m.size.states)) (rw is at e))
  where
    go : (b c : Bool) → refuse_if b 16 0 (refuse_if c 16 1 (accepted (judge_of m))) ≡ accepted complete → judge_of m ≡ complete
    go true c h = never (cc)
    go false true h = never (cc)
    go false false h = cc

-- ---- what the answer tells
-- an answer to a user, and what it leaves in the buffer
record Merging (result : Result Sheet) (r : Answer ℕ Unmerged) (old new : List ℕ) : Type 0 where
  answer : r ≡ merged_answer (merge_of result)
  bytes : new ≡ overlay (merged_writes (merge_of result)) old

module _ (s t old : List ℕ) where
  -- what stands at the buffer's front is the merged sheet
  module _ {a b : Sheet} (ra : reading s ≡ accepted a) (rb : reading t ≡ accepted b) {r : Answer ℕ Unmerged} {new : List ℕ} {n : ℕ} (done : r ≡ Ok n) where
    stands : (x : Result Sheet) → r ≡ merged_answer (merge_of x) → new ≡ overlay (merged_writes (merge_of x)) old → (m : Sheet) × (x ≡ accepted m) × (take n new ≡ encode m)
    stands (refused number place) e f = let z : Ok n ≡ merged_answer (merge_of (refused number place)) = sym done ∙ e in never (cc)
    stands (accepted m) e f =
        let z : Ok n ≡ merged_answer (merge_of (accepted m)) = sym done ∙ e in
        let long : n ≡ length (encode m) = cc in
        (m, refl, ap (take n) f ∙ take_at (encode m) (drop (length (encode m)) old) n (sym long))

    found : Merging (merge_on a b (length old)) r old new → (board sequence : ℕ) → judging (take n new) board sequence ≡ accepted complete → FoundBy (take n new) a × FoundBy (take n new) b
    found j board sequence judged =
        let z = stands (merge_on a b (length old)) j.answer j.bytes in
        let w : Merges a b z.0 = merges s t a b z.0 (length old) ra rb z.1 in
        let reads : reading (take n new) ≡ accepted z.0 = ap reading z.2 ∙ w.reads in
        let all = complete-of (take n new) z.0 board sequence reads judged in
        (record { sheet = z.0; reads = reads; finds = w.finds-first all }, record { sheet = z.0; reads = reads; finds = w.finds-second all })

  module _ {r : Answer ℕ Unmerged} {new : List ℕ} (ea : r ≡ merged_answer (merging s t (length old))) (eb : new ≡ overlay (merged_writes (merging s t (length old))) old) where
    turned-away : {which number place : ℕ} → merging s t (length old) ≡ Merge.turned which number place → Refuses (concerned which) number place r old new
    turned-away e = record { answer = ea ∙ ap merged_answer e; untouched = eb ∙ ap (λ (m : Merge). overlay (merged_writes m) old) e }

    joined-so : {a b : Sheet} → reading s ≡ accepted a → reading t ≡ accepted b → Merging (merge_on a b (length old)) r old new
    joined-so {a} {b} ra rb =
        let e = merging-is s t (length old) a b ra rb in
        record { answer = ea ∙ ap merged_answer e; bytes = eb ∙ ap (λ (m : Merge). overlay (merged_writes m) old) e }

    pub tells : ToldMerge s t r old new
    tells =
        record {
          first = λ number place e. turned-away (first-refused s t (length old) number place e);
          second = λ a number place e f. turned-away (second-refused s t (length old) a number place e f);
          both = λ a b ra rb.
              let j = joined-so ra rb in
              record { result = merge_on a b (length old); told = merged-told s t a b (length old) ra rb; answer = j.answer; bytes = j.bytes };
          judged = λ a b n board sequence ra rb done e. found ra rb done (joined-so ra rb) board sequence e;
        }

  -- an answer with all that is promised of it
  pub record Whole (r : Answer ℕ Unmerged) (new : List ℕ) : Type 0 where
    pub answer : r ≡ merged_answer (merging s t (length old))
    pub bytes : new ≡ overlay (merged_writes (merging s t (length old))) old
    pub told : ToldMerge s t r old new

  whole : {r : Answer ℕ Unmerged} {new : List ℕ} → r ≡ merged_answer (merging s t (length old)) → new ≡ overlay (merged_writes (merging s t (length old))) old → Whole r new
  whole ea eb = record { answer = ea; bytes = eb; told = tells ea eb }

  turned-by : {number place : ℕ} {u : Unmerged} (which : ℕ) → merging s t (length old) ≡ Merge.turned which number place → u ≡ unmerged_by (concerned which) number place → {w : Answer ℕ Unmerged} → w ≡ Err u → Whole w old
  turned-by which e h k = whole (k ∙ ap Err h ∙ sym (ap merged_answer e)) (sym (ap (λ (m : Merge). overlay (merged_writes m) old) e))

  pub whole-first : {u : Unmerged} → survey_answer concerns.First (reading s) ≡ Err u → {w : Answer ℕ Unmerged} → w ≡ Err u → Whole w old
  whole-first {u} e =
      let x = refused-is s concerns.First e in
      turned-by 1 (first-refused s t (length old) u.why.number u.why.place x.0) (ap (λ c. unmerged_by c u.why.number u.why.place) x.1)

  pub whole-second : {a : Sheet} {u : Unmerged} → reading s ≡ accepted a → survey_answer concerns.Second (reading t) ≡ Err u → {w : Answer ℕ Unmerged} → w ≡ Err u → Whole w old
  whole-second {a} {u} ra e =
      let x = refused-is t concerns.Second e in
      turned-by 2 (second-refused s t (length old) a u.why.number u.why.place ra x.0) (ap (λ c. unmerged_by c u.why.number u.why.place) x.1)

  -- what becomes of two accepted sheets
  module _ {a b : Sheet} (ra : reading s ≡ accepted a) (rb : reading t ≡ accepted b) {r : Answer ℕ Refusal} {new : List ℕ} (j : Joins (merge_on a b (length old)) r old new) where
    merging_is : merging s t (length old) ≡ merge_of (merge_on a b (length old))
    merging_is = merging-is s t (length old) a b ra rb

    written-by : (x : Result Sheet) (n : ℕ) → Ok n ≡ answer_by (λ m. length (encode m)) x → Ok n ≡ merged_answer (merge_of x)
    written-by (accepted m) n e = let z : n ≡ length (encode m) = cc in ap Ok z
    written-by (refused number place) n e = never (cc)

    refused-by : (x : Result Sheet) (why : Refusal) → Err why ≡ answer_by (λ m. length (encode m)) x → Err (record { concerns = concerns.Merged; why = why }) ≡ merged_answer (merge_of x)
    refused-by (accepted m) why e = never (cc)
    refused-by (refused number place) why e = let z : why ≡ refusal_of number place = cc in ap (λ (w : Refusal). Err (record { concerns = concerns.Merged; why = w })) z

    bytes-are : new ≡ overlay (merged_writes (merging s t (length old))) old
    bytes-are = j.bytes ∙ ap (λ (m : Merge). overlay (merged_writes m) old) (sym merging_is)

    pub whole-joined : {w : Answer ℕ Unmerged} → ((n : ℕ) → r ≡ Ok n → w ≡ Ok n) → ((why : Refusal) → r ≡ Err why → w ≡ Err (record { concerns = concerns.Merged; why = why })) → Whole w new
    whole-joined {w} f g = go r refl
      where
        go : (q : Answer ℕ Refusal) → r ≡ q → Whole w new
        go (Ok n) e = whole (f n e ∙ written-by (merge_on a b (length old)) n (sym e ∙ j.answer) ∙ ap merged_answer (sym merging_is)) bytes-are
        go (Err why) e = whole (g why e ∙ refused-by (merge_on a b (length old)) why (sym e ∙ j.answer) ∙ ap merged_answer (sym merging_is)) bytes-are
