-- What Read's answer tells, and what the judgement tells of a sheet.
use Prim.Native.Nat.{ℕ, ◌*◌}
use native.Mathlib.Nat.{mul-le-mul}
use native.Mathlib.Omega.{arith}
use mathlib.Core.Path.{◌≡◌, refl, sym, ◌∙◌, ap}
use mathlib.Core.Bool.{not}
use mathlib.Core.List.{List}
use borrow.Author.Tests.{le-ltb}
use lib.ListN.{length}
use Rattle.std.specs.Prelude.{Result as Answer}
use Rattle.std.specs.Prelude.{Option as Maybe, Ok, Err}
use Rattle.lists.specs.laws.TestLaw.{never}
use Rattle.sheet.specs.declared.Summary.{Summary}
use Rattle.sheet.specs.declared.Refusal.{Refusal}
use Rattle.sheet.specs.Sheet.{Sheet}
use Rattle.sheet.specs.Reading.{accepted, refused, Reading, reading, summary_of}
use Rattle.sheet.specs.Tables.{read_answer}
use Rattle.sheet.specs.laws.AcceptedLaw.{well-formed}
use Rattle.sheet.specs.laws.RefusalLaw.{refused-by}
use Rattle.model.specs.Mutant.{slots}
use Rattle.model.specs.Suite.{Judgement, complete, survivor, judge_of}
use Rattle.model.specs.Operations.{reads, refuse_if, judge_on, judging}
use Rattle.model.proofs.laws.SuspectLaw.{slot-count}
use Rattle.mutation.specs.Judging.{judgement_answer, judged_answer}
use Rattle.station.specs.Station.{is_complete, suited}
use Rattle.station.specs.words.Parts.{suited_answer, suited_by}

module _ (s : List ℕ) {r : Answer Summary Refusal} (e : r ≡ read_answer (reading s)) where
  pub is-refused : {why : Refusal} → r ≡ Err why → reading s ≡ refused why.number why.place
  is-refused {why} f = refused-by why (reading s) (sym e ∙ f)

  pub is-accepted : {summary : Summary} → r ≡ Ok summary → (sh : Sheet) × (reading s ≡ accepted sh) × (summary ≡ summary_of sh)
  is-accepted {summary} f = go (reading s) refl (sym e ∙ f)
    where
      go : (d : Reading) → reading s ≡ d → read_answer d ≡ Ok summary → (sh : Sheet) × (reading s ≡ accepted sh) × (summary ≡ summary_of sh)
      go (accepted sh) h k = let z : summary ≡ summary_of sh = cc in (sh, h, z)
      go (refused n p) h k = never (cc)

  pub summary-of : {summary : Summary} (sh : Sheet) → r ≡ Ok summary → reading s ≡ accepted sh → summary ≡ summary_of sh
  summary-of {summary} sh f h = let z : r ≡ read_answer (accepted sh) = e ∙ rw h refl in cc

  -- what Read told
  pub told : {summary : Summary} → r ≡ Ok summary → Ok summary ≡ read_answer (reading s)
  told f = sym f ∙ e

pub is-told : (s : List ℕ) {summary : Summary} → Ok summary ≡ read_answer (reading s) → (sh : Sheet) × (reading s ≡ accepted sh)
is-told s e = let (sh, read, m) = is-accepted s e refl in (sh, read)

module _ (s : List ℕ) {a b : Sheet} where
  pub same-sheet : reading s ≡ accepted a → reading s ≡ accepted b → a ≡ b
  same-sheet e f = cc

module _ {summary : Summary} (sh : Sheet) (e : summary ≡ summary_of sh) where
  pub tests-are : summary.tests ≡ length sh.tests
  unfolding summary_of
  tests-are = ap (λ (m : Summary). m.tests) e

  pub outputs-are : summary.outputs ≡ sh.size.outputs
  unfolding summary_of
  outputs-are = ap (λ (m : Summary). m.outputs) e

-- the buffers have room for every accepted sheet
judging-room : (s : List ℕ) (sh : Sheet) → reading s ≡ accepted sh → judging s 32 256 ≡ accepted (judge_of sh)
unfolding judging judge_on
judging-room s sh e =
    let wf = well-formed s sh e in
    let square = mul-le-mul wf.size.states.few wf.size.states.few in
    rw (e, le-ltb 32 (length (slots sh)) (omega (arith, slot-count sh, wf.few-open)), le-ltb 256 (sh.size.states * sh.size.states) (omega (arith, square))) refl

judging-refused : (s : List ℕ) (number place : ℕ) → reading s ≡ refused number place → judging s 32 256 ≡ refused number place
unfolding judging
judging-refused s number place e = rw e refl

suited-judged : (s : List ℕ) → suited_by (judged_answer (judging s 32 256)) ≡ suited_answer (suited s)
unfolding suited
suited-judged s = go (reading s) refl
  where
    judged : (sh : Sheet) (j : Judgement) → suited_by (Ok (judgement_answer j)) ≡ suited_answer (refuse_if (not (is_complete j)) 22 0 (accepted sh))
    judged sh complete = refl
    judged sh (survivor b xs) = refl

    go : (r : Reading) → reading s ≡ r → suited_by (judged_answer (judging s 32 256)) ≡ suited_answer (reads r (λ sh. refuse_if (not (is_complete (judge_of sh))) 22 0 (accepted sh)))
    go (accepted sh) e = rw (judging-room s sh e) (judged sh (judge_of sh))
    go (refused number place) e = rw (judging-refused s number place e) refl

pub suited-of : (s : List ℕ) {r : Answer (Maybe ℕ) Refusal} → r ≡ judged_answer (judging s 32 256) → suited_by r ≡ suited_answer (suited s)
suited-of s e = ap suited_by e ∙ suited-judged s
