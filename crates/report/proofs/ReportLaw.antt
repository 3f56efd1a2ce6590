-- From what judge answers and writes to what the program prints.
use Prim.Native.Nat.{ℕ, ◌+◌, ◌*◌, ◌<◌, ◌≤◌}
use native.Mathlib.Omega.{arith}
use mathlib.Core.Path.{◌≡◌, refl, sym, ◌∙◌}
use mathlib.Core.Bool.{Bool, true, false}
use mathlib.Core.List.{List}
use borrow.Author.Tests.{lt-ltb, le-ltb}
use lib.Dec.{ltb}
use lib.ListN.{length, take, drop, length-append}
use lib.Seq.{take_at, length-take-le}
use Rattle.sheet.specs.Sheet.{Sheet, open_slots}
use Rattle.sheet.specs.Reading.{Result, accepted, refused, Reading, reading, summary_of}
use Rattle.sheet.specs.Tables.{refusal_of, read_answer}
use Rattle.lists.specs.laws.TestLaw.{never}
use Rattle.sheet.specs.laws.AcceptedLaw.{well-formed}
use Rattle.model.specs.Mutant.{slots}
use Rattle.model.specs.Suite.{Judgement, complete, survivor, judge_of}
use Rattle.model.specs.Operations.{reads, refuse_if, judging, judge_on}
use Rattle.model.proofs.laws.JudgeLaw.{judged-survivor}
use Rattle.model.proofs.laws.OperationLaw.{mutant-length}
use Rattle.model.proofs.laws.SuspectLaw.{slot-count}
use Rattle.std.specs.Prelude.{Ok, Err, Some, None}
use Rattle.sheet.specs.declared.Refusal.{Refusal}
use Rattle.lists.specs.Lists.{overlay}
use Rattle.mutation.specs.Judging.{judged_answer, board_writes, sequence_writes}
use Rattle.writing.specs.words.Spelled.{Spelled}
use Rattle.writing.proofs.laws.SpelledLaw.{spelled-front}
use Rattle.report.specs.Text.{Prints, complete_text, survivor_lines, refused_line, text_of, text_in, suspects_in}

-- a buffer that is too small is left as it was
pub no_room : (old : List ℕ) (result : Result Judgement) → length old < 2048 → Prints old old 0 (text_in (length old) result)
unfolding text_in
no_room old result h = rw (lt-ltb (length old) 2048 h) (record { answer = refl; bytes = refl })

-- any other gets the text
pub printed : {old new text : List ℕ} {r : ℕ} (room : ℕ) (result : Result Judgement) → 2048 ≤ room → text_of result ≡ text → Spelled old new 0 r text →
    Prints old new r (text_in room result)
unfolding text_in
printed room result h e a = rw (le-ltb room 2048 h, e) (record { answer = omega (arith, a.many); bytes = spelled-front a })

pub complete-text : (result : Result Judgement) → Ok None ≡ judged_answer result → text_of result ≡ complete_text
unfolding text_of
complete-text (accepted complete) e = refl
complete-text (accepted (survivor b xs)) e = never (cc)
complete-text (refused number place) e = never (cc)

pub refused-text : (result : Result Judgement) (why : Refusal) → Err why ≡ judged_answer result → text_of result ≡ refused_line why.number why.place
unfolding text_of
refused-text (accepted complete) why e = never (cc)
refused-text (accepted (survivor b xs)) why e = never (cc)
refused-text (refused number place) why e =
    let same : why ≡ refusal_of number place = cc in
    rw same refl

-- a survivor has as many choices as Read counts suspects
survivor-choices : (s b xs : List ℕ) (room room' : ℕ) → judging s room room' ≡ accepted (survivor b xs) →
    length b ≡ suspects_in (read_answer (reading s))
unfolding judging judge_on summary_of
survivor-choices s b xs room room' = of-reading (reading s) refl
  where
    counted : (sh : Sheet) → reading s ≡ accepted sh → (p q : Bool) →
        refuse_if p 16 0 (refuse_if q 16 1 (accepted (judge_of sh))) ≡ accepted (survivor b xs) → length b ≡ open_slots sh
    counted sh e false false h =
        let j : judge_of sh ≡ survivor b xs = cc in
        mutant-length sh b (judged-survivor sh (well-formed s sh e) b xs j).0.survives.is ∙ slot-count sh
    counted sh e false true h = never (cc)
    counted sh e true q h = never (cc)

    of-reading : (r : Reading) → reading s ≡ r →
        reads r (λ sh. judge_on sh room room') ≡ accepted (survivor b xs) → length b ≡ suspects_in (read_answer r)
    of-reading (accepted sh) e h = counted sh e (ltb room (length (slots sh))) (ltb room' (sh.size.states * sh.size.states)) h
    of-reading (refused number place) e h = never (cc)

-- the survivor stands at the fronts of both buffers: n choices, and d inputs
pub record Shown (result : Result Judgement) (mutant sequence : List ℕ) (n d : ℕ) : Type 0 where
  pub choices : n ≤ length mutant
  pub inputs : d ≤ length sequence
  pub text : text_of result ≡ survivor_lines (take n mutant) (take d sequence)

-- its lines fit
pub lines_fit : {result : Result Judgement} {mutant sequence : List ℕ} {n d room : ℕ} → Shown result mutant sequence n d →
    length mutant ≡ 32 → length sequence ≡ 256 → 2048 ≤ room → 21 + 4 * length (take n mutant) + 4 * length (take d sequence) ≤ room
lines_fit {result} {mutant} {sequence} {n} {d} h em es l =
    omega (arith, h.choices, h.inputs, length-take-le n mutant h.choices, length-take-le d sequence h.inputs)

front : (xs old new : List ℕ) (n : ℕ) → n ≡ length xs → new ≡ overlay xs old → (n ≤ length new) × (take n new ≡ xs)
front xs old new n en e = rw e (rw (length-append xs (drop (length xs) old)) (omega arith), take_at xs (drop (length xs) old) n (sym en))

pub shown : (s old_mutant mutant old_sequence sequence : List ℕ) (room room' n d : ℕ) →
    n ≡ suspects_in (read_answer (reading s)) →
    Ok (Some d) ≡ judged_answer (judging s room room') →
    mutant ≡ overlay (board_writes (judging s room room')) old_mutant →
    sequence ≡ overlay (sequence_writes (judging s room room')) old_sequence →
    Shown (judging s room room') mutant sequence n d
unfolding text_of
shown s old_mutant mutant old_sequence sequence room room' n d en = of-result (judging s room room') refl
  where
    of-result : (result : Result Judgement) → judging s room room' ≡ result → Ok (Some d) ≡ judged_answer result →
        mutant ≡ overlay (board_writes result) old_mutant → sequence ≡ overlay (sequence_writes result) old_sequence →
        Shown result mutant sequence n d
    of-result (accepted complete) e a m q = never (cc)
    of-result (accepted (survivor b xs)) e a m q =
        let ed : d ≡ length xs = cc in
        let fb = front b old_mutant mutant n (en ∙ sym (survivor-choices s b xs room room' e)) m in
        let fx = front xs old_sequence sequence d ed q in
        record { choices = fb.0; inputs = fx.0; text = rw (fb.1, fx.1) refl }
    of-result (refused number place) e a m q = never (cc)
