-- P1 to P10 of 01, the other sheets that it lists, and the order of the refusals: rows from the sheets' bytes through the
-- operations' definitions, with the whole expected answers, and one theorem that all rows hold, by computation.
use Rattle.std.specs.Prelude.{ℕ, ◌≡◌, refl, List, [], ◌∷◌, ◌++◌, replicate}
use Rattle.std.proofs.Common.{ap, lit<}
use Rattle.std.proofs.Math.Option.{Option, none, some}
use Rattle.sheet.specs.declared.Summary.{Summary}
use Rattle.sheet.specs.declared.Span.{Span}
use Rattle.lists.specs.Lists.{last, precedes, count, any, all, up_to, joined}
use Rattle.sheet.specs.Sheet.{Sheet, rows_at, rule_at, after, leads, reached_within, all_reached, unruled_choices, choices_at, is_open, open_below, open_pairs, wakings, waking_choices, waking_slots, open_slots}
use Rattle.sheet.specs.Reading.{Result, accepted, refused, first_broken, ascends, rises, last_test, rule_after, refusal, add_press, advance, finishing, doing, one_command, from, blank, reading, summary_of}
use Rattle.sheet.specs.Encode.{row_bytes, operand_bytes, test_bytes, size_bytes, quiet_bytes, machine_bytes}
use Rattle.sheet.specs.Part.{span_of, parting}
use Rattle.sheet.specs.laws.AcceptedLaw.{well-formed}
use Rattle.std.specs.Int.Count.{ones}
use Rattle.model.specs.Machine.{outputs_from}
use Rattle.model.specs.Mutant.{rule, unruled, transitions, Suspect, suspects, slots, site_in, site_of, choice_lists, mutants, acts, step, initial, start_slot, outputs}
use Rattle.model.specs.Used.{has, mark_from, mark_all, Usage, used_on}
use Rattle.model.specs.Compare.{least, shows, within, best, shortest, distance, compare_from, compare_pair}
use Rattle.model.specs.Suite.{Judgement, complete, survivor, wrong_from, wrong_in, first_failed_in, first_failed_of, Finding, finding_of, compare_of, survivor_among, judge_of}
use Rattle.model.specs.Operations.{reads, first_high, first_over, with_mutant, Response, response_of, running, failing, comparing, judging, run_on, compare_on, judge_on}
use Rattle.model.proofs.laws.UsedBitLaw.{ones-count}
use Rattle.model.proofs.laws.QuickJudgeLaw.{tabulate, cell_at, rounds, compare_quick, first_quick, judge_quick, quick}
use Rattle.worked.specs.Sheets.{p1machine, p1, p2, p3, empty_test, p4machine, p4, p5, p6, p9machine, bababa, p9, p10, stuck, chain, open32, open33, many_tests, p1start, only_rules, only_start, equal_start, start31, start32, p4silent, p4quiet, p4quiet_start, quiet200}

-- the sheet that was read
abbrev pub sheet_of : Result Sheet → Sheet
sheet_of (accepted sh) = sh
sheet_of (refused number place) = blank.sheet

-- what an operation is to answer
pub data Row : Type 0 where
  read : List ℕ → Result Summary → Row
  open-pairs : List ℕ → Result (List Suspect) → Row
  choices : List ℕ → Result (List ℕ) → Row
  part : List ℕ → ℕ → Result Span → Row
  run : List ℕ → List ℕ → List ℕ → ℕ → Result Response → Row
  failed : List ℕ → List ℕ → Result Finding → Row
  compared : List ℕ → List ℕ → ℕ → Result (Option (List ℕ)) → Row
  judged : List ℕ → ℕ → ℕ → Result Judgement → Row

unfoldable pub Holds : Row → Type 0
Holds (read s r) = reads (reading s) (λ sh. accepted (summary_of sh)) ≡ r
Holds (open-pairs s r) = reads (reading s) (λ sh. accepted (suspects sh)) ≡ r
Holds (choices s r) = reads (reading s) (λ sh. accepted (slots sh)) ≡ r
Holds (part s i r) = parting s i ≡ r
Holds (run s b xs room r) = running s b xs room ≡ r
Holds (failed s b r) = failing s b ≡ r
Holds (compared s b room r) = comparing s b room ≡ r
Holds (judged s board_room sequence_room r) = judging s board_room sequence_room ≡ r

unfoldable pub AllHold : List Row → Type 0
AllHold [] = Unit {0}
AllHold (r ∷ rs) = Holds r × AllHold rs

-- n, k, m and the numbers of RULEs, FAULTs, TESTs and open pairs
abbrev summary : ℕ → ℕ → ℕ → ℕ → ℕ → ℕ → ℕ → Result Summary
summary n k m rules faults tests suspects =
    accepted (record { states = n; inputs = k; outputs = m; rules = rules; faults = faults; tests = tests; suspects = suspects })

abbrev pair : ℕ → ℕ → Suspect
pair s x = record { state = s; input = x }

-- how many slots are used, and the set of them
abbrev usage : ℕ → ℕ → Usage
usage number set = record { number = number; set = set }

abbrev ran : List ℕ → ℕ → ℕ → Result Response
ran outputs number set = accepted (record { outputs = outputs; used = usage number set })

abbrev place : ℕ → ℕ → ℕ → ℕ → Result Finding
place test position number set = accepted (record { first = some (record { test = test; position = position }); used = usage number set })

abbrev passed : ℕ → ℕ → Result Finding
passed number set = accepted (record { first = none; used = usage number set })

unfoldable pub listed : List Row
listed =
    judged p1 1 4 (accepted (survivor (1 ∷ []) (0 ∷ 1 ∷ 0 ∷ [])))
    ∷ judged p2 1 4 (accepted complete)
    ∷ judged p3 1 4 (accepted (survivor (1 ∷ []) (0 ∷ 1 ∷ 0 ∷ [])))
    ∷ open-pairs p4 (accepted (pair 0 1 ∷ pair 1 1 ∷ []))
    ∷ choices p4 (accepted (4 ∷ 2 ∷ []))
    ∷ judged p4 2 4 (accepted (survivor (0 ∷ 1 ∷ []) (0 ∷ 1 ∷ 0 ∷ [])))
    ∷ judged p5 2 4 (accepted complete)
    ∷ read p6 (summary 1 1 1 0 0 0 0)
    ∷ judged p6 0 1 (accepted complete)
    ∷ run p1 (1 ∷ []) (0 ∷ 1 ∷ 0 ∷ []) 3 (ran (1 ∷ 1 ∷ 0 ∷ []) 1 1)
    ∷ failed p2 (1 ∷ []) (place 0 2 1 1)
    ∷ judged p9 4 16 (accepted (survivor (0 ∷ 0 ∷ 0 ∷ 1 ∷ []) (1 ∷ 0 ∷ 1 ∷ 0 ∷ 0 ∷ 1 ∷ 0 ∷ [])))
    ∷ read [] (refused 2 0)
    ∷ read (0 ∷ []) (refused 3 0)
    ∷ read (1 ∷ 2 ∷ []) (refused 2 0)
    ∷ read (1 ∷ 0x11 ∷ 1 ∷ 1 ∷ 6 ∷ []) (refused 4 0)
    ∷ read (1 ∷ 0x10 ∷ 1 ∷ 1 ∷ 6 ∷ []) (refused 11 4)
    ∷ read (1 ∷ 2 ∷ 1 ∷ 1 ∷ 6 ∷ []) (refused 11 4)
    ∷ read open32 (summary 2 16 1 1 1 0 32)
    ∷ read open33 (refused 12 24)
    ∷ read (many_tests 256) (summary 1 1 1 0 0 256 0)
    ∷ read (many_tests 257) (refused 8 260)
    ∷ read (replicate 16385 0) (refused 1 16384)
    ∷ []

-- the empty test, the empty list, a mutant with an unreachable state, choice 255, and 13 to 17 in their order, each at its lowest index
unfoldable pub further : List Row
further =
    read p1 (summary 2 2 2 4 1 1 1)
    ∷ failed empty_test (1 ∷ []) (passed 0 0)
    ∷ judged empty_test 1 4 (accepted (survivor (1 ∷ []) (0 ∷ 1 ∷ 0 ∷ [])))
    ∷ part empty_test 0 (accepted (record { start = 30; length = 0 }))
    ∷ failed p3 (1 ∷ []) (passed 0 0)
    ∷ part p1 0 (accepted (record { start = 30; length = 4 }))
    ∷ part p1 1 (refused 17 0)
    ∷ part [] 1 (refused 2 0)
    ∷ compared stuck (1 ∷ []) 4 (accepted (some (0 ∷ 0 ∷ [])))
    ∷ judged stuck 1 4 (accepted (survivor (1 ∷ []) (0 ∷ 0 ∷ [])))
    ∷ choices chain (accepted (256 ∷ []))
    ∷ run chain (255 ∷ []) (replicate 17 0) 17 (ran (replicate 15 0 ++ 15 ∷ 15 ∷ []) 1 1)
    ∷ run [] [] (9 ∷ []) 0 (refused 2 0)
    ∷ run p1 [] (9 ∷ []) 0 (refused 13 0)
    ∷ run p1 (2 ∷ []) (9 ∷ []) 0 (refused 14 0)
    ∷ run p4 (4 ∷ 2 ∷ []) (9 ∷ []) 0 (refused 14 0)
    ∷ run p4 (3 ∷ 2 ∷ []) (9 ∷ []) 0 (refused 14 1)
    ∷ run p1 (1 ∷ []) (0 ∷ 2 ∷ 9 ∷ []) 0 (refused 15 1)
    ∷ run p1 (1 ∷ []) (0 ∷ []) 0 (refused 16 0)
    ∷ run p4 (3 ∷ 1 ∷ []) (1 ∷ 1 ∷ 0 ∷ []) 9 (ran (1 ∷ 1 ∷ 0 ∷ []) 2 3)
    ∷ failed [] [] (refused 2 0)
    ∷ failed p1 [] (refused 13 0)
    ∷ failed p4 (3 ∷ 2 ∷ []) (refused 14 1)
    ∷ failed p1 (1 ∷ []) (passed 1 1)
    ∷ compared [] [] 0 (refused 2 0)
    ∷ compared p1 (0 ∷ 0 ∷ []) 0 (refused 13 0)
    ∷ compared p1 (2 ∷ []) 0 (refused 14 0)
    ∷ compared p1 (1 ∷ []) 3 (refused 16 0)
    ∷ compared p1 (1 ∷ []) 4 (accepted (some (0 ∷ 1 ∷ 0 ∷ [])))
    ∷ compared p1 (0 ∷ []) 4 (accepted none)
    ∷ judged [] 0 0 (refused 2 0)
    ∷ judged p1 0 3 (refused 16 0)
    ∷ judged p1 1 3 (refused 16 1)
    ∷ []

-- 02, Point 3: the first and the second pair each alone, none, an empty run, the first and the last of 32; tests before the failed one, a
-- pair that only the wrong output's step meets, and one that the failed test would have met later
unfoldable pub touching : List Row
touching =
    run p4 (0 ∷ 0 ∷ []) (1 ∷ []) 1 (ran (0 ∷ []) 1 1)
    ∷ run p4 (0 ∷ 0 ∷ []) (0 ∷ 1 ∷ []) 2 (ran (1 ∷ 1 ∷ []) 1 2)
    ∷ run p1 (1 ∷ []) (0 ∷ 0 ∷ []) 2 (ran (1 ∷ 0 ∷ []) 0 0)
    ∷ run p1 (1 ∷ []) [] 0 (ran [] 0 0)
    ∷ run open32 (replicate 32 0) (0 ∷ 15 ∷ []) 2 (ran (0 ∷ 0 ∷ []) 2 0x80000001)
    ∷ failed p10 (0 ∷ 0 ∷ 0 ∷ 0 ∷ []) (passed 3 14)
    ∷ failed p10 (0 ∷ 1 ∷ 0 ∷ 0 ∷ []) (place 1 2 3 14)
    ∷ failed p10 (0 ∷ 0 ∷ 1 ∷ 0 ∷ []) (place 0 3 2 6)
    ∷ failed p10 (6 ∷ 0 ∷ 0 ∷ 1 ∷ []) (place 0 4 3 13)
    ∷ []

-- 02, Point 5: where a mutant wakes is its first choice, counts toward the 32 and in every length, is always used and moves the
-- other slots up by one; a mutant that wakes elsewhere fails at once, conforms, or has a sequence of one input; 13, 14 and 16 with it
unfoldable pub waking : List Row
waking =
    read p1start (summary 2 2 2 4 1 1 2)
    ∷ open-pairs p1start (accepted (pair 1 1 ∷ []))
    ∷ choices p1start (accepted (2 ∷ 2 ∷ []))
    ∷ part p1start 0 (accepted (record { start = 32; length = 4 }))
    ∷ run p1start (1 ∷ 0 ∷ []) [] 0 (ran [] 1 1)
    ∷ run p1start (1 ∷ 1 ∷ []) (1 ∷ 0 ∷ []) 2 (ran (1 ∷ 0 ∷ []) 2 3)
    ∷ run p1start (0 ∷ 1 ∷ []) (0 ∷ 1 ∷ 0 ∷ []) 3 (ran (1 ∷ 1 ∷ 0 ∷ []) 2 3)
    ∷ run p1start (1 ∷ []) [] 0 (refused 13 0)
    ∷ run p1start (2 ∷ 2 ∷ []) [] 0 (refused 14 0)
    ∷ failed p1start (1 ∷ 0 ∷ []) (place 0 0 1 1)
    ∷ failed p1start (0 ∷ 1 ∷ []) (passed 2 3)
    ∷ failed only_start (1 ∷ []) (passed 1 1)
    ∷ compared p1start (1 ∷ 0 ∷ []) 4 (accepted (some (0 ∷ [])))
    ∷ compared equal_start (1 ∷ []) 4 (accepted none)
    ∷ judged p1start 2 4 (accepted (survivor (0 ∷ 1 ∷ []) (0 ∷ 1 ∷ 0 ∷ [])))
    ∷ judged p1start 1 4 (refused 16 0)
    ∷ judged (only_rules ++ 0x06 ∷ []) 0 4 (accepted complete)
    ∷ judged only_start 1 4 (accepted (survivor (1 ∷ []) (0 ∷ [])))
    ∷ judged equal_start 1 4 (accepted complete)
    ∷ read start31 (summary 2 16 1 1 0 0 32)
    ∷ read start32 (refused 12 16)
    ∷ []

-- 02, Point 7: a pair without a rule has one choice, is not open and stays; conformance looks at defined sequences alone; with START
unfoldable pub silent : List Row
silent =
    read p4quiet (summary 2 2 2 3 1 1 1)
    ∷ open-pairs p4quiet (accepted (pair 1 1 ∷ []))
    ∷ choices p4quiet (accepted (2 ∷ []))
    ∷ part p4quiet 0 (accepted (record { start = 26; length = 4 }))
    ∷ run p4quiet (1 ∷ []) (1 ∷ 1 ∷ 0 ∷ 1 ∷ []) 4 (ran (0 ∷ 0 ∷ 1 ∷ 1 ∷ []) 1 1)
    ∷ failed p4quiet (1 ∷ []) (passed 1 1)
    ∷ compared p4quiet (0 ∷ []) 4 (accepted none)
    ∷ compared p4quiet (1 ∷ []) 4 (accepted (some (0 ∷ 1 ∷ 0 ∷ [])))
    ∷ judged p4quiet 1 4 (accepted (survivor (1 ∷ []) (0 ∷ 1 ∷ 0 ∷ [])))
    ∷ choices p4quiet_start (accepted (2 ∷ 2 ∷ []))
    ∷ run p4quiet_start (1 ∷ 0 ∷ []) (1 ∷ 1 ∷ 0 ∷ []) 3 (ran (1 ∷ 0 ∷ 1 ∷ []) 2 3)
    ∷ judged p4quiet_start 2 4 (accepted (survivor (0 ∷ 1 ∷ []) (0 ∷ 1 ∷ 0 ∷ [])))
    ∷ read quiet200 (summary 16 16 16 56 0 0 0)
    ∷ []

unfoldable pub rows : List Row
rows = listed ++ (judged p10 4 16 (accepted complete) ∷ (further ++ (touching ++ (waking ++ silent))))

-- the definitions that the rows compute with, by one name: to unfold it is to unfold them
unfoldable pub computing : Unit {0}
unfolding p1machine p1 p2 p3 empty_test p4machine p4 p5 p6 p9machine bababa p9 p10 stuck chain open32 open33 many_tests p1start only_rules only_start equal_start start31 start32 p4silent p4quiet p4quiet_start quiet200 last precedes count any all up_to joined rows_at rule_at after leads reached_within all_reached unruled_choices choices_at is_open open_below open_pairs wakings waking_choices waking_slots open_slots first_broken ascends rises last_test rule_after refusal add_press advance finishing doing one_command from blank reading summary_of row_bytes operand_bytes test_bytes size_bytes quiet_bytes machine_bytes span_of parting outputs_from rule unruled transitions suspects slots site_in site_of choice_lists mutants acts step initial start_slot outputs has mark_from mark_all used_on least shows within best shortest distance compare_from compare_pair wrong_from wrong_in first_failed_in first_failed_of finding_of compare_of survivor_among judge_of first_high first_over with_mutant response_of run_on running failing compare_on comparing judge_on judging
computing = tt

-- P10's eight conforming mutants that pass are compared over all sequences of 16 inputs: a quicker judgement, proved to be
-- the same, computes it
sheet10 : Sheet
unfolding computing
sheet10 = sheet_of (reading p10)

p10-read : reading p10 ≡ accepted sheet10
unfolding computing sheet10
p10-read = refl

p10-judged : judge_of sheet10 ≡ complete
unfolding computing sheet10 tabulate cell_at rounds compare_quick first_quick judge_quick
p10-judged = quick sheet10 (well-formed p10 sheet10 p10-read)

p10-holds : judging p10 4 16 ≡ accepted complete
unfolding computing sheet10
p10-holds = ap accepted p10-judged

-- the ones of a number of 32 bits are counted bit by bit
open32-holds : running open32 (replicate 32 0) (0 ∷ 15 ∷ []) 2 ≡ ran (0 ∷ 0 ∷ []) 2 0x80000001
unfolding computing
open32-holds = ap (λ (number : ℕ). ran (0 ∷ 0 ∷ []) number 0x80000001) (ones-count 32 0x80000001 (lit< tt))

infixr 5 ◌&◌
◌&◌ : {A B : Type 0} → A → B → A × B
a & b = (a, b)

pub rows-hold : AllHold rows
unfolding computing ones rows listed further touching waking silent Holds AllHold
rows-hold = refl & refl & refl & refl & refl & refl & refl & refl & refl & refl & refl & refl & refl & refl & refl & refl & refl & refl & refl & refl & refl & refl & refl & p10-holds & refl & refl & refl & refl & refl & refl & refl & refl & refl & refl & refl & refl & refl & refl & refl & refl & refl & refl & refl & refl & refl & refl & refl & refl & refl & refl & refl & refl & refl & refl & refl & refl & refl & refl & refl & refl & refl & open32-holds & refl & refl & refl & refl & refl & refl & refl & refl & refl & refl & refl & refl & refl & refl & refl & refl & refl & refl & refl & refl & refl & refl & refl & refl & refl & refl & refl & refl & refl & refl & refl & refl & refl & refl & refl & refl & refl & refl & tt
