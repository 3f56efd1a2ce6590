-- 02's Point 10: two sheets of one machine become one, by computation: from the bytes, and at the limits from the sheets.
use Rattle.std.specs.Prelude.{ℕ, ◌+◌, ◌/◌, ◌%◌, ◌≡◌, refl, false, List, [], ◌∷◌, ◌++◌, map, take, drop, replicate}
use Rattle.lists.specs.Lists.{last, precedes, count, any, all, up_to}
use Rattle.sheet.specs.declared.Row.{Row as Rule}
use Rattle.sheet.specs.Sheet.{Sheet, rows_at, rule_at, after, leads, reached_within, all_reached, unruled_choices, choices_at, is_open, open_below, open_pairs, wakings, waking_choices, waking_slots, open_slots}
use Rattle.sheet.specs.Reading.{Result, accepted, refused, first_broken, ascends, rises, last_test, rule_after, refusal, add_press, advance, finishing, doing, one_command, from, blank, reading}
use Rattle.sheet.specs.Encode.{row_bytes, operand_bytes, test_bytes, size_bytes, quiet_bytes, machine_bytes, body, encode}
use Rattle.renaming.specs.Ordering.{insert, union}
use Rattle.renaming.specs.Merging.{equal, limited, merge_on, Merge, written, turned, merging}
use Rattle.worked.specs.Sheets.{p1machine, p1, p9machine, bababa}

-- two sheets, the buffer's length, and the answer
pub record Row : Type 0 where
  pub first : List ℕ
  pub second : List ℕ
  pub room : ℕ
  pub answer : Merge

abbrev row : List ℕ → List ℕ → ℕ → Merge → Row
row first second room answer = record { first = first; second = second; room = room; answer = answer }

-- the SIZE and RULEs of P1, and of P9
abbrev one : List ℕ → List ℕ
one rest = take 24 p1machine ++ (rest ++ 0x06 ∷ [])

abbrev nine : List ℕ → List ℕ
nine rest = take 39 p9machine ++ (rest ++ 0x06 ∷ [])

-- P1 with a QUIET
abbrev silent : List ℕ → List ℕ
silent rest = take 4 p1machine ++ (0x08 ∷ take 20 (drop 4 p1machine) ++ (rest ++ 0x06 ∷ []))

unfoldable pub rows : List Row
rows =
    -- P1 with another fault: faults each once, in order; a test that stands twice stays twice
    row p1 (one (0x03 ∷ 0 ∷ 0 ∷ 1 ∷ 0 ∷ 0x03 ∷ 1 ∷ 1 ∷ 1 ∷ 1 ∷ 0x04 ∷ 0x05 ∷ 0 ∷ 0x05 ∷ 1 ∷ 0x04 ∷ [])) 16384
    (written (one (0x03 ∷ 0 ∷ 0 ∷ 1 ∷ 0 ∷ 0x03 ∷ 1 ∷ 1 ∷ 1 ∷ 1 ∷ 0x04 ∷ 0x05 ∷ 0 ∷ 0x05 ∷ 1 ∷ 0x04 ∷ 0x05 ∷ 0 ∷ 0x05 ∷ 1 ∷ 0x04 ∷ [])))
    -- the other way round: the tests of the first come first
    ∷ row (one (0x03 ∷ 0 ∷ 0 ∷ 1 ∷ 0 ∷ 0x04 ∷ [])) p1 16384
    (written (one (0x03 ∷ 0 ∷ 0 ∷ 1 ∷ 0 ∷ 0x03 ∷ 1 ∷ 1 ∷ 1 ∷ 1 ∷ 0x04 ∷ 0x04 ∷ 0x05 ∷ 0 ∷ 0x05 ∷ 1 ∷ [])))
    -- STARTs from one side
    ∷ row p1 (one (0x07 ∷ 1 ∷ [])) 16384 (written (one (0x03 ∷ 1 ∷ 1 ∷ 1 ∷ 1 ∷ 0x07 ∷ 1 ∷ 0x04 ∷ 0x05 ∷ 0 ∷ 0x05 ∷ 1 ∷ [])))
    -- from both, and overlapping
    ∷ row (nine (0x07 ∷ 2 ∷ [])) (nine (0x07 ∷ 1 ∷ 0x07 ∷ 3 ∷ bababa)) 16384 (written (nine (0x07 ∷ 1 ∷ 0x07 ∷ 2 ∷ 0x07 ∷ 3 ∷ bababa)))
    ∷ row (nine (0x07 ∷ 1 ∷ 0x07 ∷ 3 ∷ [])) (nine (0x07 ∷ 2 ∷ 0x07 ∷ 3 ∷ [])) 16384 (written (nine (0x07 ∷ 1 ∷ 0x07 ∷ 2 ∷ 0x07 ∷ 3 ∷ [])))
    -- QUIET in both, and in one
    ∷ row (silent []) (silent (0x07 ∷ 1 ∷ [])) 16384 (written (silent (0x07 ∷ 1 ∷ [])))
    ∷ row (one []) (silent []) 16384 (turned 0 21 0)
    ∷ row (silent []) (one []) 16384 (turned 0 21 0)
    -- another SIZE, another RULE
    ∷ row (one []) (0x01 ∷ 2 ∷ 2 ∷ 3 ∷ drop 4 (one [])) 16384 (turned 0 21 0)
    ∷ row (one []) (take 19 p1machine ++ 0x02 ∷ 1 ∷ 1 ∷ 0 ∷ 0 ∷ 0x06 ∷ []) 16384 (turned 0 21 0)
    -- a short buffer comes before that
    ∷ row (one []) (silent []) 16383 (turned 0 16 0)
    -- a refusal on reading comes before all: the first sheet's, then the second's
    ∷ row (0x01 ∷ 2 ∷ 1 ∷ 1 ∷ 0x06 ∷ []) [] 0 (turned 1 11 4)
    ∷ row (one []) (0x01 ∷ 2 ∷ 1 ∷ 1 ∷ 0x06 ∷ []) 0 (turned 2 11 4)
    -- 128 tests and 128, then one more
    ∷ row (one (replicate 128 0x04)) (one (replicate 128 0x04)) 16384 (written (one (replicate 256 0x04)))
    ∷ row (one (replicate 128 0x04)) (one (replicate 129 0x04)) 16384 (turned 0 8 0)
    ∷ []

pub merged-so : map (λ (r : Row). merging r.first r.second r.room) rows ≡ map (λ (r : Row). r.answer) rows
unfolding rows p1machine p1 p9machine bababa up_to rows_at rule_at after leads reached_within all_reached unruled_choices choices_at is_open open_below open_pairs wakings waking_choices waking_slots open_slots first_broken ascends rises last_test rule_after refusal add_press advance finishing doing one_command from blank reading row_bytes operand_bytes test_bytes size_bytes quiet_bytes machine_bytes body encode last precedes count any all insert union equal limited merge_on merging
merged-so = refl

-- ---- the limits, alone and together: two sheets of one machine of 4 states and 16 inputs with a RULE at each pair
abbrev rule : ℕ → ℕ → ℕ → ℕ → Rule
rule s x o t = record { source = s; input = x; output = o; target = t }

abbrev sheet : List Rule → List ℕ → List (List ℕ) → Sheet
sheet faults starts tests =
    record {
      size = record { states = 4; inputs = 16; outputs = 16 };
      quiet = false;
      rules = map (λ i. rule (i / 16) (i % 16) 0 ((i / 16 + 1) % 4)) (up_to 64);
      faults = faults;
      starts = starts;
      tests = tests;
    }

-- one fault at each of the pairs from a to b, or many at few pairs: ascending
abbrev spread : ℕ → ℕ → List Rule
spread a n = map (λ i. rule ((a + i) / 16) ((a + i) % 16) 1 0) (up_to n)

abbrev dense : ℕ → ℕ → List Rule
dense a n = map (λ i. rule 0 ((a + i) / 33) (1 + (a + i) % 33 / 4) ((a + i) % 33 % 4)) (up_to n)

-- 40 tests of 200 inputs and one of 9 make up 16,384 bytes
abbrev long : ℕ → List (List ℕ)
long n = replicate n (replicate 200 0)

-- two sheets and the number that turns them away, 0 for none
pub record Limit : Type 0 where
  pub first : Sheet
  pub second : Sheet
  pub number : ℕ

abbrev limit : Sheet → Sheet → ℕ → Limit
limit first second number = record { first = first; second = second; number = number }

abbrev number_of : Result Sheet → ℕ
number_of (accepted m) = 0
number_of (refused number place) = number

unfoldable pub limits : List Limit
limits =
    -- 256 FAULTs, and one more; the same FAULT counts once
    limit (sheet (dense 0 128) [] []) (sheet (dense 128 128) [] []) 0
    ∷ limit (sheet (dense 0 128) [] []) (sheet (dense 128 129) [] []) 8
    ∷ limit (sheet (dense 0 200) [] []) (sheet (dense 100 156) [] []) 0
    -- 256 tests, and one more
    ∷ limit (sheet [] [] (replicate 256 [])) (sheet [] [] []) 0
    ∷ limit (sheet [] [] (replicate 256 [])) (sheet [] [] ([] ∷ [])) 8
    -- 32 open pairs, and one more, which may be where a board wakes
    ∷ limit (sheet (spread 0 16) [] []) (sheet (spread 16 16) [] []) 0
    ∷ limit (sheet (spread 0 16) [] []) (sheet (spread 16 17) [] []) 12
    ∷ limit (sheet (spread 0 16) [] []) (sheet (spread 16 16) (3 ∷ []) []) 12
    ∷ limit (sheet (spread 0 16) (1 ∷ []) []) (sheet (spread 16 15) (3 ∷ []) []) 0
    -- 16,384 bytes, and one more
    ∷ limit (sheet [] [] (long 20)) (sheet [] [] (replicate 9 0 ∷ long 20)) 0
    ∷ limit (sheet [] [] (long 20)) (sheet [] [] ([] ∷ replicate 9 0 ∷ long 20)) 1
    -- 8 before 12, 12 before 1, 8 before 1
    ∷ limit (sheet (dense 0 128) [] []) (sheet (dense 128 129 ++ spread 16 30) [] []) 8
    ∷ limit (sheet (spread 0 16) [] (long 20)) (sheet (spread 16 17) [] (long 21)) 12
    ∷ limit (sheet [] [] (replicate 129 [])) (sheet [] [] (replicate 128 [] ++ long 40)) 8
    ∷ []

pub limited-so : map (λ (r : Limit). number_of (merge_on r.first r.second 16384)) limits ≡ map (λ (r : Limit). r.number) limits
unfolding limits up_to rows_at rule_at unruled_choices choices_at is_open open_below open_pairs wakings waking_choices waking_slots open_slots row_bytes operand_bytes test_bytes size_bytes quiet_bytes machine_bytes body encode precedes count insert union equal limited merge_on
limited-so = refl
