-- One test's part: the PRESS commands of a test as a part of the sheet.
use Rattle.std.specs.Prelude.{ℕ, suc, ◌+◌, ◌*◌, ◌≡◌, cond, List, [], ◌++◌, leb, length, get_or, take, drop}
use Rattle.sheet.specs.declared.Span.{Span}
use Rattle.sheet.specs.Sheet.{Sheet}
use Rattle.sheet.specs.Reading.{Result, accepted, refused, Reading, reading}
use Rattle.sheet.specs.Encode.{machine_bytes, test_bytes}

-- where the PRESS commands of test i stand: after the commands before it and its TEST, two bytes for each
unfoldable pub span_of : Sheet → ℕ → Span
span_of sh i =
    record {
      start = suc (length (machine_bytes sh ++ test_bytes (take i sh.tests)));
      length = 2 * length (get_or sh.tests i []);
    }

abbrev pub span_in : Reading → ℕ → Result Span
span_in (refused number place) i = refused number place
span_in (accepted sh) i = cond (leb (length sh.tests) i) (refused 17 0) (accepted (span_of sh i))

-- 01's One test's part: refused as reading refuses, then 17 if there is no such test
unfoldable pub parting : List ℕ → ℕ → Result Span
parting s i = span_in (reading s) i

-- the bytes handed back: none on any refusal
abbrev pub part_of : List ℕ → Result Span → List ℕ
part_of s (accepted span) = take span.length (drop span.start s)
part_of s (refused number place) = []

-- the part begins where the span says, in the sheet itself (each given as a block of memory and an offset); where the empty
-- part of a refusal lies is free
abbrev pub LiesIn : Result Span → ℕ × ℕ → ℕ × ℕ → Type 0
LiesIn (accepted span) sheet part = (part.0 ≡ sheet.0) × (part.1 ≡ sheet.1 + span.start)
LiesIn (refused number place) sheet part = Unit {0}
