-- The bytes of the sheets that 01 lists, and of a few more: a command to a line, or another sheet with commands more or less.
use Rattle.std.specs.Prelude.{ℕ, suc, List, [], ◌∷◌, ◌++◌, replicate, take, drop}
use Rattle.lists.specs.Lists.{up_to, joined}

-- P1's machine: two states, two inputs, two outputs
unfoldable pub p1machine : List ℕ
p1machine =
    0x01 ∷ 2 ∷ 2 ∷ 2 ∷
    0x02 ∷ 0 ∷ 0 ∷ 1 ∷ 1 ∷
    0x02 ∷ 0 ∷ 1 ∷ 0 ∷ 0 ∷
    0x02 ∷ 1 ∷ 0 ∷ 0 ∷ 1 ∷
    0x02 ∷ 1 ∷ 1 ∷ 1 ∷ 0 ∷
    0x03 ∷ 1 ∷ 1 ∷ 1 ∷ 1 ∷ []

unfoldable pub p1 : List ℕ
p1 = p1machine ++ 0x04 ∷ 0x05 ∷ 0 ∷ 0x05 ∷ 1 ∷ 0x06 ∷ []

unfoldable pub p2 : List ℕ
p2 = p1machine ++ 0x04 ∷ 0x05 ∷ 0 ∷ 0x05 ∷ 1 ∷ 0x05 ∷ 0 ∷ 0x06 ∷ []

unfoldable pub p3 : List ℕ
p3 = p1machine ++ 0x06 ∷ []

-- P1 with a test that has no PRESS
unfoldable pub empty_test : List ℕ
empty_test = p1machine ++ 0x04 ∷ 0x06 ∷ []

-- P1 without the RULE for (0, 1)
unfoldable pub p4machine : List ℕ
p4machine = take 9 p1machine ++ drop 14 p1machine

unfoldable pub p4 : List ℕ
p4 = p4machine ++ 0x04 ∷ 0x05 ∷ 0 ∷ 0x05 ∷ 1 ∷ 0x06 ∷ []

unfoldable pub p5 : List ℕ
p5 = p4machine ++ 0x04 ∷ 0x05 ∷ 0 ∷ 0x05 ∷ 1 ∷ 0x05 ∷ 0 ∷ 0x06 ∷ []

unfoldable pub p6 : List ℕ
p6 = 0x01 ∷ 1 ∷ 1 ∷ 1 ∷ 0x06 ∷ []

-- the machine of 000
unfoldable pub p9machine : List ℕ
p9machine =
    0x01 ∷ 4 ∷ 2 ∷ 2 ∷
    0x02 ∷ 0 ∷ 0 ∷ 0 ∷ 0 ∷
    0x02 ∷ 0 ∷ 1 ∷ 0 ∷ 1 ∷
    0x02 ∷ 1 ∷ 0 ∷ 0 ∷ 2 ∷
    0x02 ∷ 2 ∷ 0 ∷ 0 ∷ 2 ∷
    0x02 ∷ 2 ∷ 1 ∷ 0 ∷ 3 ∷
    0x02 ∷ 3 ∷ 0 ∷ 1 ∷ 0 ∷
    0x02 ∷ 3 ∷ 1 ∷ 0 ∷ 1 ∷
    0x03 ∷ 2 ∷ 0 ∷ 1 ∷ 2 ∷
    0x03 ∷ 2 ∷ 1 ∷ 0 ∷ 2 ∷
    0x03 ∷ 3 ∷ 0 ∷ 1 ∷ 1 ∷ []

-- the test bababa
unfoldable pub bababa : List ℕ
bababa = 0x04 ∷ 0x05 ∷ 1 ∷ 0x05 ∷ 0 ∷ 0x05 ∷ 1 ∷ 0x05 ∷ 0 ∷ 0x05 ∷ 1 ∷ 0x05 ∷ 0 ∷ []

unfoldable pub p9 : List ℕ
p9 = p9machine ++ (bababa ++ 0x06 ∷ [])

-- and the tests baa and babaaba
unfoldable pub p10 : List ℕ
p10 =
    p9machine ++ (bababa ++
    0x04 ∷ 0x05 ∷ 1 ∷ 0x05 ∷ 0 ∷ 0x05 ∷ 0 ∷
    0x04 ∷ 0x05 ∷ 1 ∷ 0x05 ∷ 0 ∷ 0x05 ∷ 1 ∷ 0x05 ∷ 0 ∷ 0x05 ∷ 0 ∷ 0x05 ∷ 1 ∷ 0x05 ∷ 0 ∷
    0x06 ∷ [])

-- a fault keeps the machine in state 0
unfoldable pub stuck : List ℕ
stuck =
    0x01 ∷ 2 ∷ 1 ∷ 2 ∷
    0x02 ∷ 0 ∷ 0 ∷ 0 ∷ 1 ∷
    0x02 ∷ 1 ∷ 0 ∷ 1 ∷ 0 ∷
    0x03 ∷ 0 ∷ 0 ∷ 0 ∷ 0 ∷
    0x06 ∷ []

-- sixteen states in a row, sixteen outputs, no rule at the last state: a suspect of 256 choices
unfoldable pub chain : List ℕ
chain = 0x01 ∷ 16 ∷ 1 ∷ 16 ∷ (joined (λ s. 0x02 ∷ s ∷ 0 ∷ 0 ∷ suc s ∷ []) (up_to 15) ++ 0x06 ∷ [])

-- 32 open pairs, and 33
unfoldable pub open32 : List ℕ
open32 =
    0x01 ∷ 2 ∷ 16 ∷ 1 ∷
    0x02 ∷ 0 ∷ 0 ∷ 0 ∷ 1 ∷
    0x03 ∷ 0 ∷ 0 ∷ 0 ∷ 0 ∷
    0x06 ∷ []

unfoldable pub open33 : List ℕ
open33 =
    0x01 ∷ 3 ∷ 11 ∷ 1 ∷
    0x02 ∷ 0 ∷ 0 ∷ 0 ∷ 1 ∷
    0x02 ∷ 1 ∷ 0 ∷ 0 ∷ 2 ∷
    0x03 ∷ 0 ∷ 0 ∷ 0 ∷ 0 ∷
    0x03 ∷ 1 ∷ 0 ∷ 0 ∷ 0 ∷
    0x06 ∷ []

-- P6 with n tests without a PRESS
unfoldable pub many_tests : ℕ → List ℕ
many_tests n = 0x01 ∷ 1 ∷ 1 ∷ 1 ∷ replicate n 0x04 ++ 0x06 ∷ []

-- P1 with START 1 (02, Point 5)
unfoldable pub p1start : List ℕ
p1start = p1machine ++ 0x07 ∷ 1 ∷ 0x04 ∷ 0x05 ∷ 0 ∷ 0x05 ∷ 1 ∷ 0x06 ∷ []

-- P1's RULEs alone: complete, as there is one mutant; and with START 1
unfoldable pub only_rules : List ℕ
only_rules = take 24 p1machine

unfoldable pub only_start : List ℕ
only_start = only_rules ++ 0x07 ∷ 1 ∷ 0x06 ∷ []

-- two states that give the same outputs, and START 1
unfoldable pub equal_start : List ℕ
equal_start = 0x01 ∷ 2 ∷ 1 ∷ 1 ∷ 0x02 ∷ 0 ∷ 0 ∷ 0 ∷ 1 ∷ 0x02 ∷ 1 ∷ 0 ∷ 0 ∷ 0 ∷ 0x07 ∷ 1 ∷ 0x06 ∷ []

-- 31 and 32 open pairs, and START 1
unfoldable pub start31 : List ℕ
start31 = 0x01 ∷ 2 ∷ 16 ∷ 1 ∷ 0x02 ∷ 0 ∷ 0 ∷ 0 ∷ 1 ∷ 0x07 ∷ 1 ∷ 0x06 ∷ []

unfoldable pub start32 : List ℕ
start32 = 0x01 ∷ 2 ∷ 16 ∷ 1 ∷ 0x02 ∷ 0 ∷ 0 ∷ 0 ∷ 1 ∷ 0x03 ∷ 0 ∷ 0 ∷ 0 ∷ 0 ∷ 0x07 ∷ 1 ∷ 0x06 ∷ []

-- P4 with QUIET (02, Point 7)
unfoldable pub p4silent : List ℕ
p4silent = take 4 p4machine ++ 0x08 ∷ drop 4 p4machine

unfoldable pub p4quiet : List ℕ
p4quiet = p4silent ++ 0x04 ∷ 0x05 ∷ 0 ∷ 0x05 ∷ 1 ∷ 0x06 ∷ []

-- and START 1
unfoldable pub p4quiet_start : List ℕ
p4quiet_start = p4silent ++ 0x07 ∷ 1 ∷ 0x04 ∷ 0x05 ∷ 0 ∷ 0x05 ∷ 1 ∷ 0x06 ∷ []

-- sixteen states and inputs, RULEs at 56 pairs, QUIET
unfoldable pub quiet200 : List ℕ
quiet200 =
    0x01 ∷ 16 ∷ 16 ∷ 16 ∷ 0x08 ∷
    (joined (λ s. 0x02 ∷ s ∷ 0 ∷ 0 ∷ suc s ∷ 0x02 ∷ s ∷ 1 ∷ 0 ∷ 15 ∷ 0x02 ∷ s ∷ 2 ∷ 0 ∷ s ∷ 0x02 ∷ s ∷ 3 ∷ 0 ∷ s ∷ []) (up_to 14) ++ 0x06 ∷ [])
