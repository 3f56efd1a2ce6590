-- Where commands stand in an accepted sheet: words for the contracts of the passes after acceptance.
use Rattle.std.specs.Prelude.{ℕ, ◌+◌, ◌*◌, ◌<◌, ◌≤◌, ◌≡◌, ◌⊎◌, Bool, false, Some, None, eqb, cond, List, [], ◌∷◌, ◌++◌, ltb, length, get_or, take, drop, replicate}
use Rattle.std.specs.Prelude.{Option as Maybe}
use Rattle.sheet.specs.declared.Span.{Span}
use Rattle.sheet.specs.declared.Row.{Row}
use Rattle.sheet.specs.declared.Size.{Size}
use Rattle.sheet.specs.declared.Summary.{Summary}
use Rattle.sheet.specs.declared.Tables.{Tables}
use Rattle.reading.specs.declared.layout.Layout.{Layout}
use Rattle.lists.specs.Lists.{All}
use Rattle.sheet.specs.Sheet.{Sheet, rows_at, unruled_choices}
use Rattle.sheet.specs.Reading.{accepted, reading, summary_of, width}
use Rattle.sheet.specs.Encode.{row_bytes, operand_bytes, start_bytes, press_bytes, test_bytes, machine_bytes}
use Rattle.sheet.specs.Tables.{first_fault, no_row}
use Rattle.sheet.specs.laws.InjectiveLaw.{Else}
use Rattle.sheet.specs.words.Tabled.{Digits, ByPair, Leads}
use Rattle.commands.specs.declared.fetch.Command.{Command}
use Rattle.commands.specs.words.Fetch.{byte_of}
use Rattle.commands.specs.words.Held.{RulesOf}

-- a command with one operand: a START or a PRESS
abbrev pub one_operand : Maybe Command → Bool
one_operand (Some c) = eqb (width (byte_of c)) 2
one_operand None = false

-- STARTs or PRESSes stand from a place to an end
pub record OperandsTo (s : List ℕ) (place end : ℕ) : Type 0 where
  pub after : place ≤ end
  pub within : end ≤ length s
  pub counted : (b : ℕ) (xs rest : List ℕ) → (b ≡ 5) ⊎ (b ≡ 7) → drop place s ≡ operand_bytes b xs ++ rest → Else 5 rest → Else 7 rest → end ≡ place + 2 * length xs

-- the PRESS commands of the test that stands at a place
pub record TestAt (s : List ℕ) (at : ℕ) (r : Span) : Type 0 where
  pub within : r.start + r.length ≤ length s
  pub found : (xs rest : List ℕ) → drop at s ≡ 4 ∷ (press_bytes xs ++ rest) → Else 5 rest → Else 7 rest → r ≡ record { start = at + 1; length = 2 * length xs }

-- the PRESS commands of the test i, of tests that stand from a place on
abbrev pub span_from : ℕ → List (List ℕ) → ℕ → Span
span_from place l i = record { start = place + length (test_bytes (take i l)) + 1; length = 2 * length (get_or l i []) }

-- rows stand from a place on as FAULTs
pub record FaultsFrom (s : List ℕ) (place : ℕ) (l : List Row) : Type 0 where
  pub rest : List ℕ
  pub bytes : drop place s ≡ row_bytes 3 l ++ rest
  pub digits : All Digits l
  pub few : length l ≤ 256

-- states stand from a place on as STARTs
pub record StartsFrom (s : List ℕ) (place : ℕ) (l : List ℕ) : Type 0 where
  pub rest : List ℕ
  pub bytes : drop place s ≡ start_bytes l ++ rest
  pub few : length l ≤ 15

-- the tests stand from a place on, and then END, in a sheet that is not too long
pub record TestsFrom (s : List ℕ) (place : ℕ) (l : List (List ℕ)) : Type 0 where
  pub bytes : drop place s ≡ test_bytes l ++ 6 ∷ []
  pub few : length l ≤ 256
  pub short : length s ≤ 16384

-- what Read told of a sheet that it accepts
pub record Told (s : List ℕ) (summary : Summary) (sh : Sheet) : Type 0 where
  pub is : reading s ≡ accepted sh
  pub same : summary ≡ summary_of sh

-- the parts of a sheet stand in its bytes where the layout says
pub record LaidOut (s : List ℕ) (sh : Sheet) (r : Layout) : Type 0 where
  pub quiet : r.quiet ≡ sh.quiet
  pub faults : FaultsFrom s r.faults sh.faults
  pub starts : StartsFrom s r.starts sh.starts
  pub waking : r.tests ≡ r.starts + 2 * length sh.starts
  pub tests : TestsFrom s r.tests sh.tests
  pub begin : r.tests ≡ length (machine_bytes sh)

-- a table of n numbers that holds f at each index
pub record Table (n : ℕ) (t : List ℕ) (f : ℕ → ℕ) : Type 0 where
  pub size : length t ≡ n
  pub at : (i : ℕ) → i < n → get_or t i 0 ≡ f i

-- the tables of rows as faults: by pair how many there are and the first one's index, by index output and next state
pub record FaultTables (t : Tables) (l : List Row) : Type 0 where
  pub counts-are : ByPair t.choices (λ s x. length (rows_at l s x))
  pub firsts-are : ByPair t.first (first_fault l)
  pub mutated-are : Table 256 t.mutated (λ i. (get_or l i no_row).output)
  pub diverted-are : Table 256 t.diverted (λ i. (get_or l i no_row).target)

-- the tables of the first n tests
pub record TestTables (t : Tables) (place : ℕ) (l : List (List ℕ)) (n : ℕ) : Type 0 where
  pub starts-are : Table 256 t.starts (λ i. cond (ltb i n) (span_from place l i).start 0)
  pub lengths-are : Table 256 t.lengths (λ i. cond (ltb i n) (length (get_or l i [])) 0)

abbrev pub size_in : Summary → Size
size_in m = record { states = m.states; inputs = m.inputs; outputs = m.outputs }

-- what counting choices starts from: the rules, how many choices a pair has without one, and how many faults each pair has
pub record Countable (unruled : ℕ) (targets counts : List ℕ) (sh : Sheet) : Type 0 where
  pub unruled-is : unruled ≡ unruled_choices sh
  pub leads : Leads targets sh.rules
  pub counts-are : ByPair counts (λ s x. length (rows_at sh.faults s x))
  pub few : length sh.faults ≤ 256

-- the tables that the passes after the rules fill, before the first
pub record Cleared (t : Tables) : Type 0 where
  pub counts-are : t.choices ≡ replicate 256 0
  pub firsts-are : t.first ≡ replicate 256 0
  pub mutated-are : t.mutated ≡ replicate 256 0
  pub diverted-are : t.diverted ≡ replicate 256 0
  pub starts-are : t.starts ≡ replicate 256 0
  pub lengths-are : t.lengths ≡ replicate 256 0

-- what filling the tables starts from
pub record Fillable (s : List ℕ) (summary : Summary) (t : Tables) (sh : Sheet) : Type 0 where
  pub told : Told s summary sh
  pub rules : RulesOf sh.rules t.output t.target
