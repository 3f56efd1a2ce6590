-- Words for the contracts of the station's own functions.
use Rattle.std.specs.Prelude.{Result as Answer}
use Rattle.std.specs.Prelude.{Option as Maybe, Some, None, Ok, Err}
use Rattle.std.specs.Prelude.{ℕ, ◌+◌, ◌≤◌, ◌≡◌, List, length, take, drop}
use Rattle.sheet.specs.declared.Refusal.{Refusal}
use Rattle.sheet.specs.declared.Span.{Span}
use Rattle.sheet.specs.declared.Tables.{Tables}
use Rattle.sheet.specs.Sheet.{Sheet, rule_at}
use Rattle.sheet.specs.Reading.{Result, accepted, reading}
use Rattle.sheet.specs.Tables.{refusal_of, answer_by}
use Rattle.sheet.specs.Encode.{press_bytes, test_bytes}
use Rattle.sheet.specs.WellFormed.{TestIn, WellFormed}
use Rattle.sheet.specs.words.Tabled.{ByPair, rule_output, rule_target}
use Rattle.station.specs.Station.{head_bytes}

abbrev pub suited_answer : Result Sheet → Answer (Unit {0}) Refusal
suited_answer r = answer_by (λ sh. tt) r

-- by what judging answers
abbrev pub suited_by : Answer (Maybe ℕ) Refusal → Answer (Unit {0}) Refusal
suited_by (Ok None) = Ok tt
suited_by (Ok (Some d)) = Err (refusal_of 22 0)
suited_by (Err why) = Err why

-- the tables of an accepted sheet's rules
pub record Ruled (sh : Sheet) (s : List ℕ) (tables : Tables) : Type 0 where
  pub read : reading s ≡ accepted sh
  pub outputs-are : ByPair tables.output (λ p x. rule_output (rule_at sh.rules p x))
  pub targets-are : ByPair tables.target (λ p x. rule_target (rule_at sh.rules p x))

-- a test of a sheet by its PRESS commands, and the tables of the rules
pub record Walk (sh : Sheet) (t part : List ℕ) (tables : Tables) : Type 0 where
  pub formed : WellFormed sh
  pub test : TestIn sh.rules t
  pub bytes : part ≡ press_bytes t
  pub outputs-are : ByPair tables.output (λ p x. rule_output (rule_at sh.rules p x))
  pub targets-are : ByPair tables.target (λ p x. rule_target (rule_at sh.rules p x))

-- an accepted sheet has so many tests at least
pub record TestsOf (sh : Sheet) (s : List ℕ) (tests : ℕ) : Type 0 where
  pub read : reading s ≡ accepted sh
  pub few : tests ≤ length sh.tests

-- where SIZE, QUIET and the RULEs end; where the first tests stand
pub record HeadIn (sh : Sheet) (s : List ℕ) (n : ℕ) : Type 0 where
  pub inside : n ≤ length s
  pub bytes : take n s ≡ head_bytes sh

pub record TestsIn (sh : Sheet) (s : List ℕ) (tests : ℕ) (r : Span) : Type 0 where
  pub inside : r.start + r.length ≤ length s
  pub bytes : take r.length (drop r.start s) ≡ test_bytes (take tests sh.tests)
