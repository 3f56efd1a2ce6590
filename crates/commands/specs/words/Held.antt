-- What the code's counters and tables say of what was read: words for the contracts of the crate's own functions.
use Rattle.std.specs.Prelude.{Option as Maybe}
use Rattle.std.specs.Prelude.{Some, None, suc, ℕ, ◌+◌, ◌<◌, ◌≤◌, ◌≡◌, true, List, length, get_or, Ok, Err}
use Rattle.std.specs.Prelude.{Result as Answer}
use Rattle.std.proofs.Math.Option.{some}
use Rattle.sheet.specs.declared.Row.{Row}
use Rattle.sheet.specs.declared.Refusal.{Refusal}
use Rattle.sheet.specs.declared.Summary.{Summary}
use Rattle.commands.specs.declared.fetch.Command.{Command as Code}
use Rattle.commands.specs.declared.rules.Phase.{Phase}
use Rattle.commands.specs.declared.rules.Phase.TheVariants as phase
use Rattle.commands.specs.declared.rules.Broken.{Broken}
use Rattle.commands.specs.declared.rules.Broken.TheVariants as broken
use Rattle.commands.specs.declared.rules.Listed.{Listed}
use Rattle.commands.specs.declared.rules.Tests.{Tests}
use Rattle.commands.specs.declared.rules.State.{State}
use Rattle.lists.specs.Lists.{last, All}
use Rattle.sheet.specs.Sheet.{Sheet, rows_at, rule_at, after}
use Rattle.sheet.specs.Reading.{Reading, accepted, refused, Command, Progress, stop, unsized, sized, quieted, ruled, faulted, started, testing, allowed, phase_after, width, command_of, last_test, refusal, advance, one_command}
use Rattle.sheet.specs.laws.PhaseLaw.{Ordered}
use Rattle.sheet.specs.words.Tabled.{Within16, Digits, pair_key, row_key, next_key, ByPair, rule_output, Leads, present, StartsHold}
use Rattle.ending.specs.words.Ending.{end_of}
use Rattle.commands.specs.words.Fetch.{byte_of, says}

-- a phase's rank
abbrev pub rank_of : Phase → ℕ
rank_of phase.Unsized = unsized
rank_of phase.Sized = sized
rank_of phase.Quieted = quieted
rank_of phase.Ruled = ruled
rank_of phase.Faulted = faulted
rank_of phase.Started = started
rank_of phase.Testing = testing

-- the number of a broken rule
abbrev pub number_of : Broken → ℕ
number_of broken.Size = 4
number_of broken.Range = 5
number_of broken.Order = 6
number_of broken.NoOther = 7
number_of broken.StateZero = 7
number_of broken.Many = 8
number_of broken.NoRule = 9

-- one more than the last one's key, 0 before the first
abbrev pub after_last : Maybe ℕ → ℕ
after_last None = 0
after_last (Some key) = suc key

pub record RulesHold (t : Listed) (os ts : List ℕ) (l : List Row) : Type 0 where
  pub count : t.count ≡ length l
  pub key : after_last t.last ≡ next_key pair_key (last l)
  pub most : t.count ≤ after_last t.last
  pub least : after_last t.last ≤ 256
  pub below : All (λ r. pair_key r < after_last t.last) l
  pub outputs : ByPair os (λ s x. rule_output (rule_at l s x))
  pub targets : Leads ts l

pub record FaultsHold (t : Listed) (ms : List ℕ) (l : List Row) : Type 0 where
  pub count : t.count ≡ length l
  pub most : t.count ≤ 256
  pub key : after_last t.last ≡ next_key row_key (last l)
  pub digits : All Digits l
  pub marks : ByPair ms (λ s x. present (rows_at l s x))

pub record TestsHold (t : Tests) (rules : List Row) (l : List (List ℕ)) : Type 0 where
  pub count : t.count ≡ length l
  pub most : t.count ≤ 256
  pub inputs : t.inputs ≡ length (last_test l)
  pub most-inputs : t.inputs ≤ 256
  pub state : after rules 0 (last_test l) ≡ some t.state
  pub digit : t.state < 16

-- the state says what is read so far
pub record Holds (c : State) (p : Progress) : Type 0 where
  pub phase : rank_of c.phase ≡ p.phase
  pub size : c.size ≡ p.sheet.size
  pub quiet : c.quiet ≡ p.sheet.quiet
  pub bounds : Within16 c.size
  pub rules : RulesHold c.rules c.output c.target p.sheet.rules
  pub faults : FaultsHold c.faults c.faulty p.sheet.faults
  pub starts : StartsHold c.starts p.sheet.starts
  pub tests : TestsHold c.tests p.sheet.rules p.sheet.tests
  pub ordered : Ordered p

abbrev pub advanced : Progress → ℕ → Command → Progress
advanced p b command = record { phase = phase_after b; sheet = advance p.sheet command }

-- what comes of one command: the definition's refusal, or what the command adds
abbrev pub Applies : Progress → ℕ → Command → Answer (Unit {0}) Broken → State → Type 0
Applies p b command (Ok done) c = (refusal p.sheet command ≡ 0) × Holds c (advanced p b command)
Applies p b command (Err why) c = refusal p.sheet command ≡ number_of why

-- a whole command stands at a place, and may in this phase
pub record Stands (s : List ℕ) (at rank : ℕ) (command : Code) : Type 0 where
  pub here : at < length s
  pub byte : byte_of command ≡ get_or s at 0
  pub allowed-is : allowed rank (get_or s at 0) ≡ true
  pub all : at + width (get_or s at 0) ≤ length s
  pub same : says command ≡ command_of (get_or s at 0) s at

-- the next command, or why the reading ends before its own rules
abbrev pub Next : List ℕ → ℕ → ℕ → Answer Code Refusal → Type 0
Next s at rank (Ok command) = Stands s at rank command
Next s at rank (Err why) = (p : Progress) → rank ≡ p.phase → one_command p s at ≡ stop (refused why.number why.place)

-- the state is that of a sheet
pub record HeldOf (c : State) (sh : Sheet) : Type 0 where
  pub progress : Progress
  pub same : progress.sheet ≡ sh
  pub holds : Holds c progress

abbrev pub HeldFor : State → Reading → Type 0
HeldFor c (accepted sh) = HeldOf c sh
HeldFor c (refused number place) = Unit {0}

-- a whole sheet
pub record Scanned (d : Reading) (r : Answer ℕ Refusal) (c : State) : Type 0 where
  pub end : r ≡ end_of d
  pub state : HeldFor c d

-- what Read tells of a state, with the number of open pairs
abbrev pub summary_by : State → ℕ → Summary
summary_by c n =
    record {
      states = c.size.states;
      inputs = c.size.inputs;
      outputs = c.size.outputs;
      rules = c.rules.count;
      faults = c.faults.count;
      tests = c.tests.count;
      suspects = n;
    }

-- the tables of a sheet's rules
pub record RulesOf (rules : List Row) (os ts : List ℕ) : Type 0 where
  pub outputs-are : ByPair os (λ s x. rule_output (rule_at rules s x))
  pub leads : Leads ts rules

abbrev pub RulesIn : Reading → List ℕ → List ℕ → Type 0
RulesIn (accepted sh) os ts = RulesOf sh.rules os ts
RulesIn (refused number place) os ts = Unit {0}
