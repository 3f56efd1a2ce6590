-- What the functions along a record say to one another.
use Rattle.std.specs.Prelude.{Result as Answer, Option as Maybe, Some, None}
use Rattle.std.specs.Prelude.{ℕ, ◌+◌, ◌≤◌, ◌<◌, ◌≡◌, Bool, true, List, ◌∷◌, length, drop}
use Rattle.std.proofs.Math.Option.{Option, none, some}
use Rattle.lists.specs.Options.{meant}
use Rattle.sheet.specs.declared.Refusal.{Refusal}
use Rattle.sheet.specs.Reading.{accepted}
use Rattle.sheet.specs.Tables.{answer_by}
use Rattle.model.specs.Machine.{Move}
use Rattle.block.specs.declared.layout.Step.{Step}
use Rattle.records.specs.Record.{broken_from, with_record, advance, is_wrong}
use Rattle.records.specs.declared.differ.Stepped.{Stepped}

-- 20 at the first broken command
abbrev pub whole_answer : Option ℕ → Answer (Unit {0}) Refusal
whole_answer o = answer_by (λ u. u) (with_record o (accepted tt))

-- the command v takes so many bytes
pub record TakesBytes (k m : ℕ) (pulsed : Bool) (v : ℕ) (rest : List ℕ) (n : ℕ) : Type 0 where
  pub whole : (at : ℕ) → broken_from k m pulsed 0 at (v ∷ rest) ≡ broken_from k m true 0 (at + n) (drop n (v ∷ rest))
  pub inside : n ≤ length (v ∷ rest)
  pub some : 0 < n

-- the same, or the command is broken
abbrev pub Takes : ℕ → ℕ → Bool → ℕ → List ℕ → Maybe ℕ → Type 0
Takes k m pulsed v rest None = (at : ℕ) → broken_from k m pulsed 0 at (v ∷ rest) ≡ some at
Takes k m pulsed v rest (Some n) = TakesBytes k m pulsed v rest n

-- a transition, if there is one
abbrev pub move_by : Maybe Step → Option Move
move_by None = none
move_by (Some r) = some (record { output = r.output; target = r.target })

-- the specification's state after a byte, and whether it is a SEEN whose output is wrong
pub record Steps (rule : ℕ → ℕ → Option Move) (p : Option ℕ) (v : ℕ) (rest : List ℕ) (r : Stepped) : Type 0 where
  pub wrong : r.wrong ≡ is_wrong rule p v rest
  pub state : meant r.state ≡ advance rule p v rest
