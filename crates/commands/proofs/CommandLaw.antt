-- The command at a place, by the definition.
use Rattle.std.proofs.Common.{◌≡◌, ℕ, ◌+◌, ◌<◌, ◌≤◌, Bool, true, false, List, length, get_or, refl, arith}
use Rattle.std.specs.Prelude.{Ok, Err}
use borrow.Author.Tests.{le-leb, lt-leb, le-ltb, lt-ltb, eq-eqb, ne_eqb}
use Rattle.sheet.specs.Reading.{Progress, go, stop, refused, finishing, doing, one_command, allowed, width, refusal}
use Rattle.sheet.specs.Tables.{refusal_of}
use Rattle.sheet.specs.laws.ReadingLaw.{known-range}
use Rattle.commands.specs.laws.FetchLaw.{UnknownAt, fetched-whole, fetched-short, fetched-none, fetched-unknown}
use Rattle.commands.specs.declared.fetch.Command.{Command as Code}
use Rattle.commands.specs.declared.fetch.Command.TheVariants as code
use Rattle.commands.specs.declared.fetch.Missing.TheVariants.{Nothing, Short, Unknown}
use Rattle.commands.specs.declared.rules.Broken.{Broken}
use Rattle.commands.specs.declared.rules.Broken.TheVariants as broken
use Rattle.commands.specs.words.Fetch.{byte_of, says, fetch_at}
use Rattle.commands.specs.words.Held.{number_of, advanced, Stands, Next}

module _ (s : List ℕ) (at rank : ℕ) where
  -- no byte, or one that may not stand here
  pub next-past : fetch_at s at ≡ Err Nothing → Next s at rank (Err (refusal_of 2 (length s)))
  unfolding one_command
  next-past i = λ p e. rw (le-leb (length s) at (fetched-none s at i))

  barred : at < length s → allowed rank (get_or s at 0) ≡ false → Next s at rank (Err (refusal_of 3 at))
  unfolding one_command
  barred h a = λ p e. rw (lt-leb (length s) at h, ← e, a)

  -- a whole command, or one whose operands are missing: may it stand here?
  pub next-whole : (command : Code) → fetch_at s at ≡ Ok command → allowed rank (byte_of command) ≡ true → Next s at rank (Ok command)
  next-whole command i a =
      let w = fetched-whole s at command i in
      record { here = w.here; byte = w.byte; allowed-is = rw w.byte at a; all = w.all; same = w.says }

  pub next-barred : (command : Code) → fetch_at s at ≡ Ok command → allowed rank (byte_of command) ≡ false → Next s at rank (Err (refusal_of 3 at))
  next-barred command i a = let w = fetched-whole s at command i in barred w.here (rw w.byte at a)

  pub next-short : (b : ℕ) → fetch_at s at ≡ Err (Short b) → allowed rank b ≡ true → Next s at rank (Err (refusal_of 2 at))
  unfolding one_command
  next-short b i a = λ p q.
      let w = fetched-short s at b i in
      rw (lt-leb (length s) at w.here, ← q, rw w.byte at a, lt-ltb (length s) (at + width (get_or s at 0)) w.few)

  pub next-short-barred : (b : ℕ) → fetch_at s at ≡ Err (Short b) → allowed rank b ≡ false → Next s at rank (Err (refusal_of 3 at))
  next-short-barred b i a = let w = fetched-short s at b i in barred w.here (rw w.byte at a)

  -- a byte that is no command's
  pub next-unknown : (b : ℕ) → fetch_at s at ≡ Err (Unknown b) → Next s at rank (Err (refusal_of 3 at))
  next-unknown b i = one (allowed rank b) refl (fetched-unknown s at b i)
    where
      one : (may : Bool) → allowed rank b ≡ may → UnknownAt s at b → Next s at rank (Err (refusal_of 3 at))
      one true a w = let k = known-range rank b a in absurd (w.unknown k.0 k.1)
      one false a w = barred w.here (rw w.byte at a)

-- a command that stands, by what comes of it
module _ (p : Progress) (s : List ℕ) (at : ℕ) {rank : ℕ} {command : Code} (e : rank ≡ p.phase) (w : Stands s at rank command) where
  pub step_end : byte_of command ≡ 6 → one_command p s at ≡ stop (finishing p.sheet s at)
  unfolding one_command doing
  step_end q = rw (lt-leb (length s) at w.here, ← e, w.allowed-is, le-ltb (length s) (at + width (get_or s at 0)) w.all, ← w.byte, eq-eqb (byte_of command) 6 q)

  pub step-go : (byte_of command ≡ 6 → ⊥) → refusal p.sheet (says command) ≡ 0
      → one_command p s at ≡ go (advanced p (byte_of command) (says command)) (at + width (byte_of command))
  unfolding one_command doing
  step-go q z = rw (lt-leb (length s) at w.here, ← e, w.allowed-is, le-ltb (length s) (at + width (get_or s at 0)) w.all, ← w.same, ← w.byte, ne_eqb (byte_of command) 6 q, z)

  pub step-refused : (byte_of command ≡ 6 → ⊥) → (n : ℕ) → refusal p.sheet (says command) ≡ n → (n ≡ 0 → ⊥) → one_command p s at ≡ stop (refused n at)
  unfolding one_command doing
  step-refused q n e' z = rw (lt-leb (length s) at w.here, ← e, w.allowed-is, le-ltb (length s) (at + width (get_or s at 0)) w.all, ← w.same, ← w.byte, ne_eqb (byte_of command) 6 q, e', ne_eqb n 0 z)

  pub stands-allowed : allowed p.phase (byte_of command) ≡ true
  stands-allowed = rw (w.byte, ← e) w.allowed-is

  pub stands-all : at + width (byte_of command) ≤ length s
  stands-all = rw w.byte w.all

-- 6 is the byte of END alone, and no broken rule has the number 0
pub not-end : (command : Code) → (command ≡ code.End → ⊥) → byte_of command ≡ 6 → ⊥
not-end (code.Size z) n e = omega arith
not-end (code.Rule r) n e = omega arith
not-end (code.Fault r) n e = omega arith
not-end code.Test n e = omega arith
not-end (code.Press x) n e = omega arith
not-end code.End n e = n refl
not-end (code.Start t) n e = omega arith
not-end code.Quiet n e = omega arith

pub numbered : (why : Broken) → number_of why ≡ 0 → ⊥
numbered broken.Size e = omega arith
numbered broken.Range e = omega arith
numbered broken.Order e = omega arith
numbered broken.NoOther e = omega arith
numbered broken.StateZero e = omega arith
numbered broken.Many e = omega arith
numbered broken.NoRule e = omega arith
