-- What steering by tests hands out, and what it leaves as it is.
use Rattle.std.specs.Prelude.{◌≡◌, List, ℕ, ◌+◌, ◌*◌, ◌<◌, length, get_or, slice_get, Some, None, cond, eqb}
use Rattle.block.specs.Layout.{slots_of}
use Rattle.cubes.specs.Sets.{Has, Joined}
use Rattle.leaves.specs.Members.{Literals}
use Rattle.leaves.specs.Noted.{Changed}
use Rattle.cursors.specs.declared.progress.Cursor.{Cursor}
use Rattle.cursors.specs.declared.progress.Wait.{Wait}
use Rattle.cursors.specs.declared.progress.Wait.TheVariants.{Reset, Suspect, Through, Failed}

-- a test before its reset: where that stands, no state yet, and that it waits for the reset
abbrev pub begin : List ℕ → ℕ → Cursor
begin facts t = record { at = get_or facts (832 + t) 0 * 65536 + get_or facts (560 + t) 0; state = None; wait = Reset }

-- what a test waits for, from a number: 254 its reset, 253 nothing as it has failed, 255 nothing as it is through, else that suspect
abbrev pub waited : ℕ → Wait
waited last = cond (eqb last 253) Failed (cond (eqb last 254) Reset (cond (eqb last 255) Through (Suspect last)))

-- each of the first n tests is before its reset
pub record Begun (n : ℕ) (facts : List ℕ) (cursors : List Cursor) : Type 0 where
  pub at : (t : ℕ) → t < n → t < length cursors → slice_get cursors t ≡ Some (begin facts t)

-- no test but those that wait for what is given has gone on
pub record Advanced (last : Wait) (old new : List Cursor) : Type 0 where
  pub long : length new ≡ length old
  pub same : (t : ℕ) (c : Cursor) → t < length old → ((get_or old t c).wait ≡ last → ⊥) → get_or new t c ≡ get_or old t c

-- the cube speaks of no suspect but those of a set
pub record SpeaksOf (set : ℕ) (cube : List ℕ) : Type 0 where
  pub free : (j : ℕ) → j < 32 → j < length cube → (Has set j → ⊥) → get_or cube j 0 ≡ 4294967295

-- a cube that was narrowed: it is still one, and speaks of no more suspects than it and the base did
pub record Narrowed (base old new : List ℕ) : Type 0 where
  pub literals : Literals old → Literals new
  pub speaks : (set : ℕ) → length base ≡ 32 → SpeaksOf set base → SpeaksOf set old → SpeaksOf set new

-- next states are noted as refuted at k = suspect * 16 + output, if there is room; but for them and the hints nothing has changed
pub record Marked (k next : ℕ) (old new : List ℕ) : Type 0 where
  pub changed : Changed 64 8768 old new
  pub dead : 64 + k < length old → Joined (get_or old (64 + k) 0) next (get_or new (64 + k) 0)

-- a slot for which tests wait; 255 is none
pub record Picked (m waiting : List ℕ) (r : ℕ) : Type 0 where
  pub slot : (r ≡ 255 → ⊥) → r < slots_of m
  pub low : (r ≡ 255 → ⊥) → r < 32
  pub wanted : (r ≡ 255 → ⊥) → get_or waiting r 0 ≡ 0 → ⊥
