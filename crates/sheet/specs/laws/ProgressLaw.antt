-- A reading on its way: from here on it ends as the whole reading does.
use Rattle.std.specs.Prelude.{◌≡◌, refl, true, false, List, eqb}
use Rattle.std.proofs.Math.Path.{sym}
use Prim.Native.Nat.{ℕ, zero, suc, ◌+◌, ◌<◌, ◌≤◌}
use Rattle.std.proofs.Common.{arith}
use Rattle.std.proofs.Math.ListN.{length}
use borrow.Author.Tests.{lt-leb, le-leb, le-ltb}
use Rattle.sheet.specs.Sheet.{Sheet, all_reached, open_slots}
use Rattle.sheet.specs.Reading.{accepted, Command, Progress, sized, testing, phase_after, during, allowed, width, command_of, go, stop, finishing, doing, one_command, from, blank, reading}
use Rattle.sheet.specs.laws.BrokenLaw.{unbroken-all}
use Rattle.sheet.specs.laws.ReadingLaw.{Stands, next, Moves, by_size, by-quiet, by-rule, by-fault, by-start, by-test, by-press, moves-on, Ends, checks}

-- enough fuel is left
pub record Going (s : List ℕ) (p : Progress) (at : ℕ) : Type 0 where
  pub fuel : ℕ
  pub enough : length s < fuel + at
  pub rest : from fuel p s at ≡ reading s

-- at the start
pub going_start : (s : List ℕ) → length s ≤ 16384 → Going s blank 0
unfolding reading
going_start s k = record { fuel = length s + 1; enough = omega arith; rest = rw (le-ltb 16384 (length s) k) }

module _ {p : Progress} {s : List ℕ} {at : ℕ} where
  -- a command that may stand here leads on
  steps : {b earliest latest : ℕ} {c : Command} → Stands p s at b earliest latest c → 1 ≤ width b → allowed p.phase b ≡ during earliest latest p.phase
      → command_of b s at ≡ c → eqb b 6 ≡ false → one_command p s at ≡ go (next p (phase_after b) c) (at + width b)
  unfolding one_command doing
  steps {b} {earliest} {latest} {c} m wide may says more =
      rw (lt-leb (length s) at (omega arith), m.byte, may, le-leb earliest p.phase m.early, le-leb p.phase latest m.late, le-ltb (length s) (at + width b) m.room, more, says, m.right)

  pub stepped : {q : Progress} {e : ℕ} → Moves p s at q e → one_command p s at ≡ go q e
  stepped (by_size m) = steps m (omega arith) refl refl refl
  stepped (by-quiet m) = steps m (omega arith) refl refl refl
  stepped (by-rule m) = steps m (omega arith) refl refl refl
  stepped (by-fault m) = steps m (omega arith) refl refl refl
  stepped (by-start m) = steps m (omega arith) refl refl refl
  stepped (by-test m) = steps m (omega arith) refl refl refl
  stepped (by-press m) = steps m (omega arith) refl refl refl

  -- END stops it
  pub stopped : Ends p s at → one_command p s at ≡ stop (finishing p.sheet s at)
  unfolding one_command doing
  stopped m = rw (lt-leb (length s) at (omega arith), m.byte, le-leb sized p.phase m.early, le-leb p.phase testing m.late, le-ltb (length s) (at + 1) m.room)

  -- with one command more
  pub going_on : {q : Progress} {e : ℕ} → Going s p at → Moves p s at q e → Going s q e
  unfolding from
  going_on {q} {e} g m = one g.fuel g.enough g.rest
    where
      one : (f : ℕ) → length s < f + at → from f p s at ≡ reading s → Going s q e
      one zero k r = let far = moves-on m in absurd (omega arith)
      one (suc f) k r = let far = moves-on m in record { fuel = f; enough = omega arith; rest = rw (stepped m) at r }

  -- at END
  pub going_end : Going s p at → Ends p s at → reading s ≡ finishing p.sheet s at
  unfolding from
  going_end g m = one g.fuel g.enough g.rest
    where
      one : (f : ℕ) → length s < f + at → from f p s at ≡ reading s → reading s ≡ finishing p.sheet s at
      one zero k r = let room = m.room in absurd (omega arith)
      one (suc f) k r = sym (rw (stopped m) at r)

-- END accepts
pub finishes : (sh : Sheet) (s : List ℕ) (at : ℕ) → length s ≤ at + 1 → all_reached sh ≡ true → open_slots sh ≤ 32 → finishing sh s at ≡ accepted sh
unfolding finishing
finishes sh s at k r o = rw (le-ltb (at + 1) (length s) k, unbroken-all (checks sh) (rw r refl, (le-ltb 32 (open_slots sh) o, tt)))
