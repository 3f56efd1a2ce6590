-- `widened`: the choices before i are the bytes, and the others are 0.
use Prim.Native.Nat.{ℕ, ◌<◌, ◌≤◌}
use mathlib.Core.Path.{◌≡◌}
use lib.ListN.{length, get_or}
use Rattle.machine.proofs.laying.widened.Given as goal

abbrev pub invariant-loop-i : goal.invariant-loop-i
invariant-loop-i l = (length l.p ≡ 32) × ((t : ℕ) → t < l.i → get_or l.p t 0 ≡ get_or l.bytes t 0) × ((t : ℕ) → l.i ≤ t → get_or l.p t 0 ≡ 0)
