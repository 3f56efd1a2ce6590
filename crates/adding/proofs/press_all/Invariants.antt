-- `press_all`: press by press, until one is refused.
use Rattle.adding.proofs.PressLaw.{Pressing}
use Rattle.adding.proofs.press_all.Given as goal

abbrev pub invariant-loop-i : goal.invariant-loop-i
invariant-loop-i l = Pressing l.block l.presses l.i l.s
