use native.Mathlib.Omega.{arith}
use Rattle.clearing.proofs.AskLaw.{refutes-none, refutes-some}
use Rattle.clearing.proofs.ask.cleared_by.Goals as goal

pub returns-then-by-eq0 : goal.returns-then-by-eq0
returns-then-by-eq0 c = refutes-none c.requires.0 c.requires.1 c.spoken-by.ensures c.if-by-eq0.true

pub pass-requires : goal.pass-requires
pass-requires c = let top = c.highest-j.ensures in (c.requires.0, top.low, omega (arith, c.requires.1.low c.from-i.result (omega (arith, c.from-i.ensures, top.low)), c.requires.0.choices c.from-i.result (omega (arith, c.from-i.ensures, top.low))))

pub returns : goal.returns
returns c = refutes-some c.requires.0 c.requires.1 c.spoken-by.ensures c.highest-j.ensures c.from-i.ensures c.from-i.ensures c.pass.ensures
