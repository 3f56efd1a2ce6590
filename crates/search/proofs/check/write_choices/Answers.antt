-- `write_choices`: the choices before j are written.
use Rattle.std.specs.Prelude.{◌<◌}
use Rattle.std.proofs.Common.{length-take-le, get_or-take}
use Rattle.lists.specs.Proving.{arith}
use Rattle.search.proofs.CheckLaw.{choice-more, choices-written}
use Rattle.search.proofs.check.write_choices.Goals as goal

pub loop-j-preserved : goal.loop-j-preserved
loop-j-preserved c =
    let a = c.args in
    let l = c.loop-j in
    let h : l.j < a.n = omega (arith, c.loop-j-test.true, length-take-le a.n a.p.now l.invariant.1) in
    (omega arith, l.invariant.1, choice-more a.p.now a.board.now l.board l.j _ (omega (arith, l.invariant.1)) (omega (arith, c.requires.2)) l.invariant.2 (get_or-take a.n a.p.now l.j 0 h))

pub returns : goal.returns
returns c =
    let a = c.args in
    let l = c.loop-j in
    choices-written a.p.now a.board.now l.board a.n l.j l.invariant.1 l.invariant.0 (omega (arith, c.loop-j-test.false, length-take-le a.n a.p.now l.invariant.1)) l.invariant.2
