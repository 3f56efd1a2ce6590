use Rattle.std.specs.Prelude.{◌+◌, ◌*◌}
use Rattle.lists.specs.Proving.{arith}
use Rattle.cubes.specs.laws.FreeLaw.{entered-not, step-few, entered}
use Rattle.cubes.proofs.tables.enter.Goals as goal

pub returns-then-o-ge16 : goal.returns-then-o-ge16
returns-then-o-ge16 c = entered-not

pub put-requires : goal.put-requires
put-requires c =
    (c.requires.5, omega (arith, c.wide.ensures, c.wide-2.ensures, c.if-o-ge16.false, c.requires.3), step-few c.requires.0 c.requires.1 c.requires.2 c.requires.3 c.requires.4 c.transition-step.ensures)

pub returns : goal.returns
returns c =
    let i = c.wide in
    let o = c.wide-2 in
    entered (i.result * 16 + o.result) (512 + c.wide-3.result) c.requires.0 c.requires.1 c.requires.2 c.requires.3 c.requires.4 c.transition-step.ensures (omega (arith, c.if-o-ge16.false)) (rw (i.ensures.0, o.ensures.0)) (rw c.wide-3.ensures.0) c.put.ensures c.put-2.ensures
