-- `write`: cut tables, a sheet too long, then the sheet spelled and put.
use native.Mathlib.Omega.{arith}
use mathlib.Core.Path.{sym, ◌∙◌}
use Rattle.writing.specs.Writing.{drawn}
use Rattle.writing.proofs.laws.DrawingLaw.{whole}
use Rattle.writing.proofs.WriteLaw.{Sized, write-cut, write-long, spell-room, write-spelled}
use Rattle.writing.proofs.write.Goals as goal

pub returns-then-is_cut : goal.returns-then-is_cut
returns-then-is_cut c = let a = c.args in
    let w = write-cut _ a.buffer.now (sym c.is_cut.ensures ∙ c.if-is_cut.true) _ c.new.ensures in
    record { answer = w.0; bytes = w.1.0; told = w.1.1 }

pub returns-then-is_long : goal.returns-then-is_long
returns-then-is_long c = let a = c.args in
    let d = drawn a.drawing.now in
    let z : Sized d c.is_long.result = record { uncut = sym c.is_cut.ensures ∙ c.if-is_cut.false; is = c.is_long.ensures } in
    let w = write-long z a.buffer.now c.if-is_long.true _ c.new-then-is_long.ensures in
    record { answer = w.0; bytes = w.1.0; told = w.1.1 }

pub spell-end-requires : goal.spell-end-requires
spell-end-requires c = let a = c.args in let d = drawn a.drawing.now in
    let sized : Sized d c.is_long.result = record { uncut = sym c.is_cut.ensures ∙ c.if-is_cut.false; is = c.is_long.ensures } in
    let z = sized in record { lengths_in_bounds = omega (arith, (whole _ z.uncut).tests); inputs_in_bounds = spell-room z c.if-is_long.false }

pub returns : goal.returns
returns c = let a = c.args in let d = drawn a.drawing.now in
    let sized : Sized d c.is_long.result = record { uncut = sym c.is_cut.ensures ∙ c.if-is_cut.false; is = c.is_long.ensures } in
    let w = write-spelled sized c.put.result c.args.buffer.now _ _ c.spell-end.ensures.front (c.put.ensures.value, c.put.ensures.buffer_after) in
    record { answer = w.0; bytes = w.1.0; told = w.1.1 }
