use Rattle.std.proofs.Common.{◌<◌, length, arith}
use Rattle.reading.proofs.FillLaw as laws
use Rattle.reading.proofs.filling.wakings_from.Goals as goal
use Rattle.reading.proofs.filling.wakings_from.Goals.{in-Some, in_default}

pub overflow_add-place : goal.overflow_add-place
overflow_add-place c = let room = laws.start-room c.requires.1 c.loop-i.i (omega (arith, c.requires.2)) in omega arith

pub loop-i-preserved : goal.loop-i-preserved
loop-i-preserved c = λ l from e.
    let h : c.loop-i.i < length l = omega arith in
    let there = c.start_at.ensures _ (laws.start-there from c.loop-i.i h) in
    elim c.match-start_at.branch [
      | in-Some w ↦ rw w.wakings-is (laws.waking-next from c.loop-i.i h _ _ (cc) (c.loop-i.invariant l from e))
      | in_default w ↦ (let none = w.in_default.is in cc)
    ]
