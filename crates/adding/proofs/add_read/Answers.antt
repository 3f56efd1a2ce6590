-- `add_read`: 8 for a full list, then press by press, then 1, then 16, then the longer sheet.
-- the presses lead somewhere
use Rattle.lists.specs.Proving.{arith}
use Rattle.std.proofs.Common.{rules}
use Rattle.adding.specs.Adding.{pressing}
use Rattle.adding.proofs.AddLaw.{some_bytes, adds-full, adds-pressed, adds-long, adds-short, adds-spelled, leads-on, few-presses}
use Rattle.adding.proofs.add_read.Goals as goal

pub returns-then-loaded-ge256 : goal.returns-then-loaded-ge256
returns-then-loaded-ge256 c = λ sh rd. rw c.new.ensures (adds-full rd _ _ c.if-loaded-ge256.true)

pub returns-in_err-press_all : goal.returns-in_err-press_all
returns-in_err-press_all c = λ sh rd. search (rules, adds-pressed rd c.args.presses.now c.args.buffer.now c.if-loaded-ge256.false (c.press_all.ensures sh rd.loads.tabled) c.in_err-press_all.was)

pub overflow_add-length-2 : goal.overflow_add-length-2
overflow_add-length-2 c =
    let rd = c.requires in
    omega (arith, rd.1.short, few-presses rd.0 c.args.presses.now (leads-on (pressing rd.0 0 0 c.args.presses.now) (c.press_all.ensures rd.0 rd.1.loads.tabled) c.in_ok-press_all.was))

pub returns-then-length-gt16384 : goal.returns-then-length-gt16384
returns-then-length-gt16384 c = λ sh rd. rw c.new-then-length-gt16384.ensures (adds-long rd _ _ c.if-loaded-ge256.false (c.press_all.ensures sh rd.loads.tabled) (leads-on (pressing sh 0 0 c.args.presses.now) (c.press_all.ensures sh rd.loads.tabled) c.in_ok-press_all.was) c.if-length-gt16384.true)

pub returns-then-buffer-length : goal.returns-then-buffer-length
returns-then-buffer-length c = λ sh rd. rw c.new-then-buffer-length.ensures (adds-short rd _ _ c.if-loaded-ge256.false (c.press_all.ensures sh rd.loads.tabled) (leads-on (pressing sh 0 0 c.args.presses.now) (c.press_all.ensures sh rd.loads.tabled) c.in_ok-press_all.was) (omega arith) c.if-buffer-length.true)

pub spell_longer-requires : goal.spell_longer-requires
spell_longer-requires c = let rd = c.requires.1 in (some_bytes rd c.args.presses.now, omega (arith, c.if-buffer-length.false))

pub returns : goal.returns
returns c = λ sh rd.
    adds-spelled rd _ _ c.if-loaded-ge256.false (c.press_all.ensures sh rd.loads.tabled) (leads-on (pressing sh 0 0 c.args.presses.now) (c.press_all.ensures sh rd.loads.tabled) c.in_ok-press_all.was) (omega arith) c.if-buffer-length.false c.spell_longer.ensures
