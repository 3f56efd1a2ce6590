-- `distinguish`: the entries before h are expanded, and the buffer is as it was.
use mathlib.Core.Path.{refl, ap, ◌∙◌}
use native.Mathlib.Omega.{arith}
use lib.ListN.{length}
use Rattle.machine.proofs.ProductLaw.{closed}
use Rattle.machine.proofs.TreeLaw.{room-none, tree-root, way-there, way-short, entry-low, told-apart, told_none}
use Rattle.machine.proofs.product.distinguish.Goals as goal

pub enter-requires : goal.enter-requires
enter-requires c = (room-none refl refl, omega arith)

pub loop-h-init : goal.loop-h-init
loop-h-init c = (refl, omega arith, tree-root _ c.requires.start_bound c.requires.valid.formed.few-states refl refl c.enter.ensures)

pub expand-requires : goal.expand-requires
expand-requires c = record { valid = (c.requires.valid, c.loop-h-test.true); by_index = (c.args.start, c.loop-h.invariant.2) }

pub write_path-requires : goal.write_path-requires
write_path-requires c = let v = c.requires.valid in
    let ok = rw c.in-Some.is at (c.expand.ensures c.args.start c.loop-h.invariant.2) in
    let cl = closed v c.args.start c.args.outputs.now in
    let short = way-short cl v.formed.few-states v.formed.few-inputs c.requires.start_bound ok in
    (entry-low cl v.formed.few-states v.formed.few-inputs c.requires.start_bound ok, (ok.2.path, way-there cl v.formed.few-states v.formed.few-inputs c.requires.start_bound ok, omega (arith, short, c.requires.block_in_bounds, ap length c.loop-h.invariant.0)))

pub shape_of-buf-in-Some : goal.shape_of-buf-in-Some
shape_of-buf-in-Some c = c.write_path.auto.buf ∙ ap length c.loop-h.invariant.0

pub returns-in-Some : goal.returns-in-Some
returns-in-Some c = let v = c.requires.valid in
    let ok = rw c.in-Some.is at (c.expand.ensures c.args.start c.loop-h.invariant.2) in
    let cl = closed v c.args.start c.args.outputs.now in
    let w = c.write_path.ensures ok.2.path (way-there cl v.formed.few-states v.formed.few-inputs c.requires.start_bound ok) in
    let told = told-apart cl v.formed.few-states v.formed.few-inputs c.requires.start_bound ok c.args.buf.now (rw c.loop-h.invariant.0 at w) in
    record { value = told.0; buf_after = told.1 }

pub overflow_add-h : goal.overflow_add-h
overflow_add-h c = omega (arith, c.loop-h.invariant.2.sized.room)

pub loop-h-smaller : goal.loop-h-smaller
loop-h-smaller c = omega (arith, c.loop-h.invariant.2.sized.room)

pub loop-h-preserved : goal.loop-h-preserved
loop-h-preserved c = let ok = rw c.in_default.is at (c.expand.ensures c.args.start c.loop-h.invariant.2) in
    (c.loop-h.invariant.0, omega (arith, ok.0), ok.1)

pub shape_of-buf : goal.shape_of-buf
shape_of-buf c = ap length c.loop-h.invariant.0

pub returns : goal.returns
returns c = let v = c.requires.valid in
    let inv = c.loop-h.invariant in
    let told = told_none (closed v c.args.start c.args.outputs.now) v.formed.few-states v.formed.few-inputs c.requires.start_bound inv.2 (omega (arith, inv.1, c.loop-h-test.false)) inv.0 in
    record { value = told.0; buf_after = told.1 }
