-- `expand`: up to the input x the pairs that entry h leads to are entered.
use native.Mathlib.Omega.{arith}
use Rattle.machine.proofs.ProductLaw.{closed}
use Rattle.machine.proofs.TreeLaw.{expanding-none, expanding-pair, expanding-more, expanding-apart, expanding-all}
use Rattle.machine.proofs.product.Search.expand.Goals as goal

pub bounds-self-h : goal.bounds-self-h
bounds-self-h c = omega (arith, c.requires.valid.1, c.requires.by_index.1.sized.room)

pub loop-x-init : goal.loop-x-init
loop-x-init c = (c.inputs-k.ensures, λ start t. expanding-none t c.requires.valid.1 c.pair_of-v.ensures)

pub lead-led-requires : goal.lead-led-requires
lead-led-requires c = let t = c.requires.by_index in
    let inside = expanding-pair (c.loop-x.invariant.1 t.0 t.1) in record { valid = c.requires.valid.0; v_bound = (inside.0, inside.1, omega (arith, c.loop-x.invariant.0, c.loop-x-test.true)) }

pub returns-in-Apart : goal.returns-in-Apart
returns-in-Apart c = let valid = c.requires.valid.0 in
    λ start t. expanding-apart (closed valid start _) valid.formed.few-states valid.formed.few-inputs (c.loop-x.invariant.1 start t)
    (omega (arith, c.loop-x.invariant.0, c.loop-x-test.true)) (c.lead-led.ensures start) c.in-Apart.is

pub enter-requires : goal.enter-requires
enter-requires c = let t = c.requires.by_index in
    let g = c.loop-x.invariant.1 t.0 t.1 in
    (g.tree.sized, omega (arith, c.from.ensures, g.there, g.tree.sized.room, c.loop-x-test.true, c.loop-x.invariant.0, c.requires.valid.0.formed.few-inputs))

pub loop-x-preserved : goal.loop-x-preserved
loop-x-preserved c = let valid = c.requires.valid.0 in
    let inv = c.loop-x.invariant in (
      inv.0,
      λ start t. expanding-more (closed valid start _) valid.formed.few-states valid.formed.few-inputs (inv.1 start t)
          (omega (arith, inv.0, c.loop-x-test.true)) (c.lead-led.ensures start)
          c.in_default.not-Apart (rw c.from.ensures at c.enter.ensures),
    )

pub returns : goal.returns
returns c = λ start t.
    let valid = c.requires.valid.0 in
    expanding-all (closed valid start _) valid.formed.few-states valid.formed.few-inputs (c.loop-x.invariant.1 start t)
    (omega (arith, c.loop-x.invariant.0))
