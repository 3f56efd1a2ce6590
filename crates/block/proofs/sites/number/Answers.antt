-- `number`: what holds after the pairs before an index.
use Rattle.std.specs.Prelude.{◌<◌}
use Rattle.lists.specs.Proving.{arith, refl, sym, ◌∙◌, replicate}
use Rattle.block.specs.Sites.{waking_first}
use Rattle.block.proofs.SitesLaw.{number-start, number-open, number-shut, number-end, few-before, room}
use Rattle.block.proofs.sites.number.Goals as goal
use Rattle.block.proofs.sites.number.Goals.{then-is_open, else-is_open}

pub loop-i-init : goal.loop-i-init
loop-i-init c = let a = c.args in
    let first = c.waking_slot-first in
    number-start (waking_first a.waking) a.n a.k a.choices.now (replicate 256 255) first.result.sizes first.result.count refl first.ensures.0 first.ensures.1

pub overflow_cast-site : goal.overflow_cast-site
overflow_cast-site c = let space : c.loop-i.count < 32 = let a = c.args in
    let p = c.requires in
    let l = c.loop-i in
    omega (arith, l.invariant.counts, room (waking_first a.waking) a.n a.k a.choices.now l.i (omega arith) p.1 (sym (c.is_open.ensures a.n (omega arith)) ∙ c.if-is_open.true)) in
    omega (arith, space)

pub offset_bounds-slots-count : goal.offset_bounds-slots-count
offset_bounds-slots-count c = let space : c.loop-i.count < 32 = let a = c.args in
    let p = c.requires in
    let l = c.loop-i in
    omega (arith, l.invariant.counts, room (waking_first a.waking) a.n a.k a.choices.now l.i (omega arith) p.1 (sym (c.is_open.ensures a.n (omega arith)) ∙ c.if-is_open.true)) in
    omega (arith, space)

pub bounds-slots-count : goal.bounds-slots-count
bounds-slots-count c = let space : c.loop-i.count < 32 = let a = c.args in
    let p = c.requires in
    let l = c.loop-i in
    omega (arith, l.invariant.counts, room (waking_first a.waking) a.n a.k a.choices.now l.i (omega arith) p.1 (sym (c.is_open.ensures a.n (omega arith)) ∙ c.if-is_open.true)) in
    omega (arith, space)

pub bounds-pairs-count : goal.bounds-pairs-count
bounds-pairs-count c = let space : c.loop-i.count < 32 = let a = c.args in
    let p = c.requires in
    let l = c.loop-i in
    omega (arith, l.invariant.counts, room (waking_first a.waking) a.n a.k a.choices.now l.i (omega arith) p.1 (sym (c.is_open.ensures a.n (omega arith)) ∙ c.if-is_open.true)) in
    omega (arith, space)

pub overflow_add-count : goal.overflow_add-count
overflow_add-count c = let space : c.loop-i.count < 32 = let a = c.args in
    let p = c.requires in
    let l = c.loop-i in
    omega (arith, l.invariant.counts, room (waking_first a.waking) a.n a.k a.choices.now l.i (omega arith) p.1 (sym (c.is_open.ensures a.n (omega arith)) ∙ c.if-is_open.true)) in
    omega (arith, space)

pub loop-i-preserved : goal.loop-i-preserved
loop-i-preserved c = let a = c.args in
    let p = c.requires in
    let l = c.loop-i in
    let e = sym (c.is_open.ensures a.n (omega arith)) in
    elim c.if-is_open.branch [
      | then-is_open w ↦ rw (w.site-is, w.slots-is, w.count-is) (number-open (waking_first a.waking) a.n a.k a.choices.now l.site l.slots l.count l.i l.invariant (omega arith) p.1 (e ∙ w.if-is_open.true))
      | else-is_open w ↦ rw (w.site-is, w.slots-is, w.count-is) (number-shut (waking_first a.waking) a.n a.k a.choices.now l.site l.slots l.count l.i l.invariant (omega arith) (e ∙ w.if-is_open.false))
    ]

pub overflow_cast-result : goal.overflow_cast-result
overflow_cast-result c = let a = c.args in
    let l = c.loop-i in
    omega (arith, l.invariant.counts, few-before (waking_first a.waking) a.n a.k a.choices.now l.i l.invariant.most c.requires.1)

pub returns : goal.returns
returns c = let a = c.args in let l = c.loop-i in number-end (waking_first a.waking) a.n a.k a.choices.now l.site l.slots l.pairs l.count l.i l.invariant c.loop-i-test.false
