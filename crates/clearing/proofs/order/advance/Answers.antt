-- `advance`: the slots above the highest of the set have no choice left.
use borrow.Author.Rules.{rules}
use native.Mathlib.Omega.{arith}
use Rattle.clearing.proofs.OrderLaw.{advancing-none, advancing-more, advancing-ends, advancing-falls, few-choices, blame-long}
use Rattle.clearing.proofs.order.advance.Goals as goal

pub loop-clearing-init : goal.loop-clearing-init
loop-clearing-init c = advancing-none c.requires

pub highest-j-requires : goal.highest-j-requires
highest-j-requires c = omega (arith, c.loop-clearing-test.true)

pub offset_bounds-blame-i : goal.offset_bounds-blame-i
offset_bounds-blame-i c = record { fits = omega (arith, c.from-i.ensures, c.highest-j.ensures.low) }

pub bounds-blame-i : goal.bounds-blame-i
bounds-blame-i c = omega (arith, c.from-i.ensures, c.highest-j.ensures.low)

pub before-requires : goal.before-requires
before-requires c = c.highest-j.ensures.low

pub choices-requires : goal.choices-requires
choices-requires c = c.highest-j.ensures.low

pub settle-requires : goal.settle-requires
settle-requires c = let inv = c.loop-clearing.invariant in
    (omega (arith, c.from-i.ensures, c.highest-j.ensures.low), (few-choices inv).0, blame-long inv)

pub returns-then-clearing-choices : goal.returns-then-clearing-choices
returns-then-clearing-choices c = let inv = c.loop-clearing.invariant in
    advancing-ends inv c.highest-j.ensures c.from-i.ensures (rw c.before-in-loop-clearing.ensures at c.union-others.ensures) (search rules)
    (rw c.choices.ensures at c.if-clearing-choices.true) (rw c.from-i.ensures at c.settle.ensures.0) (rw c.from-i.ensures at c.settle.ensures.1)

pub offset_bounds-blame-i-in-loop-clearing : goal.offset_bounds-blame-i-in-loop-clearing
offset_bounds-blame-i-in-loop-clearing c = record { fits = omega (arith, c.from-i.ensures, c.highest-j.ensures.low) }

pub bounds-blame-i-in-loop-clearing : goal.bounds-blame-i-in-loop-clearing
bounds-blame-i-in-loop-clearing c = omega (arith, c.from-i.ensures, c.highest-j.ensures.low)

pub choices_at-clearing-requires : goal.choices_at-clearing-requires
choices_at-clearing-requires c = few-choices c.loop-clearing.invariant

pub loop-clearing-smaller : goal.loop-clearing-smaller
loop-clearing-smaller c = let inv = c.loop-clearing.invariant in
    rw c.choices_at-clearing.ensures.0 (advancing-falls inv c.highest-j.ensures c.from-i.ensures (rw c.before-in-loop-clearing.ensures at c.union-others.ensures) (search rules)
    (rw c.choices.ensures at c.if-clearing-choices.false))

pub loop-clearing-preserved : goal.loop-clearing-preserved
loop-clearing-preserved c = let inv = c.loop-clearing.invariant in
    rw c.choices_at-clearing.ensures.0 (advancing-more inv c.highest-j.ensures c.from-i.ensures (rw c.before-in-loop-clearing.ensures at c.union-others.ensures) (search rules)
    (rw c.choices.ensures at c.if-clearing-choices.false) c.from-i.ensures c.choices_at-clearing.ensures.1)

pub returns : goal.returns
returns c = λ sh tb sw re. (c.loop-clearing.invariant.each sh tb sw re).1.all c.loop-clearing-test.false
