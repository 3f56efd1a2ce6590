-- `use_tried`: all tests, or those before the failed one and its inputs up to the wrong output.
use native.Mathlib.Omega.{arith}
use Rattle.usage.proofs.TriedLaw.{inside-before, tried-marked}
use Rattle.usage.proofs.tried.use_tried.Goals as goal

pub use_tests-before-requires : goal.use_tests-before-requires
use_tests-before-requires c = let reached = rw c.in-Some.is at c.requires.1 in
    inside-before c.requires.0 (omega (arith, reached.0))

pub offset_bounds-loaded-found : goal.offset_bounds-loaded-found
offset_bounds-loaded-found c = let reached = rw c.in-Some.is at c.requires.1 in
    omega (arith, c.requires.0.few, reached.0)

pub bounds-loaded-found : goal.bounds-loaded-found
bounds-loaded-found c = let reached = rw c.in-Some.is at c.requires.1 in
    omega (arith, c.requires.0.few, reached.0)

pub overflow_add-found : goal.overflow_add-found
overflow_add-found c = let reached = rw c.in-Some.is at c.requires.1 in
    omega (arith, c.requires.0.each _ reached.0, reached.1, c.well_formed)

pub mark_test-requires : goal.mark_test-requires
mark_test-requires c = let reached = rw c.in-Some.is at c.requires.1 in
    omega (arith, c.requires.0.each _ reached.0, reached.1, c.from-start.ensures)

pub returns : goal.returns
returns c = let reached = rw c.in-Some.is at c.requires.1 in
    rw c.in-Some.is (tried-marked _ _ _ _ _ _ _ reached.0 reached.1 c.use_tests-before.ensures c.from-start.ensures c.mark_test.ensures)
