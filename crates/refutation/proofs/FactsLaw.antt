-- The facts of a block and a log, as they are filled.
use Rattle.lists.specs.Proving.{arith, ℕ, inl, List}
use Rattle.block.specs.Tabulated.{Wf}
use Rattle.cubes.specs.Cube.{FreeOk}
use Rattle.cubes.specs.laws.FreeLaw.{free-kept}
use Rattle.cursors.specs.FactsKept.{FactsKept}
use Rattle.mirror.specs.Mirror.{Exchanged}
use Rattle.mirror.specs.laws.MirrorLaw.{swaps-kept}
use Rattle.nodes.specs.Refuting.{Ready}

-- what suspects can do, which states can be exchanged, where the tests begin: each leaves what was there
pub prepared : {m entered swapped facts : List ℕ} → Wf m → FreeOk m entered → Exchanged m entered swapped → FactsKept swapped facts → Ready m facts
prepared {m} {entered} {swapped} {facts} wf free ex kept =
    let after : FreeOk m swapped = free-kept wf (λ j l. ex.others j (inl l)) free in
    record { wf = wf; free = free-kept wf (λ j l. kept.same j (omega arith)) after; swaps = swaps-kept kept.same ex.swaps }

-- the table of tests is no part of them
pub ready-kept : {m old new : List ℕ} → FactsKept old new → Ready m old → Ready m new
ready-kept kept r = record { wf = r.wf; free = free-kept r.wf (λ j l. kept.same j (omega arith)) r.free; swaps = swaps-kept kept.same r.swaps }
