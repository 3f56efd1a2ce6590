use Rattle.nodes.specs.laws.TellLaw.{found-learnt}
use Rattle.refutation.proofs.BranchLaw.{trying_start, trying-skip, trying-more, trying-end}
use Rattle.refutation.proofs.branch.+explore.Goals as goal

pub loop-r-init : goal.loop-r-init
loop-r-init t c = record { trying = trying_start; kept = c.look-seen.ensures.kept }

pub loop-r-preserved-in_default : goal.loop-r-preserved-in_default
loop-r-preserved-in_default t c = record {
  trying = trying-skip c.requires.0.wf c.in_ok-split.ensures c.loop-r-test.true c.turn-turn.ensures c.loop-r.invariant.trying c.in_default.is;
  kept = c.loop-r.invariant.kept;
}

pub loop-r-preserved : goal.loop-r-preserved
loop-r-preserved t c = record {
  trying = trying-more c.requires.0.wf c.in_ok-split.ensures c.loop-r-test.true c.turn-turn.ensures c.loop-r.invariant.trying c.in_ok-cube.ensures.told (c.join.ensures c.if-not-join.false);
  kept = c.explore.ensures.kept;
}

pub returns : goal.returns
returns t c =
    let wf = c.requires.0.wf in
    found-learnt wf c.loop-r.invariant.kept (trying-end wf c.in_ok-split.ensures c.loop-r.invariant.trying c.loop-r-test.false c.finish.ensures.0) c.finish.ensures.1
