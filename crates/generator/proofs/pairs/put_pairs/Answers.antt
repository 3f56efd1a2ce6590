-- `put_pairs`: the rows of the first i pairs stand in the tables.
use Rattle.std.proofs.Common.{arith}
use Rattle.generator.proofs.StandingLaw.{standing-start, standing-few, seed-more, standing-more}
use Rattle.generator.proofs.pairs.put_pairs.Goals as goal

pub loop-i-init : goal.loop-i-init
loop-i-init c = standing-start c.args.size c.args.seed _ _

pub put_pair-standing-requires-clause-faults_bound : goal.put_pair-standing-requires-clause-faults_bound
put_pair-standing-requires-clause-faults_bound c = standing-few c.args.size c.args.seed c.loop-i.invariant.1 c.requires.size (omega (arith, c.pairs_of-i-end.ensures))

pub loop-i-preserved : goal.loop-i-preserved
loop-i-preserved c =
    let a = c.args in
    let i = c.loop-i.invariant in (
      seed-more a.size a.seed i.1 i.0 c.put_pair-standing.ensures.seed,
      standing-more a.size a.seed i.1 i.0 c.put_pair-standing.ensures.put,
    )
