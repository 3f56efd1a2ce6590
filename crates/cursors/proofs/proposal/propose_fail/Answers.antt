use Rattle.leaves.specs.laws.MembersLaw.{literals-free}
use Rattle.cursors.proofs.NarrowingLaw.{speaks-exact, speaks-wider, met-none}
use Rattle.cursors.proofs.proposal.propose_fail.Goals as goal

pub returns : goal.returns
returns c =
    let met = speaks-wider c.met-used.ensures (speaks-exact c.exact.ensures.1) in
    let all = speaks-wider (met-none _) (speaks-exact c.exact-2.ensures.1) in
    (c.narrow_all.ensures.literals (literals-free c.exact-2.ensures.1), c.narrow_all.ensures.speaks _ c.exact.ensures.0 met all)
