use Rattle.lists.specs.Proving.{arith}
use Rattle.refutation.proofs.BranchLaw.{joined}
use Rattle.refutation.proofs.branch.Common.join.Goals as goal

pub returns : goal.returns
returns c =
    λ e. joined c.site.result _ c.requires.0.wf c.requires.1 c.requires.2 c.site.ensures (rw c.from.ensures) c.if-l.false (omega arith) (c.means.ensures (cc)) c.note.ensures c.meet_in.ensures c.reflect.ensures
