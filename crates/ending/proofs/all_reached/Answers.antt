use Rattle.std.proofs.Common.{◌∙◌, sym, arith}
use Rattle.sheet.specs.Sheet.{reached_within}
use Rattle.ending.proofs.EndLaw as laws
use Rattle.ending.proofs.all_reached.Goals as goal

pub loop-init : goal.loop-init
loop-init c = λ sh e h. laws.rounds-start _ sh

pub returns-then-all_marked : goal.returns-then-all_marked
returns-then-all_marked c = λ sh e h.
    laws.reached-early sh _ _ e (omega arith) (sym (c.all_marked.ensures (reached_within sh _) (c.loop.invariant sh e h).seen) ∙ c.if-all_marked.true)

pub loop-preserved : goal.loop-preserved
loop-preserved c = λ sh e h.
    let r = c.loop.invariant sh e h in
    laws.rounds-more c.args.size sh _ e r.seen (c.round-more.ensures sh.rules r.before (reached_within sh _) h r.done r.seen r.follows)

pub returns : goal.returns
returns c = λ sh e h. laws.reached-late sh _ _ _ e (omega arith) (c.all_marked-2.ensures (reached_within sh _) (c.loop.invariant sh e h).seen)
