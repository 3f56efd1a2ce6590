-- `rows`: those before are spelled.
use Rattle.std.proofs.Common.{◌∙◌, arith}
use Rattle.writing.proofs.laws.SpelledLaw.{spelling-room, spelling-more, spelling-end}
use Rattle.writing.proofs.RestLaw.{rows_next, rows_short}
use Rattle.writing.proofs.spell.rows.Goals as goal

pub command-to-requires : goal.command-to-requires
command-to-requires c =
    let s = c.in-Some.ensures.steps in
    spelling-room c.loop-row.invariant.spelled (rows_next c.args.b _ _ _ s.1.0 (s.1.1 ∙ c.loop-row.invariant.four))

pub loop-row-preserved : goal.loop-row-preserved
loop-row-preserved c =
    let s = c.in-Some.ensures.steps in
    record {
      four = s.0 ∙ c.loop-row.invariant.four;
      spelled = spelling-more c.loop-row.invariant.spelled (rows_next c.args.b _ _ _ s.1.0 (s.1.1 ∙ c.loop-row.invariant.four)) c.command-to.ensures;
    }

pub returns : goal.returns
returns c =
    let s = c.in-None.ensures.steps in
    spelling-end c.loop-row.invariant.spelled (rows_short c.args.b _ (omega (arith, s.1.0, c.loop-row.invariant.four)))
