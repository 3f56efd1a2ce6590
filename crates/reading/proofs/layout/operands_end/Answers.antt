use Rattle.std.proofs.Common.{sym, ◌∙◌, arith}
use Rattle.reading.proofs.PlaceLaw as laws
use Rattle.reading.proofs.layout.operands_end.Goals as goal

pub loop-at-preserved : goal.loop-at-preserved
loop-at-preserved c =
    let l = c.loop-at in
    let one = sym c.is_operand.ensures ∙ c.loop-at-test.true in
    let room = (laws.operand-found c.args.sheet.now l.at one).all in
    record {
      after = omega arith;
      within = room;
      left = λ b xs rest k e calm quiet. laws.left-more c.args.sheet.now b xs rest c.args.place l.at one calm quiet (l.invariant.left b xs rest k e calm quiet);
    }

pub returns : goal.returns
returns c =
    let l = c.loop-at in
    record {
      after = l.invariant.after;
      within = l.invariant.within;
      counted = λ b xs rest k e calm quiet. laws.left-stop c.args.sheet.now b xs rest c.args.place l.at k (sym c.is_operand.ensures ∙ c.loop-at-test.false) (l.invariant.left b xs rest k e calm quiet);
    }
