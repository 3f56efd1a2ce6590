use Rattle.lists.specs.Proving.{arith, refl, sym, List·getD-eq-default}
use Rattle.block.specs.laws.LoggedLaw.{observed-short, observed-seen}
use Rattle.block.proofs.logged.seen_at.Goals as goal

pub returns-then-left-lt2 : goal.returns-then-left-lt2
returns-then-left-lt2 c =
    let log = c.args.log.now in
    observed-short c.requires.0 c.requires.1 {x = 0} {o = 0} (sym (List·getD-eq-default log 0 (omega (arith, c.if-left-lt2.true)))) (sym (List·getD-eq-default log 0 (omega (arith, c.if-left-lt2.true)))) refl

pub returns-then-left-lt3 : goal.returns-then-left-lt3
returns-then-left-lt3 c = let log = c.args.log.now in observed-short c.requires.0 c.requires.1 refl (sym (List·getD-eq-default log 0 (omega (arith, c.if-left-lt3.true)))) c.seen_code.ensures

pub returns-then-o-lt16 : goal.returns-then-o-lt16
returns-then-o-lt16 c = observed-seen c.requires.0 c.requires.1 refl refl c.seen_code-code.ensures (omega (arith, c.if-left-lt3.false)) c.if-x-lt16.true c.if-o-lt16.true

pub returns : goal.returns
returns c = observed-short c.requires.0 c.requires.1 refl refl c.seen_code-code.ensures
