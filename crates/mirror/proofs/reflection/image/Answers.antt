use Rattle.mirror.proofs.OtherLaw.{each_none, each-one}
use Rattle.mirror.proofs.reflection.image.Goals as goal

pub returns-then-not-holds : goal.returns-then-not-holds
returns-then-not-holds c = each_none

pub returns-then-not-silent : goal.returns-then-not-silent
returns-then-not-silent c = each_none

pub blind_but-requires : goal.blind_but-requires
blind_but-requires c = (c.requires.2, c.requires.3)

pub returns-then-not-blind_but : goal.returns-then-not-blind_but
returns-then-not-blind_but c = each_none

pub returns : goal.returns
returns c =
    each-one c.args.b c.one.ensures (record { exchange = c.requires.1.at c.args.b ((c.holds.ensures.exact c.requires.3).0 c.if-not-holds.false); silent = c.silent.ensures c.if-not-silent.false; blind = c.blind_but.ensures c.if-not-blind_but.false })
