use Rattle.mirror.proofs.OtherLaw.{each_none}
use Rattle.mirror.proofs.ExchangeLaw.{known-partner}
use Rattle.mirror.proofs.exchange.known_partner.Goals as goal

pub returns-then-not-holds : goal.returns-then-not-holds
returns-then-not-holds c = λ m p. each_none

pub returns : goal.returns
returns c = λ m p.
    known-partner p c.requires.2 (rw (← c.wide.ensures.0) ((c.holds.ensures.exact c.requires.1).0 cc)) c.one.ensures
