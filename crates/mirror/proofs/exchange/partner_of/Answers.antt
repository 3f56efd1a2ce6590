use Rattle.mirror.proofs.exchange.partner_of.Goals as goal

pub returns-then-b-a : goal.returns-then-b-a
returns-then-b-a c = c.known_partner.ensures _ c.requires.facts_len.1
