use Rattle.sweep.proofs.TurnLaw.{few-full, conformed-asked, conformed-by}
use Rattle.sweep.proofs.turn.conformed.Goals as goal

pub ask_conforming-requires : goal.ask_conforming-requires
ask_conforming-requires c = (c.requires.1, c.requires.2, c.requires.3)

pub returns-in-Some : goal.returns-in-Some
returns-in-Some c = let told = c.in-Some.ensures in (told.0, conformed-asked told.1)

pub by_conforming-requires : goal.by_conforming-requires
by_conforming-requires c = c.requires.0

pub choices_at-requires : goal.choices_at-requires
choices_at-requires c = few-full c.requires.0 c.requires.3

pub returns-in-None : goal.returns-in-None
returns-in-None c = (c.ask_conforming.ensures.0, conformed-by c.requires.3 (c.by_conforming.ensures _) c.choices_at.ensures)
