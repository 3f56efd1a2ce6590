use Rattle.sweep.proofs.turn.ask_conforming.Goals as goal

pub ask-requires : goal.ask-requires
ask-requires c = (c.requires.0 c.if-not-ready.false, c.requires.1, c.requires.2)
