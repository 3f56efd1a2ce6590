use Rattle.cubes.proofs.WordsLaw.{later-and}
use Rattle.cubes.proofs.words.without_least.Goals as goal

pub returns-clause-later : goal.returns-clause-later
returns-clause-later g c = rw (c.of_bits.ensures, c.saturating_sub.ensures, c.bits-n.ensures.0) (later-and _)
