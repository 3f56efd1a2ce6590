use Rattle.nodes.specs.laws.TellLaw.{told-conforming}
use Rattle.nodes.proofs.tell.Question.by_pairs.Goals as goal

pub returns-in-Nonconforming : goal.returns-in-Nonconforming
returns-in-Nonconforming c = λ log. told-conforming _ log _ c.in-Nonconforming.is c.by_conforming.ensures
