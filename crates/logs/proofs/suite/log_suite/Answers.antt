use Rattle.logs.specs.laws.SuitesLaw.{located, roomy, logged}
use Rattle.logs.proofs.suite.log_suite.Goals as goal

pub record_suite-requires : goal.record_suite-requires
record_suite-requires c = let su = c.requires.1 in record { tests_at = located su; tests_in_bounds = roomy su }

pub returns : goal.returns
returns c = λ sh su. logged su c.record_suite.ensures
