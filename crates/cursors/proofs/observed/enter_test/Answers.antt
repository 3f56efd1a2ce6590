use Rattle.lists.specs.Proving.{arith}
use Rattle.cursors.specs.laws.FactsKeptLaw.{kept-none, kept_set}
use Rattle.cursors.proofs.observed.enter_test.Goals as goal

pub returns-then-v-ne-PULSE : goal.returns-then-v-ne-PULSE
returns-then-v-ne-PULSE c = (kept-none c.requires.0, c.requires.1)

pub returns-then-tests-eq256 : goal.returns-then-tests-eq256
returns-then-tests-eq256 c = (kept-none c.requires.0, c.requires.1)

pub returns-then-at-ge4294967296 : goal.returns-then-at-ge4294967296
returns-then-at-ge4294967296 c = (kept-none c.requires.0, c.requires.1)

pub returns : goal.returns
returns c = (kept_set _ _ (omega arith) (kept_set _ _ (omega arith) (kept-none c.requires.0)), omega arith)
