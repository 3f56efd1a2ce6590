use Rattle.block.specs.laws.LoggedLaw.{observed-reset, observed-nothing}
use Rattle.block.proofs.logged.observe.Goals as goal

pub returns-then-v-eq-PULSE : goal.returns-then-v-eq-PULSE
returns-then-v-eq-PULSE c = observed-reset c.requires c.if-v-eq-PULSE.true

pub returns : goal.returns
returns c = observed-nothing c.requires c.if-v-eq-PULSE.false c.if-v-eq-SEEN.false
