use Rattle.commands.proofs.StateLaw as laws
use Rattle.commands.proofs.rules.State.add_test.Goals as goal

pub returns-then-self-ge256 : goal.returns-then-self-ge256
returns-then-self-ge256 c = λ p h. laws.state-tests _ p h c.if-self-ge256.true

pub returns : goal.returns
returns c = λ p h. laws.state-test _ p h c.if-self-ge256.false
