use Rattle.commands.proofs.StateLaw as laws
use Rattle.commands.proofs.rules.State.add_start.Goals as goal

pub returns-then-t-self : goal.returns-then-t-self
returns-then-t-self c = λ p o h. laws.state-outside _ p h _ c.if-t-self.true

pub returns-then-from-self : goal.returns-then-from-self
returns-then-from-self c = λ p o h. laws.state-unordered _ p h _ c.if-t-self.false (rw c.from.ensures at c.if-from-self.true)

pub returns-then-t-eq0 : goal.returns-then-t-eq0
returns-then-t-eq0 c = λ p o h. laws.state-awake _ p h _ c.if-t-self.false (rw c.from.ensures at c.if-from-self.false) c.if-t-eq0.true

pub returns : goal.returns
returns c = λ p o h. rw c.from-2.ensures (laws.state-start _ p h _ o c.if-t-self.false (rw c.from.ensures at c.if-from-self.false) c.if-t-eq0.false)
