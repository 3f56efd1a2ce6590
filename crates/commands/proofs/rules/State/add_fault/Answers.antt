use Rattle.std.proofs.Common.{sym, ◌∙◌, rules}
use Rattle.commands.proofs.RuleLaw.{not-after, is-after}
use Rattle.commands.proofs.FaultLaw.{fault-taken, fault-many, fault-same, fault-unordered, fault-outside}
use Rattle.commands.proofs.StateLaw.{state-fault}
use Rattle.commands.proofs.rules.State.add_fault.Goals as goal

pub returns-then-not-is_in : goal.returns-then-not-is_in
returns-then-not-is_in c = λ p o h. fault-outside p.sheet _ _ _ _ h.size h.faults (sym c.is_in.ensures ∙ c.if-not-is_in.true)

pub returns-then-is_some_and : goal.returns-then-is_some_and
returns-then-is_some_and c =
    let before = not-after c.args.self.now.faults.last c.key-key.result c.is_some_and.result (search rules) c.if-is_some_and.true in
    λ p o h. fault-unordered p.sheet _ _ _ _ h.size h.faults h.bounds (sym c.is_in.ensures ∙ c.if-not-is_in.false) (rw c.key-key.ensures at before)

pub returns-then-not-is_other : goal.returns-then-not-is_other
returns-then-not-is_other c =
    let after = is-after c.args.self.now.faults.last c.key-key.result c.is_some_and.result (search rules) c.if-is_some_and.false in
    λ p o h.
    fault-same p.sheet _ _ _ _ h.size h.faults h.bounds (sym c.is_in.ensures ∙ c.if-not-is_in.false) (rw c.key-key.ensures at after) (sym (c.is_other.ensures p h) ∙ c.if-not-is_other.true)

pub returns-then-self-ge256 : goal.returns-then-self-ge256
returns-then-self-ge256 c =
    let after = is-after c.args.self.now.faults.last c.key-key.result c.is_some_and.result (search rules) c.if-is_some_and.false in
    λ p o h.
    fault-many p.sheet _ _ _ _ h.size h.faults h.bounds (sym c.is_in.ensures ∙ c.if-not-is_in.false) (rw c.key-key.ensures at after) (sym (c.is_other.ensures p h) ∙ c.if-not-is_other.false)
    c.if-self-ge256.true

pub returns : goal.returns
returns c =
    let after = is-after c.args.self.now.faults.last c.key-key.result c.is_some_and.result (search rules) c.if-is_some_and.false in
    λ p o h.
    rw (c.key-key.ensures, c.place.ensures)
    (state-fault _ p h _ _ _ o
    (fault-taken p.sheet _ _ _ _ h.size h.faults h.bounds (sym c.is_in.ensures ∙ c.if-not-is_in.false) (rw c.key-key.ensures at after) (sym (c.is_other.ensures p h) ∙ c.if-not-is_other.false)
    c.if-self-ge256.false))
