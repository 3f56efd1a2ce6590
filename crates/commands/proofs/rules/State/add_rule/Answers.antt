use Rattle.std.proofs.Common.{sym, ◌∙◌, rules}
use Rattle.commands.proofs.RuleLaw.{not-after, is-after, rule-taken, rule-unordered, rule-outside}
use Rattle.commands.proofs.StateLaw.{state-rule}
use Rattle.commands.proofs.rules.State.add_rule.Goals as goal

pub returns-then-not-is_in : goal.returns-then-not-is_in
returns-then-not-is_in c = λ p o h. rule-outside p.sheet _ _ h.size (sym c.is_in.ensures ∙ c.if-not-is_in.true)

pub returns-then-is_some_and : goal.returns-then-is_some_and
returns-then-is_some_and c =
    let before = not-after c.args.self.now.rules.last c.place-p.result c.is_some_and.result (search rules) c.if-is_some_and.true in
    λ p o h. rule-unordered p.sheet _ _ _ _ _ h.size h.rules h.bounds (sym c.is_in.ensures ∙ c.if-not-is_in.false) (rw c.place-p.ensures at before)

pub returns : goal.returns
returns c =
    let after = is-after c.args.self.now.rules.last c.place-p.result c.is_some_and.result (search rules) c.if-is_some_and.false in
    λ p o h.
    rw c.place-p.ensures
    (state-rule _ p h _ _ _ _ o (rule-taken p.sheet _ _ _ _ _ h.size h.rules h.bounds (sym c.is_in.ensures ∙ c.if-not-is_in.false) (rw c.place-p.ensures at after)))
