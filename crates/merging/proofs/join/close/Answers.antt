-- `close`: the first limit that is passed, or the parts one after another.
use Rattle.lists.specs.Proving.{arith, rules, sym, ◌∙◌, ap, length}
use Rattle.std.specs.Prelude.{◌/◌}
use Rattle.merging.specs.words.Outlined.{limit_answer}
use Rattle.merging.proofs.JoinLaw.{limit-room, close-refused, close-done}
use Rattle.merging.proofs.join.close.Goals as goal

pub returns-in_err-limit : goal.returns-in_err-limit
returns-in_err-limit c = λ m p. close-refused p (c.slots_of-slots.ensures m p.open-are p.many-starts) (c.limit.ensures ∙ ap (limit_answer (length c.args.parts.faults.now / 5) c.args.count c.slots_of-slots.result) c.len.ensures) c.in_err-limit.was (search rules)

pub assemble-requires : goal.assemble-requires
assemble-requires c = omega (arith, c.requires.0, c.len.ensures, limit-room (length c.args.parts.faults.now / 5) c.args.count c.slots_of-slots.result c.len.result (sym c.in_ok-limit.was ∙ c.limit.ensures))

pub returns : goal.returns
returns c = λ m p. close-done p (c.slots_of-slots.ensures m p.open-are p.many-starts) (c.limit.ensures ∙ ap (limit_answer (length c.args.parts.faults.now / 5) c.args.count c.slots_of-slots.result) c.len.ensures) c.in_ok-limit.was c.assemble.ensures
