-- `check_loaded`: 20, or the whole record.
use Rattle.std.proofs.Common.{rules, sym, ◌∙◌}
use Rattle.block.specs.laws.TabledLaw.{well-formed}
use Rattle.records.proofs.OperateLaw.{compares, checks-broken, checks-whole}
use Rattle.records.proofs.check_loaded.Goals as goal

pub returns-in_err-whole : goal.returns-in_err-whole
returns-in_err-whole c = λ sh sz. checks-broken sz c.args.log.now (sym c.whole.ensures ∙ c.in_err-whole.was) (search rules)

pub exists-given-requires : goal.exists-given-requires
exists-given-requires c = (c.requires.0, c.requires.1.tabled)

pub first_difference-differs-requires : goal.first_difference-differs-requires
first_difference-differs-requires c = well-formed c.requires.1.tabled

pub returns : goal.returns
returns c = λ sh sz. checks-whole sz c.args.log.now (sym c.whole.ensures ∙ c.in_ok-whole.was) (compares sz.tabled c.args.log.now c.first_difference-differs.ensures (c.exists-given.ensures sh sz.tabled) (search rules))
