use Rattle.refutation.proofs.told_from.Goals as goal

pub returns-then-not-has_prefix : goal.returns-then-not-has_prefix
returns-then-not-has_prefix c = (record { told = tt; kept = c.in_ok-cube.ensures.kept }, tt)

pub returns : goal.returns
returns c =
    (c.in_ok-cube.ensures, c.has_prefix.ensures c.if-not-has_prefix.false)
