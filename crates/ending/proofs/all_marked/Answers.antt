use Rattle.std.proofs.Common.{◌∙◌, rules, take, tests, arith}
use Rattle.std.proofs.lemmas.Iterator.{YieldsList-from_slice}
use Rattle.std.proofs.lemmas.Iterator.Search.{all_from_yields_List}
use Rattle.std.proofs.lemmas.Grind.{common_steps}
use Rattle.ending.proofs.EndLaw.{all-marks}
use Rattle.ending.proofs.all_marked.Goals as goal

pub returns : goal.returns
returns c = λ g h.
    let l = take c.args.n c.args.seen.now in
    all_from_yields_List (λ b. b) _ _ c.all.result c.all.ensures.ran (YieldsList-from_slice l (grind (arith, common_steps))) (λ x b q k. search (rules, tests)) ∙ all-marks c.args.n c.requires h
