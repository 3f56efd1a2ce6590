use Rattle.std.specs.Prelude.{◌^◌}
use Rattle.lists.specs.Proving.{arith, ℕ, ap}
use Rattle.std.proofs.Common.{mod-eq_of_lt}
use Rattle.cubes.specs.laws.SetLaw.{put_one}
use Rattle.cubes.proofs.tables.put.Goals as goal

pub returns : goal.returns
returns c = put_one c.args.at c.args.s _ c.with.result (omega (arith, c.requires.0, c.requires.1)) (ap (λ (n : ℕ). 2 ^ n) (mod-eq_of_lt c.requires.2)) c.with.ensures
