-- What is told of a settled part.
use Rattle.std.specs.Prelude.{◌≡◌, Option as Maybe, Some, None, IfSome}
use Rattle.lists.specs.Proving.{ℕ, sym, subst, List}
use Rattle.block.specs.Tabulated.{Wf}
use Rattle.cubes.specs.Cube.{NoneIn, AllConform}
use Rattle.cubes.specs.declared.goal.Goal.{Goal}
use Rattle.cubes.specs.declared.goal.Goal.TheVariants.{Nonconforming}
use Rattle.cubes.specs.laws.ConformLaw.{conforms-none}
use Rattle.store.specs.Store.{StoreOk, ToldOk, Kept, Tells, Learns}
use Rattle.store.specs.declared.entries.Entry.{Entry}
use Rattle.nodes.specs.Refuting.{Found}

pub found-entry : {goal : Goal} {m log : List ℕ} {old new : List Entry} {r : Maybe (List ℕ)} → StoreOk goal m log old → Kept old new → Tells new r → Found goal m log new r
found-entry {goal} {m} {log} st k t = let st2 = k.at goal m log st in record { told = t.at goal m log st2; kept = st2 }

pub found-learnt : {goal : Goal} {m log cube : List ℕ} {old new : List Entry} → Wf m → StoreOk goal m log old → NoneIn goal m log cube → Learns old new cube → Found goal m log new (Some cube)
found-learnt {goal} {m} {log} wf st t l = record { told = t; kept = l.at goal m log wf st t }

pub told-conforming : {goal : Goal} (m log : List ℕ) (r : Maybe (List ℕ)) → goal ≡ Nonconforming → IfSome r (λ cube. AllConform m cube) → ToldOk goal m log r
told-conforming m log None e f = tt
told-conforming {goal} m log (Some cube) e f = subst (λ (g : Goal). NoneIn g m log cube) (sym e) (conforms-none f)
