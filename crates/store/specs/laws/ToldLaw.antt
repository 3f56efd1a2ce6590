-- What is told where nothing is.
use Rattle.std.specs.Prelude.{◌≡◌, None}
use Rattle.lists.specs.Proving.{ℕ, List, true, false, never}
use Rattle.cubes.specs.declared.goal.Goal.{Goal}
use Rattle.store.specs.Store.{ToldOk, Tells}
use Rattle.store.specs.declared.entries.Entry.{Entry}

-- what an answer that is false promises
pub void : {A : Type 0} → false ≡ true → A
void e = never (cc)

pub told_none : (goal : Goal) (m log : List ℕ) → ToldOk goal m log None
told_none goal m log = tt

pub tells_none : {store : List Entry} → Tells store None
tells_none = record { at = λ g m l ok. tt }
