use Rattle.std.specs.Prelude.{◌≡◌}
use Rattle.lists.specs.Proving.{get_or}
use Rattle.mirror.specs.Mirror.{Below}
use Rattle.mirror.specs.Reflect.{Blind}
use Rattle.mirror.proofs.reflection.blind_but.Given as goal

abbrev pub invariant-loop-j : goal.invariant-loop-j
invariant-loop-j it = Below (λ h. (h ≡ it.i → ⊥) → Blind it.a it.b (get_or it.cube h 0)) it.j
