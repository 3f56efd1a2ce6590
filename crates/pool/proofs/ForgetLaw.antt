-- Survivors that are forgotten.
use Rattle.std.specs.Prelude.{Option as Maybe, None}
use Rattle.std.specs.Prelude.{◌≡◌, ◌<◌, ℕ, List, length}
use mathlib.Core.Path.{refl, ◌∙◌}
use mathlib.Core.Logic.{inl, inr, by_cases}
use native.Mathlib.Decide.{ℕ_discrete}
use lib.ListN.{set, length-set}
use lib.Seq.{get_or-set_same, get_or-set_other}
use Rattle.pool.specs.declared.Steering.{Steering}
use Rattle.pool.specs.Steers.{with_effort, Forgets}

pub forgets-none : {old new : Steering} (n : ℕ) → new ≡ with_effort old n → Forgets old new
forgets-none n e = rw e (record { long = refl; each = λ i l. inl refl; floor = refl; conformed = refl; next = refl })

-- one more
pub forgets-one : {old new : Steering} (w : ℕ) → w < length new.survivors → Forgets old new →
    Forgets old (record { effort = new.effort; floor = new.floor; conformed = new.conformed; survivors = set new.survivors w None; next = new.next })
forgets-one {old} {new} w l f =
    record {
      long = length-set new.survivors w None ∙ f.long;
      each = λ i li. by_cases (ℕ_discrete i w) (λ e. inr (rw e (get_or-set_same new.survivors w None None l)))
          (λ d. rw (get_or-set_other new.survivors w i None None d) (f.each i li));
      floor = f.floor;
      conformed = f.conformed;
      next = f.next;
    }
