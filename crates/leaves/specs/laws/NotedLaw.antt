-- Notes that stay as they are: none changed, one, more.
use Rattle.std.specs.Prelude.{◌<◌, ◌≤◌, ◌≡◌}
use Rattle.lists.specs.Proving.{arith, ℕ, refl, ◌∙◌, List, set, length-set, get_or-set_other}
use Rattle.leaves.specs.Noted.{Changed}

pub changed-none : {from to : ℕ} {notes : List ℕ} → Changed from to notes notes
changed-none = record { long = refl; below = λ k h. refl; above = λ k h. refl }

-- the one note at a place between
pub changed-set : {from to : ℕ} {old new : List ℕ} (at v : ℕ) → from ≤ at → at < to → new ≡ set old at v → Changed from to old new
changed-set {from} {to} {old} {new} at v f l e = record {
  long = rw e (length-set old at v);
  below = λ k h. rw e (get_or-set_other old at k v 0 (λ w. omega (arith, w)));
  above = λ k h. rw e (get_or-set_other old at k v 0 (λ w. omega (arith, w)));
}

pub changed-more : {from to : ℕ} {a b c : List ℕ} → Changed from to a b → Changed from to b c → Changed from to a c
changed-more f g = record {
  long = g.long ∙ f.long;
  below = λ k h. g.below k h ∙ f.below k h;
  above = λ k h. g.above k h ∙ f.above k h;
}

-- what changes less changes no more
pub changed-wider : {from to : ℕ} {a b : List ℕ} (from' to' : ℕ) → from' ≤ from → to ≤ to' → Changed from to a b → Changed from' to' a b
changed-wider from' to' f t g = record { long = g.long; below = λ k h. g.below k (omega arith); above = λ k h. g.above k (omega arith) }
