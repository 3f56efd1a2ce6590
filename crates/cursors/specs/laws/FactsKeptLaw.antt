-- Facts that stay while tests are noted.
use Rattle.std.specs.Prelude.{◌≤◌, ◌≡◌}
use Rattle.lists.specs.Proving.{arith, ℕ, refl, ◌∙◌, List, length, set, length-set, get_or-set_other}
use Rattle.cursors.specs.FactsKept.{FactsKept}

pub kept-none : {facts : List ℕ} → length facts ≡ 1088 → FactsKept facts facts
kept-none l = record { long = l; same = λ k h. refl }

pub kept_set : {old facts : List ℕ} (at v : ℕ) → 560 ≤ at → FactsKept old facts → FactsKept old (set facts at v)
kept_set {old} {facts} at v l f = record {
  long = length-set facts at v ∙ f.long;
  same = λ k h. get_or-set_other facts at k v 0 (λ e. omega (arith, e)) ∙ f.same k h;
}

pub kept_more : {a b c : List ℕ} → FactsKept a b → FactsKept b c → FactsKept a c
kept_more f g = record { long = g.long; same = λ k h. g.same k h ∙ f.same k h }
