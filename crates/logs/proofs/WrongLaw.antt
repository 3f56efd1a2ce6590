-- A tabulated mutant along a log: what holds after i observations that it gives.
use Rattle.std.specs.Prelude.{◌+◌, ◌-◌, ◌/◌, ◌%◌, ◌<◌, ◌≤◌, ◌≡◌}
use Rattle.lists.specs.Proving.{arith, ℕ, refl, sym, ◌∙◌, some, none, List, length, get_or, drop, add-one, eq-eqb, ne_eqb}
use lib.ListN.{drop_of_length-le}
use Rattle.model.specs.Log.{failed_in}
use Rattle.block.specs.Layout.{pair}
use Rattle.block.specs.Logged.{observation, observations, ObservedAt}
use Rattle.block.specs.declared.logged.Observed.{Observed}
use Rattle.logs.specs.Walked.{moves_in}

pub record Walking (outs nexts : List ℕ) (start : ℕ) (log : List ℕ) (s begun position i : ℕ) : Type 0 where
  pub inside : i ≤ length log
  pub tests : begun ≤ i
  pub inputs : position ≤ i
  pub is : failed_in (moves_in outs nexts) start start 0 0 (observations log) ≡ failed_in (moves_in outs nexts) start s begun position (observations (drop i log))

pub walk_start : (outs nexts : List ℕ) (start : ℕ) (log : List ℕ) → Walking outs nexts start log start 0 0 0
walk_start outs nexts start log = record { inside = omega arith; tests = omega arith; inputs = omega arith; is = refl }

module _ {outs nexts : List ℕ} {start : ℕ} {log : List ℕ} {s begun position i : ℕ} (w : Walking outs nexts start log s begun position i) where
  pub walk_end : length log ≤ i → failed_in (moves_in outs nexts) start start 0 0 (observations log) ≡ none
  unfolding failed_in observations
  walk_end l = w.is ∙ rw (drop_of_length-le log l) refl

  module _ {r : Observed} (ob : ObservedAt log i r) where
    pub walk-reset : r.code ≡ 256 → Walking outs nexts start log start (begun + 1) 0 r.next
    unfolding failed_in observation
    walk-reset e = record {
      inside = ob.inside;
      tests = omega (arith, w.tests, ob.onward);
      inputs = omega arith;
      is = w.is ∙ rw (ob.is (omega arith), e, add-one) refl;
    }

    pub walk-nothing : 256 < r.code → Walking outs nexts start log s begun position r.next
    walk-nothing e = record {
      inside = ob.inside;
      tests = omega (arith, w.tests, ob.onward);
      inputs = omega (arith, w.inputs, ob.onward);
      is = w.is ∙ rw (ob.nothing e) refl;
    }

    module _ {k x o : ℕ} (n : r.code ≡ 256 → ⊥) (few : r.code ≤ 256) (ek : k ≡ pair (s % 16) (x % 16)) (ex : x ≡ r.code / 16 % 16) (eo : o ≡ r.code % 16) where
      same : pair (s % 16) (r.code / 16 % 16) ≡ k
      same = omega arith

      pub walk-right : get_or outs k 0 ≡ o → Walking outs nexts start log (get_or nexts k 0) begun (position + 1) r.next
      unfolding failed_in observation moves_in
      walk-right e = record {
        inside = ob.inside;
        tests = omega (arith, w.tests, ob.onward);
        inputs = omega (arith, w.inputs, ob.onward);
        is = w.is ∙ rw (ob.is few, ne_eqb _ _ n, same, eq-eqb _ _ (e ∙ eo), add-one) refl;
      }

      pub walk-wrong : (get_or outs k 0 ≡ o → ⊥) → failed_in (moves_in outs nexts) start start 0 0 (observations log) ≡ some (record { test = begun - 1; position = position })
      unfolding failed_in observation moves_in
      walk-wrong h = w.is ∙ rw (ob.is few, ne_eqb _ _ n, same, ne_eqb _ _ (λ z. h (z ∙ sym eo))) refl
