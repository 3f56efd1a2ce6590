-- The first input that is not below k.
use Rattle.std.specs.Prelude.{◌≤◌, ◌<◌, ◌≡◌, Some, None}
use Rattle.lists.specs.Proving.{arith, ℕ, refl, List, length, get_or}
use Rattle.lists.specs.Options.{coded}
use Rattle.model.specs.Operations.{first_over}
use Rattle.model.proofs.laws.OperationLaw.{first-over, none_over}

module _ (k : ℕ) (xs : List ℕ) {i : ℕ} (below : (j : ℕ) → j < i → get_or xs j 0 < k) where
  pub over-at : i < length xs → k ≤ get_or xs i 0 → Some i ≡ coded (first_over k xs)
  over-at l over = rw (first-over k xs i (record { is = l; over = over; below = below })) refl

  pub over-nowhere : length xs ≤ i → None ≡ coded (first_over k xs)
  over-nowhere l = rw (none_over k xs (λ j lj. below j (omega arith))) refl
