-- Pair i is that of the state i / k and the input i % k.
use Rattle.std.specs.Prelude.{◌≡◌, ℕ, ◌*◌, ◌/◌, ◌%◌, ◌<◌, ◌≤◌, Bool, true, false, [], ◌∷◌, ◌==◌}
use Rattle.std.proofs.Common.{mod-lt, div-add-mod', le-div_iff_mul-le, div-lt_iff_lt-mul, arith, ap, inl, inr, eqb-true}
use Rattle.std.proofs.Math.Nat.{div-mul-le_self}
use Rattle.std.proofs.Math.Path.{refl}
use Rattle.std.proofs.lemmas.Bool.{eqb-false}
use Rattle.lists.specs.Lists.{Before}

module _ (k : ℕ) (some : 0 < k) where
  -- pairs ascend
  pub pair-before : (i j : ℕ) → i < j → Before (i / k ∷ i % k ∷ []) (j / k ∷ j % k ∷ [])
  unfolding Before
  pair-before i j h = one (i / k == j / k) refl
    where
      no_less : i / k ≤ j / k
      no_less = (le-div_iff_mul-le some).1 (omega (arith, div-mul-le_self i k))

      one : (b : Bool) → (i / k == j / k) ≡ b → Before (i / k ∷ i % k ∷ []) (j / k ∷ j % k ∷ [])
      one true e =
          let same = eqb-true (i / k) (j / k) e in
          inr (same, inl (omega (arith, div-add-mod' i k, div-add-mod' j k, ap (λ (q : ℕ). q * k) same)))
      one false e = let other = eqb-false (i / k) (j / k) e in inl (omega (arith, no_less))

  -- pairs of a size
  pub pair-state : (n i : ℕ) → i < n * k → i / k < n
  pair-state n i h = (div-lt_iff_lt-mul some).1 h

  pub pair-input : (i : ℕ) → i % k < k
  pair-input i = mod-lt i some
