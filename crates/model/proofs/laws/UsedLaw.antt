-- The slots that a mutant uses: its set has exactly those, and its number is how many they are.
use Rattle.std.specs.Prelude.{ℕ, ◌^◌, ◌<◌, ◌≡◌, ◌⊎◌, length}
use Rattle.std.proofs.Math.Path.{refl}
use Rattle.std.proofs.Math.Bool.{true}
use Rattle.std.proofs.Math.Logic.{inl, inr, ⊎_elim}
use Rattle.std.proofs.Math.Option.{some}
use mathlib.Core.List.{List, [], ◌∷◌, ◌++◌}
use Rattle.std.proofs.Common.{pow_pos}
use Rattle.sheet.specs.Sheet.{Sheet}
use Rattle.model.specs.Machine.{Action}
use Rattle.model.specs.Mutant.{slots, site_of, acts, initial, start_slot}
use Rattle.model.specs.Used.{has, mark, mark_from, mark_all, used_on, UsesFrom, UsesIn, Uses}
use Rattle.model.specs.Verdict.{UsedMeans}
use Rattle.model.proofs.laws.UsedBitLaw.{has-nothing, mark-keeps, mark-has, has-mark, mark-low, ones-count}
use Rattle.model.proofs.laws.SuspectLaw.{site-is, waking-slot}

module _ (act : ℕ → ℕ → Action) where
  from-keeps : (xs : List ℕ) (set s i : ℕ) → has set i ≡ true → has (mark_from act set s xs) i ≡ true
  unfolding mark_from
  from-keeps [] set s i h = h
  from-keeps (x ∷ xs) set s i h = from-keeps xs (mark set (act s x).used) (act s x).move.target i (mark-keeps set (act s x).used i h)

  uses-has : (xs : List ℕ) (set s i : ℕ) → UsesFrom act s xs i → has (mark_from act set s xs) i ≡ true
  unfolding mark_from UsesFrom
  uses-has [] set s i u = absurd u
  uses-has (x ∷ xs) set s i u =
      ⊎_elim
      (λ e. from-keeps xs (mark set (act s x).used) (act s x).move.target i (rw e (mark-has set i)))
      (λ v. uses-has xs (mark set (act s x).used) (act s x).move.target i v) u

  has-uses : (xs : List ℕ) (set s i : ℕ) → has (mark_from act set s xs) i ≡ true → (has set i ≡ true) ⊎ UsesFrom act s xs i
  unfolding mark_from UsesFrom
  has-uses [] set s i h = inl h
  has-uses (x ∷ xs) set s i h =
      ⊎_elim
      (λ g. ⊎_elim (λ e. inl e) (λ e. inr (inl e)) (has-mark set (act s x).used i g))
      (λ v. inr (inr v)) (has-uses xs (mark set (act s x).used) (act s x).move.target i h)

  all-keeps : (start : ℕ) (ts : List (List ℕ)) (set i : ℕ) → has set i ≡ true → has (mark_all act start set ts) i ≡ true
  unfolding mark_all
  all-keeps start [] set i h = h
  all-keeps start (t ∷ ts) set i h = all-keeps start ts (mark_from act set start t) i (from-keeps t set start i h)

  in-has : (start : ℕ) (ts : List (List ℕ)) (set i : ℕ) → UsesIn act start ts i → has (mark_all act start set ts) i ≡ true
  unfolding mark_all UsesIn
  in-has start [] set i u = absurd u
  in-has start (t ∷ ts) set i u =
      ⊎_elim
      (λ v. all-keeps start ts (mark_from act set start t) i (uses-has t set start i v))
      (λ v. in-has start ts (mark_from act set start t) i v) u

  has_in : (start : ℕ) (ts : List (List ℕ)) (set i : ℕ) → has (mark_all act start set ts) i ≡ true → (has set i ≡ true) ⊎ UsesIn act start ts i
  unfolding mark_all UsesIn
  has_in start [] set i h = inl h
  has_in start (t ∷ ts) set i h =
      ⊎_elim
      (λ g. ⊎_elim (λ e. inl e) (λ v. inr (inl v)) (has-uses t set start i g))
      (λ v. inr (inr v)) (has_in start ts (mark_from act set start t) i h)

  -- one after the other
  pub mark-append : (start : ℕ) (ts us : List (List ℕ)) (set : ℕ) → mark_all act start set (ts ++ us) ≡ mark_all act start (mark_all act start set ts) us
  unfolding mark_all
  mark-append start [] us set = refl
  mark-append start (t ∷ ts) us set = mark-append start ts us (mark_from act set start t)

  -- only slots below n are used
  module _ {n : ℕ} (low : (s x i : ℕ) → (act s x).used ≡ some i → i < n) where
    from_low : (xs : List ℕ) (set s : ℕ) → set < 2 ^ n → mark_from act set s xs < 2 ^ n
    unfolding mark_from
    from_low [] set s l = l
    from_low (x ∷ xs) set s l = from_low xs (mark set (act s x).used) (act s x).move.target (mark-low n set (act s x).used (λ i e. low s x i e) l)

    all-low : (start : ℕ) (ts : List (List ℕ)) (set : ℕ) → set < 2 ^ n → mark_all act start set ts < 2 ^ n
    unfolding mark_all
    all-low start [] set l = l
    all-low start (t ∷ ts) set l = all-low start ts (mark_from act set start t) (from_low t set start l)

    from-below : (xs : List ℕ) (s i : ℕ) → UsesFrom act s xs i → i < n
    unfolding UsesFrom
    from-below [] s i u = absurd u
    from-below (x ∷ xs) s i u = ⊎_elim (λ e. low s x i e) (λ v. from-below xs (act s x).move.target i v) u

    in-below : (start : ℕ) (ts : List (List ℕ)) (i : ℕ) → UsesIn act start ts i → i < n
    unfolding UsesIn
    in-below start [] i u = absurd u
    in-below start (t ∷ ts) i u = ⊎_elim (λ v. from-below t start i v) (λ v. in-below start ts i v) u

module _ (sh : Sheet) (b : List ℕ) where
  -- a step uses a slot of the sheet
  step-slot : (s x i : ℕ) → (acts sh b s x).used ≡ some i → i < length (slots sh)
  unfolding acts site_of
  step-slot s x i e = (site-is sh s x i e).0

  start-slot : (i : ℕ) → start_slot sh ≡ some i → i < length (slots sh)
  start-slot i e = (waking-slot sh i e).1

  uses-below : (ts : List (List ℕ)) (i : ℕ) → Uses sh b ts i → i < length (slots sh)
  unfolding Uses
  uses-below ts i u = ⊎_elim (λ e. start-slot i e) (λ v. in-below (acts sh b) step-slot (initial sh b) ts i v) u

  -- what is told of the slots used on sequences of inputs
  pub used-means : (ts : List (List ℕ)) → UsedMeans sh (Uses sh b ts) (used_on sh b ts)
  unfolding used_on Uses
  used-means ts =
      record {
        every = every;
        only = only;
        below = λ i h. uses-below ts i (only i h);
        many = ones-count (length (slots sh)) (mark_all (acts sh b) (initial sh b) (mark 0 (start_slot sh)) ts) low;
      }
    where
      every : (i : ℕ) → Uses sh b ts i → has (mark_all (acts sh b) (initial sh b) (mark 0 (start_slot sh)) ts) i ≡ true
      every i u =
          ⊎_elim
          (λ e. all-keeps (acts sh b) (initial sh b) ts (mark 0 (start_slot sh)) i (rw e (mark-has 0 i)))
          (λ v. in-has (acts sh b) (initial sh b) ts (mark 0 (start_slot sh)) i v) u

      only : (i : ℕ) → has (mark_all (acts sh b) (initial sh b) (mark 0 (start_slot sh)) ts) i ≡ true → Uses sh b ts i
      only i h =
          ⊎_elim
          (λ g. ⊎_elim (λ f. absurd (has-nothing i f)) (λ e. inl e) (has-mark 0 (start_slot sh) i g))
          (λ v. inr v) (has_in (acts sh b) (initial sh b) ts (mark 0 (start_slot sh)) i h)

      low : mark_all (acts sh b) (initial sh b) (mark 0 (start_slot sh)) ts < 2 ^ length (slots sh)
      low =
          all-low (acts sh b) step-slot (initial sh b) ts (mark 0 (start_slot sh))
          (mark-low (length (slots sh)) 0 (start_slot sh) start-slot (pow_pos (length (slots sh))))
