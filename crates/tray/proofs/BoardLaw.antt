-- A tray, board by board.
use Rattle.std.specs.Prelude.{◌+◌, ◌*◌, ◌/◌, ◌%◌, ◌<◌, ◌≤◌, ◌≡◌, ◌∷◌, ◌++◌}
use Rattle.lists.specs.Proving.{arith, ℕ, zero, suc, refl, ◌∙◌, ap, Bool, by_cases, List, [], length, take, drop, eqb, eq-eqb, ne_eqb, ℕ_discrete}
use native.Mathlib.Nat.{suc-mul, zero-mul, mul-zero, mul-le-mul_right, mul-div_cancel, mul-mod_left, div-add-mod'}
use lib.ListN.{length-drop}
use lib.Seq.{drop-drop, length-take-le}
use Rattle.model.specs.Tray.{boards_in}

-- ---- the length of a tray

pub empty-tray : (boards n len : ℕ) → n ≡ 0 → eqb len 0 ≡ eqb len (boards * n)
empty-tray boards n len e = rw (e, mul-zero boards) refl

module _ (boards n len : ℕ) (nonzero : n ≡ 0 → ⊥) where
  positive : 0 < n
  positive = go n nonzero
    where
      go : (k : ℕ) → (k ≡ 0 → ⊥) → 0 < k
      go zero h = absurd (h refl)
      go (suc k) h = omega arith

  multiple : len ≡ boards * n → (len / n ≡ boards) × (len % n ≡ 0)
  multiple e = (rw e (mul-div_cancel boards positive), rw e (mul-mod_left boards n))

  pub no-tray : (len % n ≡ 0 → ⊥) → eqb len (boards * n) ≡ Bool.false
  no-tray ne = ne_eqb len (boards * n) (λ e. ne (multiple e).1)

  pub some-tray : len % n ≡ 0 → eqb (len / n) boards ≡ eqb len (boards * n)
  some-tray e =
      by_cases (ℕ_discrete (len / n) boards)
      (λ h. rw (eq-eqb (len / n) boards h, eq-eqb len (boards * n) (rw (← h) (omega (arith, div-add-mod' len n)))) refl)
      (λ h. rw (ne_eqb (len / n) boards h, ne_eqb len (boards * n) (λ k. h (multiple k).0)) refl)

-- ---- its boards

pub first-board : (n : ℕ) (tray : List ℕ) → drop (0 * n) tray ≡ tray
first-board n tray = rw (zero-mul n) refl

pub next-board : (n i : ℕ) (tray : List ℕ) → drop (i * n) (drop n tray) ≡ drop (suc i * n) tray
next-board n i tray =
    let e : n + i * n ≡ suc i * n = omega (arith, suc-mul i n) in
    drop-drop (i * n) n tray ∙ ap (λ (k : ℕ). drop k tray) e

pub boards-many : (boards n : ℕ) (tray : List ℕ) → length (boards_in boards n tray) ≡ boards
unfolding boards_in
boards-many zero n tray = refl
boards-many (suc boards) n tray = ap suc (boards-many boards n (drop n tray))

-- one more
pub boards-more : (i n : ℕ) (tray : List ℕ) → boards_in (suc i) n tray ≡ boards_in i n tray ++ take n (drop (i * n) tray) ∷ []
unfolding boards_in
boards-more zero n tray = rw (first-board n tray) refl
boards-more (suc i) n tray = ap (λ (l : List (List ℕ)). take n tray ∷ l) (boards-more i n (drop n tray) ∙ rw (next-board n i tray) refl)

module _ (boards n : ℕ) (tray : List ℕ) (long : length tray ≡ boards * n) (i : ℕ) (l : i < boards) where
  -- it ends inside the tray
  pub board-end : i * n + n ≤ length tray
  board-end = rw long (omega (arith, suc-mul i n, mul-le-mul_right n l))

  pub board-long : length (take n (drop (i * n) tray)) ≡ n
  board-long = length-take-le n (drop (i * n) tray) (omega (arith, length-drop (i * n) tray, board-end))
