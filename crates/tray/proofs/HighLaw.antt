-- The first choice of a tray that is too high.
use Rattle.std.specs.Prelude.{Ok, Err, Some, None}
use Rattle.std.specs.Prelude.{◌+◌, ◌-◌, ◌*◌, ◌<◌, ◌≤◌, ◌≡◌, ◌∷◌, ◌++◌}
use Rattle.lists.specs.Proving.{arith, ℕ, zero, suc, refl, sym, ◌∙◌, ap, Bool, true, false, cond, Option, none, some, List, [], length, take, drop, ltb, eq-eqb, never}
use native.Mathlib.Nat.{suc-mul, zero-mul, mul-zero, le_of_suc-le-suc}
use lib.ListN.{length-drop, drop_of_length-le}
use lib.Seq.{drop-drop, length-take-le}
use Rattle.lists.specs.Options.{coded}
use Rattle.sheet.specs.Sheet.{Sheet}
use Rattle.sheet.specs.Reading.{accepted}
use Rattle.model.specs.Mutant.{slots, later}
use Rattle.model.specs.Operations.{first_high, with_mutant, refuse_at}
use Rattle.model.specs.Tray.{slots_for}
use Rattle.model.proofs.laws.OperationLaw.{high-first, mutant-high}
use Rattle.sheet.specs.declared.Refusal.{Refusal}
use Rattle.sheet.specs.Tables.{refusal_of}
use Rattle.machine.specs.Fits.{Fit, fit_answer, fit_of}
use Rattle.machine.specs.laws.FitsLaw.{fit-mutant}
use Rattle.tray.proofs.BoardLaw.{first-board, next-board}

-- an index from n on
abbrev pub shifted : ℕ → Option ℕ → Option ℕ
shifted n none = none
shifted n (some i) = some (n + i)

-- the first of two, the second from n on
abbrev either : Option ℕ → ℕ → Option ℕ → Option ℕ
either none n o = shifted n o
either (some i) n o = some i

shifted-zero : (o : Option ℕ) → shifted 0 o ≡ o
shifted-zero none = refl
shifted-zero (some i) = let e : 0 + i ≡ i = omega arith in ap some e

shifted-twice : (m n : ℕ) (o : Option ℕ) → shifted m (shifted n o) ≡ shifted (m + n) o
shifted-twice m n none = refl
shifted-twice m n (some i) = let e : m + (n + i) ≡ m + n + i = omega arith in ap some e

later-shifted : (n : ℕ) (o : Option ℕ) → later (shifted n o) ≡ shifted (suc n) o
later-shifted n none = refl
later-shifted n (some i) = let e : suc (n + i) ≡ suc n + i = omega arith in ap some e

later-either : (o : Option ℕ) (n : ℕ) (p : Option ℕ) → later (either o n p) ≡ either (later o) (suc n) p
later-either none n p = later-shifted n p
later-either (some i) n p = refl

high-nil : (cs : List ℕ) → first_high cs [] ≡ none
unfolding first_high
high-nil [] = refl
high-nil (c ∷ cs) = refl

-- in two parts
pub high_parts : (cs ds b : List ℕ) → first_high (cs ++ ds) b ≡ either (first_high cs (take (length cs) b)) (length cs) (first_high ds (drop (length cs) b))
unfolding first_high
high_parts [] ds b = sym (shifted-zero (first_high ds b))
high_parts (c ∷ cs) ds [] = rw (high-nil ds) refl
high_parts (c ∷ cs) ds (i ∷ b) = go (ltb i c) (high_parts cs ds b)
  where
    go : (t : Bool) → first_high (cs ++ ds) b ≡ either (first_high cs (take (length cs) b)) (length cs) (first_high ds (drop (length cs) b)) →
        cond t (later (first_high (cs ++ ds) b)) (some zero)
        ≡ either (cond t (later (first_high cs (take (length cs) b))) (some zero)) (suc (length cs)) (first_high ds (drop (length cs) b))
    go true h = ap later h ∙ later-either (first_high cs (take (length cs) b)) (length cs) (first_high ds (drop (length cs) b))
    go false h = refl

-- ---- the loop: the boards before `at` are mutants, so many are left

pub record LowTo (cs : List ℕ) (boards : ℕ) (tray : List ℕ) (at : ℕ) : Type 0 where
  pub left : ℕ
  pub long : at + left * length cs ≡ length tray
  pub same : first_high (slots_for boards cs) tray ≡ shifted at (first_high (slots_for left cs) (drop at tray))

pub low-none : {cs tray : List ℕ} {boards : ℕ} → length tray ≡ boards * length cs → LowTo cs boards tray 0
low-none {cs} {tray} {boards} e = record { left = boards; long = omega (arith, e); same = sym (shifted-zero (first_high (slots_for boards cs) tray)) }

module _ {cs tray : List ℕ} {boards at : ℕ} (inv : LowTo cs boards tray at) where
  pub low-all : length tray ≤ at → None ≡ coded (first_high (slots_for boards cs) tray)
  low-all l = rw (inv.same, drop_of_length-le tray l, high-nil (slots_for inv.left cs)) refl

  module _ (l : at < length tray) where
    -- a board more
    record Next : Type 0 where
      after : ℕ
      is : inv.left ≡ suc after

    next : Next
    next = go inv.left refl inv.long
      where
        go : (k : ℕ) → inv.left ≡ k → at + k * length cs ≡ length tray → Next
        go zero e h = absurd (omega (arith, zero-mul (length cs)))
        go (suc k) e h = record { after = k; is = e }

    many : at + (length cs + next.after * length cs) ≡ length tray
    many = omega (arith, rw next.is at inv.long, suc-mul next.after (length cs))

    pub low_end : at + length cs ≤ length tray
    low_end = omega (arith, many)

    pub low-some : 0 < length cs
    low-some = go (length cs) many
      where
        go : (n : ℕ) → at + (n + next.after * n) ≡ length tray → 0 < n
        go zero h = absurd (omega (arith, mul-zero next.after))
        go (suc n) h = omega arith

    pub low-long : length (take (length cs) (drop at tray)) ≡ length cs
    low-long = length-take-le (length cs) (drop at tray) (omega (arith, length-drop at tray, low_end))

    parted : first_high (slots_for boards cs) tray ≡ shifted at (either (first_high cs (take (length cs) (drop at tray))) (length cs) (first_high (slots_for next.after cs) (drop (at + length cs) tray)))
    unfolding slots_for
    parted =
        inv.same
        ∙ ap (λ (k : ℕ). shifted at (first_high (slots_for k cs) (drop at tray))) next.is
        ∙ rw (← drop-drop (length cs) at tray) (ap (shifted at) (high_parts cs (slots_for next.after cs) (drop at tray)))

    -- it is a mutant
    pub low-more : first_high cs (take (length cs) (drop at tray)) ≡ none → LowTo cs boards tray (at + length cs)
    low-more e =
        record {
          left = next.after;
          long = omega (arith, many);
          same = parted ∙ rw e (shifted-twice at (length cs) (first_high (slots_for next.after cs) (drop (at + length cs) tray)));
        }

    -- it is not
    pub low-high : (j : ℕ) → first_high cs (take (length cs) (drop at tray)) ≡ some j → Some (at + j) ≡ coded (first_high (slots_for boards cs) tray)
    low-high j e = rw (parted, e) refl

-- ---- as a board is refused

module _ (sh : Sheet) (b : List ℕ) {f : Fit} (is : f ≡ fit_of sh b) where
  pub fit_none : f ≡ Ok tt → first_high (slots sh) b ≡ none
  fit_none e = mutant-high sh b (fit-mutant sh b (sym is ∙ e))

  pub fit-some : {why : Refusal} → length b ≡ length (slots sh) → f ≡ Err why → first_high (slots sh) b ≡ some why.place
  unfolding fit_of with_mutant
  fit-some {why} long e = go (first_high (slots sh) b) (rw (eq-eqb (length b) (length (slots sh)) long) at (sym is ∙ e))
    where
      at_place : Refusal → Option ℕ
      at_place r = some r.place

      go : (o : Option ℕ) → fit_answer (refuse_at o 14 (accepted tt)) ≡ Err why → o ≡ some why.place
      go none h = never (cc)
      go (some i) h = let same : refusal_of 14 i ≡ why = cc in ap at_place same

-- ---- a turn of the loop, with the board as it is lent

module _ (sh : Sheet) {boards : ℕ} {tray : List ℕ} {at n : ℕ} (inv : LowTo (slots sh) boards tray at) (l : at < length tray) (count : n ≡ length (slots sh)) where
  lent : take (at + n - at) (drop at tray) ≡ take (length (slots sh)) (drop at tray)
  lent = let e : at + n - at ≡ length (slots sh) = omega (arith, count) in rw e refl

  pub turn_end : (at + n ≤ length tray) × (0 < n)
  turn_end = (omega (arith, count, low_end inv l), omega (arith, count, low-some inv l))

  module _ {f : Fit} (is : f ≡ fit_of sh (take (at + n - at) (drop at tray))) where
    is-there : f ≡ fit_of sh (take (length (slots sh)) (drop at tray))
    is-there = is ∙ ap (fit_of sh) lent

    pub turn_more : f ≡ Ok tt → LowTo (slots sh) boards tray (at + n)
    turn_more e = rw count (low-more inv l (fit_none sh (take (length (slots sh)) (drop at tray)) is-there e))

    module _ {why : Refusal} (e : f ≡ Err why) where
      high : first_high (slots sh) (take (length (slots sh)) (drop at tray)) ≡ some why.place
      high = fit-some sh (take (length (slots sh)) (drop at tray)) is-there (low-long inv l) e

      pub turn-high : Some (at + why.place) ≡ coded (first_high (slots_for boards (slots sh)) tray)
      turn-high = low-high inv l why.place high

      pub turn_below : at + why.place < length tray
      turn_below = omega (arith, (high-first (slots sh) (take (length (slots sh)) (drop at tray)) why.place high).is, low-long inv l, low_end inv l)

-- ---- board by board

-- the choice at this index is the first of its board that is too high, and no board before has one
pub record HighBoard (cs : List ℕ) (boards : ℕ) (tray : List ℕ) (place : ℕ) : Type 0 where
  pub board : ℕ
  pub index : ℕ
  pub is : board < boards
  pub at : place ≡ board * length cs + index
  pub before : (i : ℕ) → i < board → first_high cs (take (length cs) (drop (i * length cs) tray)) ≡ none
  pub here : first_high cs (take (length cs) (drop (board * length cs) tray)) ≡ some index

abbrev pub ByBoards : List ℕ → ℕ → List ℕ → Option ℕ → Type 0
ByBoards cs boards tray none = (i : ℕ) → i < boards → first_high cs (take (length cs) (drop (i * length cs) tray)) ≡ none
ByBoards cs boards tray (some place) = HighBoard cs boards tray place

pub by-boards : (cs : List ℕ) (boards : ℕ) (tray : List ℕ) → ByBoards cs boards tray (first_high (slots_for boards cs) tray)
unfolding slots_for first_high
by-boards cs zero tray = λ i l. absurd (omega arith)
by-boards cs (suc boards) tray =
    rw (high_parts cs (slots_for boards cs) tray)
    (go (first_high cs (take (length cs) tray)) refl (first_high (slots_for boards cs) (drop (length cs) tray)) (by-boards cs boards (drop (length cs) tray)))
  where
    front : {o : Option ℕ} → first_high cs (take (length cs) tray) ≡ o → first_high cs (take (length cs) (drop (0 * length cs) tray)) ≡ o
    front e = rw (first-board (length cs) tray) e

    onward : {o : Option ℕ} (i : ℕ) → first_high cs (take (length cs) (drop (i * length cs) (drop (length cs) tray))) ≡ o →
        first_high cs (take (length cs) (drop (suc i * length cs) tray)) ≡ o
    onward i e = rw (← next-board (length cs) i tray) e

    both : (k : ℕ) → first_high cs (take (length cs) tray) ≡ none →
        ((i : ℕ) → i < k → first_high cs (take (length cs) (drop (i * length cs) (drop (length cs) tray))) ≡ none) →
        (i : ℕ) → i < suc k → first_high cs (take (length cs) (drop (i * length cs) tray)) ≡ none
    both k e h zero l = front e
    both k e h (suc i) l = onward i (h i (le_of_suc-le-suc l))

    go : (o : Option ℕ) → first_high cs (take (length cs) tray) ≡ o → (p : Option ℕ) → ByBoards cs boards (drop (length cs) tray) p →
        ByBoards cs (suc boards) tray (either o (length cs) p)
    go (some j) e p h =
        record { board = 0; index = j; is = omega arith; at = omega (arith, zero-mul (length cs)); before = λ i l. absurd (omega arith); here = front e }
    go none e none h = both boards e h
    go none e (some q) h =
        record {
          board = suc h.board;
          index = h.index;
          is = omega (arith, h.is);
          at = omega (arith, h.at, suc-mul h.board (length cs));
          before = both h.board e h.before;
          here = onward h.board h.here;
        }
