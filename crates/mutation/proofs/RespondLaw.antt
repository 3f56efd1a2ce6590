-- Running a machine: what holds after i inputs.
use Prim.Native.Nat.{ℕ, suc, ◌+◌, ◌%◌, ◌≤◌, ◌<◌}
use native.Mathlib.Numerals.{add-one}
use native.Mathlib.Omega.{arith}
use mathlib.Core.Path.{◌≡◌, refl, sym, ◌∙◌, ap, ap₂}
use mathlib.Core.List.{List, ◌∷◌, ◌++◌, append-nil}
use lib.ListN.{length, get_or, set, take, drop, length-set, take-append-drop, drop_of_length-le}
use lib.Seq.{take-suc-set, append_snoc, drop-set-lt, drop-drop, drop-cons}
use Rattle.model.specs.Machine.{outputs_from}
use Rattle.model.specs.Used.{mark, mark_from}
use Rattle.model.proofs.laws.SuiteLaw.{outputs-length}
use Rattle.lists.specs.Lists.{overlay}
use Rattle.block.specs.Layout.{pair, states_of}
use Rattle.machine.specs.Product.{moves_in}
use Rattle.machine.specs.laws.LaidLaw.{move_at}
use Rattle.usage.specs.Marks.{start_slot_of, slot_at, acts_in}
use Rattle.mutation.specs.Operate.{Runnable}

pub record Responding (m outputs targets : List ℕ) (start : ℕ) (xs buf₀ buf : List ℕ) (used s i : ℕ) : Type 0 where
  pub counts : i ≤ length xs
  pub state : s < states_of m
  pub long : length buf ≡ length buf₀
  pub front : take i buf ++ outputs_from (moves_in m outputs targets) s (drop i xs) ≡ outputs_from (moves_in m outputs targets) start xs
  pub back : drop i buf ≡ drop i buf₀
  pub marks : mark_from (acts_in m targets) used s (drop i xs) ≡ mark_from (acts_in m targets) (mark 0 (start_slot_of m)) start xs

module _ {m targets xs : List ℕ} {start : ℕ} (rn : Runnable m targets start xs) (outputs : List ℕ) {buf₀ : List ℕ} where
  pub respond-start : {used : ℕ} → used ≡ mark 0 (start_slot_of m) → Responding m outputs targets start xs buf₀ buf₀ used start 0
  respond-start e = record { counts = omega arith; state = rn.low; long = refl; front = refl; back = refl; marks = rw e refl }

  module _ {buf : List ℕ} {used s i : ℕ} (inv : Responding m outputs targets start xs buf₀ buf used s i) where
    pub place-low : i < length xs → (s < 16) × (get_or xs i 0 < 16)
    place-low l = (omega (arith, inv.state, rn.valid.formed.few-states), omega (arith, rn.below i l, rn.valid.formed.few-inputs))

    outputs-next : i < length xs → outputs_from (moves_in m outputs targets) s (drop i xs)
        ≡ get_or outputs (pair s (get_or xs i 0)) 0 ∷ outputs_from (moves_in m outputs targets) (get_or targets (pair s (get_or xs i 0)) 0) (drop (suc i) xs)
    unfolding outputs_from
    outputs-next l = rw (drop-cons xs i 0 l, move_at m outputs targets s (get_or xs i 0) inv.state (rn.below i l)) refl

    marks-next : i < length xs → mark_from (acts_in m targets) used s (drop i xs)
        ≡ mark_from (acts_in m targets) (mark used (slot_at m (pair s (get_or xs i 0)))) (get_or targets (pair s (get_or xs i 0)) 0) (drop (suc i) xs)
    unfolding mark_from acts_in
    marks-next l =
        let es : s % 16 ≡ s = omega (arith, (place-low l).0) in
        let ex : get_or xs i 0 % 16 ≡ get_or xs i 0 = omega (arith, (place-low l).1) in
        rw (drop-cons xs i 0 l)
        (ap₂ (λ (a c : ℕ). mark_from (acts_in m targets) (mark used (slot_at m (pair a c))) (get_or targets (pair a c) 0) (drop (suc i) xs)) es ex)

    pub respond-more : {at next : ℕ} → i < length xs → i < length buf → at ≡ pair s (get_or xs i 0) → next ≡ mark used (slot_at m at) →
        Responding m outputs targets start xs buf₀ (set buf i (get_or outputs at 0)) next (get_or targets at 0) (i + 1)
    respond-more {at} l lb e en =
        record {
          counts = omega arith;
          state = rw e (rn.valid.below s (get_or xs i 0) inv.state (rn.below i l));
          long = length-set buf i (get_or outputs at 0) ∙ inv.long;
          front = rw (add-one, take-suc-set buf i (get_or outputs at 0) lb, append_snoc, e, ← outputs-next l) inv.front;
          back =
              drop-set-lt (i + 1) buf i (get_or outputs at 0) (omega arith) ∙ sym (drop-drop 1 i buf) ∙ ap (λ (r : List ℕ). drop 1 r) inv.back ∙ drop-drop 1 i buf₀;
          marks = rw (add-one, en, e, ← marks-next l) inv.marks;
        }

    pub respond-marked : length xs ≤ i → used ≡ mark_from (acts_in m targets) (mark 0 (start_slot_of m)) start xs
    unfolding mark_from
    respond-marked l = ap (mark_from (acts_in m targets) used s) (sym (drop_of_length-le xs l)) ∙ inv.marks

    pub respond-end : length xs ≤ i → buf ≡ overlay (outputs_from (moves_in m outputs targets) start xs) buf₀
    unfolding outputs_from
    respond-end l =
        let e : take i buf ≡ outputs_from (moves_in m outputs targets) start xs =
        sym (append-nil (take i buf)) ∙ ap (λ (r : List ℕ). take i buf ++ outputs_from (moves_in m outputs targets) s r) (sym (drop_of_length-le xs l)) ∙ inv.front in
        let n : i ≡ length (outputs_from (moves_in m outputs targets) start xs) = omega (arith, inv.counts, outputs-length (moves_in m outputs targets) start xs) in
        sym (take-append-drop i buf) ∙ ap₂ (λ (a b : List ℕ). a ++ b) e (inv.back ∙ ap (λ (j : ℕ). drop j buf₀) n)
