-- Counting nodes and keeping a witness, in the notes.
use Rattle.std.specs.Prelude.{◌+◌, ◌%◌, ◌<◌, ◌≤◌, ◌≡◌, ◌∷◌}
use Rattle.lists.specs.Proving.{arith, ℕ, ◌∙◌, List, [], length, get_or, set, get_or-set_same, get_or-set_other, ℕ_discrete}
use Rattle.leaves.specs.Noted.{Changed, Keeps, nodes_of}
use Rattle.leaves.specs.laws.NotedLaw.{changed-none, changed-set, changed-more, changed-wider}

-- ---- one node more: in the low half, or where that is full
pub counted : (notes : List ℕ) → 1 < length notes → get_or notes 0 0 < 65535 → get_or notes 1 0 < 65536 →
    nodes_of (set notes 0 (get_or notes 0 0 + 1)) ≡ (nodes_of notes + 1) % 4294967296
counted [] l a b = absurd (omega arith)
counted (x ∷ []) l a b = absurd (omega arith)
counted (x ∷ y ∷ ns) l a b = omega arith

pub carried : (notes : List ℕ) (r : ℕ) → 1 < length notes → 65535 ≤ get_or notes 0 0 → get_or notes 0 0 < 65536 → r ≡ (get_or (set notes 0 0) 1 0 + 1) % 65536 → get_or notes 1 0 < 65536 →
    nodes_of (set (set notes 0 0) 1 r) ≡ (nodes_of notes + 1) % 4294967296
carried [] r l a b e h = absurd (omega arith)
carried (x ∷ []) r l a b e h = absurd (omega arith)
carried (x ∷ y ∷ ns) r l a b e h = omega arith

-- ---- the choices of a witness, those below n
pub record Kept (choices old new : List ℕ) (n : ℕ) : Type 0 where
  pub changed : Changed 8 40 old new
  pub here : (j : ℕ) → j < n → 8 + j < length old → get_or new (8 + j) 0 ≡ get_or choices j 0

pub kept-none : {choices notes : List ℕ} → Kept choices notes notes 0
kept-none = record { changed = changed-none; here = λ j h. absurd (omega arith) }

pub kept_more : {choices old new next : List ℕ} {n : ℕ} → n < 32 → Kept choices old new n → next ≡ set new (8 + n) (get_or choices n 0) → Kept choices old next (n + 1)
kept_more {choices} {old} {new} {next} {n} l f e = record {
  changed = changed-more f.changed (changed-set (8 + n) (get_or choices n 0) (omega arith) (omega arith) e);
  here = λ j h w. rw e (go j h w (ℕ_discrete j n));
}
  where
    go : (j : ℕ) → j < n + 1 → 8 + j < length old → Dec (j ≡ n) → get_or (set new (8 + n) (get_or choices n 0)) (8 + j) 0 ≡ get_or choices j 0
    go j h w (yes d) = rw d (get_or-set_same new (8 + n) (get_or choices n 0) 0 (omega (arith, f.changed.long)))
    go j h w (no d) = get_or-set_other new (8 + n) (8 + j) (get_or choices n 0) 0 (λ v. d (omega (arith, v))) ∙ f.here j (omega (arith, d)) w

pub kept-all : {choices old new next : List ℕ} {n : ℕ} → 32 ≤ n → Kept choices old new n → next ≡ set new 4 1 → Keeps choices old next
kept-all {choices} {old} {new} {next} {n} l f e = record {
  changed = changed-more (changed-wider 4 40 (omega arith) (omega arith) f.changed) (changed-set 4 1 (omega arith) (omega arith) e);
  between = λ k h w. rw e (get_or-set_other new 4 k 1 0 (λ v. omega (arith, v)) ∙ f.changed.below k w);
  kept = λ w. rw e (get_or-set_same new 4 1 0 (omega (arith, f.changed.long)));
  here = λ j h w. rw e (get_or-set_other new 4 (8 + j) 1 0 (λ v. omega (arith, v)) ∙ f.here j (omega arith) w);
}
