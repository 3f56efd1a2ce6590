-- A row of notes that admits every entry: none of it, one note more, all.
use Rattle.std.specs.Prelude.{◌+◌, ◌*◌, ◌<◌, ◌≤◌, ◌≡◌}
use Rattle.lists.specs.Proving.{arith, ℕ, ◌∙◌, ap, List, length, get_or, set, get_or-set_same, get_or-set_other, ℕ_discrete}
use Rattle.leaves.specs.laws.NotedLaw.{changed-none, changed-set, changed-more}
use Rattle.store.specs.Live.{Admitted}

pub admitted-none : {row : ℕ} {notes : List ℕ} → Admitted 0 row notes notes
admitted-none = record { changed = changed-none; all = λ w h. absurd (omega arith) }

pub admitted-more : {n row : ℕ} {old new next : List ℕ} (at : ℕ) → n < 32 → at ≡ 8768 + row * 32 + n → Admitted n row old new → next ≡ set new at 65535 → Admitted (n + 1) row old next
admitted-more {n} {row} {old} {new} {next} at l e f s = record {
  changed = changed-more f.changed (changed-set at 65535 (omega arith) (omega arith) s);
  all = λ w h long. rw s (go w h long (ℕ_discrete w n));
}
  where
    go : (w : ℕ) → w < n + 1 → 8768 + row * 32 + w < length old → Dec (w ≡ n) → get_or (set new at 65535) (8768 + row * 32 + w) 0 ≡ 65535
    go w h long (yes d) =
        let here : 8768 + row * 32 + w ≡ at = omega arith in
        ap (λ (k : ℕ). get_or (set new at 65535) k 0) here ∙ get_or-set_same new at 65535 0 (omega (arith, f.changed.long))
    go w h long (no d) = get_or-set_other new at (8768 + row * 32 + w) 65535 0 (λ v. d (omega (arith, v))) ∙ f.all w (omega (arith, d)) long

pub admitted-all : {n row : ℕ} {old new : List ℕ} → 32 ≤ n → Admitted n row old new → Admitted 32 row old new
admitted-all l f = record { changed = f.changed; all = λ w h. f.all w (omega arith) }
