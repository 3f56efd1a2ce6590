-- Cursors that go on, notes of what is refuted, and the suspect that is picked.
use Rattle.std.specs.Prelude.{◌+◌, ◌/◌, ◌%◌, ◌^◌, ◌<◌, ◌≤◌, ◌≡◌, ◌⊎◌}
use Rattle.std.proofs.Common.{le_of_suc-le-suc}
use Rattle.lists.specs.Proving.{arith, ℕ, zero, suc, [], ◌∷◌, refl, sym, ◌∙◌, ap, subst, inl, inr, List, length, get_or, set, length-set, get_or-set_same, get_or-set_other, ℕ_discrete}
use Rattle.block.specs.Layout.{slots_of}
use Rattle.cubes.specs.Sets.{Has, Joined, Without}
use Rattle.cubes.specs.laws.SetLaw.{nothing}
use Rattle.leaves.specs.Noted.{Changed}
use Rattle.leaves.specs.laws.MembersLaw.{each_set}
use Rattle.leaves.specs.laws.NotedLaw.{changed-none, changed-set, changed-more, changed-wider}
use Rattle.cursors.specs.Steering.{Advanced, Marked, Picked}
use Rattle.cursors.specs.declared.progress.Cursor.{Cursor}
use Rattle.cursors.specs.declared.progress.Wait.{Wait}

-- ---- tests that go on
-- in a list it does not matter what is read past its end
inside-any : {A : Type 0} (xs : List A) (i : ℕ) (d e : A) → i < length xs → get_or xs i d ≡ get_or xs i e
inside-any [] i d e l = absurd (omega arith)
inside-any (x ∷ xs) zero d e l = refl
inside-any (x ∷ xs) (suc i) d e l = inside-any xs i d e (le_of_suc-le-suc l)

pub advanced-none : {last : Wait} {cursors : List Cursor} → Advanced last cursors cursors
advanced-none = record { long = refl; same = λ t c l n. refl }

pub advanced-more : {last : Wait} {old new : List Cursor} (t : ℕ) (c none : Cursor) → (((get_or new t none).wait ≡ last → ⊥) → c ≡ get_or new t none) → Advanced last old new → Advanced last old (set new t c)
advanced-more {last} {old} {new} t c none e f = record { long = length-set new t c ∙ f.long; same = λ k d l n. go k d l n (ℕ_discrete k t) }
  where
    go : (k : ℕ) (d : Cursor) → k < length old → ((get_or old k d).wait ≡ last → ⊥) → Dec (k ≡ t) → get_or (set new t c) k d ≡ get_or old k d
    go k d l n (yes w) =
        let lt : t < length new = omega (arith, f.long) in
        let here : get_or new t none ≡ get_or old k d = inside-any new t none d lt ∙ ap (λ (j : ℕ). get_or new j d) (sym w) ∙ f.same k d l n in
        ap (λ (j : ℕ). get_or (set new t c) j d) w ∙ get_or-set_same new t c d lt ∙ e (λ z. n (ap (λ (x : Cursor). x.wait) (sym here) ∙ z)) ∙ here
    go k d l n (no w) = get_or-set_other new t k c d w ∙ f.same k d l n

-- ---- next states that are refuted
decide : (set j : ℕ) → Dec (Has set j)
unfolding Has
decide set j = ℕ_discrete (set / 2 ^ j % 2) 1

-- all of them were
pub marked-none : {notes : List ℕ} {next old new : ℕ} (k cell : ℕ) → cell ≡ k → old ≡ get_or notes (64 + cell) 0 → Without next old new → new ≡ 0 → Marked k next notes notes
marked-none {notes} {next} {old} {new} k cell e eo f z = record { changed = changed-none; dead = λ l. subst (λ (d : ℕ). Joined d next d) there (record { left = λ j h. h; right = λ j h. go j h (decide old j); only = λ j h. inl h }) }
  where
    there : old ≡ get_or notes (64 + k) 0
    there = eo ∙ ap (λ (x : ℕ). get_or notes (64 + x) 0) e

    go : (j : ℕ) → Has next j → Dec (Has old j) → Has old j
    go j h (yes w) = w
    go j h (no n) = absurd (nothing j (subst (λ (d : ℕ). Has d j) z (f.all j h n)))

pub marked-some : {notes mid last : List ℕ} {next old both : ℕ} (k cell : ℕ) → cell ≡ k → cell < 512 → old ≡ get_or notes (64 + cell) 0 →
    Changed 576 8768 notes mid → Joined old next both → last ≡ set mid (64 + cell) both → Marked k next notes last
marked-some {notes} {mid} {last} {next} {old} {both} k cell e l eo f jo w = record {
  changed = changed-more (changed-wider 64 8768 (omega arith) (omega arith) f) (changed-set (64 + cell) both (omega arith) (omega arith) w);
  dead = λ h. subst (λ (d : ℕ). Joined d next (get_or last (64 + k) 0)) there (subst (λ (d : ℕ). Joined old next d) (sym (here h)) jo);
}
  where
    there : old ≡ get_or notes (64 + k) 0
    there = eo ∙ ap (λ (x : ℕ). get_or notes (64 + x) 0) e

    here : 64 + k < length notes → get_or last (64 + k) 0 ≡ both
    here h = ap (λ (x : ℕ). get_or last (64 + x) 0) (sym e) ∙ rw w (get_or-set_same mid (64 + cell) both 0 (omega (arith, f.long)))

-- ---- the suspect that is picked
pub picked_none : {m waiting : List ℕ} → Picked m waiting 255
picked_none = record { slot = λ n. absurd (n refl); low = λ n. absurd (n refl); wanted = λ n. absurd (n refl) }

pub picked_more : {m waiting : List ℕ} {old r j w : ℕ} → j < slots_of m → j < 32 → w ≡ j → (r ≡ old) ⊎ ((r ≡ j) × (get_or waiting w 0 ≡ 0 → ⊥)) → Picked m waiting old → Picked m waiting r
picked_more {m} {waiting} {old} {r} {j} {w} ls l e (inl s) f = subst (Picked m waiting) (sym s) f
picked_more {m} {waiting} {old} {r} {j} {w} ls l e (inr s) f = record {
  slot = λ n. omega (arith, s.0);
  low = λ n. omega (arith, s.0);
  wanted = λ n z. s.1 (ap (λ (x : ℕ). get_or waiting x 0) (e ∙ sym s.0) ∙ z);
}
