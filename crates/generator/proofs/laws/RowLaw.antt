-- Rows added at the end.
use Rattle.std.specs.Prelude.{◌≡◌, ℕ, ◌*◌, Bool, true, false, cond, List, [], ◌∷◌, ◌++◌, length, ◌==◌}
use Rattle.std.proofs.Common.{arith, ◌∙◌, inl, inr}
use Rattle.std.proofs.Math.Path.{refl, ap}
use Rattle.std.proofs.Math.Option.{some}
use borrow.Author.Tests.{eqb-true, eq-eqb}
use Rattle.sheet.specs.declared.Row.{Row}
use Rattle.lists.specs.Lists.{All, Ascending, Before, first}
use Rattle.sheet.specs.Sheet.{pair_of, row_of, is_at, rows_at, rule_at}
use Rattle.sheet.specs.Encode.{row_bytes}
use Rattle.lists.specs.laws.TestLaw.{never, both, and_both}
use Rattle.lists.specs.laws.AllLaw.{all_snoc}
use Rattle.sheet.specs.laws.RowLaw.{before-irreflexive}

module _ {A : Type 0} where
  -- what each element keeps
  pub all_map : (P Q : A → Type 0) → ((a : A) → P a → Q a) → (l : List A) → All P l → All Q l
  all_map P Q f [] h = tt
  all_map P Q f (a ∷ l) h = (f a h.0, all_map P Q f l h.1)

  pub ascending-add : (R : A → A → Type 0) (l : List A) (a : A) → Ascending R l → All (λ q. R q a) l → Ascending R (l ++ a ∷ [])
  unfolding Ascending
  ascending-add R [] a h k = (tt, tt)
  ascending-add R (q ∷ l) a h k = (all_snoc (R q) l a h.0 k.0, ascending-add R l a h.1 k.1)

-- rows at earlier pairs stand before
pub before-row : (q r : Row) → Before (pair_of q) (pair_of r) → Before (row_of q) (row_of r)
unfolding Before
before-row q r (inl h) = inl h
before-row q r (inr (e, inl h)) = inr (e, inl h)
before-row q r (inr (e, inr h)) = absurd h.1

module _ (s x : ℕ) where
  rows_append : (l m : List Row) → rows_at (l ++ m) s x ≡ rows_at l s x ++ rows_at m s x
  unfolding rows_at
  rows_append [] m = refl
  rows_append (r ∷ l) m = one (is_at r s x) (rows_append l m)
    where
      one : (b : Bool) → rows_at (l ++ m) s x ≡ rows_at l s x ++ rows_at m s x
          → cond b (r ∷ rows_at (l ++ m) s x) (rows_at (l ++ m) s x) ≡ cond b (r ∷ rows_at l s x) (rows_at l s x) ++ rows_at m s x
      one true e = ap (λ (t : List Row). r ∷ t) e
      one false e = e

  rows_none : (l : List Row) → All (λ q. Before (pair_of q) (s ∷ x ∷ [])) l → rows_at l s x ≡ []
  unfolding rows_at
  rows_none [] h = refl
  rows_none (r ∷ l) h = one (is_at r s x) refl (rows_none l h.1)
    where
      one : (b : Bool) → is_at r s x ≡ b → rows_at l s x ≡ [] → cond b (r ∷ rows_at l s x) (rows_at l s x) ≡ []
      one true e k =
          let t = both (r.source == s) (r.input == x) e in
          let es : r.source ≡ s = eqb-true _ _ t.0 in
          let ex : r.input ≡ x = eqb-true _ _ t.1 in
          absurd (before-irreflexive (s ∷ x ∷ []) (rw (es, ex) at h.0))
      one false e k = k

  -- a rule stays
  pub rule-stays : (l m : List Row) (r : Row) → rule_at l s x ≡ some r → rule_at (l ++ m) s x ≡ some r
  unfolding rule_at
  rule-stays l m r e = ap first (rows_append l m) ∙ one (rows_at l s x) e
    where
      one : (t : List Row) → first t ≡ some r → first (t ++ rows_at m s x) ≡ some r
      one [] k = never (cc)
      one (q ∷ t) k = k

-- and one after all others is that at its pair
pub rule-added : (l : List Row) (r : Row) → All (λ q. Before (pair_of q) (pair_of r)) l → rule_at (l ++ r ∷ []) r.source r.input ≡ some r
unfolding rule_at rows_at
rule-added l r h =
    let here = and_both (r.source == r.source) (r.input == r.input) (eq-eqb r.source r.source refl) (eq-eqb r.input r.input refl) in
    rw (rows_append r.source r.input l (r ∷ []), rows_none r.source r.input l h, here)

pub rows-length : (b : ℕ) (l : List Row) → length (row_bytes b l) ≡ 5 * length l
unfolding row_bytes
rows-length b [] = refl
rows-length b (r ∷ l) = let h = rows-length b l in omega arith
