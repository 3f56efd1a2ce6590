-- Rows as members: the rule at a pair, the rows at a pair, and how many they are.
use Rattle.std.specs.Prelude.{ℕ, ◌+◌, ◌≡◌, refl, Bool, true, false, cond, length}
use Rattle.std.proofs.Common.{arith, sym, ◌∙◌, ap, ap₂, ⊎_elim}
use Rattle.std.proofs.Math.Option.{some}
use mathlib.Core.List.Memᴰ
use mathlib.Core.List.{List, [], ◌∷◌, Memᴰ}
use Rattle.lists.specs.Lists.{first, Ascending, Before}
use Rattle.lists.specs.laws.AllLaw.{all-mem}
use Rattle.lists.specs.laws.TestLaw.{never}
use Rattle.sheet.specs.declared.Row.{Row}
use Rattle.sheet.specs.Sheet.{pair_of, row_of, is_at, rows_at, rule_at}
use Rattle.sheet.specs.laws.RowLaw.{before-irreflexive, rule-has}
use Rattle.sheet.specs.laws.RowTableLaw.{at_same, at_true}
use Rattle.model.proofs.laws.TransitionLaw.{all-rows}
use Rattle.renaming.proofs.laws.SortLaw.{Keys, Up, members, total}

pub row-keys : Keys row_of
row-keys =
    record {
      apart = λ q r e.
          let s : q.source ≡ r.source = cc in
          let x : q.input ≡ r.input = cc in
          let o : q.output ≡ r.output = cc in
          let t : q.target ≡ r.target = cc in
          λ i. record { source = s i; input = x i; output = o i; target = t i };
      long = λ q r. refl;
    }

-- the rule at a pair is one of the rules
pub rule-mem : (rules : List Row) (s x : ℕ) (r : Row) → rule_at rules s x ≡ some r → Memᴰ r rules
rule-mem rules s x r e = rule-has s x (λ q. Memᴰ q rules) rules r (members rules) e

-- and each of the rules is the one at its pair
pub mem-rule : (rules : List Row) (r : Row) → Ascending (Up pair_of) rules → Memᴰ r rules → rule_at rules r.source r.input ≡ some r
unfolding rule_at rows_at Ascending
mem-rule [] r a m = absurd (Memᴰ.not-nil m)
mem-rule (q ∷ rules) r a m = ⊎_elim same (λ n. go (is_at q r.source r.input) refl (mem-rule rules r a.1 n) n) (Memᴰ.cases_cons m)
  where
    same : r ≡ q → first (rows_at (q ∷ rules) r.source r.input) ≡ some r
    same e = ap (λ w. first (rows_at (q ∷ rules) w.source w.input)) e ∙ rw (at_same q) (ap (λ w. some w) (sym e))

    go : (b : Bool) → is_at q r.source r.input ≡ b → first (rows_at rules r.source r.input) ≡ some r → Memᴰ r rules →
        first (cond b (q ∷ rows_at rules r.source r.input) (rows_at rules r.source r.input)) ≡ some r
    go true e h n =
        let at = at_true q r.source r.input e in
        let up : Before (pair_of q) (pair_of r) = all-mem (Up pair_of q) rules r a.0 n in
        absurd (before-irreflexive (pair_of r) (rw (at.0, at.1) at up))
    go false e h n = h

-- rules with one pair are one rule
pub one-row : (rules : List Row) (q r : Row) → Ascending (Up pair_of) rules → Memᴰ q rules → Memᴰ r rules → q.source ≡ r.source → q.input ≡ r.input → q ≡ r
one-row rules q r a m n es ex =
    let e : some q ≡ some r = sym (mem-rule rules q a m) ∙ ap₂ (rule_at rules) es ex ∙ mem-rule rules r a n in
    cc

-- the rows at a pair are the rows that stand there
pub rows-mem : (rows : List Row) (s x : ℕ) (r : Row) → Memᴰ r (rows_at rows s x) → Memᴰ r rows
rows-mem rows s x r m = all-mem (λ q. Memᴰ q rows) (rows_at rows s x) r (all-rows s x (λ q. Memᴰ q rows) rows (members rows)) m

pub mem-rows : (rows : List Row) (r : Row) → Memᴰ r rows → Memᴰ r (rows_at rows r.source r.input)
unfolding rows_at
mem-rows [] r m = absurd (Memᴰ.not-nil m)
mem-rows (q ∷ rows) r m = go (is_at q r.source r.input) refl (mem-rows rows r)
  where
    go : (b : Bool) → is_at q r.source r.input ≡ b → (Memᴰ r rows → Memᴰ r (rows_at rows r.source r.input)) →
        Memᴰ r (cond b (q ∷ rows_at rows r.source r.input) (rows_at rows r.source r.input))
    go true e h = ⊎_elim (λ same. Memᴰ.head same) (λ n. Memᴰ.tail (h n)) (Memᴰ.cases_cons m)
    go false e h = ⊎_elim (λ same. never (cc (sym e ∙ ap (λ w. is_at w r.source r.input) (sym same) ∙ at_same r))) h (Memᴰ.cases_cons m)

-- how many they are, as a sum
pub rows-total : (rows : List Row) (s x : ℕ) → length (rows_at rows s x) ≡ total (λ r. cond (is_at r s x) 1 0) rows
unfolding rows_at total
rows-total [] s x = refl
rows-total (r ∷ rows) s x = go (is_at r s x) (rows-total rows s x)
  where
    go : (b : Bool) → length (rows_at rows s x) ≡ total (λ q. cond (is_at q s x) 1 0) rows →
        length (cond b (r ∷ rows_at rows s x) (rows_at rows s x)) ≡ cond b 1 0 + total (λ q. cond (is_at q s x) 1 0) rows
    go true h = omega arith
    go false h = omega arith
