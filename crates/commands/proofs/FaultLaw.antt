-- A FAULT: what the marks say after it.
use Prim.Native.Nat.{ℕ, ◌+◌, ◌<◌, ◌≤◌}
use mathlib.Core.Path.{◌≡◌, refl, ap, sym, ◌∙◌}
use mathlib.Core.Bool.{true, false, not}
use mathlib.Core.Option.{Option, none, some}
use mathlib.Core.List.{List, [], ◌∷◌, ◌++◌}
use native.Mathlib.Omega.{arith}
use lib.Dec.{eqb}
use lib.ListN.{length, set}
use borrow.Author.Tests.{le-leb, lt-leb, eq-eqb, ne_eqb}
use Rattle.std.specs.Prelude.{Some}
use Rattle.sheet.specs.declared.Row.{Row}
use Rattle.sheet.specs.declared.Size.{Size}
use Rattle.commands.specs.declared.rules.Listed.{Listed}
use Rattle.sheet.specs.Sheet.{Sheet, row_of, rows_at, rule_at}
use Rattle.sheet.specs.Reading.{fault, in_range, is_other, first_broken, refusal}
use Rattle.lists.specs.laws.AllLaw.{all_snoc}
use Rattle.sheet.specs.laws.RowLaw.{last_snoc}
use Rattle.sheet.specs.words.Tabled.{Within16, Digits, pair_key, row_key, next_key, rule_output, rule_target, present}
use Rattle.commands.specs.words.Held.{after_last, FaultsHold}
use Rattle.sheet.specs.laws.RowTableLaw.{If, length-snoc, rows_new, rows-old, table-set, row-order, ascends-true, ascends-false}
use Rattle.commands.proofs.RuleLaw.{digits_in, range-in}

pub other_none : (f : Option Row) (row : Row) {o : ℕ} → If Digits f → o ≡ rule_output f → o ≡ 255 → false ≡ is_other f row
other_none none row d e h = refl
other_none (some q) row d e h = absurd (omega (arith, d.output))

pub other-output : (f : Option Row) (row : Row) {o : ℕ} → o ≡ rule_output f → (o ≡ 255 → ⊥) → (o ≡ row.output → ⊥) → true ≡ is_other f row
other-output none row e h n = absurd (h e)
other-output (some q) row e h n = simp (ne_eqb q.output row.output (λ w. n (e ∙ w)))

pub other-target : (f : Option Row) (row : Row) {o t : ℕ} → o ≡ rule_output f → t ≡ rule_target f → (o ≡ 255 → ⊥) → o ≡ row.output
    → not (eqb t row.target) ≡ is_other f row
other-target none row e e' h n = absurd (h e)
other-target (some q) row e e' h n = rw (e', eq-eqb q.output row.output (sym e ∙ n))

present-snoc : (l : List Row) (r : Row) → present (l ++ r ∷ []) ≡ 1
present-snoc [] r = refl
present-snoc (q ∷ l) r = refl

module _ (sh : Sheet) (z : Size) (t : Listed) (ms : List ℕ) (r : Row) (ez : z ≡ sh.size) (h : FaultsHold t ms sh.faults) where
  pub fault-outside : in_range z r ≡ false → refusal sh (fault r) ≡ 5
  unfolding refusal first_broken
  fault-outside e = simp (range-in sh z r ez e)

  module _ (w : Within16 z) (e : in_range z r ≡ true) where
    pub fault-unordered : row_key r < after_last t.last → refusal sh (fault r) ≡ 6
    unfolding refusal first_broken
    fault-unordered k = simp (range-in sh z r ez e, ascends-false row_of row_key row-order sh.faults r h.digits (digits_in z r w e) (omega (arith, h.key)))

    module _ (k : after_last t.last ≤ row_key r) where
      pub fault-same : is_other (rule_at sh.rules r.source r.input) r ≡ false → refusal sh (fault r) ≡ 7
      unfolding refusal first_broken
      fault-same o = simp (range-in sh z r ez e, ascends-true row_of row_key row-order sh.faults r h.digits (digits_in z r w e) (omega (arith, h.key)), o)

      pub fault-many : is_other (rule_at sh.rules r.source r.input) r ≡ true → 256 ≤ t.count → refusal sh (fault r) ≡ 8
      unfolding refusal first_broken
      fault-many o m =
          simp (range-in sh z r ez e, ascends-true row_of row_key row-order sh.faults r h.digits (digits_in z r w e) (omega (arith, h.key)), o, le-leb 256 (length sh.faults) (omega (arith, h.count)))

      pub fault-taken : is_other (rule_at sh.rules r.source r.input) r ≡ true → t.count < 256
          → (refusal sh (fault r) ≡ 0) × FaultsHold (record { count = t.count + 1; last = Some (row_key r) }) (set ms (pair_key r) 1) (sh.faults ++ r ∷ [])
      unfolding refusal first_broken
      fault-taken o m =
          let l = sh.faults in
          let d = digits_in z r w e in (
            simp (range-in sh z r ez e, ascends-true row_of row_key row-order l r h.digits d (omega (arith, h.key)), o, lt-leb 256 (length l) (omega (arith, h.count))),
            record {
              count = simp length-snoc (ap (λ (n : ℕ). n + 1) h.count);
              most = omega arith;
              key = sym (ap (next_key row_key) (last_snoc l r));
              digits = all_snoc Digits l r h.digits d;
              marks = table-set h.marks r d.source d.input (λ s x a. ap present (rows_new l r s x a) ∙ present-snoc (rows_at l s x) r) (λ s x a. ap present (rows-old l r s x a));
            },
          )
