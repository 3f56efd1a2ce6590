-- A RULE: what the tables say after it.
use Prim.Native.Nat.{ℕ, ◌+◌, ◌<◌, ◌≤◌}
use mathlib.Core.Path.{◌≡◌, ap, sym, ◌∙◌}
use mathlib.Core.Bool.{Bool, true, false}
use mathlib.Core.Option.{some}
use mathlib.Core.List.{List, [], ◌∷◌, ◌++◌}
use native.Mathlib.Omega.{arith}
use lib.ListN.{set}
use Rattle.std.specs.Prelude.{suc, Some, None, MatchOption, leb}
use Rattle.std.specs.Prelude.{Option as Maybe}
use borrow.Author.Tests.{leb-true, leb-false}
use Rattle.lists.specs.laws.TestLaw.{never}
use Rattle.sheet.specs.declared.Row.{Row}
use Rattle.sheet.specs.declared.Size.{Size}
use Rattle.commands.specs.declared.rules.Listed.{Listed}
use Rattle.sheet.specs.Sheet.{Sheet, pair_of, is_at, rule_at}
use Rattle.sheet.specs.Reading.{rule, in_range, first_broken, refusal}
use Rattle.lists.specs.laws.AllLaw.{all_snoc, all-imp}
use Rattle.sheet.specs.laws.RowLaw.{last_snoc}
use Rattle.sheet.specs.laws.CommandLaw.{row_in}
use Rattle.sheet.specs.words.Tabled.{Within16, Digits, pair_key, next_key, rule_output, rule_target}
use Rattle.commands.specs.words.Held.{after_last, RulesHold}
use Rattle.sheet.specs.laws.RowTableLaw.{length-snoc, rule-new, rule-old, table-set, pair-order, ascends-true, ascends-false}

pub digits_in : (z : Size) (r : Row) → Within16 z → in_range z r ≡ true → Digits r
digits_in z r w e =
    let i = row_in z r e in
    record { source = omega (arith, i, w); input = omega (arith, i, w); output = omega (arith, i, w); target = omega (arith, i, w) }

-- what the test of a key against the last one says
module _ (last : Maybe ℕ) (k : ℕ) (r : Bool) (e : MatchOption last (r ≡ false) (λ x. r ≡ leb k x)) where
  pub not-after : r ≡ true → k < after_last last
  not-after q = one last e
    where
      one : (o : Maybe ℕ) → MatchOption o (r ≡ false) (λ x. r ≡ leb k x) → k < after_last o
      one None i = never (cc)
      one (Some x) i = let h = leb-true k x (sym i ∙ q) in omega arith

  pub is-after : r ≡ false → after_last last ≤ k
  is-after q = one last e
    where
      one : (o : Maybe ℕ) → MatchOption o (r ≡ false) (λ x. r ≡ leb k x) → after_last o ≤ k
      one None i = omega arith
      one (Some x) i = let h = leb-false k x (sym i ∙ q) in omega arith

pub range-in : (sh : Sheet) (z : Size) (r : Row) {b : Bool} → z ≡ sh.size → in_range z r ≡ b → in_range sh.size r ≡ b
range-in sh z r e h = sym (ap (λ (z : Size). in_range z r) e) ∙ h

module _ (sh : Sheet) (z : Size) (t : Listed) (os ts : List ℕ) (r : Row) (ez : z ≡ sh.size) (h : RulesHold t os ts sh.rules) where
  pub rule-taken : Within16 z → in_range z r ≡ true → after_last t.last ≤ pair_key r
      → (refusal sh (rule r) ≡ 0)
      × RulesHold (record { count = t.count + 1; last = Some (pair_key r) }) (set os (pair_key r) r.output) (set ts (pair_key r) r.target) (sh.rules ++ r ∷ [])
  unfolding refusal first_broken
  rule-taken w e k =
      let l = sh.rules in
      let d = digits_in z r w e in
      let new : (s x : ℕ) → is_at r s x ≡ true → rule_at (l ++ r ∷ []) s x ≡ some r = λ s x m. rule-new l r s x (after_last t.last) h.below k m in (
        simp (range-in sh z r ez e, ascends-true pair_of pair_key pair-order l r h.targets.digits d (omega (arith, h.key))),
        record {
          count = simp length-snoc (ap (λ (n : ℕ). n + 1) h.count);
          key = sym (ap (next_key pair_key) (last_snoc l r));
          most = omega (arith, h.most);
          least = omega (arith, d);
          below = all_snoc (λ q. pair_key q < suc (pair_key r)) l r (all-imp (λ q. pair_key q < suc (pair_key r)) (λ q. pair_key q < after_last t.last) (λ q a. omega arith) l h.below) (omega arith);
          outputs = table-set h.outputs r d.source d.input (λ s x m. ap rule_output (new s x m)) (λ s x m. ap rule_output (rule-old l r s x m));
          targets = record {
            digits = all_snoc Digits l r h.targets.digits d;
            table = table-set h.targets.table r d.source d.input (λ s x m. ap rule_target (new s x m)) (λ s x m. ap rule_target (rule-old l r s x m));
          };
        },
      )

  pub rule-unordered : Within16 z → in_range z r ≡ true → pair_key r < after_last t.last → refusal sh (rule r) ≡ 6
  unfolding refusal first_broken
  rule-unordered w e k = simp (range-in sh z r ez e, ascends-false pair_of pair_key pair-order sh.rules r h.targets.digits (digits_in z r w e) (omega (arith, h.key)))

pub rule-outside : (sh : Sheet) (z : Size) (r : Row) → z ≡ sh.size → in_range z r ≡ false → refusal sh (rule r) ≡ 5
unfolding refusal first_broken
rule-outside sh z r ez e = simp (range-in sh z r ez e)
