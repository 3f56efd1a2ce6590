-- What holds of the rules and faults of the first i pairs.
use Rattle.std.specs.Prelude.{◌≡◌, ℕ, zero, suc, ◌+◌, ◌*◌, ◌/◌, ◌%◌, ◌<◌, ◌≤◌, Bool, true, false, cond, ◌&&◌, List, [], ◌∷◌, ◌++◌, length, ◌==◌, nat_le, nat_lt}
use Rattle.std.proofs.Math.Nat.{mod-lt}
use Rattle.std.proofs.Common.{arith, sym, append-nil}
use Rattle.std.proofs.Math.Path.{refl, subst}
use Rattle.std.proofs.Math.ListN.{length-append}
use borrow.Author.Tests.{eq-eqb, eqb-true, eqb-false, leb-true, ltb-true}
use Rattle.sheet.specs.declared.Row.{Row}
use Rattle.sheet.specs.declared.Size.{Size}
use Rattle.lists.specs.Lists.{All, Ascending, Before}
use Rattle.sheet.specs.Sheet.{pair_of, row_of}
use Rattle.sheet.specs.WellFormed.{SizeIn, RowIn}
use Rattle.lists.specs.laws.TestLaw.{both}
use Rattle.lists.specs.laws.AllLaw.{all_snoc}
use Rattle.sheet.specs.laws.RowLaw.{before-trans}
use Rattle.generator.specs.Generating.{second, third, drawn, rule_from, is_faulty, fault_of, Draft, with_pair, drafted}
use Rattle.generator.specs.Generated.{Ruled, Faulty}
use Rattle.generator.proofs.laws.PairLaw.{pair-before, pair-state, pair-input}
use Rattle.generator.proofs.laws.RowLaw.{all_map, ascending-add, before-row, rule-stays, rule-added}

-- the pair i as rows are ordered
abbrev pub pair_at : Size → ℕ → List ℕ
pair_at z i = i / z.inputs ∷ i % z.inputs ∷ []

-- rows of a size, at pairs before pair i
pub record RowsBefore (z : Size) (i : ℕ) (l : List Row) : Type 0 where
  pub inside : All (RowIn z) l
  pub early : All (λ r. Before (pair_of r) (pair_at z i)) l

pub record RulesDrafted (z : Size) (i : ℕ) (rules : List Row) : Type 0 where
  pub many : length rules ≡ i
  pub before : RowsBefore z i rules
  pub ascend : Ascending (λ q r. Before (pair_of q) (pair_of r)) rules
  pub ruled : (j : ℕ) → j < i → Ruled z rules (j / z.inputs) (j % z.inputs)

pub record FaultsDrafted (z : Size) (i : ℕ) (rules faults : List Row) : Type 0 where
  pub few : length faults ≤ 32
  pub before : RowsBefore z i faults
  pub ascend : Ascending (λ q r. Before (row_of q) (row_of r)) faults
  pub faulty : All (Faulty z rules) faults
  pub several : 0 < length faults → 2 ≤ z.outputs

pub record Drafted (z : Size) (i : ℕ) (d : Draft) : Type 0 where
  pub rules : RulesDrafted z i d.rules
  pub faults : FaultsDrafted z i d.rules d.faults

module _ (z : Size) (w : SizeIn z) where
  drawn-below : (bound seed : ℕ) → 1 ≤ bound → drawn bound seed < bound
  unfolding drawn
  drawn-below bound seed h = mod-lt _ h

  pub rule-in : (seed s x : ℕ) → s < z.states → x < z.inputs → RowIn z (rule_from z seed s x)
  unfolding rule_from
  rule-in seed s x hs hx =
      record { source = hs; input = hx; output = drawn-below _ _ w.outputs.some; target = one (x == 0) }
    where
      one : (b : Bool) → cond b ((s + 1) % z.states) (drawn z.states (second seed)) < z.states
      one true = mod-lt (s + 1) w.states.some
      one false = drawn-below _ _ w.states.some

  fault-in : (r : Row) → RowIn z r → RowIn z (fault_of z r)
  fault-in r h = record { source = h.source; input = h.input; output = mod-lt _ w.outputs.some; target = h.target }

  module _ (i : ℕ) where
    -- at the next pair: the rows so far, and one of pair i more
    rows_on : (l : List Row) → RowsBefore z i l → RowsBefore z (suc i) l
    rows_on l h =
        record {
          inside = h.inside;
          early = all_map _ _ (λ r e. before-trans (pair_of r) (pair_at z i) (pair_at z (suc i)) e (pair-before z.inputs w.inputs.some i (suc i) (omega arith))) l h.early;
        }

    rows-add : (l : List Row) (r : Row) → pair_of r ≡ pair_at z i → RowIn z r → RowsBefore z i l → RowsBefore z (suc i) (l ++ r ∷ [])
    rows-add l r e k h =
        record {
          inside = all_snoc (RowIn z) l r h.inside k;
          early = all_snoc (λ q. Before (pair_of q) (pair_at z (suc i))) l r (rows_on l h).early (rw e (pair-before z.inputs w.inputs.some i (suc i) (omega arith)));
        }

    module _ (seed : ℕ) (l : List Row) (h : RulesDrafted z i l) (below : i < z.states * z.inputs) where
      abbrev rule : Row
      rule = rule_from z seed (i / z.inputs) (i % z.inputs)

      inside : RowIn z rule
      inside = rule-in seed (i / z.inputs) (i % z.inputs) (pair-state z.inputs w.inputs.some z.states i below) (pair-input z.inputs w.inputs.some i)

      earlier : All (λ q. Before (pair_of q) (pair_of rule)) l
      unfolding rule_from
      earlier = h.before.early

      new-rule : Ruled z (l ++ rule ∷ []) (i / z.inputs) (i % z.inputs)
      unfolding rule_from
      new-rule = record { rule = rule; there = rule-added l rule earlier; onward = λ e. rw (eq-eqb (i % z.inputs) 0 e) refl }

      rules-more : RulesDrafted z (suc i) (l ++ rule ∷ [])
      unfolding rule_from
      rules-more =
          record {
            many = simp length-append (omega (arith, h.many));
            before = rows-add l rule refl inside h.before;
            ascend = ascending-add _ l rule h.ascend earlier;
            ruled = λ j k. one j k (j == i) refl;
          }
        where
          one : (j : ℕ) → j < suc i → (b : Bool) → (j == i) ≡ b → Ruled z (l ++ rule ∷ []) (j / z.inputs) (j % z.inputs)
          one j k true e = subst (λ (j : ℕ). Ruled z (l ++ rule ∷ []) (j / z.inputs) (j % z.inputs)) (sym (eqb-true j i e)) new-rule
          one j k false e =
              let other = eqb-false j i e in
              let old = h.ruled j (omega arith) in
              record { rule = old.rule; there = rule-stays _ _ l (rule ∷ []) old.rule old.there; onward = old.onward }

      stays : (r : Row) → Faulty z l r → Faulty z (l ++ rule ∷ []) r
      stays r f = record { rule = f.rule; there = rule-stays _ _ l (rule ∷ []) f.rule f.there; is = f.is }

      module _ (lot : ℕ) (faults : List Row) (g : FaultsDrafted z i l faults) where
        fault-more : is_faulty z lot (length faults) ≡ true → FaultsDrafted z (suc i) (l ++ rule ∷ []) (faults ++ fault_of z rule ∷ [])
        unfolding is_faulty rule_from
        fault-more e =
            let t = both (lot == 0) (nat_le 2 z.outputs && nat_lt (length faults) 32) e in
            let u = both (nat_le 2 z.outputs) (nat_lt (length faults) 32) t.1 in
            record {
              few = simp length-append (omega (arith, ltb-true (length faults) 32 u.1));
              before = rows-add faults (fault_of z rule) refl (fault-in rule inside) g.before;
              ascend = ascending-add _ faults (fault_of z rule) g.ascend (all_map _ _ (λ q b. before-row q (fault_of z rule) b) faults g.before.early);
              faulty = all_snoc _ faults (fault_of z rule) (all_map _ _ stays faults g.faulty) (record { rule = rule; there = rule-added l rule earlier; is = refl });
              several = λ k. leb-true 2 z.outputs u.0;
            }

        faults-more : FaultsDrafted z (suc i) (l ++ rule ∷ []) (faults ++ cond (is_faulty z lot (length faults)) (fault_of z rule ∷ []) [])
        faults-more = one (is_faulty z lot (length faults)) refl
          where
            one : (b : Bool) → is_faulty z lot (length faults) ≡ b → FaultsDrafted z (suc i) (l ++ rule ∷ []) (faults ++ cond b (fault_of z rule ∷ []) [])
            one true e = fault-more e
            one false e =
                subst (λ (t : List Row). FaultsDrafted z (suc i) (l ++ rule ∷ []) t) (sym (append-nil faults))
                (record { few = g.few; before = rows_on faults g.before; ascend = g.ascend; faulty = all_map _ _ stays faults g.faulty; several = g.several })

  pub drafts : (seed i : ℕ) → i ≤ z.states * z.inputs → Drafted z i (drafted z seed i)
  unfolding drafted with_pair Ascending
  drafts seed zero h =
      record {
        rules = record { many = refl; before = record { inside = tt; early = tt }; ascend = tt; ruled = λ j k. absurd (omega arith) };
        faults = record { few = omega arith; before = record { inside = tt; early = tt }; ascend = tt; faulty = tt; several = λ k. absurd (omega arith) };
      }
  drafts seed (suc i) h =
      let d = drafted z seed i in
      let g = drafts seed i (omega arith) in
      record { rules = rules-more i d.seed d.rules g.rules h; faults = faults-more i d.seed d.rules g.rules h (drawn 8 (third d.seed)) d.faults g.faults }
