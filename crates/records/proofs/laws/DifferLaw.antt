-- Where a record first differs from the specification.
use Rattle.lists.specs.Proving.{arith, ℕ, zero, suc, refl, sym, ◌∙◌, ap, Bool, true, false, cond, Option, some, none, List, [], length, get_or, drop, eqb, eqb-true, eq-eqb, ne_eqb, not-true, never}
use Rattle.std.specs.Prelude.{not, ◌+◌, ◌<◌, ◌≡◌, ◌&&◌, ◌∷◌}
use Rattle.std.proofs.Common.{get_or-drop}
use Rattle.lists.specs.laws.TestLaw.{both, clash}
use Rattle.sheet.specs.Sheet.{Sheet}
use Rattle.model.specs.Machine.{Move}
use Rattle.model.specs.Mutant.{rule}
use Rattle.records.specs.Record.{specified_at, advance, differs, is_wrong, differs_from, differs_in}
use Rattle.records.specs.Means.{state_at, DiffersAt, FirstDifference}

module _ (rule : ℕ → ℕ → Option Move) where
  -- from the specification's state p on, at the offset i
  abbrev wrong_at : Option ℕ → List ℕ → ℕ → Bool
  wrong_at p log i = is_wrong rule (state_at rule p log i) (get_or log i 0) (drop (suc i) log)

  record FoundAt (p : Option ℕ) (at : ℕ) (log : List ℕ) (j : ℕ) : Type 0 where
    offset : ℕ
    place : j ≡ at + offset
    inside : offset < length log
    wrong : wrong_at p log offset ≡ true
    first : (i : ℕ) → i < offset → wrong_at p log i ≡ false

  abbrev Finds : Option ℕ → ℕ → List ℕ → Option ℕ → Type 0
  Finds p at log none = (i : ℕ) → i < length log → wrong_at p log i ≡ false
  Finds p at log (some j) = FoundAt p at log j

  finds : (log : List ℕ) (p : Option ℕ) (at : ℕ) → Finds p at log (differs_from rule p at log)
  unfolding differs_from state_at
  finds [] p at = λ i l. absurd (omega arith)
  finds (v ∷ rest) p at = go (is_wrong rule p v rest) refl (differs_from rule (advance rule p v rest) (suc at) rest) (finds rest (advance rule p v rest) (suc at))
    where
      go : (b : Bool) → is_wrong rule p v rest ≡ b → (o : Option ℕ) → Finds (advance rule p v rest) (suc at) rest o → Finds p at (v ∷ rest) (cond b (some at) o)
      go true e o f = record { offset = 0; place = omega arith; inside = omega arith; wrong = e; first = λ i l. absurd (omega arith) }
      go false e none f = each
        where
          each : (i : ℕ) → i < length (v ∷ rest) → wrong_at p (v ∷ rest) i ≡ false
          each zero l = e
          each (suc i) l = f i (omega arith)
      go false e (some j) f =
          record { offset = suc f.offset; place = omega (arith, f.place); inside = omega (arith, f.inside); wrong = f.wrong; first = each }
        where
          each : (i : ℕ) → i < suc f.offset → wrong_at p (v ∷ rest) i ≡ false
          each zero l = e
          each (suc i) l = f.first i (omega arith)

  -- the same in words
  operand : (log : List ℕ) (i j : ℕ) → get_or (drop (suc i) log) j 0 ≡ get_or log (i + 1 + j) 0
  operand log i j = get_or-drop (suc i) log j 0 ∙ ap (λ (n : ℕ). get_or log n 0) (omega arith)

  wrong-differs : (log : List ℕ) (i : ℕ) → i < length log → wrong_at none log i ≡ true → DiffersAt rule log i
  wrong-differs log i l e =
      let h = both (eqb (get_or log i 0) 17) (differs (specified_at rule (state_at rule none log i) (get_or (drop (suc i) log) 0 0)) (get_or (drop (suc i) log) 1 0)) e in
      go (specified_at rule (state_at rule none log i) (get_or (drop (suc i) log) 0 0)) refl h.1 (eqb-true (get_or log i 0) 17 h.0)
    where
      go : (o : Option Move) → specified_at rule (state_at rule none log i) (get_or (drop (suc i) log) 0 0) ≡ o → differs o (get_or (drop (suc i) log) 1 0) ≡ true →
          get_or log i 0 ≡ 17 → DiffersAt rule log i
      go none eo d is = never (cc)
      go (some r) eo d is =
          record {
            inside = l;
            is_seen = is;
            specified = r;
            there = ap (specified_at rule (state_at rule none log i)) (sym (operand log i 0 ∙ ap (λ (n : ℕ). get_or log n 0) (omega arith))) ∙ eo;
            other = λ z. clash (eqb r.output (get_or (drop (suc i) log) 1 0)) (eq-eqb r.output (get_or (drop (suc i) log) 1 0) (z ∙ sym (operand log i 1 ∙ ap (λ (n : ℕ). get_or log n 0) (omega arith)))) (not-true (eqb r.output (get_or (drop (suc i) log) 1 0)) d);
          }

  differs-wrong : (log : List ℕ) (i : ℕ) → DiffersAt rule log i → wrong_at none log i ≡ false → ⊥
  differs-wrong log i d f =
      let x : get_or (drop (suc i) log) 0 0 ≡ get_or log (i + 1) 0 = operand log i 0 ∙ ap (λ (n : ℕ). get_or log n 0) (omega arith) in
      let o : get_or (drop (suc i) log) 1 0 ≡ get_or log (i + 2) 0 = operand log i 1 ∙ ap (λ (n : ℕ). get_or log n 0) (omega arith) in
      clash (wrong_at none log i) (rw (x, o, d.is_seen, d.there, ne_eqb d.specified.output (get_or log (i + 2) 0) d.other) refl) f

-- 02: the place of the first SEEN whose sound differs from the specification's, or none
pub first-difference : (sh : Sheet) (log : List ℕ) → FirstDifference (rule sh) log (differs_in sh log)
unfolding differs_in
first-difference sh log = go (differs_from (rule sh) none 0 log) (finds (rule sh) log none 0)
  where
    go : (o : Option ℕ) → Finds (rule sh) none 0 log o → FirstDifference (rule sh) log o
    go none f = λ i d. differs-wrong (rule sh) log i d (f i d.inside)
    go (some j) f =
        let e : j ≡ f.offset = omega (arith, f.place) in
        rw e (wrong-differs (rule sh) log f.offset f.inside f.wrong, λ i l d. differs-wrong (rule sh) log i d (f.first i l))

-- 02: after an undefined press nothing is compared until the next PULSE: the press leaves the specification without a state, it stays so, and
-- a PULSE begins in state 0
pub undefined : (sh : Sheet) (s x : ℕ) (rest : List ℕ) → rule sh s x ≡ none →
    (advance (rule sh) (some s) 17 (x ∷ rest) ≡ none) × (is_wrong (rule sh) (some s) 17 (x ∷ rest) ≡ false)
undefined sh s x rest e = rw e (refl, refl)

pub pulsed : (sh : Sheet) (p : Option ℕ) (rest : List ℕ) → (advance (rule sh) p 16 rest ≡ some 0) × (is_wrong (rule sh) p 16 rest ≡ false)
pulsed sh p rest = (refl, refl)

-- a defined press is compared, and its target follows
pub defined : (sh : Sheet) (s x o : ℕ) (rest : List ℕ) (r : Move) → rule sh s x ≡ some r →
    (advance (rule sh) (some s) 17 (x ∷ o ∷ rest) ≡ some r.target) × (is_wrong (rule sh) (some s) 17 (x ∷ o ∷ rest) ≡ not (eqb r.output o))
defined sh s x o rest r e = rw e (refl, refl)

pub silent : (sh : Sheet) (v : ℕ) (rest : List ℕ) → (v ≡ 16 → ⊥) → (advance (rule sh) none v rest ≡ none) × (is_wrong (rule sh) none v rest ≡ false)
silent sh v rest n = rw (ne_eqb v 16 n) (go (eqb v 17))
  where
    go : (b : Bool) → (cond {A = Option ℕ} b none none ≡ none) × (b && false ≡ false)
    go true = (refl, refl)
    go false = (refl, refl)
