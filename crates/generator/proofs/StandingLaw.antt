-- Faults and pairs in the tables.
use Rattle.std.proofs.Common.{◌≡◌, ℕ, ◌+◌, ◌*◌, ◌/◌, ◌%◌, ◌<◌, ◌≤◌, false, List, [], ◌∷◌, ◌++◌, length, replicate, sym, refl, ap, ◌∙◌, subst, add-one, arith, le-ltb, lt-ltb, eq-eqb, ne_eqb, le-leb}
use lib.ListN.{length-replicate}
use borrow.Author.Tests.{lt-leb}
use Rattle.sheet.specs.declared.Row.{Row}
use Rattle.sheet.specs.declared.Size.{Size}
use Rattle.lists.specs.Lists.{joined}
use Rattle.sheet.specs.Sheet.{row_of}
use Rattle.sheet.specs.WellFormed.{SizeIn}
use Rattle.lists.specs.laws.ListLaw.{joined-append}
use Rattle.writing.specs.words.Spelled.{Spelled}
use Rattle.writing.proofs.laws.SpelledLaw.{spelled_none, spelled-both}
use Rattle.generator.specs.declared.pairs.Pair.{Pair}
use Rattle.generator.specs.Generating.{third, drawn, rule_from, is_faulty, fault_of, Draft, with_pair, drafted}
use Rattle.generator.specs.words.Standing.{pair_from, faults_of, Ready, PairPut, Standing}
use Rattle.generator.proofs.laws.DraftLaw.{drafts}
use Rattle.generator.proofs.laws.GeneratedLaw.{few-pairs}

-- ---- a pair gets a fault or none

module _ (z : Size) (rule : Row) (lot standing : ℕ) where
  abbrev FaultPut : List ℕ → List ℕ → ℕ → Type 0
  FaultPut fs fs' standing' = Spelled fs fs' (4 * standing) (4 * standing') (joined row_of (faults_of z rule lot standing))

  no-fault : (fs : List ℕ) → is_faulty z lot standing ≡ false → FaultPut fs fs standing
  unfolding joined
  no-fault fs e = rw e spelled_none

  pub fault-not-drawn : (fs : List ℕ) → (lot ≡ 0 → ⊥) → FaultPut fs fs standing
  unfolding is_faulty
  fault-not-drawn fs h = no-fault fs (rw (ne_eqb lot 0 h))

  module _ (nought : lot ≡ 0) where
    pub fault-one-output : (fs : List ℕ) → z.outputs < 2 → FaultPut fs fs standing
    unfolding is_faulty
    fault-one-output fs h = no-fault fs (rw (eq-eqb lot 0 nought, lt-leb 2 z.outputs h))

    module _ (several : 2 ≤ z.outputs) where
      pub fault-too-many : (fs : List ℕ) → 32 ≤ standing → FaultPut fs fs standing
      unfolding is_faulty
      fault-too-many fs h = no-fault fs (rw (eq-eqb lot 0 nought, le-leb 2 z.outputs several, le-ltb standing 32 h))

      pub fault-put : {fs fs' : List ℕ} → standing < 32 → Spelled fs fs' (4 * standing) (4 * standing + 4) (row_of (fault_of z rule)) → FaultPut fs fs' (standing + 1)
      unfolding is_faulty joined
      fault-put {fs} {fs'} h s =
          rw (eq-eqb lot 0 nought, le-leb 2 z.outputs several, lt-ltb standing 32 h)
          (subst (λ (to : ℕ). Spelled fs fs' (4 * standing) to (row_of (fault_of z rule))) (omega arith) s)

-- ---- pair after pair

pub pair_put : (z : Size) (i seed standing standing' : ℕ) (pair : Pair) (rs rs' fs fs' : List ℕ) → pair ≡ pair_from z seed (i / z.inputs) (i % z.inputs)
    → Spelled rs rs' (4 * i) (4 * i + 4) (row_of pair.rule) → FaultPut z pair.rule pair.lot standing fs fs' standing'
    → PairPut z i seed standing standing' rs rs' fs fs'
pair_put z i seed standing standing' pair rs rs' fs fs' e rule fault =
    record {
      rule = subst (λ (q : Pair). Spelled rs rs' (4 * i) (4 * i + 4) (row_of q.rule)) e rule;
      fault = subst (λ (q : Pair). FaultPut z q.rule q.lot standing fs fs' standing') e fault;
    }

table-length : (l : List Row) → length (joined row_of l) ≡ 4 * length l
unfolding joined
table-length [] = refl
table-length (r ∷ l) = let h = table-length l in omega arith

-- rows after rows
grown : {old mid new : List ℕ} {m to : ℕ} (l k : List Row) → Spelled old mid 0 m (joined row_of l) → Spelled mid new m to (joined row_of k)
    → Spelled old new 0 to (joined row_of (l ++ k))
grown {old} {mid} {new} {m} {to} l k s t =
    subst (λ (bytes : List ℕ). Spelled old new 0 to bytes) (sym (joined-append row_of l k)) (spelled-both s t)

-- blank tables
pub blank-ready : {z : Size} → SizeIn z → Ready z (replicate 1024 0) (replicate 128 0)
blank-ready w = record { size = w; rules = omega (arith, length-replicate {A = ℕ} 1024 0); faults = omega (arith, length-replicate {A = ℕ} 128 0) }

module _ (z : Size) (seed : ℕ) where
  pub standing-start : (rs fs : List ℕ) → (seed ≡ (drafted z seed 0).seed) × Standing (drafted z seed 0) 0 0 rs rs fs fs
  unfolding drafted joined
  standing-start rs fs = (refl, record { rules = spelled_none; faults = spelled_none })

  module _ {i standing : ℕ} {rs rs' fs fs' : List ℕ} (h : Standing (drafted z seed i) i standing rs rs' fs fs') where
    standing-many : standing ≡ length (drafted z seed i).faults
    standing-many = omega (arith, h.faults.many, table-length (drafted z seed i).faults)

    pub standing-few : SizeIn z → i ≤ z.states * z.inputs → standing ≤ 32
    standing-few w k = omega (arith, standing-many, (drafts z w seed i k).faults.few)

    pub standing-ready : Ready z rs fs → Ready z rs' fs'
    standing-ready r = record { size = r.size; rules = omega (arith, r.rules, h.rules.long); faults = omega (arith, r.faults, h.faults.long) }

    -- the rows are within the tables
    pub standing-inside : Ready z rs fs → i ≤ z.states * z.inputs → (4 * i ≤ length rs') × (4 * standing ≤ length fs')
    standing-inside r k =
        let s = standing-ready r in
        (omega (arith, s.rules, few-pairs z r.size), omega (arith, s.faults, standing-few r.size k))

    pub seed-more : {now new : ℕ} → now ≡ (drafted z seed i).seed → new ≡ third now → new ≡ (drafted z seed (i + 1)).seed
    unfolding drafted with_pair
    seed-more e s = rw (add-one i) (s ∙ ap third e)

    pub standing-more : {now standing' : ℕ} {rs'' fs'' : List ℕ} → now ≡ (drafted z seed i).seed → PairPut z i now standing standing' rs' rs'' fs' fs''
        → Standing (drafted z seed (i + 1)) (i + 1) standing' rs rs'' fs fs''
    unfolding drafted with_pair joined
    standing-more {now} {standing'} {rs''} {fs''} e s =
        rw (add-one i)
        (record {
          rules = grown d.rules (rule ∷ []) h.rules (subst (λ (to : ℕ). Spelled rs' rs'' (4 * i) to (row_of rule)) (omega arith) (rw e at s.rule));
          faults = grown d.faults (faults_of z rule (drawn 8 (third d.seed)) (length d.faults)) h.faults
              (subst (λ (many : ℕ). Spelled fs' fs'' (4 * standing) (4 * standing') (joined row_of (faults_of z rule (drawn 8 (third d.seed)) many))) standing-many
              (rw e at s.fault));
        })
      where
        d : Draft
        d = drafted z seed i

        rule : Row
        rule = rule_from z d.seed (i / z.inputs) (i % z.inputs)
