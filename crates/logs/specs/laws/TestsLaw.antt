-- The tests of an accepted sheet are where its tables say, and their log is the suite's.
use Rattle.std.specs.Prelude.{◌+◌, ◌-◌, ◌*◌, ◌<◌, ◌≤◌, ◌≡◌, ◌∷◌, ◌++◌}
use Rattle.lists.specs.Proving.{arith, ℕ, zero, suc, refl, ◌∙◌, ap, cond, Option, List, [], length, get_or, length-append, append_snoc, ltb, lt-ltb}
use Rattle.std.proofs.Common.{suc-le-suc, add-zero, append_assoc, get_or-append-add}
use Rattle.sheet.specs.Sheet.{Sheet}
use Rattle.sheet.specs.Encode.{operand_bytes, press_bytes, encode}
use Rattle.sheet.specs.Part.{span_of}
use Rattle.sheet.specs.declared.Tables.{Tables}
use Rattle.sheet.specs.Tables.{tables_of}
use Rattle.sheet.specs.WellFormed.{WellFormed}
use Rattle.lists.specs.laws.ListLaw.{all-at-index}
use Rattle.sheet.specs.laws.PartLaw.{before, presses, after, layout, presses-length}
use Rattle.sheet.specs.laws.TablesLaw.{table_at}
use Rattle.model.specs.Machine.{Move}
use Rattle.model.specs.Mutant.{rule, specified}
use Rattle.model.specs.Log.{tests_log, suite_log}
use Rattle.model.proofs.laws.StaysLaw.{rule-in}
use Rattle.model.proofs.laws.SuiteLaw.{Specified, test-specified}
use Rattle.logs.specs.Tests.{inputs_at, tests_from, tests_at, Low, TestsAt}

-- the first input, and the first test, and those after it
pub inputs-more : (sheet : List ℕ) (at left : ℕ) → 0 < left → inputs_at sheet at left ≡ get_or sheet (at + 1) 0 ∷ inputs_at sheet (at + 2) (left - 1)
unfolding inputs_at
inputs-more sheet at zero l = absurd (omega arith)
inputs-more sheet at (suc n) l = let e : suc n - 1 ≡ n = omega arith in rw e refl

pub tests-more : (sheet starts lengths : List ℕ) (t n : ℕ) → t < n →
    tests_from sheet starts lengths t (n - t) ≡ inputs_at sheet (get_or starts t 0) (get_or lengths t 0) ∷ tests_from sheet starts lengths (t + 1) (n - (t + 1))
unfolding tests_from
tests-more sheet starts lengths t n l = let e : n - t ≡ suc (n - (t + 1)) = omega arith in rw e refl

-- the inputs of PRESS commands
pub inputs-at : (front xs rest : List ℕ) (at : ℕ) → length front ≡ at → inputs_at (front ++ (press_bytes xs ++ rest)) at (length xs) ≡ xs
unfolding inputs_at operand_bytes
inputs-at front [] rest at e = refl
inputs-at front (x ∷ xs) rest at e =
    let f : at + 1 ≡ length front + 1 = omega arith in
    let here : get_or (front ++ 5 ∷ x ∷ (press_bytes xs ++ rest)) (at + 1) 0 ≡ x = rw f (get_or-append-add front (5 ∷ x ∷ (press_bytes xs ++ rest)) 1 0) in
    let later = inputs-at (front ++ 5 ∷ x ∷ []) xs rest (at + 2) (length-append front (5 ∷ x ∷ []) ∙ omega arith) in
    rw here (ap (λ (l : List ℕ). x ∷ l) (rw (append_assoc front (5 ∷ x ∷ []) (press_bytes xs ++ rest)) at later))

tests-from : (sheet starts lengths : List ℕ) (ts : List (List ℕ)) (t : ℕ) →
    ((i : ℕ) → i < length ts → inputs_at sheet (get_or starts (t + i) 0) (get_or lengths (t + i) 0) ≡ get_or ts i []) → tests_from sheet starts lengths t (length ts) ≡ ts
unfolding tests_from
tests-from sheet starts lengths [] t h = refl
tests-from sheet starts lengths (xs ∷ ts) t h =
    let first = rw (add-zero t) at (h 0 (omega arith)) in
    rw (first, tests-from sheet starts lengths ts (t + 1) (λ i l. let e : t + 1 + i ≡ t + suc i = omega arith in rw e (h (suc i) (suc-le-suc l)))) refl

module _ (sh : Sheet) (t : ℕ) (l : t < length sh.tests) (low : t < 256) where
  start-at : get_or (tables_of sh).starts t 0 ≡ suc (length (before sh t))
  unfolding tables_of span_of
  start-at = table_at (λ i. cond (ltb i (length sh.tests)) (span_of sh i).start 0) t low ∙ rw (lt-ltb t (length sh.tests) l) refl

  pub length_at : get_or (tables_of sh).lengths t 0 ≡ length (get_or sh.tests t [])
  unfolding tables_of
  length_at = table_at (λ i. length (get_or sh.tests i [])) t low

  test-is : inputs_at (encode sh) (get_or (tables_of sh).starts t 0) (get_or (tables_of sh).lengths t 0) ≡ get_or sh.tests t []
  test-is =
      rw (start-at, length_at, layout sh t l, ← append_snoc (before sh t) 4 (presses sh t ++ after sh t))
      (inputs-at (before sh t ++ 4 ∷ []) (get_or sh.tests t []) (after sh t) (suc (length (before sh t))) (length-append (before sh t) (4 ∷ []) ∙ omega arith))

  test-inside : get_or (tables_of sh).starts t 0 + 2 * get_or (tables_of sh).lengths t 0 ≤ length (encode sh)
  test-inside =
      let e = ap length (layout sh t l) ∙ length-append (before sh t) (4 ∷ (presses sh t ++ after sh t)) in
      let f = length-append (presses sh t) (after sh t) in
      omega (arith, presses-length (get_or sh.tests t []), start-at, length_at)

module _ (sh : Sheet) (wf : WellFormed sh) where
  few : (t : ℕ) → t < length sh.tests → t < 256
  few t l = omega (arith, wf.few-tests)

  pub rules-low : Low (rule sh)
  rules-low = record {
    at = λ s x r e.
        let h = rule-in sh wf s x r e in
        record {
          state = omega (arith, h.state, wf.size.states.few);
          input = omega (arith, h.input, wf.size.inputs.few);
          output = omega (arith, h.move.output, wf.size.outputs.few);
        };
  }

  -- the tests by a sheet's bytes and tables
  pub tests-are : {s : List ℕ} → encode sh ≡ s → {tables : Tables} → tables ≡ tables_of sh → {n : ℕ} → n ≡ length sh.tests →
      tests_at s tables.starts tables.lengths n ≡ sh.tests
  tests-are bytes tabled many =
      rw (← bytes, tabled, many)
      (tests-from (encode sh) (tables_of sh).starts (tables_of sh).lengths sh.tests 0 (λ i l. let e : 0 + i ≡ i = omega arith in rw e (test-is sh i l (few i l))))

  -- a sheet as it is read, with rules that are the sheet's
  module _ {r : ℕ → ℕ → Option Move} (same : r ≡ rule sh) {s : List ℕ} (bytes : encode sh ≡ s) {tables : Tables} (tabled : tables ≡ tables_of sh) {n : ℕ} (many : n ≡ length sh.tests) where
    pub tests-at : TestsAt r s tables.starts tables.lengths n
    unfolding specified
    tests-at =
        rw (same, ← bytes, tabled, many)
        (record {
          few = wf.few-tests;
          each = λ t l.
              let d = all-at-index (Specified sh) sh.tests t [] l (test-specified sh wf) in
              record {
                low = rules-low;
                inside = test-inside sh t l (few t l);
                defined = record { expected = d.expected; specifies = rw (test-is sh t l (few t l)) d.is };
              };
        })

    pub tests-log : tests_log r (tests_at s tables.starts tables.lengths n) ≡ suite_log sh
    unfolding suite_log
    tests-log = rw (same, tests-are bytes tabled many) refl
