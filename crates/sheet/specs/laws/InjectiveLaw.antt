-- The bytes of a sheet determine it.
use Rattle.std.specs.Prelude.{◌≡◌, refl, Bool, true, false, ℕ, eqb, get_or, drop}
use Rattle.std.proofs.Common.{ap, ap₂, sym, ◌∙◌, arith}
use mathlib.Core.List.{List, [], ◌∷◌, ◌++◌, append_assoc}
use Rattle.std.proofs.lemmas.Bool.{eqb-false}
use Rattle.sheet.specs.declared.Row.{Row}
use Rattle.sheet.specs.Sheet.{Sheet}
use Rattle.sheet.specs.Encode.{size_bytes, quiet_bytes, row_bytes, operand_bytes, start_bytes, press_bytes, test_bytes, machine_bytes, body, encode}

-- the bytes begin with another command than b
abbrev pub Else : ℕ → List ℕ → Type 0
Else b l = get_or l 0 0 ≡ b → ⊥

front : {l m : List ℕ} → l ≡ m → get_or l 0 0 ≡ get_or m 0 0
front e = ap (λ (k : List ℕ). get_or k 0 0) e

same_row : (q r : Row) → q.source ≡ r.source → q.input ≡ r.input → q.output ≡ r.output → q.target ≡ r.target → q ≡ r
same_row q r s x o t = λ i. record { source = s i; input = x i; output = o i; target = t i }

-- equal bytes: the same rows, or inputs, and the same bytes after them
rows_same : (b : ℕ) (q r : List Row) (l m : List ℕ) → Else b l → Else b m → row_bytes b q ++ l ≡ row_bytes b r ++ m → (q ≡ r) × (l ≡ m)
unfolding row_bytes
rows_same b [] [] l m hl hm e = (refl, e)
rows_same b [] (r ∷ rs) l m hl hm e = absurd (hl (front e))
rows_same b (q ∷ qs) [] l m hl hm e = absurd (hm (front (sym e)))
rows_same b (q ∷ qs) (r ∷ rs) l m hl hm e =
    let z = rows_same b qs rs l m hl hm (cc) in
    (ap₂ (λ (a : Row) (t : List Row). a ∷ t) (same_row q r (cc) (cc) (cc) (cc)) z.0, z.1)

operands_same : (b : ℕ) (xs ys l m : List ℕ) → Else b l → Else b m → operand_bytes b xs ++ l ≡ operand_bytes b ys ++ m → (xs ≡ ys) × (l ≡ m)
unfolding operand_bytes
operands_same b [] [] l m hl hm e = (refl, e)
operands_same b [] (y ∷ ys) l m hl hm e = absurd (hl (front e))
operands_same b (x ∷ xs) [] l m hl hm e = absurd (hm (front (sym e)))
operands_same b (x ∷ xs) (y ∷ ys) l m hl hm e = let z = operands_same b xs ys l m hl hm (cc) in let s = z.0 in (cc, z.1)

-- before END stand tests, before these rows and other commands
pub tests-else : (b : ℕ) (l : List (List ℕ)) → eqb b 4 ≡ false → eqb b 6 ≡ false → Else b (test_bytes l ++ 6 ∷ [])
unfolding test_bytes
tests-else b [] h k e = eqb-false b 6 k (sym e)
tests-else b (xs ∷ l) h k e = eqb-false b 4 h (sym e)

pub operands-else : (b c : ℕ) (xs l : List ℕ) → eqb b c ≡ false → Else b l → Else b (operand_bytes c xs ++ l)
unfolding operand_bytes
operands-else b c [] l h k e = k e
operands-else b c (x ∷ xs) l h k e = eqb-false b c h (sym e)

pub rows-else : (b c : ℕ) (rows : List Row) (l : List ℕ) → eqb b c ≡ false → Else b l → Else b (row_bytes c rows ++ l)
unfolding row_bytes
rows-else b c [] l h k e = k e
rows-else b c (r ∷ rows) l h k e = eqb-false b c h (sym e)

quiet_same : (p q : Bool) (l m : List ℕ) → Else 8 l → Else 8 m → quiet_bytes p ++ l ≡ quiet_bytes q ++ m → (p ≡ q) × (l ≡ m)
unfolding quiet_bytes
quiet_same true true l m hl hm e = (refl, cc)
quiet_same true false l m hl hm e = absurd (hm (front (sym e)))
quiet_same false true l m hl hm e = absurd (hl (front e))
quiet_same false false l m hl hm e = (refl, e)

tests_same : (t u : List (List ℕ)) → test_bytes t ++ 6 ∷ [] ≡ test_bytes u ++ 6 ∷ [] → t ≡ u
unfolding test_bytes
tests_same [] [] e = refl
tests_same [] (ys ∷ u) e = absurd (let z = front e in omega arith)
tests_same (xs ∷ t) [] e = absurd (let z = front e in omega arith)
tests_same (xs ∷ t) (ys ∷ u) e =
    let f : press_bytes xs ++ (test_bytes t ++ 6 ∷ []) ≡ press_bytes ys ++ (test_bytes u ++ 6 ∷ []) = simp append_assoc at (ap (drop 1) e) in
    let z = operands_same 5 xs ys _ _ (tests-else 5 t refl refl) (tests-else 5 u refl refl) f in
    let s = z.0 in
    let r = tests_same t u z.1 in
    cc

-- the bytes part by part
module _ (sh : Sheet) where
  abbrev pub tests_on : List ℕ
  tests_on = test_bytes sh.tests ++ 6 ∷ []

  abbrev pub starts_on : List ℕ
  starts_on = start_bytes sh.starts ++ tests_on

  abbrev pub faults_on : List ℕ
  faults_on = row_bytes 3 sh.faults ++ starts_on

  abbrev pub rules_on : List ℕ
  rules_on = row_bytes 2 sh.rules ++ faults_on

  pub encode-parts : encode sh ≡ size_bytes sh.size ++ (quiet_bytes sh.quiet ++ rules_on)
  unfolding encode body machine_bytes
  encode-parts = simp append_assoc

  faults-else : Else 2 faults_on
  faults-else = rows-else 2 3 sh.faults starts_on refl (operands-else 2 7 sh.starts tests_on refl (tests-else 2 sh.tests refl refl))

  starts-else : Else 3 starts_on
  starts-else = operands-else 3 7 sh.starts tests_on refl (tests-else 3 sh.tests refl refl)

  -- no QUIET stands where the RULEs begin
  pub rules-else : Else 8 rules_on
  rules-else =
      rows-else 8 2 sh.rules faults_on refl (rows-else 8 3 sh.faults starts_on refl
      (operands-else 8 7 sh.starts tests_on refl (tests-else 8 sh.tests refl refl)))

pub encode_injective : (a b : Sheet) → encode a ≡ encode b → a ≡ b
unfolding size_bytes
encode_injective a b e =
    let f = sym (encode-parts a) ∙ e ∙ encode-parts b in
    let o = quiet_same a.quiet b.quiet _ _ (rules-else a) (rules-else b) (ap (drop 4) f) in
    let r = rows_same 2 a.rules b.rules _ _ (faults-else a) (faults-else b) o.1 in
    let q = rows_same 3 a.faults b.faults _ _ (starts-else a) (starts-else b) r.1 in
    let p = operands_same 7 a.starts b.starts _ _ (tests-else 7 a.tests refl refl) (tests-else 7 b.tests refl refl) q.1 in
    let t = tests_same a.tests b.tests p.1 in
    λ i. record {
      size = record { states = get_or (f i) 1 0; inputs = get_or (f i) 2 0; outputs = get_or (f i) 3 0 };
      quiet = o.0 i;
      rules = r.0 i;
      faults = q.0 i;
      starts = p.0 i;
      tests = t i;
    }
