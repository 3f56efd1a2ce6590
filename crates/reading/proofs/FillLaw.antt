-- The tables, as the passes fill them.
use Prim.Native.Nat.{ℕ, suc, ◌+◌, ◌*◌, ◌-◌, ◌/◌, ◌%◌, ◌<◌, ◌≤◌}
use mathlib.Core.Path.{◌≡◌, refl, ap, sym, ◌∙◌}
use mathlib.Core.Bool.{Bool, true, false, cond}
use mathlib.Core.Option.{Option, none, some}
use mathlib.Core.List.{List, [], ◌∷◌, ◌++◌, map}
use native.Mathlib.Numerals.{add-one}
use native.Mathlib.Omega.{arith}
use lib.Dec.{ltb, eqb}
use lib.ListN.{length, get_or, set, take, drop, replicate, length-set, length-append, length-drop, length-replicate, get_or-replicate, get_or-append, get_or-eq_default}
use lib.Seq.{get_or-set_same, get_or-set_other, get_or-append_seam, get_or-drop, drop-cons, take-suc, length-take-le, ext_get_or}
use borrow.Author.Tests.{lt-ltb, le-ltb, ltb-true, ltb-false, ne_eqb, eqb-true, eqb-false}
use Rattle.sheet.specs.declared.Row.{Row}
use Rattle.sheet.specs.declared.Span.{Span}
use Rattle.sheet.specs.declared.Tables.{Tables}
use Rattle.lists.specs.Lists.{maybe, is_none, first, up_to}
use Rattle.sheet.specs.Sheet.{Sheet, is_at, rows_at, rule_at, unruled_choices, choices_at}
use Rattle.sheet.specs.Encode.{row_bytes, operand_bytes, start_bytes, test_bytes}
use Rattle.sheet.specs.Tables.{first_at, first_fault, no_row}
use Rattle.std.specs.Prelude.{Some}
use Rattle.sheet.specs.Reading.{row_at}
use Rattle.commands.specs.declared.fetch.Command.TheVariants as code
use Rattle.commands.specs.words.Fetch.{command_at}
use Rattle.sheet.specs.words.Tabled.{Digits, place_of, pair_key, ByPair, rule_target}
use Rattle.reading.specs.words.Places.{TestAt, span_from, FaultsFrom, StartsFrom, TestsFrom, Table, FaultTables, TestTables, Countable, Cleared}
use Rattle.lists.specs.laws.ListLaw.{all-at-index}
use Rattle.sheet.specs.laws.TablesLaw.{below_length, below_at, rows_few}
use Rattle.sheet.specs.laws.RowTableLaw.{If, length-snoc, at_true, rows_new, rows-old, rule-digits, table-set}
use Rattle.std.proofs.lemmas.List.{set-get_or}
use Rattle.reading.proofs.PlaceLaw.{command-there, operands-at, rows-at, TestPlace, place-start, place_found, place-next}

-- tables by index and by pair
pub table_is : {n : ℕ} {t : List ℕ} {f : ℕ → ℕ} → Table n t f → t ≡ map f (up_to n)
table_is {n} {t} {f} h =
    ext_get_or 0 t (map f (up_to n)) (h.size ∙ sym (below_length n f)) (λ i k. h.at i (omega (arith, h.size)) ∙ sym (below_at n f i (omega (arith, h.size))))

pub pair-table : {t : List ℕ} {g : ℕ → ℕ → ℕ} → ByPair t g → Table 256 t (λ i. g (i / 16) (i % 16))
pair-table {t} {g} h = record {
  size = h.size;
  at = λ i k.
      let e : i ≡ place_of (i / 16) (i % 16) = omega arith in
      ap (λ (n : ℕ). get_or t n 0) e ∙ h.at (i / 16) (i % 16) (omega arith) (omega arith);
}

pub table_same : {n : ℕ} {t : List ℕ} {f : ℕ → ℕ} (f' : ℕ → ℕ) → Table n t f → ((i : ℕ) → i < n → f i ≡ f' i) → Table n t f'
table_same f' h e = record { size = h.size; at = λ i k. h.at i k ∙ e i k }

index-set : {n : ℕ} {t : List ℕ} {f : ℕ → ℕ} (f' : ℕ → ℕ) (i v : ℕ) → Table n t f → i < n → f' i ≡ v → ((j : ℕ) → (j ≡ i → ⊥) → f' j ≡ f j) → Table n (set t i v) f'
index-set {n} {t} {f} f' i v h k same other = record { size = simp length-set h.size; at = λ j m. go j m (eqb j i) refl }
  where
    go : (j : ℕ) → j < n → (b : Bool) → eqb j i ≡ b → get_or (set t i v) j 0 ≡ f' j
    go j m true e = rw (eqb-true j i e, same) (get_or-set_same t i v 0 (omega (arith, h.size)))
    go j m false e = get_or-set_other t i j v 0 (eqb-false j i e) ∙ h.at j m ∙ sym (other j (eqb-false j i e))

-- a table that holds a below p and b from p on
abbrev pub partly : (ℕ → ℕ) → (ℕ → ℕ) → ℕ → ℕ → ℕ
partly a b p i = cond (ltb i p) (a i) (b i)

pub partly_here : {n : ℕ} {t : List ℕ} (a b : ℕ → ℕ) (p : ℕ) → p < n → Table n t (partly a b p) → get_or t p 0 ≡ b p
partly_here a b p k h = h.at p k ∙ (rw (le-ltb p p (omega arith)))

pub partly-next : {n : ℕ} {t : List ℕ} (a b : ℕ → ℕ) (p v : ℕ) → p < n → Table n t (partly a b p) → v ≡ a p → Table n (set t p v) (partly a b (p + 1))
partly-next a b p v k h e = index-set (partly a b (p + 1)) p v h k (rw (lt-ltb p (p + 1) (omega arith)) (sym e)) (λ j n. go j n (ltb j p) refl)
  where
    go : (j : ℕ) → (j ≡ p → ⊥) → (c : Bool) → ltb j p ≡ c → partly a b (p + 1) j ≡ partly a b p j
    go j n true q = rw (q, lt-ltb j (p + 1) (omega (arith, ltb-true j p q)))
    go j n false q = let m = ltb-false j p q in let w : p + 1 ≤ j = omega arith in rw (q, le-ltb j (p + 1) w)

zeros : (n : ℕ) {t : List ℕ} (f : ℕ → ℕ) → t ≡ replicate n 0 → ((i : ℕ) → i < n → f i ≡ 0) → Table n t f
zeros n f z e = record { size = ap length z ∙ length-replicate {A = ℕ} n 0; at = λ i k. ap (λ (t : List ℕ). get_or t i 0) z ∙ get_or-replicate n i 0 0 k ∙ sym (e i k) }

pair-zeros : {t : List ℕ} (g : ℕ → ℕ → ℕ) → t ≡ replicate 256 0 → ((s x : ℕ) → g s x ≡ 0) → ByPair t g
pair-zeros g z e =
    record {
      size = ap length z ∙ length-replicate {A = ℕ} 256 0;
      at = λ s x hs hx. ap (λ (t : List ℕ). get_or t (place_of s x) 0) z ∙ get_or-replicate 256 (place_of s x) 0 0 (omega arith) ∙ sym (e s x);
    }

-- the first fault's index, with one row more
module _ (r : Row) (s x : ℕ) where
  first-here : (l : List Row) → rows_at l s x ≡ [] → is_at r s x ≡ true → first_at (l ++ r ∷ []) s x ≡ length l
  unfolding rows_at first_at
  first-here [] h e = rw e
  first-here (q ∷ l) h e = go (is_at q s x) h (λ k. first-here l k e)
    where
      go : (b : Bool) → cond b (q ∷ rows_at l s x) (rows_at l s x) ≡ [] → (rows_at l s x ≡ [] → first_at (l ++ r ∷ []) s x ≡ length l)
          → cond b 0 (suc (first_at (l ++ r ∷ []) s x)) ≡ suc (length l)
      go true k ih = let z : suc (length (rows_at l s x)) ≡ 0 = ap length k in absurd (omega arith)
      go false k ih = ap suc (ih k)

  first-before : (l : List Row) → 1 ≤ length (rows_at l s x) → first_at (l ++ r ∷ []) s x ≡ first_at l s x
  unfolding rows_at first_at
  first-before [] h = absurd (omega arith)
  first-before (q ∷ l) h = go (is_at q s x) h (first-before l)
    where
      go : (b : Bool) → 1 ≤ length (cond b (q ∷ rows_at l s x) (rows_at l s x)) → (1 ≤ length (rows_at l s x) → first_at (l ++ r ∷ []) s x ≡ first_at l s x)
          → cond b 0 (suc (first_at (l ++ r ∷ []) s x)) ≡ cond b 0 (suc (first_at l s x))
      go true k ih = refl
      go false k ih = ap suc (ih k)

  first-new : (l : List Row) → is_at r s x ≡ true → first_fault (l ++ r ∷ []) s x ≡ cond (eqb (length (rows_at l s x)) 0) (length l) (first_fault l s x)
  unfolding first_fault
  first-new l e = rw (rows_new l r s x e) (go (rows_at l s x) refl)
    where
      go : (rows : List Row) → rows_at l s x ≡ rows
          → cond (is_none (first (rows ++ r ∷ []))) 0 (first_at (l ++ r ∷ []) s x) ≡ cond (eqb (length rows) 0) (length l) (cond (is_none (first rows)) 0 (first_at l s x))
      go [] k = first-here l k e
      go (q ∷ rows) k = rw (ne_eqb (suc (length rows)) 0 (λ z. omega arith)) (first-before l (omega (arith, ap length k)))

  first-old : (l : List Row) → is_at r s x ≡ false → first_fault (l ++ r ∷ []) s x ≡ first_fault l s x
  unfolding first_fault
  first-old l e = rw (rows-old l r s x e) (go (rows_at l s x) refl)
    where
      go : (rows : List Row) → rows_at l s x ≡ rows → cond (is_none (first rows)) 0 (first_at (l ++ r ∷ []) s x) ≡ cond (is_none (first rows)) 0 (first_at l s x)
      go [] k = refl
      go (q ∷ rows) k = first-before l (omega (arith, ap length k))

-- the rows by index, with one row more
row_here : (l : List Row) (r : Row) (i : ℕ) → i ≡ length l → get_or (l ++ r ∷ []) i no_row ≡ r
row_here l r i e = rw e (get_or-append_seam l r [] no_row)

row-there : (l : List Row) (r : Row) (i j : ℕ) → i ≡ length l → (j ≡ i → ⊥) → get_or (l ++ r ∷ []) j no_row ≡ get_or l j no_row
row-there l r i j e n = go (ltb j (length l)) refl
  where
    go : (b : Bool) → ltb j (length l) ≡ b → get_or (l ++ r ∷ []) j no_row ≡ get_or l j no_row
    go true k = get_or-append l (r ∷ []) no_row j (ltb-true j (length l) k)
    go false k =
        let m = ltb-false j (length l) k in
        get_or-eq_default (l ++ r ∷ []) no_row {n = j} (omega (arith, length-snoc l r)) ∙ sym (get_or-eq_default l no_row {n = j} m)

pub faults-none : {t : Tables} → Cleared t → FaultTables t []
unfolding rows_at first_fault
faults-none h = record {
  counts-are = pair-zeros (λ s x. length (rows_at [] s x)) h.counts-are (λ s x. refl);
  firsts-are = pair-zeros (first_fault []) h.firsts-are (λ s x. refl);
  mutated-are = zeros 256 (λ i. (get_or [] i no_row).output) h.mutated-are (λ i k. refl);
  diverted-are = zeros 256 (λ i. (get_or [] i no_row).target) h.diverted-are (λ i k. refl);
}

pub count-few : (t : Tables) (l : List Row) (r : Row) → Digits r → FaultTables t l → get_or t.choices (pair_key r) 0 ≤ length l
count-few t l r d h = omega (arith, h.counts-are.at r.source r.input d.source d.input, rows_few l r.source r.input)

pub fault-more : (t : Tables) (l : List Row) (r : Row) (i : ℕ) (fs : List ℕ) → Digits r → i < 256 → i ≡ length l
    → fs ≡ set t.first (pair_key r) (cond (eqb (get_or t.choices (pair_key r) 0) 0) i (get_or t.first (pair_key r) 0)) → FaultTables t l
    → FaultTables (record t { choices = set t.choices (pair_key r) (get_or t.choices (pair_key r) 0 + 1); first = fs; mutated = set t.mutated i r.output; diverted = set t.diverted i r.target }) (l ++ r ∷ [])
fault-more t l r i fs d k e ev h =
    let n : get_or t.choices (pair_key r) 0 ≡ length (rows_at l r.source r.input) = h.counts-are.at r.source r.input d.source d.input in
    let o : get_or t.first (pair_key r) 0 ≡ first_fault l r.source r.input = h.firsts-are.at r.source r.input d.source d.input in
    record {
      counts-are = table-set h.counts-are r d.source d.input
          (λ s x m. let (p, q) = at_true r s x m in rw (rows_new l r s x m, length-snoc (rows_at l s x) r, n, ← p, ← q))
          (λ s x m. ap length (rows-old l r s x m));
      firsts-are = rw ev (table-set h.firsts-are r d.source d.input
          (λ s x m. let (p, q) = at_true r s x m in first-new r s x l m ∙ (rw (n, o, e, ← p, ← q)))
          (λ s x m. first-old r s x l m));
      mutated-are = index-set (λ j. (get_or (l ++ r ∷ []) j no_row).output) i r.output h.mutated-are k (ap (λ (x : Row). x.output) (row_here l r i e))
          (λ j m. ap (λ (x : Row). x.output) (row-there l r i j e m));
      diverted-are = index-set (λ j. (get_or (l ++ r ∷ []) j no_row).target) i r.target h.diverted-are k (ap (λ (x : Row). x.target) (row_here l r i e))
          (λ j m. ap (λ (x : Row). x.target) (row-there l r i j e m));
    }

-- the first index is written where there is no fault before
pub first-written : (fs : List ℕ) (p i n : ℕ) → n ≡ 0 → set fs p i ≡ set fs p (cond (eqb n 0) i (get_or fs p 0))
first-written fs p i n e = rw e

pub first-kept : (fs : List ℕ) (p i n : ℕ) → (n ≡ 0 → ⊥) → fs ≡ set fs p (cond (eqb n 0) i (get_or fs p 0))
first-kept fs p i n h = rw (ne_eqb n 0 h) (sym (set-get_or fs p 0))

-- the pass over the faults
bytes-at : (s : List ℕ) (at i : ℕ) (l : List ℕ) → drop at s ≡ l → get_or s (at + i) 0 ≡ get_or l i 0
bytes-at s at i l e = sym (get_or-drop at s i 0) ∙ ap (λ (t : List ℕ). get_or t i 0) e

module _ {s : List ℕ} {place : ℕ} {l : List Row} (from : FaultsFrom s place l) (i : ℕ) (h : i < length l) where
  row-bytes : drop (place + 5 * i) s ≡ 3 ∷ (get_or l i no_row).source ∷ (get_or l i no_row).input ∷ (get_or l i no_row).output ∷ (get_or l i no_row).target ∷ (row_bytes 3 (drop (suc i) l) ++ from.rest)
  unfolding row_bytes
  row-bytes = rows-at s 3 place i l from.rest from.bytes (omega arith) ∙ ap (λ (t : List Row). row_bytes 3 t ++ from.rest) (drop-cons l i no_row h)

  row-here : row_at s (place + 5 * i) ≡ get_or l i no_row
  row-here =
      let at = place + 5 * i in
      let a = bytes-at s at 1 _ row-bytes in
      let b = bytes-at s at 2 _ row-bytes in
      let c = bytes-at s at 3 _ row-bytes in
      let d = bytes-at s at 4 _ row-bytes in
      λ j. record { source = a j; input = b j; output = c j; target = d j }

  pub fault-there : command_at s (place + 5 * i) ≡ Some (code.Fault (get_or l i no_row))
  fault-there = command-there s (place + 5 * i) 3 _ row-bytes (omega arith) ∙ ap (λ (r : Row). Some (code.Fault r)) row-here

  pub fault-room : place + 5 * i < length s
  fault-room =
      let k = ap length row-bytes in
      omega (arith, length-drop (place + 5 * i) s)

  pub row-digits : (row : Row) → row ≡ get_or l i no_row → Digits row
  row-digits row e = rw e (all-at-index Digits l i no_row h from.digits)

  pub taken-length : i ≡ length (take i l)
  taken-length = sym (length-take-le i l (omega arith))

  pub noted-next : (row : Row) (t : Tables) → row ≡ get_or l i no_row → FaultTables t (take i l ++ row ∷ []) → FaultTables t (take (i + 1) l)
  noted-next row t e d = rw (add-one i, take-suc l i no_row h, ← e) d

-- the pass over the STARTs
abbrev pub waking_by : List ℕ → ℕ → ℕ
waking_by l i = get_or (0 ∷ l) i 0

abbrev pub Waking : List ℕ → List ℕ → ℕ → Type 0
Waking l ws i = Table 16 ws (partly (waking_by l) (λ j. 0) (i + 1))

module _ {s : List ℕ} {place : ℕ} {l : List ℕ} (from : StartsFrom s place l) (i : ℕ) (h : i < length l) where
  start-bytes : drop (place + 2 * i) s ≡ 7 ∷ get_or l i 0 ∷ (start_bytes (drop (suc i) l) ++ from.rest)
  unfolding operand_bytes
  start-bytes = operands-at s 7 place i l from.rest from.bytes (omega arith) ∙ ap (λ (t : List ℕ). start_bytes t ++ from.rest) (drop-cons l i 0 h)

  pub start-there : command_at s (place + 2 * i) ≡ Some (code.Start (get_or l i 0))
  start-there = command-there s (place + 2 * i) 7 _ start-bytes (omega arith) ∙ ap (λ (t : ℕ). Some (code.Start t)) (bytes-at s (place + 2 * i) 1 _ start-bytes)

  pub start-room : place + 2 * i < length s
  start-room =
      let k = ap length start-bytes in
      omega (arith, length-drop (place + 2 * i) s)

  pub waking-next : (ws : List ℕ) (state : ℕ) → state ≡ get_or l i 0 → Waking l ws i → Waking l (set ws (i + 1) state) (i + 1)
  waking-next ws state e g = partly-next (waking_by l) (λ j. 0) (i + 1) state (omega (arith, from.few)) g (e ∙ ap (waking_by l) (sym (add-one i)))

-- the pass over the pairs
abbrev pub choices_by : Sheet → ℕ → ℕ
choices_by sh i = choices_at sh (i / 16) (i % 16)

abbrev pub faults_by : Sheet → ℕ → ℕ
faults_by sh i = length (rows_at sh.faults (i / 16) (i % 16))

choices-by : (o : Option Row) (n u v : ℕ) → If Digits o → v ≡ rule_target o → cond (ltb v 16) (n + 1) u ≡ maybe o u (λ r. suc n)
choices-by none n u v d e = rw e
choices-by (some r) n u v d e = rw (lt-ltb v 16 (omega (arith, d.target))) (add-one n)

module _ (u : ℕ) (ts cs₀ : List ℕ) (sh : Sheet) (h : Countable u ts cs₀ sh) (p : ℕ) (k : p < 256) where
  pub faults-here : {cs : List ℕ} → Table 256 cs (partly (choices_by sh) (faults_by sh) p) → get_or cs p 0 ≤ 256
  faults-here t = omega (arith, partly_here (choices_by sh) (faults_by sh) p k t, rows_few sh.faults (p / 16) (p % 16), h.few)

  pub counting-next : {cs : List ℕ} (v : ℕ) → v ≡ cond (ltb (get_or ts p 0) 16) (get_or cs p 0 + 1) u
      → Table 256 cs (partly (choices_by sh) (faults_by sh) p) → Table 256 (set cs p v) (partly (choices_by sh) (faults_by sh) (p + 1))
  unfolding choices_at
  counting-next {cs} v ev t =
      let n = partly_here (choices_by sh) (faults_by sh) p k t in
      let e : v ≡ choices_by sh p =
      ev ∙ (rw (n, h.unruled-is) (choices-by (rule_at sh.rules (p / 16) (p % 16)) (faults_by sh p) (unruled_choices sh) (get_or ts p 0)
      (rule-digits sh.rules (p / 16) (p % 16) h.leads.digits) ((pair-table h.leads.table).at p k))) in
      partly-next (choices_by sh) (faults_by sh) p v k t e

-- the pass over the tests
pub record Testing (s : List ℕ) (place : ℕ) (l : List (List ℕ)) (t : Tables) (at i : ℕ) : Type 0 where
  pub here : TestPlace s place l i at
  pub tables : TestTables t place l i

pub tests-room : (s : List ℕ) (place : ℕ) (l : List (List ℕ)) → TestsFrom s place l → place ≤ length s
tests-room s place l h =
    let k : length s - place ≡ length (test_bytes l) + 1 = sym (length-drop place s) ∙ (ap length h.bytes ∙ length-append (test_bytes l) (6 ∷ [])) in
    omega arith

pub testing-start : (s : List ℕ) (place : ℕ) (l : List (List ℕ)) (t : Tables) → TestsFrom s place l → TestTables t place l 0 → Testing s place l t place 0
testing-start s place l t h d = record { here = place-start s place l h.bytes; tables = d }

pub testing-next : (s : List ℕ) (place : ℕ) (l : List (List ℕ)) (t : Tables) (at i : ℕ) → TestsFrom s place l → i < length l → (r : Span) → TestAt s at r
    → Testing s place l t at i → Testing s place l (record t { starts = set t.starts i r.start; lengths = set t.lengths i (r.length / 2) }) (r.start + r.length) (i + 1)
testing-next s place l t at i h k r d g =
    let e = place_found s place l i at k g.here r d in
    record {
      here = place-next s place l i at k g.here r d;
      tables = record {
        starts-are = partly-next (λ j. (span_from place l j).start) (λ j. 0) i r.start (omega (arith, h.few)) g.tables.starts-are (ap (λ (x : Span). x.start) e);
        lengths-are = partly-next (λ j. length (get_or l j [])) (λ j. 0) i (r.length / 2) (omega (arith, h.few)) g.tables.lengths-are
            (let q : r.length ≡ 2 * length (get_or l i []) = ap (λ (x : Span). x.length) e in omega arith);
      };
    }

pub tests-none : {t : Tables} → t.starts ≡ replicate 256 0 → t.lengths ≡ replicate 256 0 → (place : ℕ) (l : List (List ℕ)) → TestTables t place l 0
tests-none hs hl place l = record {
  starts-are = zeros 256 (partly (λ j. (span_from place l j).start) (λ j. 0) 0) hs (λ i k. rw (le-ltb i 0 (omega arith)));
  lengths-are = zeros 256 (partly (λ j. length (get_or l j [])) (λ j. 0) 0) hl (λ i k. rw (le-ltb i 0 (omega arith)));
}
