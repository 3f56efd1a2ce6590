-- The bytes of SIZE, QUIET and the RULEs, and of the first tests, in an accepted sheet.
use Prim.Native.Nat.{ℕ, min, suc, ◌+◌, ◌-◌, ◌*◌, ◌<◌, ◌≤◌}
use native.Mathlib.Omega.{arith}
use mathlib.Core.Path.{◌≡◌, refl, sym, ◌∙◌, ap, ap₂}
use mathlib.Core.Bool.{Bool, true, false, cond, ◌&&◌}
use mathlib.Core.List.{List, [], ◌∷◌, ◌++◌, append_assoc}
use borrow.Author.Tests.{lt-leb, ltb-true, ltb-false}
use lib.Dec.{eqb, ltb}
use lib.ListN.{length, get_or, take, drop, length-append, take-append-drop}
use lib.Seq.{take_at, drop_at, take_all, take-suc, ext_get_or}
use Rattle.lists.specs.laws.TestLaw.{not-true-false}
use Rattle.sheet.specs.declared.Row.{Row}
use Rattle.sheet.specs.declared.Span.{Span}
use Rattle.sheet.specs.declared.Refusal.{Refusal}
use Rattle.std.specs.Prelude.{Result as Answer}
use Rattle.std.specs.Prelude.{Ok}
use Rattle.sheet.specs.Sheet.{Sheet}
use Rattle.sheet.specs.Reading.{accepted, refused, reading}
use Rattle.sheet.specs.Encode.{size_bytes, quiet_bytes, row_bytes, start_bytes, press_bytes, test_bytes, machine_bytes, body, encode}
use Rattle.sheet.specs.Part.{span_of, parting}
use Rattle.sheet.specs.Tables.{part_answer}
use Rattle.sheet.specs.laws.AcceptedLaw.{short-enough}
use Rattle.sheet.specs.laws.EncodedLaw.{encoded}
use Rattle.sheet.specs.laws.InjectiveLaw.{tests_on, starts_on, faults_on, rules_on, encode-parts, rules-else}
use Rattle.sheet.specs.laws.PartLaw.{presses-length}
use Rattle.station.specs.Station.{same, head_bytes, agrees, agrees_with}
use Rattle.station.proofs.laws.AgreeLaw.{same_true, same_self}
use Rattle.reading.specs.declared.layout.Layout.{Layout}
use Rattle.reading.specs.Layout.{layout_of}
use Rattle.std.specs.Cmp.Lexicographic.{pointwise}
use Rattle.lists.specs.Proving.{by_cases, dec_lt}
use Rattle.station.specs.words.Parts.{TestsOf, HeadIn, TestsIn}

-- ---- equal bytes, by the library's test
same_is : (a b : List ℕ) → pointwise eqb a b ≡ same a b
unfolding same
same_is [] [] = refl
same_is [] (y ∷ b) = refl
same_is (x ∷ a) [] = refl
same_is (x ∷ a) (y ∷ b) = ap (λ (rest : Bool). eqb x y && rest) (same_is a b)

pub same-by : {a b c d : List ℕ} {r : Bool} → r ≡ pointwise eqb a b → a ≡ c → b ≡ d → r ≡ same c d
same-by {a} {b} e f g = e ∙ same_is a b ∙ ap₂ same f g

-- ---- the head
rows-length : (b : ℕ) (l : List Row) → length (row_bytes b l) ≡ 5 * length l
unfolding row_bytes
rows-length b [] = refl
rows-length b (r ∷ l) = let h = rows-length b l in omega arith

module _ {sh : Sheet} (s : List ℕ) (read : reading s ≡ accepted sh) where
  -- it stands at the front
  pub head-front : s ≡ head_bytes sh ++ faults_on sh
  unfolding head_bytes
  head-front =
      sym (encoded s sh read) ∙ encode-parts sh
      ∙ ap (λ (l : List ℕ). size_bytes sh.size ++ l) (sym (append_assoc (quiet_bytes sh.quiet) (row_bytes 2 sh.rules) (faults_on sh)))
      ∙ sym (append_assoc (size_bytes sh.size) (quiet_bytes sh.quiet ++ row_bytes 2 sh.rules) (faults_on sh))

  head-length : length (head_bytes sh) ≡ 4 + length (quiet_bytes sh.quiet) + 5 * length sh.rules
  unfolding head_bytes size_bytes
  head-length =
      omega (arith, length-append (size_bytes sh.size) (quiet_bytes sh.quiet ++ row_bytes 2 sh.rules), length-append (quiet_bytes sh.quiet) (row_bytes 2 sh.rules), rows-length 2 sh.rules)

  -- and ends where the FAULTs begin
  pub head_in : {layout : Layout} → layout ≡ layout_of sh → HeadIn sh s layout.faults
  head_in {layout} e =
      let n : layout.faults ≡ length (head_bytes sh) = omega (arith, ap (λ (z : Layout). z.faults) e, head-length) in
      record {
        inside = omega (arith, ap length head-front, length-append (head_bytes sh) (faults_on sh), n);
        bytes = ap (take layout.faults) head-front ∙ take_at (head_bytes sh) (faults_on sh) layout.faults (sym n);
      }

-- ---- the first tests
tests-append : (l m : List (List ℕ)) → test_bytes (l ++ m) ≡ test_bytes l ++ test_bytes m
unfolding test_bytes
tests-append [] m = refl
tests-append (xs ∷ l) m = rw (tests-append l m) (ap (λ (t : List ℕ). 4 ∷ t) (sym (append_assoc (press_bytes xs) (test_bytes l) (test_bytes m))))

one-test : (t : List ℕ) → length (test_bytes (t ∷ [])) ≡ 1 + 2 * length t
unfolding test_bytes
one-test t = omega (arith, length-append (press_bytes t) [], presses-length t)

pub span-at : {sh : Sheet} {s : List ℕ} (i : ℕ) {r : Answer Span Refusal} → TestsOf sh s (i + 1) → r ≡ part_answer (parting s i) → r ≡ Ok (span_of sh i)
unfolding parting
span-at {sh} {s} i h e = e ∙ rw (h.read, lt-leb (length sh.tests) i (omega (arith, h.few))) refl

module _ {sh : Sheet} {s : List ℕ} {n : ℕ} (h : TestsOf sh s n) where
  tests-front : s ≡ machine_bytes sh ++ (test_bytes (take n sh.tests) ++ (test_bytes (drop n sh.tests) ++ 6 ∷ []))
  unfolding encode body
  tests-front =
      sym (encoded s sh h.read)
      ∙ ap (λ (l : List (List ℕ)). (machine_bytes sh ++ test_bytes l) ++ 6 ∷ []) (sym (take-append-drop n sh.tests))
      ∙ rw (tests-append (take n sh.tests) (drop n sh.tests)) (simp append_assoc)

  pub tests-none : n ≡ 0 → TestsIn sh s n (record { start = 0; length = 0 })
  unfolding test_bytes
  tests-none e = record { inside = omega arith; bytes = rw e refl }

  module _ (some : n ≡ 0 → ⊥) {a b : Span} (ea : a ≡ span_of sh 0) (eb : b ≡ span_of sh (n - 1)) where
    start_is : a.start ≡ suc (length (machine_bytes sh))
    unfolding span_of test_bytes
    start_is = ap (λ (r : Span). r.start) ea ∙ omega (arith, length-append (machine_bytes sh) [])

    end_is : b.start + b.length ≡ length (machine_bytes sh) + length (test_bytes (take n sh.tests))
    unfolding span_of
    end_is =
        let m = n - 1 in
        let more : suc m ≡ n = omega arith in
        let t = get_or sh.tests m [] in
        let whole : take n sh.tests ≡ take m sh.tests ++ t ∷ [] = ap (λ (k : ℕ). take k sh.tests) (sym more) ∙ take-suc sh.tests m [] (omega (arith, h.few)) in
        let bytes = ap (λ (l : List (List ℕ)). length (test_bytes l)) whole ∙ ap length (tests-append (take m sh.tests) (t ∷ [])) ∙ length-append (test_bytes (take m sh.tests)) (test_bytes (t ∷ [])) in
        let start : b.start ≡ suc (length (machine_bytes sh ++ test_bytes (take m sh.tests))) = ap (λ (r : Span). r.start) eb in
        let long : b.length ≡ 2 * length t = ap (λ (r : Span). r.length) eb in
        omega (arith, length-append (machine_bytes sh) (test_bytes (take m sh.tests)), one-test t)

    pub start-some : 1 ≤ a.start
    start-some = omega (arith, start_is)

    pub end_fits : b.start + b.length ≤ 16384
    end_fits =
        let all = ap length tests-front in
        let k = length-append (machine_bytes sh) (test_bytes (take n sh.tests) ++ (test_bytes (drop n sh.tests) ++ 6 ∷ [])) in
        let j = length-append (test_bytes (take n sh.tests)) (test_bytes (drop n sh.tests) ++ 6 ∷ []) in
        omega (arith, end_is, short-enough s sh h.read)

    pub start-before : a.start - 1 ≤ b.start + b.length
    start-before = omega (arith, start_is, end_is)

    pub tests-in : {r : Span} → r.start ≡ a.start - 1 → r.length ≡ b.start + b.length - (a.start - 1) → TestsIn sh s n r
    tests-in {r} es el =
        let first = test_bytes (take n sh.tests) in
        let rest = test_bytes (drop n sh.tests) ++ 6 ∷ [] in
        let start : r.start ≡ length (machine_bytes sh) = omega (arith, start_is) in
        let long : r.length ≡ length first = omega (arith, start_is, end_is) in
        let all = ap length tests-front in
        record {
          inside = omega (arith, length-append (machine_bytes sh) (first ++ rest), length-append first rest);
          bytes = ap (λ (l : List ℕ). take r.length (drop r.start l)) tests-front ∙ ap (take r.length) (drop_at (machine_bytes sh) (first ++ rest) r.start (sym start)) ∙ take_at first rest r.length (sym long);
        }

-- a part from a place on, by its end
pub part-long : (s : List ℕ) (a n : ℕ) → take (a + n - a) (drop a s) ≡ take n (drop a s)
part-long s a n = let e : a + n - a ≡ n = omega arith in rw e refl

-- ---- both
least-take : (ts : List (List ℕ)) (n : ℕ) → take (min n (length ts)) ts ≡ take n ts
least-take ts n = by_cases (dec_lt (length ts) n)
    (λ l. let e : min n (length ts) ≡ length ts = omega arith in ap (λ (k : ℕ). take k ts) e ∙ take_all (length ts) ts (omega arith) ∙ sym (take_all n ts (omega arith)))
    (λ g. let e : min n (length ts) ≡ n = omega arith in ap (λ (k : ℕ). take k ts) e)

pub least-in : (n m : ℕ) {l k : ℕ} → l ≡ min n m → m ≡ k → l ≤ k
least-in n m e f = omega arith

module _ (s : List ℕ) (a b : Sheet) (n : ℕ) (read : reading s ≡ accepted a) where
  pub agree-heads : false ≡ same (head_bytes a) (head_bytes b) → false ≡ agrees_with (reading s) b n
  unfolding agrees
  agree-heads e = rw (read, ← e) refl

  pub agree-tests : (m k : ℕ) {r : Bool} → true ≡ same (head_bytes a) (head_bytes b) → m ≡ min n (length a.tests) → k ≡ min n (length b.tests) →
      r ≡ same (test_bytes (take m a.tests)) (test_bytes (take k b.tests)) → r ≡ agrees_with (reading s) b n
  unfolding agrees
  agree-tests m k e em ek er =
      let at-m = ap (λ (i : ℕ). take i a.tests) em ∙ least-take a.tests n in
      let at-k = ap (λ (i : ℕ). take i b.tests) ek ∙ least-take b.tests n in
      er ∙ ap₂ (λ (l m : List (List ℕ)). same (test_bytes l) (test_bytes m)) at-m at-k ∙ rw (read, ← e) refl

pub agree-none : (s : List ℕ) (b : Sheet) (n : ℕ) {number place : ℕ} → reading s ≡ refused number place → false ≡ agrees_with (reading s) b n
agree-none s b n e = rw e refl
