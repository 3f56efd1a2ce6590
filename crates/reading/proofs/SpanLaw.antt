-- One test's part, from what Read answers.
use Prim.Native.Nat.{ℕ, zero, suc, ◌+◌, ◌*◌, ◌-◌, ◌<◌, ◌≤◌}
use mathlib.Core.Path.{◌≡◌, refl, ap, sym, ◌∙◌}
use mathlib.Core.Bool.{Bool, true, false, cond}
use mathlib.Core.List.{List, [], ◌∷◌}
use native.Mathlib.Omega.{arith}
use lib.Dec.{leb}
use lib.ListN.{length, get_or, take, drop, length-append, length-drop}
use borrow.Author.Tests.{le-leb, lt-leb, leb-false}
use Rattle.lists.specs.laws.TestLaw.{never}
use Rattle.lists.specs.laws.AllLaw.{all-imp}
use Rattle.std.specs.Int.{from_bool}
use Rattle.std.proofs.Common.{inr}
use Rattle.sheet.specs.declared.Summary.{Summary}
use Rattle.sheet.specs.declared.Span.{Span}
use Rattle.std.specs.Prelude.{Ok, Err}
use Rattle.sheet.specs.declared.Refusal.{Refusal}
use Rattle.sheet.specs.Sheet.{Sheet}
use Rattle.sheet.specs.Reading.{Result, Reading, accepted, refused, reading, summary_of}
use Rattle.sheet.specs.Encode.{quiet_bytes, test_bytes, machine_bytes, body, encode}
use Rattle.sheet.specs.Part.{span_of, span_in, parting, part_of, LiesIn}
use Rattle.sheet.specs.Tables.{refusal_of, read_answer, part_answer}
use Rattle.sheet.specs.declared.Row.{Row}
use Rattle.sheet.specs.declared.Size.{Size}
use Rattle.reading.specs.declared.layout.Layout.{Layout}
use Rattle.reading.specs.Layout.{layout_of}
use Rattle.sheet.specs.WellFormed.{SizeIn, RowIn, WellFormed}
use Rattle.sheet.specs.words.Tabled.{Digits}
use Rattle.reading.specs.words.Places.{span_from, OperandsTo, Told, LaidOut}
use Rattle.sheet.specs.laws.RefusalLaw.{refused-by}
use Rattle.sheet.specs.laws.EncodedLaw.{encoded}
use Rattle.sheet.specs.laws.AcceptedLaw.{well-formed, short-enough}
use Rattle.sheet.specs.laws.InjectiveLaw.{tests-else, tests_on, starts_on}
use Rattle.sheet.specs.laws.WakingLaw.{few-starts}
use Rattle.reading.proofs.PlaceLaw.{faults-from, starts_from, tests-from, machine-length, tests-suc}

accepted-as : (d : Reading) (summary : Summary) → Ok summary ≡ read_answer d → (sh : Sheet) × (d ≡ accepted sh) × (summary ≡ summary_of sh)
accepted-as (accepted sh) summary e = (sh, refl, cc)
accepted-as (refused n p) summary e = never (cc)

-- what an accepted reading tells
pub told : (s : List ℕ) (summary : Summary) → Ok summary ≡ read_answer (reading s) → (sh : Sheet) × Told s summary sh
told s summary e = let t = accepted-as (reading s) summary e in (t.0, record { is = t.1; same = t.2 })

-- what was told, of the sheet that was read
pub told-of : (s : List ℕ) (m : Summary) → Ok m ≡ read_answer (reading s) → (sh : Sheet) → reading s ≡ accepted sh → Told s m sh
told-of s m e sh is = let k : Ok m ≡ read_answer (accepted sh) = rw is at e in record { is = is; same = cc }

quiet-width : (q : Bool) → from_bool q ≡ length (quiet_bytes q)
unfolding quiet_bytes
quiet-width true = refl
quiet-width false = refl

row-digits : (z : Size) → SizeIn z → (r : Row) → RowIn z r → Digits r
row-digits z h r i =
    let a = h.states.few in
    let b = h.inputs.few in
    let c = h.outputs.few in
    record { source = omega (arith, i.source); input = omega (arith, i.input); output = omega (arith, i.output); target = omega (arith, i.target) }

module _ {s : List ℕ} {m : Summary} {sh : Sheet} (h : Told s m sh) where
  pub rules-are : m.rules ≡ length sh.rules
  unfolding summary_of
  rules-are = ap (λ (x : Summary). x.rules) h.same

  pub faults-are : m.faults ≡ length sh.faults
  unfolding summary_of
  faults-are = ap (λ (x : Summary). x.faults) h.same

  pub tests-are : m.tests ≡ length sh.tests
  unfolding summary_of
  tests-are = ap (λ (x : Summary). x.tests) h.same

  pub size_is : record { states = m.states; inputs = m.inputs; outputs = m.outputs } ≡ sh.size
  unfolding summary_of
  size_is = ap (λ (x : Summary). record { states = x.states; inputs = x.inputs; outputs = x.outputs }) h.same

  pub formed : WellFormed sh
  formed = well-formed s sh h.is

  starts-at : drop (layout_of sh).starts s ≡ starts_on sh
  starts-at = rw (← encoded s sh h.is) (starts_from sh)

  -- the STARTs begin within the sheet, which is short
  pub starts-room : ((layout_of sh).starts ≤ length s) × (length s ≤ 16384)
  starts-room =
      let k : length s - (layout_of sh).starts ≡ length (starts_on sh) = sym (length-drop (layout_of sh).starts s) ∙ ap length starts-at in
      let some : 1 ≤ length (starts_on sh) = simp length-append (omega arith) in
      (omega arith, short-enough s sh h.is)

  pub laid_out : LaidOut s sh (layout_of sh)
  laid_out =
      let w = formed in
      let is = encoded s sh h.is in
      record {
        quiet = refl;
        faults = record {
          rest = starts_on sh;
          bytes = rw (← is) (faults-from sh);
          digits = all-imp Digits (RowIn sh.size) (row-digits sh.size w.size) sh.faults w.faults;
          few = w.few-faults;
        };
        starts = record { rest = tests_on sh; bytes = starts-at; few = few-starts w };
        waking = refl;
        tests = record { bytes = rw (← is) (tests-from sh); few = w.few-tests; short = short-enough s sh h.is };
        begin = sym (machine-length sh);
      }

  -- the places of the code are those of the sheet
  module _ (q : Bool) (eq : q ≡ sh.quiet) (n : ℕ) (en : n ≡ from_bool q) where
    pub rules-begin : 4 + n ≡ (layout_of sh).rules
    rules-begin = ap (λ (k : ℕ). 4 + k) (en ∙ quiet-width q ∙ ap (λ (b : Bool). length (quiet_bytes b)) eq)

    pub layout-is : (e : ℕ) → OperandsTo s (4 + n + 5 * m.rules + 5 * m.faults) e
        → ◌≡◌ {A = Layout} (record { quiet = q; rules = 4 + n; faults = 4 + n + 5 * m.rules; starts = 4 + n + 5 * m.rules + 5 * m.faults; tests = e }) (layout_of sh)
    layout-is e o =
        let p : OperandsTo s (layout_of sh).starts e = rw (rules-begin, rules-are, faults-are) at o in
        let end : e ≡ (layout_of sh).tests = p.counted 7 sh.starts (tests_on sh) (inr refl) starts-at (tests-else 5 sh.tests refl refl) (tests-else 7 sh.tests refl refl) in
        rw (rules-begin, rules-are, faults-are, eq, end)

-- so many RULEs and FAULTs fit a sheet
pub parts-room : (s : List ℕ) (m : Summary) → Ok m ≡ read_answer (reading s) → (q : Bool) → ((sh : Sheet) → reading s ≡ accepted sh → q ≡ sh.quiet)
    → (n : ℕ) → n ≡ from_bool q → (4 + n + 5 * m.rules + 5 * m.faults ≤ length s) × (length s ≤ 16384)
parts-room s m e q eq n en =
    let (sh, t) = told s m e in
    let room = starts-room t in
    let k = rules-begin t q (eq sh t.is) n en in
    (omega (arith, room.0, rules-are t, faults-are t), room.1)

pub span-refused : (s : List ℕ) (i : ℕ) (why : Refusal) → Err why ≡ read_answer (reading s) → Err why ≡ part_answer (parting s i)
unfolding parting
span-refused s i why e = rw (refused-by why (reading s) (sym e))

pub same_span : (s : List ℕ) (i : ℕ) (sh : Sheet) (l : Layout) → LaidOut s sh l → span_from l.tests sh.tests i ≡ span_of sh i
unfolding span_of
same_span s i sh l p =
    ap (λ (n : ℕ). record { start = n; length = 2 * length (get_or sh.tests i []) })
    (simp length-append (omega (arith, p.begin)))

module _ (s : List ℕ) (i : ℕ) (summary : Summary) (sh : Sheet) (t : Told s summary sh) where
  pub span_none : summary.tests ≤ i → Err (refusal_of 17 0) ≡ part_answer (parting s i)
  unfolding parting
  span_none h = rw (t.is, le-leb (length sh.tests) i (omega (arith, tests-are t)))

  pub span-is : i < summary.tests → (l : Layout) → LaidOut s sh l → (r : Span) → r ≡ span_from l.tests sh.tests i → Ok r ≡ part_answer (parting s i)
  unfolding parting
  span-is h l p r f =
      rw (t.is, lt-leb (length sh.tests) i (omega (arith, tests-are t)))
      (ap (λ (x : Span). Ok x) (f ∙ same_span s i sh l p))

-- the tests before the end take no more bytes than all
tests-take : (l : List (List ℕ)) (k : ℕ) → length (test_bytes (take k l)) ≤ length (test_bytes l)
unfolding test_bytes
tests-take l zero = omega arith
tests-take [] (suc k) = omega arith
tests-take (xs ∷ l) (suc k) = let w = tests-take l k in simp length-append (omega arith)

record Spanned (s : List ℕ) (i : ℕ) (span : Span) : Type 0 where
  pub sheet : Sheet
  pub is : reading s ≡ accepted sheet
  pub below : i < length sheet.tests
  pub same : span ≡ span_of sheet i

spanned : (s : List ℕ) (i : ℕ) (span : Span) → parting s i ≡ accepted span → Spanned s i span
unfolding parting
spanned s i span e = go (reading s) refl e
  where
    below : (sh : Sheet) → reading s ≡ accepted sh → (b : Bool) → leb (length sh.tests) i ≡ b → cond b (refused 17 0) (accepted (span_of sh i)) ≡ accepted span → Spanned s i span
    below sh d true h k = never (cc)
    below sh d false h k = let same : span ≡ span_of sh i = cc in record { sheet = sh; is = d; below = leb-false (length sh.tests) i h; same = same }

    go : (d : Reading) → reading s ≡ d → span_in d i ≡ accepted span → Spanned s i span
    go (accepted sh) d k = below sh d (leb (length sh.tests) i) refl k
    go (refused n p) d k = never (cc)

span-room : (s : List ℕ) (i : ℕ) (span : Span) → Spanned s i span → span.start + span.length ≤ length s
unfolding span_of encode body
span-room s i span h =
    let sh = h.sheet in
    let whole : length s ≡ length (machine_bytes sh) + length (test_bytes sh.tests) + 1 =
    ap length (sym (encoded s sh h.is)) ∙ simp length-append in
    let start : span.start ≡ suc (length (machine_bytes sh) + length (test_bytes (take i sh.tests))) =
    ap (λ (x : Span). x.start) h.same ∙ ap suc (length-append (machine_bytes sh) (test_bytes (take i sh.tests))) in
    let size : span.length ≡ 2 * length (get_or sh.tests i []) = ap (λ (x : Span). x.length) h.same in
    omega (arith, tests-take sh.tests (i + 1), tests-suc sh.tests i h.below)

at-span : (d : Result Span) (span : Span) → Ok span ≡ part_answer d → d ≡ accepted span
at-span (accepted x) span e = let same : x ≡ span = cc in ap (λ (y : Span). accepted y) same
at-span (refused n p) span e = never (cc)

module _ (s : List ℕ) (i : ℕ) (span : Span) (e : Ok span ≡ part_answer (parting s i)) where
  pub part_room : span.start + span.length ≤ length s
  part_room = span-room s i span (spanned s i span (at-span (parting s i) span e))

  pub part-is : take (span.start + span.length - span.start) (drop span.start s) ≡ part_of s (parting s i)
  part-is =
      let k : span.start + span.length - span.start ≡ span.length = omega arith in
      rw (at-span (parting s i) span e, k)

  pub part_lies : (sheet : ℕ × ℕ) → LiesIn (parting s i) sheet (sheet.0, span.start + sheet.1)
  part_lies sheet = rw (at-span (parting s i) span e) (refl, omega arith)
