-- Places: where the parts of an accepted sheet stand.
use Prim.Native.Nat.{ℕ, zero, suc, ◌+◌, ◌*◌, ◌-◌, ◌<◌, ◌≤◌}
use mathlib.Core.Path.{◌≡◌, refl, ap, sym, ◌∙◌}
use mathlib.Core.Bool.{Bool, true, false, cond}
use mathlib.Core.List.{List, [], ◌∷◌, ◌++◌, append_assoc}
use native.Mathlib.Nat.{add-zero}
use native.Mathlib.Numerals.{add-one}
use native.Mathlib.Omega.{arith}
use lib.Dec.{leb, eqb}
use lib.ListN.{length, get_or, take, drop, length-append, length-drop}
use lib.Seq.{get_or-drop, drop-drop, drop_at, drop-cons, take-suc}
use borrow.Author.Tests.{le-leb, leb-true, eqb-true}
use Rattle.sheet.specs.declared.Row.{Row}
use Rattle.sheet.specs.declared.Size.{Size}
use Rattle.sheet.specs.declared.Span.{Span}
use Rattle.std.specs.Prelude.{Option as Maybe, Some, None, ◌⊎◌}
use Rattle.std.proofs.Common.{inl, inr}
use Rattle.commands.specs.declared.fetch.Command.{Command as Code}
use Rattle.commands.specs.declared.fetch.Command.TheVariants as code
use Rattle.sheet.specs.Sheet.{Sheet}
use Rattle.sheet.specs.Reading.{width}
use Rattle.sheet.specs.Encode.{size_bytes, quiet_bytes, row_bytes, operand_bytes, start_bytes, press_bytes, test_bytes, machine_bytes, encode}
use Rattle.lists.specs.laws.TestLaw.{never}
use Rattle.sheet.specs.laws.InjectiveLaw.{Else, tests-else, tests_on, starts_on, faults_on, rules_on, encode-parts, rules-else}
use Rattle.sheet.specs.laws.PartLaw.{operands-length, presses-length}
use Rattle.commands.specs.words.Fetch.{byte_of, command_by, command_at}
use Rattle.reading.specs.words.Places.{one_operand, OperandsTo, TestAt, span_from}

-- the command that stands at a place
byte_at : (s : List ℕ) (at : ℕ) (l : List ℕ) → drop at s ≡ l → get_or s at 0 ≡ get_or l 0 0
byte_at s at l e = sym (get_or-drop at s 0 0 ∙ ap (λ (n : ℕ). get_or s n 0) (add-zero at)) ∙ ap (λ (t : List ℕ). get_or t 0 0) e

room_at : (s : List ℕ) (at : ℕ) (l : List ℕ) → drop at s ≡ l → length s - at ≡ length l
room_at s at l e = sym (length-drop at s) ∙ ap length e

pub command-there : (s : List ℕ) (at b : ℕ) (l : List ℕ) → drop at s ≡ b ∷ l → width b ≤ suc (length l) → command_at s at ≡ command_by s at b
command-there s at b l e w =
    let k = room_at s at (b ∷ l) e in
    let q : get_or s at 0 ≡ b = byte_at s at (b ∷ l) e in
    rw (q, le-leb (at + width b) (length s) (omega arith))

abbrev bytes : Maybe Code → ℕ
bytes (Some c) = byte_of c
bytes None = 0

byte-by : (s : List ℕ) (at b : ℕ) (c : Code) → command_by s at b ≡ Some c → byte_of c ≡ b
byte-by s at b c = one 1 _ _ refl (one 2 _ _ refl (one 3 _ _ refl (one 4 _ _ refl (one 5 _ _ refl (one 6 _ _ refl (one 7 _ _ refl (one 8 _ _ refl (λ h. cc))))))))
  where
    one : (n : ℕ) (o rest : Maybe Code) → bytes o ≡ n → (rest ≡ Some c → byte_of c ≡ b) → cond (eqb b n) o rest ≡ Some c → byte_of c ≡ b
    one n o rest same later = go (eqb b n) refl
      where
        go : (p : Bool) → eqb b n ≡ p → cond p o rest ≡ Some c → byte_of c ≡ b
        go true q h = sym (ap bytes h) ∙ same ∙ sym (eqb-true b n q)
        go false q h = later h

-- its byte, and that all of it is there
pub command-is : (s : List ℕ) (at : ℕ) (c : Code) → Some c ≡ command_at s at → (get_or s at 0 ≡ byte_of c) × (at + width (byte_of c) ≤ length s)
command-is s at c e = go (leb (at + width (get_or s at 0)) (length s)) refl e
  where
    go : (p : Bool) → leb (at + width (get_or s at 0)) (length s) ≡ p → Some c ≡ cond p (command_by s at (get_or s at 0)) None
        → (get_or s at 0 ≡ byte_of c) × (at + width (byte_of c) ≤ length s)
    go true q h =
        let k = byte-by s at (get_or s at 0) c (sym h) in
        (sym k, rw k (leb-true (at + width (get_or s at 0)) (length s) q))
    go false q h = never (cc)

-- a command with one operand is a PRESS or a START
operand-byte : (c : Code) → width (byte_of c) ≡ 2 → (byte_of c ≡ 5) ⊎ (byte_of c ≡ 7)
operand-byte (code.Size z) e = absurd (omega arith)
operand-byte (code.Rule r) e = absurd (omega arith)
operand-byte (code.Fault r) e = absurd (omega arith)
operand-byte code.Test e = absurd (omega arith)
operand-byte (code.Press x) e = inl refl
operand-byte code.End e = absurd (omega arith)
operand-byte (code.Start t) e = inr refl
operand-byte code.Quiet e = absurd (omega arith)

pub record OperandHere (s : List ℕ) (at : ℕ) : Type 0 where
  pub byte : (get_or s at 0 ≡ 5) ⊎ (get_or s at 0 ≡ 7)
  pub all : at + 2 ≤ length s

pub operand-found : (s : List ℕ) (at : ℕ) → one_operand (command_at s at) ≡ true → OperandHere s at
operand-found s at e = go (command_at s at) refl e
  where
    by : (c : Code) → (get_or s at 0 ≡ byte_of c) × (at + width (byte_of c) ≤ length s) → (width (byte_of c) ≡ 2) → (byte_of c ≡ 5) ⊎ (byte_of c ≡ 7) → OperandHere s at
    by c is two (inl n) = record { byte = inl (is.0 ∙ n); all = rw two at is.1 }
    by c is two (inr n) = record { byte = inr (is.0 ∙ n); all = rw two at is.1 }

    go : (o : Maybe Code) → command_at s at ≡ o → one_operand o ≡ true → OperandHere s at
    go (Some c) i k = let two = eqb-true (width (byte_of c)) 2 k in by c (command-is s at c (sym i)) two (operand-byte c two)
    go None i k = never (cc)

-- what is left of the STARTs or PRESSes that stand from a place on
pub record Left (s : List ℕ) (b : ℕ) (xs rest : List ℕ) (place at : ℕ) : Type 0 where
  pub more : List ℕ
  pub sum : at + 2 * length more ≡ place + 2 * length xs
  pub bytes : drop at s ≡ operand_bytes b more ++ rest

module _ (s : List ℕ) (b : ℕ) (xs rest : List ℕ) (place at : ℕ) where
  onward : (ys : List ℕ) → at + 2 * length ys ≡ place + 2 * length xs → drop at s ≡ operand_bytes b ys ++ rest → (drop at s ≡ rest → ⊥) → Left s b xs rest place (at + 2)
  unfolding operand_bytes
  onward [] p d some = absurd (some d)
  onward (y ∷ ys) p d some = record { more = ys; sum = omega arith; bytes = sym (drop-drop 2 at s) ∙ ap (λ (l : List ℕ). drop 2 l) d }

  pub left-more : one_operand (command_at s at) ≡ true → Else 5 rest → Else 7 rest → Left s b xs rest place at → Left s b xs rest place (at + 2)
  left-more one calm quiet h =
      let c = operand-found s at one in
      onward h.more h.sum h.bytes (λ d. let k = sym (byte_at s at rest d) in go c.byte k)
    where
      go : (get_or s at 0 ≡ 5) ⊎ (get_or s at 0 ≡ 7) → get_or rest 0 0 ≡ get_or s at 0 → ⊥
      go (inl n) k = calm (k ∙ n)
      go (inr n) k = quiet (k ∙ n)

  stopped : (b ≡ 5) ⊎ (b ≡ 7) → (ys : List ℕ) → at + 2 * length ys ≡ place + 2 * length xs → drop at s ≡ operand_bytes b ys ++ rest
      → one_operand (command_at s at) ≡ false → at ≡ place + 2 * length xs
  unfolding operand_bytes
  stopped k [] p d none = omega arith
  stopped (inl k) (y ∷ ys) p d none = let e = ap one_operand (command-there s at 5 (y ∷ (operand_bytes b ys ++ rest)) (rw k at d) (omega arith)) in never (cc)
  stopped (inr k) (y ∷ ys) p d none = let e = ap one_operand (command-there s at 7 (y ∷ (operand_bytes b ys ++ rest)) (rw k at d) (omega arith)) in never (cc)

  pub left-stop : (b ≡ 5) ⊎ (b ≡ 7) → one_operand (command_at s at) ≡ false → Left s b xs rest place at → at ≡ place + 2 * length xs
  left-stop k none h = stopped k h.more h.sum h.bytes none

-- a test: its TEST, then its PRESS commands
after_test : (s : List ℕ) (at : ℕ) (l : List ℕ) → drop at s ≡ 4 ∷ l → drop (at + 1) s ≡ l
after_test s at l e = sym (drop-drop 1 at s) ∙ ap (λ (t : List ℕ). drop 1 t) e

pub test-is : (s : List ℕ) (at end n : ℕ) → n ≡ end - (at + 1) → OperandsTo s (at + 1) end → TestAt s at (record { start = at + 1; length = n })
test-is s at end n en p = record {
  within = omega (arith, en, p.after, p.within);
  found = λ xs rest d calm quiet.
      let c : n ≡ 2 * length xs = omega (arith, en, p.counted 5 xs rest (inl refl) (after_test s at (press_bytes xs ++ rest) d) calm quiet) in
      rw c;
}

-- the tests from the jth on
split-test : (l : List (List ℕ)) (j : ℕ) → j < length l
    → test_bytes (drop j l) ++ 6 ∷ [] ≡ 4 ∷ (press_bytes (get_or l j []) ++ (test_bytes (drop (j + 1) l) ++ 6 ∷ []))
unfolding test_bytes
split-test l j h = rw (drop-cons l j [] h, add-one j) (ap (λ (t : List ℕ). 4 ∷ t) (append_assoc (press_bytes (get_or l j [])) (test_bytes (drop (suc j) l)) (6 ∷ [])))

tests-more : (l : List (List ℕ)) (xs : List ℕ) → length (test_bytes (l ++ xs ∷ [])) ≡ length (test_bytes l) + (1 + 2 * length xs)
unfolding test_bytes
tests-more [] xs = let w = presses-length xs in simp length-append (omega arith)
tests-more (ys ∷ l) xs = let w = tests-more l xs in simp length-append (omega arith)

pub tests-suc : (l : List (List ℕ)) (j : ℕ) → j < length l → length (test_bytes (take (j + 1) l)) ≡ length (test_bytes (take j l)) + (1 + 2 * length (get_or l j []))
tests-suc l j h = rw (add-one j, take-suc l j [] h) (tests-more (take j l) (get_or l j []))

-- the place of the test j
pub record TestPlace (s : List ℕ) (place : ℕ) (l : List (List ℕ)) (j at : ℕ) : Type 0 where
  pub is : at ≡ place + length (test_bytes (take j l))
  pub bytes : drop at s ≡ test_bytes (drop j l) ++ 6 ∷ []

pub place-start : (s : List ℕ) (place : ℕ) (l : List (List ℕ)) → drop place s ≡ test_bytes l ++ 6 ∷ [] → TestPlace s place l 0 place
unfolding test_bytes
place-start s place l e = record { is = omega arith; bytes = e }

-- a byte stands there, as END comes last
pub place-room : (s : List ℕ) (place : ℕ) (l : List (List ℕ)) (j at : ℕ) → TestPlace s place l j at → at < length s
place-room s place l j at p =
    let k : length s - at ≡ length (test_bytes (drop j l)) + 1 = sym (length-drop at s) ∙ (ap length p.bytes ∙ length-append (test_bytes (drop j l)) (6 ∷ [])) in
    omega arith

module _ (s : List ℕ) (place : ℕ) (l : List (List ℕ)) (j at : ℕ) (h : j < length l) (p : TestPlace s place l j at) where
  pub here : drop at s ≡ 4 ∷ (press_bytes (get_or l j []) ++ (test_bytes (drop (j + 1) l) ++ 6 ∷ []))
  here = p.bytes ∙ split-test l j h

  pub place_found : (r : Span) → TestAt s at r → r ≡ span_from place l j
  place_found r t =
      t.found (get_or l j []) (test_bytes (drop (j + 1) l) ++ 6 ∷ []) here (tests-else 5 (drop (j + 1) l) refl refl) (tests-else 7 (drop (j + 1) l) refl refl)
      ∙ ap (λ (n : ℕ). record { start = n + 1; length = 2 * length (get_or l j []) }) p.is

  pub place-next : (r : Span) → TestAt s at r → TestPlace s place l (j + 1) (r.start + r.length)
  place-next r t =
      let e = t.found (get_or l j []) (test_bytes (drop (j + 1) l) ++ 6 ∷ []) here (tests-else 5 (drop (j + 1) l) refl refl) (tests-else 7 (drop (j + 1) l) refl refl) in
      let a : r.start + r.length ≡ at + (1 + 2 * length (get_or l j [])) = ap (λ (r : Span). r.start + r.length) e ∙ omega arith in
      record {
        is = omega (arith, a, p.is, tests-suc l j h);
        bytes = rw a (sym (drop-drop (1 + 2 * length (get_or l j [])) at s) ∙ ap (drop (1 + 2 * length (get_or l j []))) here
            ∙ drop_at (4 ∷ press_bytes (get_or l j [])) (test_bytes (drop (j + 1) l) ++ 6 ∷ []) (1 + 2 * length (get_or l j [])) (omega (arith, presses-length (get_or l j []))));
      }

-- how long the parts are
pub row-length : (b : ℕ) (l : List Row) → length (row_bytes b l) ≡ 5 * length l
unfolding row_bytes
row-length b [] = refl
row-length b (r ∷ l) = let w = row-length b l in omega arith

pub size-length : (z : Size) → length (size_bytes z) ≡ 4
unfolding size_bytes
size-length z = refl

-- where the RULEs start, and the parts after them
module _ (sh : Sheet) where
  abbrev pub rules_at : ℕ
  rules_at = 4 + length (quiet_bytes sh.quiet)

  rules-from : drop rules_at (encode sh) ≡ rules_on sh
  rules-from =
      rw (encode-parts sh, ← append_assoc (size_bytes sh.size) (quiet_bytes sh.quiet) (rules_on sh))
      (drop_at (size_bytes sh.size ++ quiet_bytes sh.quiet) (rules_on sh) rules_at (simp length-append (omega (arith, size-length sh.size))))

  pub faults-from : drop (rules_at + 5 * length sh.rules) (encode sh) ≡ faults_on sh
  faults-from =
      sym (drop-drop (5 * length sh.rules) rules_at (encode sh)) ∙ ap (drop (5 * length sh.rules)) rules-from
      ∙ drop_at (row_bytes 2 sh.rules) (faults_on sh) (5 * length sh.rules) (row-length 2 sh.rules)

  pub starts_from : drop (rules_at + 5 * length sh.rules + 5 * length sh.faults) (encode sh) ≡ starts_on sh
  starts_from =
      sym (drop-drop (5 * length sh.faults) (rules_at + 5 * length sh.rules) (encode sh)) ∙ ap (drop (5 * length sh.faults)) faults-from
      ∙ drop_at (row_bytes 3 sh.faults) (starts_on sh) (5 * length sh.faults) (row-length 3 sh.faults)

  pub tests-from : drop (rules_at + 5 * length sh.rules + 5 * length sh.faults + 2 * length sh.starts) (encode sh) ≡ tests_on sh
  tests-from =
      sym (drop-drop (2 * length sh.starts) (rules_at + 5 * length sh.rules + 5 * length sh.faults) (encode sh))
      ∙ ap (drop (2 * length sh.starts)) starts_from
      ∙ drop_at (start_bytes sh.starts) (tests_on sh) (2 * length sh.starts) (operands-length 7 sh.starts)

  pub machine-length : length (machine_bytes sh) ≡ rules_at + 5 * length sh.rules + 5 * length sh.faults + 2 * length sh.starts
  unfolding machine_bytes
  machine-length =
      simp length-append (omega (arith, size-length sh.size, row-length 2 sh.rules, row-length 3 sh.faults, operands-length 7 sh.starts))

  -- what stands after SIZE tells whether the sheet is quiet
  after-size : drop 4 (encode sh) ≡ quiet_bytes sh.quiet ++ rules_on sh
  after-size = ap (drop 4) (encode-parts sh) ∙ drop_at (size_bytes sh.size) (quiet_bytes sh.quiet ++ rules_on sh) 4 (size-length sh.size)

pub quiet-found : (sh : Sheet) (s : List ℕ) → encode sh ≡ s → (found : Maybe Code) → found ≡ command_at s 4 → (q : Bool) → (q ≡ true → found ≡ Some code.Quiet) → (q ≡ false → found ≡ Some code.Quiet → ⊥) → q ≡ sh.quiet
unfolding quiet_bytes
quiet-found sh s e found f q there not_there = one sh.quiet (rw e at (after-size sh)) q there not_there
  where
    one : (r : Bool) → drop 4 s ≡ quiet_bytes r ++ rules_on sh → (q : Bool) → (q ≡ true → found ≡ Some code.Quiet) → (q ≡ false → found ≡ Some code.Quiet → ⊥) → q ≡ r
    one true d true u v = refl
    one true d false u v = absurd (v refl (f ∙ command-there s 4 8 (rules_on sh) d (omega arith)))
    one false d true u v = absurd (rules-else sh (sym (byte_at s 4 (rules_on sh) d) ∙ (command-is s 4 code.Quiet (sym (u refl) ∙ f)).0))
    one false d false u v = refl

-- the commands with one operand, and the rows, by their index
pub operands-at : (s : List ℕ) (b place i : ℕ) (l rest : List ℕ) → drop place s ≡ operand_bytes b l ++ rest → i ≤ length l → drop (place + 2 * i) s ≡ operand_bytes b (drop i l) ++ rest
unfolding operand_bytes
operands-at s b place zero l rest e h = rw (add-zero place) e
operands-at s b place (suc i) [] rest e h = absurd (omega arith)
operands-at s b place (suc i) (x ∷ l) rest e h =
    let k : place + 2 * suc i ≡ place + 2 + 2 * i = omega arith in
    rw k (operands-at s b (place + 2) i l rest (sym (drop-drop 2 place s) ∙ ap (λ (t : List ℕ). drop 2 t) e) (omega arith))

pub rows-at : (s : List ℕ) (b place i : ℕ) (l : List Row) (rest : List ℕ) → drop place s ≡ row_bytes b l ++ rest → i ≤ length l → drop (place + 5 * i) s ≡ row_bytes b (drop i l) ++ rest
unfolding row_bytes
rows-at s b place zero l rest e h = rw (add-zero place) e
rows-at s b place (suc i) [] rest e h = absurd (omega arith)
rows-at s b place (suc i) (r ∷ l) rest e h =
    let k : place + 5 * suc i ≡ place + 5 + 5 * i = omega arith in
    rw k (rows-at s b (place + 5) i l rest (sym (drop-drop 5 place s) ∙ ap (λ (t : List ℕ). drop 5 t) e) (omega arith))
