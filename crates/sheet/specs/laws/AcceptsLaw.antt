-- Every well-formed sheet of at most 16,384 bytes is accepted.
use Rattle.std.specs.Prelude.{◌≡◌, Bool, length, get_or, drop}
use Rattle.std.proofs.Math.Path.{refl, subst}
use Rattle.std.proofs.Common.{ap, sym, ◌∙◌, add-zero, arith, length-append, length-drop, get_or-drop, drop-drop}
use Rattle.std.proofs.Math.Bool.{true, false}
use Rattle.std.proofs.Math.Option.{Option, none, some}
use mathlib.Core.List.{List, [], ◌∷◌, ◌++◌, append_assoc, append-nil}
use Prim.Native.Nat.{ℕ, ◌+◌, ◌<◌, ◌≤◌}
use Rattle.std.proofs.Math.Seq.{append_snoc}
use Rattle.sheet.specs.declared.Row.{Row}
use Rattle.sheet.specs.declared.Size.{Size}
use Rattle.lists.specs.Lists.{maybe, Before}
use Rattle.sheet.specs.Sheet.{Sheet, pair_of, row_of, rule_at, after}
use Rattle.sheet.specs.Reading.{Command, Progress, accepted, size, quiet, rule, fault, start, test, press, unsized, sized, quieted, ruled, faulted, started, testing, width, row_at, size_at, last_test, add_press, refusal, advance, blank, reading}
use Rattle.sheet.specs.Encode.{size_bytes, quiet_bytes, row_bytes, operand_bytes, start_bytes, press_bytes, test_bytes, encode}
use Rattle.sheet.specs.WellFormed.{SizeIn, RowIn, Mutates, StartIn, TestIn, WellFormed}
use Rattle.lists.specs.laws.TestLaw.{never}
use Rattle.lists.specs.laws.AllLaw.{all-at}
use Rattle.sheet.specs.laws.ReadingLaw.{Stands, next, Moves, by_size, by-quiet, by-rule, by-fault, by-start, by-test, by-press, refusal-quiet, refusal-end}
use Rattle.sheet.specs.laws.InjectiveLaw.{tests_on, starts_on, faults_on, encode-parts}
use Rattle.sheet.specs.laws.RowLaw.{last_snoc, ascending-last}
use Rattle.sheet.specs.laws.ReachedLaw.{each-reached}
use Rattle.sheet.specs.laws.CommandLaw.{Follows, FaultRight, StartRight, right-size, right-rule, right-fault, right-start, right-test, right-press}
use Rattle.sheet.specs.laws.ProgressLaw.{Going, going_start, going_on, going_end, finishes}

-- the bytes from a place on are l
record Left (s : List ℕ) (at : ℕ) (l : List ℕ) : Type 0 where
  bytes : drop at s ≡ l

module _ {s : List ℕ} {at : ℕ} {l : List ℕ} (left : Left s at l) where
  byte_at : (i : ℕ) → get_or s (at + i) 0 ≡ get_or l i 0
  byte_at i = sym (get_or-drop at s i 0) ∙ ap (λ (b : List ℕ). get_or b i 0) left.bytes

  first_byte : get_or s at 0 ≡ get_or l 0 0
  first_byte = rw (add-zero at) at (byte_at 0)

  left_after : (n : ℕ) → Left s (at + n) (drop n l)
  left_after n = record { bytes = sym (drop-drop n at s) ∙ ap (λ (b : List ℕ). drop n b) left.bytes }

  left-length : length l ≡ length (drop at s)
  left-length = ap length (sym left.bytes)

  room_for : (n : ℕ) → 1 ≤ n → n ≤ length l → at + n ≤ length s
  room_for n k h = omega (arith, length-drop at s, left-length)

row_is : {s : List ℕ} {at b : ℕ} {r : Row} {rest : List ℕ} → Left s at (b ∷ r.source ∷ r.input ∷ r.output ∷ r.target ∷ rest) → row_at s at ≡ r
row_is left = rw (byte_at left 1, byte_at left 2, byte_at left 3, byte_at left 4)

size_is : {s : List ℕ} {at b : ℕ} {z : Size} {rest : List ℕ} → Left s at (b ∷ z.states ∷ z.inputs ∷ z.outputs ∷ rest) → size_at s at ≡ z
size_is left = rw (byte_at left 1, byte_at left 2, byte_at left 3)

-- a reading that has come to a sheet, in one of some phases, with the bytes l left
record Read (s : List ℕ) (earliest latest : ℕ) (sh : Sheet) (l : List ℕ) : Type 0 where
  phase : ℕ
  at : ℕ
  early : earliest ≤ phase
  late : phase ≤ latest
  going : Going s (record { phase = phase; sheet = sh }) at
  left : Left s at l

abbrev part : Size → Bool → List Row → List Row → List ℕ → List (List ℕ) → Sheet
part z q rules faults starts tests = record { size = z; quiet = q; rules = rules; faults = faults; starts = starts; tests = tests }

-- other phases may come
widen : {s : List ℕ} {sh : Sheet} {l : List ℕ} {a b : ℕ} (c d : ℕ) → Read s a b sh l → c ≤ a → b ≤ d → Read s c d sh l
widen c d r h k = record { phase = r.phase; at = r.at; early = omega (arith, r.early); late = omega (arith, r.late); going = r.going; left = r.left }

-- one command is read: its operands give what is wanted, and it breaks no rule
module _ {s : List ℕ} {sh : Sheet} {earliest latest b : ℕ} {l : List ℕ} (h : Read s earliest latest sh (b ∷ l)) where
  abbrev here : Progress
  here = record { phase = h.phase; sheet = sh }

  read_one : {A : Type 0} {e : ℕ} (c : A → Command) (got want : A) (phase : ℕ) → e ≤ phase → 1 ≤ width b → width b ≤ length (b ∷ l)
      → got ≡ want → refusal sh (c want) ≡ 0 → (Stands here s h.at b earliest latest (c got) → Moves here s h.at (next here phase (c got)) (h.at + width b))
      → Read s e phase (advance sh (c want)) (drop (width b) (b ∷ l))
  read_one {A} c got want phase early wide room same right moves =
      record {
        phase = phase;
        at = h.at + width b;
        early = early;
        late = omega arith;
        left = left_after h.left (width b);
        going = subst (λ (x : A). Going s (next here phase (c x)) (h.at + width b)) same
            (going_on h.going (moves (record {
              byte = first_byte h.left;
              early = h.early;
              late = h.late;
              room = room_for h.left (width b) wide room;
              right = rw same right;
            })));
      }

module _ {s : List ℕ} {sh : Sheet} {l : List ℕ} where
  read-rule : (r : Row) → Follows pair_of sh.size sh.rules r → Read s sized ruled sh (2 ∷ r.source ∷ r.input ∷ r.output ∷ r.target ∷ l) → Read s sized ruled (advance sh (rule r)) l
  read-rule r f h = read_one h rule (row_at s h.at) r ruled (omega arith) (omega arith) (omega arith) (row_is {r = r} h.left) (right-rule sh r f) by-rule

  read-fault : (r : Row) → FaultRight sh r → Read s sized faulted sh (3 ∷ r.source ∷ r.input ∷ r.output ∷ r.target ∷ l) → Read s sized faulted (advance sh (fault r)) l
  read-fault r f h = read_one h fault (row_at s h.at) r faulted (omega arith) (omega arith) (omega arith) (row_is {r = r} h.left) (right-fault sh r f) by-fault

  read-start : (t : ℕ) → StartRight sh t → Read s sized started sh (7 ∷ t ∷ l) → Read s sized started (advance sh (start t)) l
  read-start t f h = read_one h start (get_or s (h.at + 1) 0) t started (omega arith) (omega arith) (omega arith) (byte_at h.left 1) (right-start sh t f) by-start

  read-test : length sh.tests < 256 → Read s sized testing sh (4 ∷ l) → Read s testing testing (advance sh test) l
  read-test f h = read_one h (λ (u : ℕ). test) 0 0 testing (omega arith) (omega arith) (omega arith) refl (right-test sh f) by-test

  read-press : (x : ℕ) → refusal sh (press x) ≡ 0 → Read s testing testing sh (5 ∷ x ∷ l) → Read s testing testing (advance sh (press x)) l
  read-press x f h = read_one h press (get_or s (h.at + 1) 0) x testing (omega arith) (omega arith) (omega arith) (byte_at h.left 1) f by-press

module _ {s l : List ℕ} where
  read-quiet : (z : Size) (q : Bool) → Read s sized sized (part z false [] [] [] []) (quiet_bytes q ++ l) → Read s sized ruled (part z q [] [] [] []) l
  unfolding quiet_bytes advance
  read-quiet z false h = widen sized ruled h (omega arith) (omega arith)
  read-quiet z true h =
      widen sized ruled
      (read_one h {e = sized} (λ (u : ℕ). quiet) 0 0 quieted (omega arith) (omega arith) (omega arith) refl (refusal-quiet (part z false [] [] [] [])) by-quiet)
      (omega arith) (omega arith)

  read-size : (z : Size) → SizeIn z → length s ≤ 16384 → s ≡ size_bytes z ++ l → Read s sized sized (part z false [] [] [] []) l
  unfolding size_bytes advance blank
  read-size z k few e =
      let begin : Read s unsized unsized blank.sheet (size_bytes z ++ l) =
      record { phase = unsized; at = 0; early = omega arith; late = omega arith; going = going_start s few; left = record { bytes = e } } in
      read_one begin size (size_at s 0) z sized (omega arith) (omega arith) (omega arith) (size_is {z = z} begin.left) (right-size blank.sheet z k) by_size

short-of : {A : Type 0} (l : List A) (a : A) (rest : List A) (n : ℕ) → length (l ++ a ∷ rest) ≤ n → length l < n
short-of l a rest n h = let k = simp length-append at h in omega arith

after_front : (rules : List Row) (s t : ℕ) (xs ys : List ℕ) → after rules s (xs ++ ys) ≡ some t → (u : ℕ) × (after rules s xs ≡ some u)
unfolding after
after_front rules s t [] ys e = (s, refl)
after_front rules s t (x ∷ xs) ys e = one (rule_at rules s x) e (λ u. after_front rules u t xs ys)
  where
    one : (o : Option Row) → maybe o none (λ r. after rules r.target (xs ++ ys)) ≡ some t
        → ((u : ℕ) → after rules u (xs ++ ys) ≡ some t → (v : ℕ) × (after rules u xs ≡ some v)) → (v : ℕ) × (maybe o none (λ r. after rules r.target xs) ≡ some v)
    one none q ih = never (cc)
    one (some r) q ih = ih r.target q

-- the front of a test is one too
test-front : (rules : List Row) (xs ys : List ℕ) → TestIn rules (xs ++ ys) → TestIn rules xs
test-front rules xs ys h =
    let a = after_front rules 0 h.reached xs ys h.defined in
    let k = simp length-append at h.short in
    record { reached = a.0; defined = a.1; short = omega arith }

last-test : (l : List (List ℕ)) (xs : List ℕ) → last_test (l ++ xs ∷ []) ≡ xs
unfolding last_test
last-test l xs = rw (last_snoc l xs)

press-last : (l : List (List ℕ)) (xs : List ℕ) (x : ℕ) → add_press (l ++ xs ∷ []) x ≡ l ++ (xs ++ x ∷ []) ∷ []
unfolding add_press
press-last [] xs x = refl
press-last (y ∷ []) xs x = refl
press-last (y ∷ z ∷ l) xs x = rw (press-last (z ∷ l) xs x)

module _ (sh : Sheet) (w : WellFormed sh) (s : List ℕ) where
  read-rules : (done rest : List Row) (l : List ℕ) → done ++ rest ≡ sh.rules
      → Read s sized ruled (part sh.size sh.quiet done [] [] []) (row_bytes 2 rest ++ l) → Read s sized ruled (part sh.size sh.quiet sh.rules [] [] []) l
  unfolding row_bytes advance
  read-rules done [] l e h = rw (← e, append-nil done) h
  read-rules done (r ∷ rest) l e h =
      read-rules (done ++ r ∷ []) rest l (append_snoc done r rest ∙ e)
      (read-rule r (record {
        inside = all-at (RowIn sh.size) done r rest (rw e w.rules);
        later = ascending-last (λ q r. Before (pair_of q) (pair_of r)) done r rest (rw e w.rules-ascend);
      }) h)

  read-faults : (done rest : List Row) (l : List ℕ) → done ++ rest ≡ sh.faults
      → Read s sized faulted (part sh.size sh.quiet sh.rules done [] []) (row_bytes 3 rest ++ l) → Read s sized faulted (part sh.size sh.quiet sh.rules sh.faults [] []) l
  unfolding row_bytes advance
  read-faults done [] l e h = rw (← e, append-nil done) h
  read-faults done (r ∷ rest) l e h =
      read-faults (done ++ r ∷ []) rest l (append_snoc done r rest ∙ e)
      (read-fault r (record {
        follows = record {
          inside = all-at (RowIn sh.size) done r rest (rw e w.faults);
          later = ascending-last (λ q r. Before (row_of q) (row_of r)) done r rest (rw e w.faults-ascend);
        };
        mutating = all-at (Mutates sh.rules) done r rest (rw e w.faults-mutate);
        few = short-of done r rest 256 (rw e w.few-faults);
      }) h)

  read-starts : (done rest l : List ℕ) → done ++ rest ≡ sh.starts
      → Read s sized started (part sh.size sh.quiet sh.rules sh.faults done []) (start_bytes rest ++ l) → Read s sized started (part sh.size sh.quiet sh.rules sh.faults sh.starts []) l
  unfolding operand_bytes advance
  read-starts done [] l e h = rw (← e, append-nil done) h
  read-starts done (t ∷ rest) l e h =
      read-starts (done ++ t ∷ []) rest l (append_snoc done t rest ∙ e)
      (read-start t (record {
        inside = all-at (StartIn sh.size) done t rest (rw e w.starts);
        later = ascending-last ◌<◌ done t rest (rw e w.starts-ascend);
      }) h)

  -- the sheet with these tests
  abbrev upto : List (List ℕ) → Sheet
  upto tests = part sh.size sh.quiet sh.rules sh.faults sh.starts tests

  read-presses : (before : List (List ℕ)) (done rest : List ℕ) (l : List ℕ) → TestIn sh.rules (done ++ rest)
      → Read s testing testing (upto (before ++ done ∷ [])) (press_bytes rest ++ l) → Read s testing testing (upto (before ++ (done ++ rest) ∷ [])) l
  unfolding operand_bytes advance
  read-presses before done [] l t h = rw (append-nil done) h
  read-presses before done (x ∷ rest) l t h =
      let t' : TestIn sh.rules ((done ++ x ∷ []) ++ rest) = rw append_snoc t in
      let right : refusal (upto (before ++ done ∷ [])) (press x) ≡ 0 =
      right-press (upto (before ++ done ∷ [])) x w.rules (rw (last-test before done) (test-front sh.rules (done ++ x ∷ []) rest t')) in
      subst (λ (xs : List ℕ). Read s testing testing (upto (before ++ xs ∷ [])) l) (append_snoc done x rest)
      (read-presses before (done ++ x ∷ []) rest l t'
      (subst (λ (tests : List (List ℕ)). Read s testing testing (upto tests) (press_bytes rest ++ l)) (press-last before done x) (read-press x right h)))

  read-tests : (done rest : List (List ℕ)) (l : List ℕ) → done ++ rest ≡ sh.tests → Read s sized testing (upto done) (test_bytes rest ++ l) → Read s sized testing sh l
  unfolding test_bytes advance
  read-tests done [] l e h = subst (λ (tests : List (List ℕ)). Read s sized testing (upto tests) l) (sym (append-nil done) ∙ e) h
  read-tests done (xs ∷ rest) l e h =
      let begun : Read s testing testing (upto (done ++ [] ∷ [])) (press_bytes xs ++ (test_bytes rest ++ l)) =
      read-test (short-of done xs rest 256 (rw e w.few-tests)) (rw append_assoc at h) in
      read-tests (done ++ xs ∷ []) rest l (append_snoc done xs rest ∙ e)
      (widen sized testing (read-presses done [] xs (test_bytes rest ++ l) (all-at (TestIn sh.rules) done xs rest (rw e w.tests)) begun) (omega arith) (omega arith))

  read-end : Read s sized testing sh (6 ∷ []) → reading s ≡ accepted sh
  read-end h =
      going_end h.going (record { byte = first_byte h.left; early = h.early; late = h.late; room = room_for h.left 1 (omega arith) (omega arith); right = refusal-end sh })
      ∙ finishes sh s h.at (omega (arith, length-drop h.at s, left-length h.left)) (each-reached sh (omega (arith, w.size.states.some)) w.rules w.reached) w.few-open

-- a well-formed sheet of at most 16,384 bytes is accepted, from its encoding
pub accepts : (sh : Sheet) → WellFormed sh → length (encode sh) ≤ 16384 → reading (encode sh) ≡ accepted sh
accepts sh w k =
    let s = encode sh in
    let z = read-size sh.size w.size k (encode-parts sh) in
    let q = read-quiet sh.size sh.quiet z in
    let r = read-rules sh w s [] sh.rules (faults_on sh) refl q in
    let f = read-faults sh w s [] sh.faults (starts_on sh) refl (widen sized faulted r (omega arith) (omega arith)) in
    let u = read-starts sh w s [] sh.starts (tests_on sh) refl (widen sized started f (omega arith) (omega arith)) in
    read-end sh w s (read-tests sh w s [] sh.tests (6 ∷ []) refl (widen sized testing u (omega arith) (omega arith)))
