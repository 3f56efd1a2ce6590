-- From the parts of two sheets to the merged one.
use Rattle.std.specs.Prelude.{Result as Answer}
use Rattle.std.specs.Prelude.{Ok, Err, ◌+◌, ◌*◌, ◌/◌, ◌≤◌, ◌<◌, ◌≡◌, ◌∷◌, ◌++◌}
use Rattle.lists.specs.Proving.{arith, ℕ, zero, suc, refl, sym, ◌∙◌, ap, ap₂, subst, Bool, true, false, cond, List, [], length, take, eqb, ltb, lt-ltb, le-ltb, length-append}
use mathlib.Core.Bool.{◌||◌, not}
use Rattle.std.specs.Cmp.Lexicographic.{pointwise}
use Rattle.merging.proofs.CompareLaw.{equal_is}
use mathlib.Core.List.{map, append_assoc}
use lib.Seq.{take_at}
use borrow.Author.Tests.{ltb-false}
use Rattle.lists.specs.Lists.{overlay}
use Rattle.lists.specs.laws.TestLaw.{not-true-false, clash, never}
use Rattle.sheet.specs.Sheet.{Sheet, row_of, open_pairs, open_slots}
use Rattle.sheet.specs.declared.Refusal.{Refusal}
use Rattle.sheet.specs.Tables.{refusal_of, answer_by}
use Rattle.sheet.specs.Encode.{row_bytes, operand_bytes, start_bytes, press_bytes, test_bytes, encode}
use Rattle.sheet.specs.Reading.{Result, accepted, refused}
use Rattle.sheet.specs.laws.PartLaw.{operands-length}
use Rattle.sheet.specs.laws.WakingLaw.{no-choice, a-choice}
use Rattle.model.specs.Operations.{refuse_if}
use Rattle.writing.specs.words.Spelled.{Spelled}
use Rattle.writing.proofs.laws.SpelledLaw.{spelled-front}
use Rattle.renaming.specs.Ordering.{union, only}
use Rattle.renaming.specs.Merging.{merged, bare, equal, limited, merge_on, SameMachine}
use Rattle.renaming.proofs.laws.MergedLaw.{equal-same, same-equal, same-machine}
use Rattle.merging.specs.declared.join.Parts.{Parts}
use Rattle.merging.specs.words.Uniting.{flat, united}
use Rattle.merging.specs.words.Outlined.{head_bytes, limit_by, limit_answer, parts_length, Pieces, Joins}
use Rattle.merging.proofs.PartsLaw.{rows-length, in_parts, fault, wakes, faults-united, starts-united}

-- ---- an answer
joins-refused : {x : Result Sheet} {old : List ℕ} {why : Refusal} {w : Answer ℕ Refusal} → w ≡ Err why → x ≡ refused why.number why.place → Joins x w old old
joins-refused k e = record { answer = k ∙ sym (ap (answer_by (λ m. length (encode m))) e); bytes = rw e refl }

-- ---- the limits
over : (full slots long : Bool) (m : Sheet) (why : Refusal) → Err why ≡ limit_by full slots long →
    refuse_if full 8 0 (refuse_if slots 12 0 (refuse_if long 1 0 (accepted m))) ≡ refused why.number why.place
over true slots long m why e = let z : refusal_of 8 0 ≡ why = cc in ap (λ (r : Refusal). refused r.number r.place) z
over false true long m why e = let z : refusal_of 12 0 ≡ why = cc in ap (λ (r : Refusal). refused r.number r.place) z
over false false true m why e = let z : refusal_of 1 0 ≡ why = cc in ap (λ (r : Refusal). refused r.number r.place) z
over false false false m why e = never (cc)

within : (full slots long : Bool) (m : Sheet) → Ok (tt {0}) ≡ limit_by full slots long →
    (refuse_if full 8 0 (refuse_if slots 12 0 (refuse_if long 1 0 (accepted m))) ≡ accepted m) × (long ≡ false)
within true slots long m e = never (cc)
within false true long m e = never (cc)
within false false true m e = never (cc)
within false false false m e = (refl, refl)

pub limit-room : (faults tests slots long : ℕ) → Ok (tt {0}) ≡ limit_answer faults tests slots long → long ≤ 16384
limit-room faults tests slots long e = ltb-false 16384 long (within-long (ltb 256 faults || ltb 256 tests) (ltb 32 slots) (ltb 16384 long) e)
  where
    within-long : (full few big : Bool) → Ok (tt {0}) ≡ limit_by full few big → big ≡ false
    within-long true few big f = never (cc)
    within-long false true big f = never (cc)
    within-long false false true f = never (cc)
    within-long false false false f = refl

-- how many choices make up a mutant
module _ (m : Sheet) (pairs starts : ℕ) (e : pairs ≡ open_pairs m) (f : starts ≡ 2 * length m.starts) where
  pub slots-plain : starts ≡ 0 → pairs ≡ open_slots m
  unfolding open_slots
  slots-plain z = omega (arith, e, no-choice m (none m.starts (omega (arith, f, z))))
    where
      none : (l : List ℕ) → length l ≡ 0 → l ≡ []
      none [] h = refl
      none (t ∷ l) h = absurd (omega arith)

  pub slots-waking : (starts ≡ 0 → ⊥) → pairs + 1 ≡ open_slots m
  unfolding open_slots
  slots-waking h = omega (arith, e, a-choice m (some (length m.starts) f))
    where
      some : (n : ℕ) → starts ≡ 2 * n → 1 ≤ n
      some zero k = absurd (h (omega (arith, k)))
      some (suc n) k = omega arith

-- ---- the sheet of its parts
module _ {m : Sheet} {p : Parts} {count pairs : ℕ} (q : Pieces m p count pairs) {slots : ℕ} (es : slots ≡ open_slots m) {r : Answer (Unit {0}) Refusal}
    (ew : r ≡ limit_answer (length p.faults.now / 5) count slots (parts_length p)) where
  long-is : parts_length p ≡ length (encode m)
  long-is =
      let H = p.head.now in
      let F = p.faults.now in
      let S = p.starts.now in
      let T = p.tests.now in
      let M = p.more.now in
      omega (
        arith,
        ap length q.bytes,
        length-append H (F ++ (S ++ (T ++ (M ++ 6 ∷ [])))),
        length-append F (S ++ (T ++ (M ++ 6 ∷ []))),
        length-append S (T ++ (M ++ 6 ∷ [])),
        length-append T (M ++ 6 ∷ []),
        length-append M (6 ∷ []),
      )

  faults-are : length p.faults.now / 5 ≡ length m.faults
  faults-are = omega (arith, q.many-faults)

  limit_is : r ≡ limit_answer (length m.faults) (length m.tests) (open_slots m) (length (encode m))
  limit_is = ew ∙ rw (faults-are, q.many-tests, es, long-is) refl

  pub close-refused : {old : List ℕ} {why : Refusal} {w : Answer ℕ Refusal} → r ≡ Err why → w ≡ Err why → Joins (limited m) w old old
  unfolding limited
  close-refused {why = why} h k =
      joins-refused k (over (ltb 256 (length m.faults) || ltb 256 (length m.tests)) (ltb 32 (open_slots m)) (ltb 16384 (length (encode m))) m why (sym h ∙ limit_is))

  limited-is : r ≡ Ok (tt {0}) → limited m ≡ accepted m
  unfolding limited
  limited-is h = (within (ltb 256 (length m.faults) || ltb 256 (length m.tests)) (ltb 32 (open_slots m)) (ltb 16384 (length (encode m))) m (sym h ∙ limit_is)).0

  pub close-done : {old new : List ℕ} {n : ℕ} → r ≡ Ok (tt {0}) → Spelled old new 0 n (p.head.now ++ (p.faults.now ++ (p.starts.now ++ (p.tests.now ++ (p.more.now ++ 6 ∷ []))))) → Joins (limited m) (Ok n) old new
  close-done {old} {new} {n} h sp =
      let long : n ≡ length (encode m) = omega (arith, sp.many, ap length q.bytes) in
      record {
        answer = rw (limited-is h, long) refl;
        bytes = rw (limited-is h) (spelled-front sp ∙ ap (λ (l : List ℕ). overlay l old) (sym q.bytes));
      }

-- ---- the two sheets
snoc-same : (xs ys : List ℕ) (z : ℕ) → xs ++ z ∷ [] ≡ ys ++ z ∷ [] → xs ≡ ys
snoc-same xs ys z e =
    let long : length ys ≡ length xs = omega (arith, ap length e, length-append xs (z ∷ []), length-append ys (z ∷ [])) in
    sym (take_at xs (z ∷ []) (length xs) refl) ∙ ap (take (length xs)) e ∙ take_at ys (z ∷ []) (length xs) long

bare-bytes : (sh : Sheet) → encode (bare sh) ≡ head_bytes sh ++ 6 ∷ []
unfolding row_bytes operand_bytes test_bytes
bare-bytes sh = in_parts (bare sh)

tests-both : (l m : List (List ℕ)) → test_bytes (l ++ m) ≡ test_bytes l ++ test_bytes m
unfolding test_bytes
tests-both [] m = refl
tests-both (xs ∷ l) m = rw (tests-both l m) (ap (λ (t : List ℕ). 4 ∷ t) (sym (append_assoc (press_bytes xs) (test_bytes l) (test_bytes m))))

pub join-short : (x y : Sheet) {old : List ℕ} {why : Refusal} → why ≡ refusal_of 16 0 → length old < 16384 → Joins (merge_on x y (length old)) (Err why) old old
unfolding merge_on
join-short x y {old} h l = joins-refused (ap Err h) (rw (lt-ltb (length old) 16384 l) refl)

-- whether the heads of two sheets are the same
module _ (x y : Sheet) where
  same_bytes : true ≡ equal (head_bytes x) (head_bytes y) → encode (bare x) ≡ encode (bare y)
  same_bytes e = bare-bytes x ∙ ap (λ (l : List ℕ). l ++ 6 ∷ []) (equal-same (head_bytes x) (head_bytes y) (sym e)) ∙ sym (bare-bytes y)

  pub join-same : true ≡ equal (head_bytes x) (head_bytes y) → SameMachine x y
  join-same e = same-machine x y (same_bytes e)

  other-bytes : false ≡ equal (head_bytes x) (head_bytes y) → equal (encode (bare x)) (encode (bare y)) ≡ false
  other-bytes e =
      not-true-false (equal (encode (bare x)) (encode (bare y)))
      (λ h.
      let k = snoc-same (head_bytes x) (head_bytes y) 6 (sym (bare-bytes x) ∙ equal-same (encode (bare x)) (encode (bare y)) h ∙ bare-bytes y) in
      clash (equal (head_bytes x) (head_bytes y)) (ap (λ (l : List ℕ). equal l (head_bytes y)) k ∙ same-equal (head_bytes y)) (sym e))

  module _ {s t : List ℕ} {r : Bool} (e : r ≡ not (pointwise eqb s t)) (es : s ≡ head_bytes x) (et : t ≡ head_bytes y) where
    pub other-heads : r ≡ true → false ≡ equal (head_bytes x) (head_bytes y)
    other-heads h = go (pointwise eqb s t) (sym e ∙ h) ∙ equal_is s t ∙ ap₂ equal es et
      where
        go : (b : Bool) → not b ≡ true → false ≡ b
        go true k = never (cc)
        go false k = refl

    pub same-heads : r ≡ false → true ≡ equal (head_bytes x) (head_bytes y)
    same-heads h = go (pointwise eqb s t) (sym e ∙ h) ∙ equal_is s t ∙ ap₂ equal es et
      where
        go : (b : Bool) → not b ≡ false → true ≡ b
        go true k = refl
        go false k = never (cc)

  module _ (old : List ℕ) (room : 16384 ≤ length old) where
    pub join-other : {why : Refusal} → why ≡ refusal_of 21 0 → false ≡ equal (head_bytes x) (head_bytes y) → Joins (merge_on x y (length old)) (Err why) old old
    unfolding merge_on
    join-other {why} h e = joins-refused (ap Err h) (rw (le-ltb (length old) 16384 room, other-bytes e) refl)

    limited-only : true ≡ equal (head_bytes x) (head_bytes y) → merge_on x y (length old) ≡ limited (merged x y)
    unfolding merge_on
    limited-only e = rw (le-ltb (length old) 16384 room, same_bytes e, same-equal (encode (bare y))) refl

    pub join-within : true ≡ equal (head_bytes x) (head_bytes y) → {r : Answer ℕ Refusal} {new : List ℕ} → Joins (limited (merged x y)) r old new → Joins (merge_on x y (length old)) r old new
    join-within e {r} {new} j = subst (λ (z : Result Sheet). Joins z r old new) (sym (limited-only e)) j

-- the parts of the merged sheet
pub pieces : (x y : Sheet) {p : Parts} {fs fs₀ ss ss₀ : List ℕ} {f u count pairs : ℕ} → p.head.now ≡ head_bytes x → p.faults.now ≡ take f fs → p.starts.now ≡ take u ss →
    p.tests.now ≡ test_bytes x.tests → p.more.now ≡ test_bytes y.tests → Spelled fs₀ fs 0 f (flat (united (map fault x.faults) (map fault y.faults))) →
    Spelled ss₀ ss 0 u (flat (united (map wakes x.starts) (map wakes y.starts))) → count ≡ length x.tests + length y.tests → pairs ≡ open_pairs (merged x y) → Pieces (merged x y) p count pairs
pieces x y {p} {fs} {fs₀} {ss} {ss₀} {f} {u} {count} {pairs} eh ef es et em sf ss' ec ep =
    let F : p.faults.now ≡ row_bytes 3 (union row_of x.faults y.faults) = ef ∙ sf.front ∙ faults-united x.faults y.faults in
    let U : p.starts.now ≡ start_bytes (union only x.starts y.starts) = es ∙ ss'.front ∙ starts-united x.starts y.starts in
    record {
      bytes =
          in_parts (merged x y)
          ∙ ap (λ (l : List ℕ). head_bytes x ++ (row_bytes 3 (union row_of x.faults y.faults) ++ (start_bytes (union only x.starts y.starts) ++ l)))
          (ap (λ (l : List ℕ). l ++ 6 ∷ []) (tests-both x.tests y.tests) ∙ append_assoc (test_bytes x.tests) (test_bytes y.tests) (6 ∷ []))
          ∙ rw (eh, F, U, et, em) refl;
      many-faults = ap length F ∙ rows-length 3 (union row_of x.faults y.faults);
      many-starts = ap length U ∙ operands-length 7 (union only x.starts y.starts);
      many-tests = omega (arith, ec, length-append x.tests y.tests);
      open-are = ep;
    }

-- ---- no part is longer than a sheet
pub take-fewer : (n : ℕ) (l : List ℕ) → length (take n l) ≤ n
take-fewer zero l = omega arith
take-fewer (suc n) [] = omega arith
take-fewer (suc n) (x ∷ l) = omega (arith, take-fewer n l)
