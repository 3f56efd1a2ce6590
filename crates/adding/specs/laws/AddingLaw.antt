-- What a test added to a sheet comes to: the longer sheet is accepted, and each refusal is the one that 02 names.
use Rattle.std.specs.Prelude.{Result as Answer, Ok, Err}
use Rattle.std.specs.Prelude.{◌+◌, ◌<◌, ◌≤◌, ◌≡◌, ◌∷◌}
use Rattle.lists.specs.Proving.{arith, ℕ, suc, refl, sym, ◌∙◌, ap, Bool, true, false, Option, some, none, List, [], length, take, drop, ltb, lt-ltb, le-ltb, never}
use Rattle.std.proofs.Math.Dec.{leb}
use Rattle.std.proofs.Common.{take_at}
use borrow.Author.Tests.{leb-false, le-leb, lt-leb, ltb-false}
use Rattle.lists.specs.Lists.{maybe}
use Rattle.sheet.specs.declared.Row.{Row}
use Rattle.sheet.specs.Sheet.{Sheet, rule_at, after}
use Rattle.sheet.specs.Encode.{encode}
use Rattle.sheet.specs.Reading.{Result, accepted, refused, reading}
use Rattle.sheet.specs.WellFormed.{TestIn, WellFormed}
use Rattle.sheet.specs.laws.AcceptedLaw.{well-formed}
use Rattle.sheet.specs.laws.AcceptsLaw.{accepts}
use Rattle.sheet.specs.declared.Refusal.{Refusal}
use Rattle.sheet.specs.Tables.{refusal_of}
use Rattle.model.specs.Longer.{with_test}
use Rattle.model.specs.Operations.{refuse_if}
use Rattle.model.proofs.laws.StaysLaw.{rule-row}
use Rattle.model.proofs.laws.LongerLaw.{well-formed-longer}
use Rattle.adding.specs.Adding.{onward, one_press, pressing, add_on, Adds, RefusedBy, PressRefused, ToldAdded}

-- ---- the presses
module _ (sh : Sheet) where
  -- one more is pressed
  pub pressing-more : (i s x : ℕ) (xs : List ℕ) {t : ℕ} → one_press sh i s x ≡ accepted t → pressing sh i s (x ∷ xs) ≡ pressing sh (i + 1) t xs
  unfolding pressing
  pressing-more i s x xs e = rw e refl

  pub pressing-refused : (i s x : ℕ) (xs : List ℕ) {number place : ℕ} → one_press sh i s x ≡ refused number place → pressing sh i s (x ∷ xs) ≡ refused number place
  unfolding pressing
  pressing-refused i s x xs e = rw e refl

  -- what one press does
  record Steps (i s x t : ℕ) : Type 0 where
    row : Row
    there : rule_at sh.rules s x ≡ some row
    leads : row.target ≡ t
    few : i < 256

  one-steps : (i s x t : ℕ) → one_press sh i s x ≡ accepted t → Steps i s x t
  unfolding one_press
  one-steps i s x t = go (leb sh.size.inputs x) (leb 256 i) refl (rule_at sh.rules s x) refl
    where
      go : (over : Bool) (many : Bool) → leb 256 i ≡ many → (o : Option Row) → rule_at sh.rules s x ≡ o →
          refuse_if over 5 i (refuse_if many 8 i (maybe o (refused 9 i) (λ r. accepted r.target))) ≡ accepted t → Steps i s x t
      go true many em o eo e = never (cc)
      go false true em o eo e = never (cc)
      go false false em none eo e = never (cc)
      go false false em (some r) eo e = record { row = r; there = eo; leads = cc; few = leb-false 256 i em }

  one_place : (i s x number place : ℕ) → one_press sh i s x ≡ refused number place → place ≡ i
  unfolding one_press
  one_place i s x number place = go (leb sh.size.inputs x) (leb 256 i) (rule_at sh.rules s x)
    where
      go : (over many : Bool) (o : Option Row) → refuse_if over 5 i (refuse_if many 8 i (maybe o (refused 9 i) (λ r. accepted r.target))) ≡ refused number place → place ≡ i
      go true many o e = cc
      go false true o e = cc
      go false false none e = cc
      go false false (some r) e = never (cc)

  -- the presses are a test
  pub pressed-after : (i s : ℕ) (xs : List ℕ) {t : ℕ} → i ≤ 256 → pressing sh i s xs ≡ accepted t → (after sh.rules s xs ≡ some t) × (i + length xs ≤ 256)
  unfolding pressing after
  pressed-after i s [] l e = (cc, omega arith)
  pressed-after i s (x ∷ xs) {t} l e = go (one_press sh i s x) refl e (λ u k. pressed-after (i + 1) u xs k)
    where
      go : (o : Result ℕ) → one_press sh i s x ≡ o → onward o (λ u. pressing sh (i + 1) u xs) ≡ accepted t →
          ((u : ℕ) → i + 1 ≤ 256 → pressing sh (i + 1) u xs ≡ accepted t → (after sh.rules u xs ≡ some t) × (i + 1 + length xs ≤ 256)) →
          (maybe (rule_at sh.rules s x) none (λ r. after sh.rules r.target xs) ≡ some t) × (i + suc (length xs) ≤ 256)
      go (accepted u) eo h ih =
          let w = one-steps i s x u eo in
          let r = ih u (omega (arith, w.few)) h in
          (rw (w.there, w.leads) r.0, omega (arith, r.1))
      go (refused number place) eo h ih = never (cc)

  -- a refusal is one of a press
  pub pressed-place : (i s : ℕ) (xs : List ℕ) (number place : ℕ) → pressing sh i s xs ≡ refused number place → place < i + length xs
  unfolding pressing
  pressed-place i s [] number place e = never (cc)
  pressed-place i s (x ∷ xs) number place e = go (one_press sh i s x) refl e (λ u. pressed-place (i + 1) u xs number place)
    where
      go : (o : Result ℕ) → one_press sh i s x ≡ o → onward o (λ u. pressing sh (i + 1) u xs) ≡ refused number place →
          ((u : ℕ) → pressing sh (i + 1) u xs ≡ refused number place → place < i + 1 + length xs) → place < i + suc (length xs)
      go (accepted u) eo h ih = omega (arith, ih u h)
      go (refused n p) eo h ih =
          let same : p ≡ place = cc in
          omega (arith, one_place i s x n p eo)

  module _ (wf : WellFormed sh) where
    one-pressed : (i s x : ℕ) (r : Row) → i < 256 → rule_at sh.rules s x ≡ some r → one_press sh i s x ≡ accepted r.target
    unfolding one_press
    one-pressed i s x r l e =
        let w = rule-row sh wf s x r e in
        let low : x < sh.size.inputs = omega (arith, w.input, w.row.input) in
        rw (lt-leb sh.size.inputs x low, lt-leb 256 i l, e) refl

    -- a test is pressed to its end
    pub after-pressed : (i s : ℕ) (xs : List ℕ) (t : ℕ) → after sh.rules s xs ≡ some t → i + length xs ≤ 256 → pressing sh i s xs ≡ accepted t
    unfolding pressing after
    after-pressed i s [] t e l = cc
    after-pressed i s (x ∷ xs) t e l = go (rule_at sh.rules s x) refl e (λ u. after-pressed (i + 1) u xs t)
      where
        go : (o : Option Row) → rule_at sh.rules s x ≡ o → maybe o none (λ r. after sh.rules r.target xs) ≡ some t →
            ((u : ℕ) → after sh.rules u xs ≡ some t → i + 1 + length xs ≤ 256 → pressing sh (i + 1) u xs ≡ accepted t) →
            onward (one_press sh i s x) (λ u. pressing sh (i + 1) u xs) ≡ accepted t
        go none eo h ih = never (cc)
        go (some r) eo h ih = rw (one-pressed i s x r (omega (arith, l)) eo) (ih r.target h (omega (arith, l)))

    pub pressed-test : (xs : List ℕ) {t : ℕ} → pressing sh 0 0 xs ≡ accepted t → TestIn sh.rules xs
    pressed-test xs {t} e = let r = pressed-after 0 0 xs (omega arith) e in record { reached = t; defined = r.0; short = omega (arith, r.1) }

    pub test-pressed : (xs : List ℕ) (is : TestIn sh.rules xs) → pressing sh 0 0 xs ≡ accepted is.reached
    test-pressed xs is = after-pressed 0 0 xs is.reached is.defined (omega (arith, is.short))

-- ---- what becomes of the sheet
module _ (sh : Sheet) (xs : List ℕ) (room : ℕ) where
  pub add-full : 256 ≤ length sh.tests → add_on sh xs room ≡ refused 8 0
  unfolding add_on
  add-full l = rw (le-leb 256 (length sh.tests) l) refl

  module _ (few : length sh.tests < 256) where
    pub add-pressed : {number place : ℕ} → pressing sh 0 0 xs ≡ refused number place → add_on sh xs room ≡ refused number place
    unfolding add_on
    add-pressed e = rw (lt-leb 256 (length sh.tests) few, e) refl

    module _ {t : ℕ} (pr : pressing sh 0 0 xs ≡ accepted t) where
      pub add-long : 16384 < length (encode (with_test sh xs)) → add_on sh xs room ≡ refused 1 0
      unfolding add_on
      add-long l = rw (lt-leb 256 (length sh.tests) few, pr, lt-ltb 16384 (length (encode (with_test sh xs))) l) refl

      module _ (fits : length (encode (with_test sh xs)) ≤ 16384) where
        pub add-short : room < length (encode (with_test sh xs)) → add_on sh xs room ≡ refused 16 0
        unfolding add_on
        add-short l =
            rw (lt-leb 256 (length sh.tests) few, pr, le-ltb 16384 (length (encode (with_test sh xs))) fits, lt-ltb room (length (encode (with_test sh xs))) l) refl

        pub add-fits : length (encode (with_test sh xs)) ≤ room → add_on sh xs room ≡ accepted (encode (with_test sh xs))
        unfolding add_on
        add-fits l =
            rw (lt-leb 256 (length sh.tests) few, pr, le-ltb 16384 (length (encode (with_test sh xs))) fits, le-ltb room (length (encode (with_test sh xs))) l) refl

  -- 02: the longer sheet is accepted
  pub record Longer (bytes : List ℕ) : Type 0 where
    pub is : bytes ≡ encode (with_test sh xs)
    pub reads : reading bytes ≡ accepted (with_test sh xs)

  pub added-longer : WellFormed sh → (bytes : List ℕ) → add_on sh xs room ≡ accepted bytes → Longer bytes
  unfolding add_on
  added-longer wf bytes =
      go (leb 256 (length sh.tests)) refl (pressing sh 0 0 xs) refl (ltb 16384 (length (encode (with_test sh xs)))) refl (ltb room (length (encode (with_test sh xs))))
    where
      go : (full : Bool) → leb 256 (length sh.tests) ≡ full → (o : Result ℕ) → pressing sh 0 0 xs ≡ o → (long : Bool) → ltb 16384 (length (encode (with_test sh xs))) ≡ long → (short : Bool) →
          refuse_if full 8 0 (onward o (λ t. refuse_if long 1 0 (refuse_if short 16 0 (accepted (encode (with_test sh xs)))))) ≡ accepted bytes → Longer bytes
      go true ef o eo long el short e = never (cc)
      go false ef (refused number place) eo long el short e = never (cc)
      go false ef (accepted t) eo true el short e = never (cc)
      go false ef (accepted t) eo false el true e = never (cc)
      go false ef (accepted t) eo false el false e =
          let same : bytes ≡ encode (with_test sh xs) = cc in
          record {
            is = same;
            reads =
                rw same
                (accepts (with_test sh xs) (well-formed-longer sh xs wf (leb-false 256 (length sh.tests) ef) (pressed-test sh wf xs eo))
                (ltb-false 16384 (length (encode (with_test sh xs))) el));
          }

-- ---- what it tells
module _ {result : Result (List ℕ)} {r : Answer ℕ Refusal} {old new : List ℕ} (ad : Adds result r old new) where
  refused-by : {number place : ℕ} → result ≡ refused number place → RefusedBy number place r old new
  refused-by e = record { answer = rw e at ad.answer; untouched = rw e at ad.bytes }

  done-is : {bytes : List ℕ} → result ≡ accepted bytes → r ≡ Ok (length bytes)
  done-is e = rw e at ad.answer

-- what stands at the front of the buffer was written there
pub written-front : (result : Result (List ℕ)) {r : Answer ℕ Refusal} {old new : List ℕ} → Adds result r old new → (n : ℕ) → r ≡ Ok n → result ≡ accepted (take n new)
written-front (accepted bytes) {r} {old} {new} ad n e =
    let long : ◌≡◌ {A = Answer ℕ Refusal} (Ok n) (Ok (length bytes)) = sym e ∙ ad.answer in
    let same : n ≡ length bytes = cc in
    ap accepted (sym (rw (same, ad.bytes) (take_at bytes (drop (length bytes) old) (length bytes) refl)))
written-front (refused number place) ad n e = let other : ◌≡◌ {A = Answer ℕ Refusal} (Ok n) (Err (refusal_of number place)) = sym e ∙ ad.answer in never (cc)

pub added-told : (s : List ℕ) (sh : Sheet) → reading s ≡ accepted sh → (xs : List ℕ) {r : Answer ℕ Refusal} {old new : List ℕ} → Adds (add_on sh xs (length old)) r old new → ToldAdded sh xs r old new
added-told s sh e xs {r} {old} {new} ad =
    let wf = well-formed s sh e in
    record {
      longer = λ n d. (added-longer sh xs (length old) wf (take n new) (written-front (add_on sh xs (length old)) ad n d)).reads;
      full = λ f. refused-by ad (add-full sh xs (length old) (omega (arith, f)));
      undefined = λ few no_test. undefined wf few no_test (pressing sh 0 0 xs) refl;
      long = λ few is l. refused-by ad (add-long sh xs (length old) few (test-pressed sh wf xs is) l);
      short = λ few is k l. refused-by ad (add-short sh xs (length old) few (test-pressed sh wf xs is) k l);
      fits = λ few is k l. done-is ad (add-fits sh xs (length old) few (test-pressed sh wf xs is) k l);
    }
  where
    undefined : WellFormed sh → length sh.tests < 256 → (TestIn sh.rules xs → ⊥) → (o : Result ℕ) → pressing sh 0 0 xs ≡ o → PressRefused xs r old new
    undefined wf few no_test (accepted t) eo = absurd (no_test (pressed-test sh wf xs eo))
    undefined wf few no_test (refused number place) eo =
        record { number = number; place = place; inside = omega (arith, pressed-place sh 0 0 xs number place eo); refuses = refused-by ad (add-pressed sh xs (length old) few eo) }
