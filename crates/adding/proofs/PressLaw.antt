-- A press by the block's rules, and all presses of a test one after another.
use Rattle.std.specs.Prelude.{Result as Answer, Ok, Err}
use Rattle.std.specs.Prelude.{◌+◌, ◌/◌, ◌%◌, ◌<◌, ◌≤◌, ◌≡◌, ◌∷◌}
use Rattle.lists.specs.Proving.{arith, ℕ, refl, sym, ◌∙◌, ap, Option, some, none, List, length, get_or, drop, drop-cons, add-one, never}
use lib.ListN.{drop_of_length-le}
use borrow.Author.Tests.{le-leb, lt-leb}
use Rattle.lists.specs.Lists.{maybe}
use Rattle.sheet.specs.declared.Row.{Row}
use Rattle.sheet.specs.Sheet.{Sheet, rule_at}
use Rattle.sheet.specs.Reading.{Result, accepted, refused}
use Rattle.model.proofs.laws.StaysLaw.{rule-row}
use Rattle.block.specs.Layout.{pair, rule_target, inputs_of}
use Rattle.block.specs.Tabled.{Tabled}
use Rattle.sheet.specs.declared.Refusal.{Refusal}
use Rattle.sheet.specs.Tables.{refusal_of}
use Rattle.adding.specs.Adding.{one_press, pressing}
use Rattle.adding.specs.words.Pressed.{pressed_answer}
use Rattle.adding.specs.laws.AddingLaw.{pressing-more, pressing-refused}

-- ---- one press
module _ {sh : Sheet} {m : List ℕ} (tb : Tabled sh m) (i s x : ℕ) where
  pub press-over : inputs_of m ≤ x → Err (refusal_of 5 i) ≡ pressed_answer (one_press sh i s x)
  unfolding one_press
  press-over l = rw (le-leb sh.size.inputs x (omega (arith, tb.inputs))) refl

  module _ (low : x < inputs_of m) where
    pub press-many : 256 ≤ i → Err (refusal_of 8 i) ≡ pressed_answer (one_press sh i s x)
    unfolding one_press
    press-many l = rw (lt-leb sh.size.inputs x (omega (arith, tb.inputs)), le-leb 256 i l) refl

    module _ (few : i < 256) (digit : s < 16) where
      there : rule_target m (pair s x) ≡ maybe (rule_at sh.rules s x) 255 (λ r. r.target)
      there =
          let k = tb.formed.size.inputs.few in
          let inside : pair s x < 256 = omega (arith, tb.inputs, k) in
          let state : pair s x / 16 ≡ s = omega (arith, tb.inputs, k) in
          let input : pair s x % 16 ≡ x = omega (arith, tb.inputs, k) in
          rw (state, input) at (tb.targets (pair s x) inside)

      pub press-undefined : rule_target m (pair s x) ≡ 255 → Err (refusal_of 9 i) ≡ pressed_answer (one_press sh i s x)
      unfolding one_press
      press-undefined e = rw (lt-leb sh.size.inputs x (omega (arith, tb.inputs)), lt-leb 256 i few) (go (rule_at sh.rules s x) refl)
        where
          go : (o : Option Row) → rule_at sh.rules s x ≡ o → Err (refusal_of 9 i) ≡ pressed_answer (maybe o (refused 9 i) (λ r. accepted r.target))
          go none eo = refl
          go (some r) eo =
              let is : rule_target m (pair s x) ≡ r.target = there ∙ rw eo refl in
              absurd (omega (arith, is, (rule-row sh tb.formed s x r eo).row.target, tb.formed.size.states.few))

      pub press-to : (rule_target m (pair s x) ≡ 255 → ⊥) → Ok (rule_target m (pair s x)) ≡ pressed_answer (one_press sh i s x)
      unfolding one_press
      press-to ne = rw (lt-leb sh.size.inputs x (omega (arith, tb.inputs)), lt-leb 256 i few) (go (rule_at sh.rules s x) refl)
        where
          go : (o : Option Row) → rule_at sh.rules s x ≡ o → Ok (rule_target m (pair s x)) ≡ pressed_answer (maybe o (refused 9 i) (λ r. accepted r.target))
          go none eo = absurd (ne (there ∙ rw eo refl))
          go (some r) eo = ap Ok (there ∙ rw eo refl)

-- ---- all presses: what becomes of them is what becomes of those from the press i on, at the state s
pub record Pressing (m xs : List ℕ) (i s : ℕ) : Type 0 where
  pub same : (sh : Sheet) → Tabled sh m → pressing sh 0 0 xs ≡ pressing sh i s (drop i xs)
  pub digit : s < 16

pub pressing-none : {m xs : List ℕ} → Pressing m xs 0 0
pressing-none = record { same = λ sh tb. refl; digit = omega arith }

answer-to : (o : Result ℕ) (t : ℕ) → Ok t ≡ pressed_answer o → o ≡ accepted t
answer-to (accepted u) t e = let same : t ≡ u = cc in ap accepted (sym same)
answer-to (refused number place) t e = never (cc)

refusal : Refusal → Result ℕ
refusal w = refused w.number w.place

pub answer-refused : (o : Result ℕ) (why : Refusal) → Err why ≡ pressed_answer o → o ≡ refused why.number why.place
unfolding refusal
answer-refused (accepted u) why e = never (cc)
answer-refused (refused n p) why e = let same : refusal_of n p ≡ why = cc in ap refusal same

module _ {m xs : List ℕ} {i s : ℕ} (h : Pressing m xs i s) where
  module _ (l : i < length xs) {r : Answer ℕ Refusal} (is : (sh : Sheet) → Tabled sh m → r ≡ pressed_answer (one_press sh i s (get_or xs i 0))) where
    next : drop i xs ≡ get_or xs i 0 ∷ drop (i + 1) xs
    next = rw add-one (drop-cons xs i 0 l)

    pub pressing-again : {t : ℕ} → r ≡ Ok t → t < 16 → Pressing m xs (i + 1) t
    pressing-again {t} e digit =
        record {
          same = λ sh tb. h.same sh tb ∙ ap (pressing sh i s) next ∙ (pressing-more sh i s (get_or xs i 0) (drop (i + 1) xs) (answer-to (one_press sh i s (get_or xs i 0)) t (sym e ∙ is sh tb)));
          digit = digit;
        }

    pub pressing-stops : {why : Refusal} → r ≡ Err why → (sh : Sheet) → Tabled sh m → Err why ≡ pressed_answer (pressing sh 0 0 xs)
    pressing-stops {why} e sh tb =
        let stops : pressing sh 0 0 xs ≡ refused why.number why.place =
        h.same sh tb ∙ ap (pressing sh i s) next ∙ pressing-refused sh i s (get_or xs i 0) (drop (i + 1) xs) (answer-refused (one_press sh i s (get_or xs i 0)) why (sym e ∙ is sh tb)) in
        ap pressed_answer (sym stops)

  pub pressing-all : length xs ≤ i → (sh : Sheet) → Tabled sh m → Ok s ≡ pressed_answer (pressing sh 0 0 xs)
  unfolding pressing
  pressing-all l sh tb =
      let ends : pressing sh 0 0 xs ≡ accepted s = h.same sh tb ∙ ap (pressing sh i s) (drop_of_length-le xs l) in
      ap pressed_answer (sym ends)
