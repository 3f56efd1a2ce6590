-- A test added: what is spelled is the longer sheet, and the refusals in their order.
use Rattle.std.specs.Prelude.{Result as Answer, Ok, Err}
use Rattle.std.specs.Prelude.{◌+◌, ◌-◌, ◌*◌, ◌<◌, ◌≤◌, ◌≡◌, ◌∷◌, ◌++◌}
use Rattle.lists.specs.Proving.{arith, ℕ, refl, sym, ◌∙◌, ap, subst, List, [], length, take, length-append, never}
use mathlib.Core.List.{append-nil}
use lib.Seq.{take_at}
use Rattle.sheet.specs.declared.Refusal.{Refusal}
use Rattle.sheet.specs.Sheet.{Sheet}
use Rattle.sheet.specs.Encode.{press_bytes, test_bytes, body, encode}
use Rattle.sheet.specs.Reading.{Result, accepted, refused, Reading, reading}
use Rattle.sheet.specs.Tables.{refusal_of}
use Rattle.writing.specs.words.Spelled.{Spelled}
use Rattle.writing.proofs.laws.SpelledLaw.{spelled-front}
use Rattle.model.specs.Longer.{with_test}
use Rattle.model.proofs.laws.LongerLaw.{body-longer, encode-longer}
use Rattle.block.specs.Tabled.{ReadFrom}
use Rattle.adding.specs.Adding.{pressing, add_on, adding, Adds, ToldAdded}
use Rattle.adding.specs.words.Pressed.{pressed_answer}
use Rattle.adding.specs.laws.AddingLaw.{pressed-after, add-full, add-pressed, add-long, add-short, add-fits, added-told}
use Rattle.adding.proofs.PressLaw.{answer-refused}

-- ---- the answers
pub adds-refused : {result : Result (List ℕ)} {why : Refusal} {old : List ℕ} → result ≡ refused why.number why.place → Adds result (Err why) old old
adds-refused e = record { answer = rw e refl; bytes = rw e refl }

adds-done : {result : Result (List ℕ)} {s old new : List ℕ} {to : ℕ} → result ≡ accepted s → Spelled old new 0 to s → Adds result (Ok to) old new
adds-done {s = s} {to = to} e sp = let m : to ≡ length s = omega (arith, sp.many) in record { answer = rw e (ap Ok m); bytes = rw e (spelled-front sp) }

-- ---- a sheet that was read
-- all but END, then the test, then END
longer-bytes : (sh : Sheet) (s xs : List ℕ) → encode sh ≡ s → (take (length s - 1) s ++ (4 ∷ press_bytes xs)) ++ 6 ∷ [] ≡ encode (with_test sh xs)
unfolding encode test_bytes
longer-bytes sh s xs e =
    let long = length-append (body sh) (6 ∷ []) in
    let less : length s - 1 ≡ length (body sh) = omega (arith, ap length e, long) in
    let front : take (length s - 1) s ≡ body sh = rw (less, ← e) (take_at (body sh) (6 ∷ []) (length (body sh)) refl) in
    let more : body (with_test sh xs) ≡ body sh ++ (4 ∷ press_bytes xs) = body-longer sh (xs ∷ []) ∙ ap (λ (l : List ℕ). body sh ++ (4 ∷ l)) (append-nil (press_bytes xs)) in
    ap (λ (l : List ℕ). l ++ 6 ∷ []) (ap (λ (l : List ℕ). l ++ (4 ∷ press_bytes xs)) front ∙ sym more)

module _ {sh : Sheet} {s starts lengths m : List ℕ} {tests : ℕ} (rd : ReadFrom sh s starts lengths tests m) (xs : List ℕ) where
  pub some_bytes : 1 ≤ length s
  unfolding encode
  some_bytes = omega (arith, length-append (body sh) (6 ∷ []), ap length rd.bytes)

  long-is : length (encode (with_test sh xs)) ≡ length s + (1 + 2 * length xs)
  long-is = encode-longer sh xs ∙ ap (λ (l : List ℕ). length l + (1 + 2 * length xs)) rd.bytes

  module _ (old : List ℕ) where
    pub adds-full : 256 ≤ tests → Adds (add_on sh xs (length old)) (Err (refusal_of 8 0)) old old
    adds-full l = adds-refused (add-full sh xs (length old) (omega (arith, rd.many)))

    module _ (few : tests < 256) {r : Answer ℕ Refusal} (is : r ≡ pressed_answer (pressing sh 0 0 xs)) where
      room-for-more : length sh.tests < 256
      room-for-more = omega (arith, rd.many, few)

      pub adds-pressed : {why : Refusal} → r ≡ Err why → Adds (add_on sh xs (length old)) (Err why) old old
      adds-pressed {why} e = adds-refused (add-pressed sh xs (length old) room-for-more (answer-refused (pressing sh 0 0 xs) why (sym e ∙ is)))

      -- the presses lead somewhere
      module _ {t : ℕ} (e : pressing sh 0 0 xs ≡ accepted t) where
        pub adds-long : 16384 < length s + 1 + 2 * length xs → Adds (add_on sh xs (length old)) (Err (refusal_of 1 0)) old old
        adds-long l = adds-refused (add-long sh xs (length old) room-for-more e (omega (arith, long-is)))

        module _ (fits : length s + 1 + 2 * length xs ≤ 16384) where
          pub adds-short : length old < length s + 1 + 2 * length xs → Adds (add_on sh xs (length old)) (Err (refusal_of 16 0)) old old
          adds-short l = adds-refused (add-short sh xs (length old) room-for-more e (omega (arith, long-is)) (omega (arith, long-is)))

          pub adds-spelled : {new : List ℕ} {to : ℕ} → length s + 1 + 2 * length xs ≤ length old →
              Spelled old new 0 to ((take (length s - 1) s ++ (4 ∷ press_bytes xs)) ++ 6 ∷ []) → Adds (add_on sh xs (length old)) (Ok to) old new
          adds-spelled {new} {to} l sp =
              adds-done (add-fits sh xs (length old) room-for-more e (omega (arith, long-is)) (omega (arith, long-is)))
              (subst (λ (b : List ℕ). Spelled old new 0 to b) (longer-bytes sh s xs rd.bytes) sp)

-- presses that are not refused lead somewhere
pub leads-on : (o : Result ℕ) {r : Answer ℕ Refusal} {t : ℕ} → r ≡ pressed_answer o → r ≡ Ok t → o ≡ accepted t
leads-on (accepted u) {r} {t} is e = let same : ◌≡◌ {A = Answer ℕ Refusal} (Ok t) (Ok u) = sym e ∙ is in let z : t ≡ u = cc in ap accepted (sym z)
leads-on (refused number place) {r} {t} is e = let other : ◌≡◌ {A = Answer ℕ Refusal} (Ok t) (Err (refusal_of number place)) = sym e ∙ is in never (cc)

-- and are few
pub few-presses : (sh : Sheet) (xs : List ℕ) {t : ℕ} → pressing sh 0 0 xs ≡ accepted t → length xs ≤ 256
few-presses sh xs e = omega (arith, (pressed-after sh 0 0 xs (omega arith) e).1)

-- ---- from the bytes
module _ (s xs old : List ℕ) where
  abbrev Told : Answer ℕ Refusal → List ℕ → Type 0
  Told r new = (sh : Sheet) → reading s ≡ accepted sh → ToldAdded sh xs r old new

  -- a sheet refused on reading: the same number and place, and nothing is written
  pub add-refused : {why : Refusal} → reading s ≡ refused why.number why.place → Adds (adding s xs (length old)) (Err why) old old × Told (Err why) old
  unfolding adding
  add-refused {why} h = (
    adds-refused (rw h refl),
    λ sh es. let same : ◌≡◌ {A = Reading} (accepted sh) (refused why.number why.place) = sym es ∙ h in never (cc),
  )

  -- an accepted one
  pub add-accepted : (sh : Sheet) → reading s ≡ accepted sh → {r : Answer ℕ Refusal} {new : List ℕ} → Adds (add_on sh xs (length old)) r old new → Adds (adding s xs (length old)) r old new × Told r new
  unfolding adding
  add-accepted sh e {r} {new} ad = (rw e ad, told)
    where
      told : Told r new
      told sh' e' =
          let same : sh ≡ sh' = (let z : ◌≡◌ {A = Reading} (accepted sh) (accepted sh') = sym e ∙ e' in cc) in
          added-told s sh' e' xs (subst (λ (t : Sheet). Adds (add_on t xs (length old)) r old new) same ad)
