-- From an accepted sheet to the answer, and what it tells.
use Rattle.std.specs.Prelude.{Ok, Err, Option as Maybe, Some, None}
use Rattle.std.specs.Prelude.{◌*◌, ◌<◌, ◌≤◌, ◌≡◌}
use Rattle.lists.specs.Proving.{arith, ℕ, refl, sym, ◌∙◌, ap, subst, Bool, true, false, Option, none, some, List, length, take, drop, eqb, eqb-true, eq-eqb, lt-ltb, le-ltb, never}
use lib.ListN.{length-map}
use lib.Seq.{take_at}
use Rattle.lists.specs.Lists.{overlay}
use Rattle.lists.specs.Options.{coded}
use Rattle.sheet.specs.declared.Refusal.{Refusal}
use Rattle.sheet.specs.Sheet.{Sheet}
use Rattle.sheet.specs.Reading.{accepted, refused, Reading, reading}
use Rattle.sheet.specs.Tables.{refusal_of}
use Rattle.model.specs.Mutant.{slots, IsMutant}
use Rattle.model.specs.Suite.{first_failed_of, finding_of}
use Rattle.model.specs.Operations.{first_high, failing}
use Rattle.model.specs.Tray.{result_of, boards_in, slots_for, try_on, trying, board_at}
use Rattle.model.proofs.laws.OperationLaw.{high-first, is-mutant, choice-too-high}
use Rattle.model.proofs.laws.TrayLaw.{tray-told}
use Rattle.tray.specs.Answers.{Tried, tried_answer, Tries, HighMeans, TriedSays, ToldTried}
use Rattle.tray.specs.words.Trays.{TrayOf, results_of}
use Rattle.tray.proofs.BoardLaw.{boards-many, board-long}
use Rattle.tray.proofs.HighLaw.{HighBoard, ByBoards, by-boards}

-- the three refusals, and the tray without one
module _ (sh : Sheet) (boards : ℕ) (tray : List ℕ) (room : ℕ) where
  on-length : eqb (length tray) (boards * length (slots sh)) ≡ false → try_on sh boards tray room ≡ refused 13 0
  unfolding try_on
  on-length e = rw e refl

  module _ (long : length tray ≡ boards * length (slots sh)) where
    on-high : (place : ℕ) → first_high (slots_for boards (slots sh)) tray ≡ some place → try_on sh boards tray room ≡ refused 14 place
    unfolding try_on
    on-high place e = rw (eq-eqb (length tray) (boards * length (slots sh)) long, e) refl

    module _ (e : first_high (slots_for boards (slots sh)) tray ≡ none) where
      on-short : room < boards → try_on sh boards tray room ≡ refused 16 0
      unfolding try_on
      on-short l = rw (eq-eqb (length tray) (boards * length (slots sh)) long, e, lt-ltb room boards l) refl

      on_room : boards ≤ room → try_on sh boards tray room ≡ accepted (results_of sh boards tray)
      unfolding try_on
      on_room l = rw (eq-eqb (length tray) (boards * length (slots sh)) long, e, le-ltb room boards l) refl

      mutants : (i : ℕ) → i < boards → IsMutant sh (board_at sh tray i)
      mutants i l =
          is-mutant sh (board_at sh tray i) (board-long boards (length (slots sh)) tray long i l)
          (subst (λ (o : Option ℕ). ByBoards (slots sh) boards tray o) e (by-boards (slots sh) boards tray) i l)

tries-refused : (sh : Sheet) (boards : ℕ) (tray old : List ℕ) {why : Refusal} → try_on sh boards tray (length old) ≡ refused why.number why.place →
    Tries (try_on sh boards tray (length old)) (Err why) old old
tries-refused sh boards tray old e = record { answer = rw e refl; numbers = rw e refl }

-- as the code goes
module _ (sh : Sheet) (boards : ℕ) (tray old : List ℕ) {t : Bool} {n : ℕ} (count : n ≡ length (slots sh)) (measured : t ≡ eqb (length tray) (boards * n)) where
  exactly : t ≡ eqb (length tray) (boards * length (slots sh))
  exactly = measured ∙ ap (λ (k : ℕ). eqb (length tray) (boards * k)) count

  pub tries-length : t ≡ false → Tries (try_on sh boards tray (length old)) (Err (refusal_of 13 0)) old old
  tries-length e = tries-refused sh boards tray old (on-length sh boards tray (length old) (sym exactly ∙ e))

  module _ (e : t ≡ true) where
    pub tray-long : length tray ≡ boards * length (slots sh)
    tray-long = eqb-true (length tray) (boards * length (slots sh)) (sym exactly ∙ e)

    module _ {o : Maybe ℕ} (found : o ≡ coded (first_high (slots_for boards (slots sh)) tray)) where
      pub tries-high : {high : ℕ} → o ≡ Some high → Tries (try_on sh boards tray (length old)) (Err (refusal_of 14 high)) old old
      tries-high {high} e = tries-refused sh boards tray old (on-high sh boards tray (length old) tray-long high (go (first_high (slots_for boards (slots sh)) tray) (sym e ∙ found)))
        where
          go : (p : Option ℕ) → Some high ≡ coded p → p ≡ some high
          go none h = never (cc)
          go (some i) h = cc

      module _ (l : o ≡ None) where
        low : first_high (slots_for boards (slots sh)) tray ≡ none
        low = go (first_high (slots_for boards (slots sh)) tray) (sym l ∙ found)
          where
            go : (p : Option ℕ) → None ≡ coded p → p ≡ none
            go none h = refl
            go (some i) h = never (cc)

        pub tries-short : length old < boards → Tries (try_on sh boards tray (length old)) (Err (refusal_of 16 0)) old old
        tries-short s = tries-refused sh boards tray old (on-short sh boards tray (length old) tray-long low s)

        module _ (room : boards ≤ length old) where
          pub tray-of : TrayOf sh boards tray (length old)
          tray-of = record { long = tray-long; mutants = mutants sh boards tray (length old) tray-long low; fits = room }

          pub tries-done : {new : List ℕ} → new ≡ overlay (results_of sh boards tray) old → Tries (try_on sh boards tray (length old)) (Ok tt) old new
          tries-done e = let o = on_room sh boards tray (length old) tray-long low room in record { answer = rw o refl; numbers = rw o e }

-- ---- what it tells

module _ (s : List ℕ) (sh : Sheet) (is : reading s ≡ accepted sh) (boards : ℕ) (tray : List ℕ) (long : length tray ≡ boards * length (slots sh)) where
  -- 14, of the board alone
  high-told : (place : ℕ) → HighBoard (slots sh) boards tray place → HighMeans s sh boards tray place
  unfolding failing
  high-told place h =
      record {
        board = h.board;
        index = h.index;
        is = h.is;
        at = h.at;
        before = λ i l. is-mutant sh (board_at sh tray i) (board-long boards (length (slots sh)) tray long i (omega (arith, h.is))) (h.before i l);
        alone =
            rw is
            (choice-too-high sh (board_at sh tray h.board) (accepted (finding_of sh (board_at sh tray h.board))) h.index
            (board-long boards (length (slots sh)) tray long h.board h.is) (high-first (slots sh) (board_at sh tray h.board) h.index h.here));
      }

  many : length (results_of sh boards tray) ≡ boards
  many = length-map (boards_in boards (length (slots sh)) tray) (λ (b : List ℕ). result_of (first_failed_of sh b)) ∙ boards-many boards (length (slots sh)) tray

  says : (r : Tried) (old new : List ℕ) → boards ≤ length old → Tries (try_on sh boards tray (length old)) r old new → TriedSays s sh boards tray r new
  says r old new room ts = go (first_high (slots_for boards (slots sh)) tray) refl (by-boards (slots sh) boards tray)
    where
      go : (o : Option ℕ) → first_high (slots_for boards (slots sh)) tray ≡ o → ByBoards (slots sh) boards tray o → TriedSays s sh boards tray r new
      go none e h =
          let o = on_room sh boards tray (length old) long e room in
          let front : take boards new ≡ results_of sh boards tray = rw (ts.numbers, o) (take_at (results_of sh boards tray) (drop (length (results_of sh boards tray)) old) boards many) in
          rw (ts.answer ∙ ap tried_answer o) (rw front (tray-told s sh boards tray (results_of sh boards tray) (length old) is o))
      go (some place) e h = rw (ts.answer ∙ ap tried_answer (on-high sh boards tray (length old) long place e)) (refl, high-told place h)

module _ (s : List ℕ) (boards : ℕ) (tray old : List ℕ) where
  -- a sheet refused on reading: the same number and place, and nothing is written
  pub tried-refused : {why : Refusal} → reading s ≡ refused why.number why.place → {r : Tried} → r ≡ Err why →
      Tries (trying s boards tray (length old)) r old old × ToldTried s boards tray (length old) r old
  unfolding trying ToldTried
  tried-refused {why} h er = (
    record { answer = rw h er; numbers = rw h refl },
    λ sh es. let same : ◌≡◌ {A = Reading} (accepted sh) (refused why.number why.place) = sym es ∙ h in never (cc),
  )

  trying-is : (sh : Sheet) → reading s ≡ accepted sh → trying s boards tray (length old) ≡ try_on sh boards tray (length old)
  unfolding trying
  trying-is sh e = rw e refl

  -- an accepted one
  pub tried-accepted : (sh : Sheet) → reading s ≡ accepted sh → (r : Tried) (new : List ℕ) → Tries (try_on sh boards tray (length old)) r old new →
      Tries (trying s boards tray (length old)) r old new × ToldTried s boards tray (length old) r new
  unfolding ToldTried
  tried-accepted sh e r new ts = (rw (trying-is sh e) ts, told)
    where
      told : (sh' : Sheet) → reading s ≡ accepted sh' → length tray ≡ boards * length (slots sh') → boards ≤ length old → TriedSays s sh' boards tray r new
      told sh' e' long room =
          let same : sh ≡ sh' = (let z : ◌≡◌ {A = Reading} (accepted sh) (accepted sh') = sym e ∙ e' in cc) in
          says s sh' e' boards tray long r old new room (subst (λ (x : Sheet). Tries (try_on x boards tray (length old)) r old new) same ts)
