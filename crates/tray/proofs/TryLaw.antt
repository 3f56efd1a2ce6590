-- The results of a tray's mutants, one after another.
use Rattle.std.specs.Prelude.{Result as Answer, Ok, Err, Option as Maybe, Some, None, IsOk}
use Rattle.std.specs.Prelude.{◌+◌, ◌-◌, ◌*◌, ◌<◌, ◌≤◌, ◌≡◌, ◌∷◌, ◌++◌}
use Rattle.lists.specs.Proving.{arith, ℕ, suc, refl, sym, ◌∙◌, ap, Option, none, some, List, [], length, set, take, drop, length-set, append_snoc, drop-cons, add-one, never}
use mathlib.Core.List.{map}
use native.Mathlib.Nat.{suc-mul, zero-mul}
use lib.ListN.{length-map, length-append}
use lib.Seq.{set_at}
use Rattle.lists.specs.Lists.{overlay}
use Rattle.lists.specs.laws.ListLaw.{map-append}
use Rattle.sheet.specs.Sheet.{Sheet}
use Rattle.model.specs.Mutant.{slots, IsMutant}
use Rattle.model.specs.Log.{failed_in}
use Rattle.model.specs.Suite.{Place, first_failed_of}
use Rattle.model.specs.Verdict.{FailedMeans}
use Rattle.model.specs.Tray.{result_of, boards_in, board_at}
use Rattle.model.proofs.laws.SuiteLaw.{failed-means}
use Rattle.block.specs.Logged.{observations}
use Rattle.logs.specs.declared.walk.Wrong.{Wrong}
use Rattle.logs.specs.Walked.{moves_in, wrong_at, wrong_of}
use Rattle.logs.specs.laws.WalkedLaw.{walked-failed}
use Rattle.machine.specs.declared.laying.Machine.{Machine}
use Rattle.sheet.specs.declared.Refusal.{Refusal}
use Rattle.machine.specs.Fits.{Machined, MachinedBy}
use Rattle.machine.specs.laws.FitsLaw.{not-mutant}
use Rattle.logs.specs.Suites.{SuiteIn, Logged}
use Rattle.search.specs.Search.{ForSheet}
use Rattle.search.specs.laws.TabulatesLaw.{tabulates}
use Rattle.tray.specs.words.Trays.{TrayOf, results_of}
use Rattle.tray.proofs.BoardLaw.{boards-many, boards-more, board-end}

-- ---- one mutant, along the suite's log

module _ {sh : Sheet} {m log b : List ℕ} {r : Machine} (su : ForSheet sh m log) (is : Machined sh b r) {w : Maybe Wrong}
    (ew : w ≡ wrong_of (failed_in (moves_in r.output r.target) r.start r.start 0 0 (observations log))) where
  found : w ≡ wrong_of (first_failed_of sh b)
  found =
      let wf = su.tabled.formed in
      ew
      ∙ ap wrong_of (ap (failed_in (moves_in r.output r.target) r.start r.start 0 0) su.suite ∙ walked-failed sh wf b (tabulates wf b is.moves) r.start is.start)

  pub passes : w ≡ None → 65535 ≡ result_of (first_failed_of sh b)
  passes e = go (first_failed_of sh b) (sym e ∙ found)
    where
      go : (o : Option Place) → None ≡ wrong_of o → 65535 ≡ result_of o
      go none h = refl
      go (some f) h = never (cc)

  module _ {v : Wrong} (e : w ≡ Some v) where
    pub fails : v.test ≡ result_of (first_failed_of sh b)
    fails = go (first_failed_of sh b) (sym e ∙ found)
      where
        go : (o : Option Place) → Some v ≡ wrong_of o → v.test ≡ result_of o
        go none h = never (cc)
        go (some f) h = let same : v ≡ wrong_at f = cc in ap (λ (x : Wrong). x.test) same

    -- a test's number has 16 bits
    pub few : v.test < 65536
    few = go (first_failed_of sh b) (failed-means sh b su.tabled.formed) (sym e ∙ found)
      where
        go : (o : Option Place) → FailedMeans sh b o → Some v ≡ wrong_of o → v.test < 65536
        go none f h = never (cc)
        go (some p) f h =
            let same : v ≡ wrong_at p = cc in
            let test : v.test ≡ p.test = ap (λ (x : Wrong). x.test) same in
            omega (arith, test, f.is, su.tabled.formed.few-tests)

-- a mutant has a machine
pub machine-ok : (sh : Sheet) (b : List ℕ) → IsMutant sh b → (o : Answer Machine Refusal) → MachinedBy sh b o → IsOk o
machine-ok sh b is (Ok r) h = refl
machine-ok sh b is (Err why) h = absurd (not-mutant sh b why h is)

-- the suite's log
pub by-log : {sh : Sheet} {s starts lengths m log : List ℕ} {tests room n : ℕ} → SuiteIn sh s starts lengths tests m room → Logged sh log n → ForSheet sh m (take n log)
by-log su lg = record { tabled = su.tabled; suite = lg.is }

-- ---- the loop: the results of the first i stand at the front

-- one more at the front
front-more : (xs : List ℕ) (v : ℕ) (old : List ℕ) → length xs < length old → set (overlay xs old) (length xs) v ≡ overlay (xs ++ v ∷ []) old
front-more xs v old l =
    rw (drop-cons old (length xs) 0 l)
    (set_at xs _ (drop (suc (length xs)) old) v (length xs) refl
    ∙ sym (append_snoc xs v (drop (suc (length xs)) old))
    ∙ ap (λ (n : ℕ). (xs ++ v ∷ []) ++ drop n old) (let e : suc (length xs) ≡ length (xs ++ v ∷ []) = omega (arith, length-append xs (v ∷ [])) in e))

pub record TriedTo (sh : Sheet) (tray old new : List ℕ) (at i : ℕ) : Type 0 where
  pub from : at ≡ i * length (slots sh)
  pub long : length new ≡ length old
  pub is : new ≡ overlay (results_of sh i tray) old

pub tried-none : {sh : Sheet} {tray old : List ℕ} → TriedTo sh tray old old 0 0
unfolding boards_in
tried-none {sh} = record { from = sym (zero-mul (length (slots sh))); long = refl; is = refl }

module _ {sh : Sheet} {boards : ℕ} {tray old new : List ℕ} {at i n : ℕ} (tr : TrayOf sh boards tray (length old)) (l : i < boards) (count : n ≡ length (slots sh)) (inv : TriedTo sh tray old new at i) where
  pub tried-end : at + n ≤ length tray
  tried-end = omega (arith, inv.from, count, board-end boards (length (slots sh)) tray tr.long i l)

  pub tried-room : i < length new
  tried-room = omega (arith, inv.long, tr.fits)

  -- the board from there on
  lent : take (at + n - at) (drop at tray) ≡ board_at sh tray i
  lent = let e : at + n - at ≡ length (slots sh) = omega (arith, count) in rw (e, inv.from) refl

  pub tried-mutant : IsMutant sh (take (at + n - at) (drop at tray))
  tried-mutant = rw lent (tr.mutants i l)

  pub tried-more : {v : ℕ} → v ≡ result_of (first_failed_of sh (take (at + n - at) (drop at tray))) → TriedTo sh tray old (set new i v) (at + n) (i + 1)
  tried-more {v} e =
      record {
        from = rw add-one (omega (arith, inv.from, count, suc-mul i (length (slots sh))));
        long = length-set new i v ∙ inv.long;
        is = rw (inv.is, e, lent, add-one, boards-more i (length (slots sh)) tray) more;
      }
    where
      f : List ℕ → ℕ
      f b = result_of (first_failed_of sh b)

      many : length (results_of sh i tray) ≡ i
      many = length-map (boards_in i (length (slots sh)) tray) f ∙ boards-many i (length (slots sh)) tray

      more : set (overlay (results_of sh i tray) old) i (f (board_at sh tray i)) ≡ overlay (map f (boards_in i (length (slots sh)) tray ++ board_at sh tray i ∷ [])) old
      more =
          ap (λ (k : ℕ). set (overlay (results_of sh i tray) old) k (f (board_at sh tray i))) (sym many)
          ∙ front-more (results_of sh i tray) (f (board_at sh tray i)) old (omega (arith, many, tr.fits))
          ∙ ap (λ (xs : List ℕ). overlay xs old) (sym (map-append f (boards_in i (length (slots sh)) tray) (board_at sh tray i ∷ [])))

pub tried-all : {sh : Sheet} {boards : ℕ} {tray old new : List ℕ} {at i : ℕ} → i ≤ boards → boards ≤ i → TriedTo sh tray old new at i → new ≡ overlay (results_of sh boards tray) old
tried-all {sh} {boards} {tray} {old} {new} {at} {i} le ge inv = let e : boards ≡ i = omega arith in rw e inv.is
