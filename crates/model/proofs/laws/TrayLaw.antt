-- 02's Point 11: a tray's outcome equals the boards taken singly.
use Rattle.std.specs.Prelude.{ℕ, zero, suc, ◌+◌, ◌*◌, ◌<◌, ◌≤◌, ◌≡◌, refl, Bool, true, false, not, List, [], ◌∷◌, ◌++◌, map, eqb, ltb, length, get_or, take, drop}
use Rattle.std.proofs.Common.{le_of_suc-le-suc, suc-mul, zero-mul, arith, ◌∙◌, ap, eqb-true, ltb-false, length-append, drop-drop}
use Rattle.std.proofs.Math.Path.{sym}
use Rattle.std.proofs.Math.Option.{Option, none, some}
use Rattle.std.proofs.lemmas.List.{length-map}
use Rattle.lists.specs.laws.ListLaw.{get_or-map-below}
use Rattle.lists.specs.laws.TestLaw.{never}
use Rattle.sheet.specs.Sheet.{Sheet}
use Rattle.sheet.specs.Reading.{accepted, reading}
use Rattle.model.specs.Mutant.{slots, InRange, IsMutant}
use Rattle.model.specs.Suite.{first_failed_of, finding_of}
use Rattle.model.specs.Operations.{refuse_if, refuse_at, first_high, failing}
use Rattle.model.specs.Tray.{result_of, boards_in, slots_for, try_on, board_at, TrayMeans}
use Rattle.model.proofs.laws.OperationLaw.{high-none, mutant-goes-on}

-- choices in range, in two parts
split-range : (cs ds b : List ℕ) → InRange (cs ++ ds) b → InRange cs (take (length cs) b) × InRange ds (drop (length cs) b)
unfolding InRange
split-range [] ds b r = (tt, r)
split-range (c ∷ cs) ds [] r = absurd r
split-range (c ∷ cs) ds (i ∷ b) r = let h = split-range cs ds b r.1 in ((r.0, h.0), h.1)

times_more : (n i : ℕ) → n + i * n ≡ suc i * n
times_more n i = omega (arith, suc-mul i n)

next-board : (n i : ℕ) (tray : List ℕ) → drop (i * n) (drop n tray) ≡ drop (suc i * n) tray
next-board n i tray = drop-drop (i * n) n tray ∙ ap (λ (k : ℕ). drop k tray) (times_more n i)

first-board : (n : ℕ) (tray : List ℕ) → drop (0 * n) tray ≡ tray
first-board n tray = ap (λ (k : ℕ). drop k tray) (zero-mul n)

range_at : (cs : List ℕ) (boards : ℕ) (tray : List ℕ) (i : ℕ) → InRange (slots_for boards cs) tray → i < boards → InRange cs (take (length cs) (drop (i * length cs) tray))
unfolding slots_for
range_at cs zero tray i r l = absurd (omega arith)
range_at cs (suc boards) tray zero r l = rw (first-board (length cs) tray) (split-range cs (slots_for boards cs) tray r).0
range_at cs (suc boards) tray (suc i) r l =
    rw (← next-board (length cs) i tray) (range_at cs boards (drop (length cs) tray) i (split-range cs (slots_for boards cs) tray r).1 (le_of_suc-le-suc l))

boards-at : (boards n : ℕ) (tray : List ℕ) (i : ℕ) → i < boards → get_or (boards_in boards n tray) i [] ≡ take n (drop (i * n) tray)
unfolding boards_in
boards-at zero n tray i l = absurd (omega arith)
boards-at (suc boards) n tray zero l = ap (take n) (sym (first-board n tray))
boards-at (suc boards) n tray (suc i) l = boards-at boards n (drop n tray) i (le_of_suc-le-suc l) ∙ ap (take n) (next-board n i tray)

boards-many : (boards n : ℕ) (tray : List ℕ) → length (boards_in boards n tray) ≡ boards
unfolding boards_in
boards-many zero n tray = refl
boards-many (suc boards) n tray = ap suc (boards-many boards n (drop n tray))

slots-many : (boards : ℕ) (cs : List ℕ) → length (slots_for boards cs) ≡ boards * length cs
unfolding slots_for
slots-many zero cs = omega arith
slots-many (suc boards) cs = length-append cs (slots_for boards cs) ∙ ap (λ (k : ℕ). length cs + k) (slots-many boards cs) ∙ times_more (length cs) boards

-- what an accepted tray was
record Tried (sh : Sheet) (boards : ℕ) (tray results : List ℕ) (room : ℕ) : Type 0 where
  long : length tray ≡ boards * length (slots sh)
  low : first_high (slots_for boards (slots sh)) tray ≡ none
  fits : boards ≤ room
  is : results ≡ map (λ (b : List ℕ). result_of (first_failed_of sh b)) (boards_in boards (length (slots sh)) tray)

tried : (sh : Sheet) (boards : ℕ) (tray results : List ℕ) (room : ℕ) → try_on sh boards tray room ≡ accepted results → Tried sh boards tray results room
unfolding try_on
tried sh boards tray results room =
    go (eqb (length tray) (boards * length (slots sh))) refl (first_high (slots_for boards (slots sh)) tray) refl (ltb room boards) refl
  where
    out : List ℕ
    out = map (λ (b : List ℕ). result_of (first_failed_of sh b)) (boards_in boards (length (slots sh)) tray)

    go : (a : Bool) → eqb (length tray) (boards * length (slots sh)) ≡ a → (o : Option ℕ) → first_high (slots_for boards (slots sh)) tray ≡ o →
        (b : Bool) → ltb room boards ≡ b →
        refuse_if (not a) 13 0 (refuse_at o 14 (refuse_if b 16 0 (accepted (map (λ (b : List ℕ). result_of (first_failed_of sh b)) (boards_in boards (length (slots sh)) tray))))) ≡ accepted results → Tried sh boards tray results room
    go true ea none eo false eb e =
        record { long = eqb-true (length tray) (boards * length (slots sh)) ea; low = eo; fits = ltb-false room boards eb; is = cc }
    go true ea none eo true eb e = never (cc)
    go true ea (some i) eo b eb e = never (cc)
    go false ea o eo b eb e = never (cc)

pub tray-told : (s : List ℕ) (sh : Sheet) (boards : ℕ) (tray results : List ℕ) (room : ℕ) → reading s ≡ accepted sh → try_on sh boards tray room ≡ accepted results →
    TrayMeans s sh boards tray results
unfolding failing finding_of
tray-told s sh boards tray results room read e = record { many = many; mutants = mutant; singly = single; each = each }
  where
    t : Tried sh boards tray results room
    t = tried sh boards tray results room e

    many : length results ≡ boards
    many = ap length t.is ∙ length-map (boards_in boards (length (slots sh)) tray) (λ (b : List ℕ). result_of (first_failed_of sh b)) ∙ boards-many boards (length (slots sh)) tray

    mutant : (i : ℕ) → i < boards → IsMutant sh (board_at sh tray i)
    mutant i l =
        unfold IsMutant in
        range_at (slots sh) boards tray i (high-none (slots_for boards (slots sh)) tray (t.long ∙ sym (slots-many boards (slots sh))) t.low) l

    single : (i : ℕ) → i < boards → failing s (board_at sh tray i) ≡ accepted (finding_of sh (board_at sh tray i))
    single i l = rw read (mutant-goes-on sh (board_at sh tray i) (accepted (finding_of sh (board_at sh tray i))) (mutant i l))

    each : (i : ℕ) → i < boards → get_or results i 0 ≡ result_of (finding_of sh (board_at sh tray i)).first
    each i l =
        ap (λ (r : List ℕ). get_or r i 0) t.is
        ∙ get_or-map-below (λ (b : List ℕ). result_of (first_failed_of sh b)) (boards_in boards (length (slots sh)) tray) i 0 [] (rw (boards-many boards (length (slots sh)) tray) l)
        ∙ ap (λ (b : List ℕ). result_of (first_failed_of sh b)) (boards-at boards (length (slots sh)) tray i l)
