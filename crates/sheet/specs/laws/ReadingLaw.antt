-- How one command of a sheet goes on or stops, and the one induction over a whole reading.
use Rattle.std.specs.Prelude.{◌≡◌, Bool, cond, not, List, [], ◌∷◌, leb}
use Rattle.std.proofs.Math.Path.{refl}
use Rattle.std.proofs.Common.{subst}
use Rattle.std.proofs.Math.Bool.{true, false}
use Prim.Native.Nat.{ℕ, zero, suc, ◌+◌, ◌<◌, ◌≤◌}
use native.Mathlib.Omega.{arith}
use Rattle.std.proofs.Math.ListN.{length, get_or}
use Rattle.std.proofs.Math.Dec.{ltb, eqb}
use borrow.Author.Tests.{leb-true, leb-false, ltb-true, ltb-false, eqb-true, eqb-false, ne_eqb, not-false}
use Rattle.sheet.specs.Sheet.{Sheet, all_reached, open_slots}
use Rattle.sheet.specs.Reading.{accepted, refused, Reading, Command, size, quiet, rule, fault, start, test, press, end, Progress, Outcome, go, stop, unsized, sized, quieted, ruled, faulted, started, testing, during, allowed, width, row_at, size_at, first_broken, refusal, advance, refuse_or, finishing, doing, one_command, resume, from, blank, reading}
use Rattle.lists.specs.laws.TestLaw.{never, both}
use Rattle.sheet.specs.laws.BrokenLaw.{broken-most, unbroken}

-- a command with the byte b stands at a place, in one of its phases, with its operands, and breaks no rule
pub record Stands (p : Progress) (s : List ℕ) (at b earliest latest : ℕ) (c : Command) : Type 0 where
  pub byte : get_or s at 0 ≡ b
  pub early : earliest ≤ p.phase
  pub late : p.phase ≤ latest
  pub room : at + width b ≤ length s
  pub right : refusal p.sheet c ≡ 0

-- the progress with one command more
abbrev pub next : Progress → ℕ → Command → Progress
next p phase c = record { phase = phase; sheet = advance p.sheet c }

-- the ways in which one command leads on
pub data Moves (p : Progress) (s : List ℕ) (at : ℕ) : Progress → ℕ → Type 0 where
  by_size : Stands p s at 1 unsized unsized (size (size_at s at)) → Moves p s at (next p sized (size (size_at s at))) (at + 4)
  by-quiet : Stands p s at 8 sized sized quiet → Moves p s at (next p quieted quiet) (at + 1)
  by-rule : Stands p s at 2 sized ruled (rule (row_at s at)) → Moves p s at (next p ruled (rule (row_at s at))) (at + 5)
  by-fault : Stands p s at 3 sized faulted (fault (row_at s at)) → Moves p s at (next p faulted (fault (row_at s at))) (at + 5)
  by-start : Stands p s at 7 sized started (start (get_or s (at + 1) 0)) → Moves p s at (next p started (start (get_or s (at + 1) 0))) (at + 2)
  by-test : Stands p s at 4 sized testing test → Moves p s at (next p testing test) (at + 1)
  by-press : Stands p s at 5 testing testing (press (get_or s (at + 1) 0)) → Moves p s at (next p testing (press (get_or s (at + 1) 0))) (at + 2)

-- a number of 01's list, at a place of the sheet or its end
pub record Refuses (s : List ℕ) (number place : ℕ) : Type 0 where
  pub some : 1 ≤ number
  pub listed : number ≤ 12
  pub inside : place ≤ length s

-- END stands here
abbrev pub Ends : Progress → List ℕ → ℕ → Type 0
Ends p s at = Stands p s at 6 sized testing end

-- all ways in which one command ends
pub data Case (p : Progress) (s : List ℕ) (at : ℕ) : Outcome → Type 0 where
  moves : (q : Progress) (e : ℕ) → Moves p s at q e → Case p s at (go q e)
  ends : Ends p s at → Case p s at (stop (finishing p.sheet s at))
  refuses : (number place : ℕ) → Refuses s number place → Case p s at (stop (refused number place))

refusal-most : (sh : Sheet) (c : Command) → refusal sh c ≤ 12
unfolding refusal
refusal-most sh (size z) = broken-most 12 _ (omega arith, tt)
refusal-most sh quiet = omega arith
refusal-most sh (rule r) = broken-most 12 _ (omega arith, (omega arith, tt))
refusal-most sh (fault r) = broken-most 12 _ (omega arith, (omega arith, (omega arith, (omega arith, tt))))
refusal-most sh (start t) = broken-most 12 _ (omega arith, (omega arith, (omega arith, tt)))
refusal-most sh test = broken-most 12 _ (omega arith, tt)
refusal-most sh (press x) = broken-most 12 _ (omega arith, (omega arith, (omega arith, tt)))
refusal-most sh end = omega arith

-- QUIET and END themselves break no rule
pub refusal-quiet : (sh : Sheet) → refusal sh quiet ≡ 0
unfolding refusal
refusal-quiet sh = refl

pub refusal-end : (sh : Sheet) → refusal sh end ≡ 0
unfolding refusal
refusal-end sh = refl

data Known : ℕ → Type 0 where
  k1 : Known 1
  k2 : Known 2
  k3 : Known 3
  k4 : Known 4
  k5 : Known 5
  k6 : Known 6
  k7 : Known 7
  k8 : Known 8

known : (phase b : ℕ) → allowed phase b ≡ true → Known b
known phase zero h = never (cc)
known phase (suc zero) h = k1
known phase (suc (suc zero)) h = k2
known phase (suc (suc (suc zero))) h = k3
known phase (suc (suc (suc (suc zero)))) h = k4
known phase (suc (suc (suc (suc (suc zero))))) h = k5
known phase (suc (suc (suc (suc (suc (suc zero)))))) h = k6
known phase (suc (suc (suc (suc (suc (suc (suc zero))))))) h = k7
known phase (suc (suc (suc (suc (suc (suc (suc (suc zero)))))))) h = k8
known phase (suc (suc (suc (suc (suc (suc (suc (suc (suc b))))))))) h =
    let b' : ℕ = suc (suc (suc (suc (suc (suc (suc (suc (suc b)))))))) in
    let no_byte : allowed phase b' ≡ false = simp (
      ne_eqb b' 1 (λ q. omega arith),
      ne_eqb b' 2 (λ q. omega arith),
      ne_eqb b' 3 (λ q. omega arith),
      ne_eqb b' 4 (λ q. omega arith),
      ne_eqb b' 5 (λ q. omega arith),
      ne_eqb b' 6 (λ q. omega arith),
      ne_eqb b' 7 (λ q. omega arith),
      ne_eqb b' 8 (λ q. omega arith),
    ) in
    never (cc)

-- a command byte that may stand somewhere is one of the eight
pub known-range : (phase b : ℕ) → allowed phase b ≡ true → (1 ≤ b) × (b ≤ 8)
known-range phase b h = one (known phase b h)
  where
    one : {n : ℕ} → Known n → (1 ≤ n) × (n ≤ 8)
    one k1 = (omega arith, omega arith)
    one k2 = (omega arith, omega arith)
    one k3 = (omega arith, omega arith)
    one k4 = (omega arith, omega arith)
    one k5 = (omega arith, omega arith)
    one k6 = (omega arith, omega arith)
    one k7 = (omega arith, omega arith)
    one k8 = (omega arith, omega arith)

module _ (p : Progress) (s : List ℕ) (at : ℕ) where
  stands : (b earliest latest : ℕ) (c : Command) → get_or s at 0 ≡ b → during earliest latest p.phase ≡ true → at + width b ≤ length s
      → refusal p.sheet c ≡ 0 → Stands p s at b earliest latest c
  stands b earliest latest c e d k r =
      let t = both (leb earliest p.phase) (leb p.phase latest) d in
      record { byte = e; early = leb-true _ _ t.0; late = leb-true _ _ t.1; room = k; right = r }

  judged : (q : Progress) (e : ℕ) (c : Command) → at ≤ length s → (refusal p.sheet c ≡ 0 → Moves p s at q e)
      → (t : Bool) → eqb (refusal p.sheet c) 0 ≡ t → Case p s at (cond t (go q e) (stop (refused (refusal p.sheet c) at)))
  judged q e c k m true z = moves q e (m (eqb-true _ _ z))
  judged q e c k m false z =
      let some = eqb-false (refusal p.sheet c) 0 z in
      refuses (refusal p.sheet c) at (record { some = omega arith; listed = refusal-most p.sheet c; inside = k })

  done : (b : ℕ) → Known b → get_or s at 0 ≡ b → allowed p.phase b ≡ true → at + width b ≤ length s → Case p s at (doing p s at b)
  unfolding doing
  done b k1 e a k = judged _ _ (size (size_at s at)) (omega arith) (λ r. by_size (stands 1 _ _ _ e a k r)) _ refl
  done b k2 e a k = judged _ _ (rule (row_at s at)) (omega arith) (λ r. by-rule (stands 2 _ _ _ e a k r)) _ refl
  done b k3 e a k = judged _ _ (fault (row_at s at)) (omega arith) (λ r. by-fault (stands 3 _ _ _ e a k r)) _ refl
  done b k4 e a k = judged _ _ test (omega arith) (λ r. by-test (stands 4 _ _ _ e a k r)) _ refl
  done b k5 e a k = judged _ _ (press (get_or s (at + 1) 0)) (omega arith) (λ r. by-press (stands 5 _ _ _ e a k r)) _ refl
  done b k6 e a k = ends (stands 6 _ _ end e a k (refusal-end p.sheet))
  done b k7 e a k = judged _ _ (start (get_or s (at + 1) 0)) (omega arith) (λ r. by-start (stands 7 _ _ _ e a k r)) _ refl
  done b k8 e a k = judged _ _ quiet (omega arith) (λ r. by-quiet (stands 8 _ _ _ e a k r)) _ refl

  -- every outcome of one command is one of these
  pub case : Case p s at (one_command p s at)
  unfolding one_command
  case = here (leb (length s) at) refl
    where
      b : ℕ
      b = get_or s at 0

      whole : allowed p.phase b ≡ true → at ≤ length s → (t : Bool) → ltb (length s) (at + width b) ≡ t → Case p s at (cond t (stop (refused 2 at)) (doing p s at b))
      whole a k true e = refuses 2 at (record { some = omega arith; listed = omega arith; inside = k })
      whole a k false e = done b (known p.phase b a) refl a (ltb-false _ _ e)

      follows : at ≤ length s → (t : Bool) → allowed p.phase b ≡ t
          → Case p s at (cond (not t) (stop (refused 3 at)) (cond (ltb (length s) (at + width b)) (stop (refused 2 at)) (doing p s at b)))
      follows k true e = whole e k (ltb (length s) (at + width b)) refl
      follows k false e = refuses 3 at (record { some = omega arith; listed = omega arith; inside = k })

      here : (t : Bool) → leb (length s) at ≡ t
          → Case p s at (cond t (stop (refused 2 (length s))) (cond (not (allowed p.phase b)) (stop (refused 3 at)) (cond (ltb (length s) (at + width b)) (stop (refused 2 at)) (doing p s at b))))
      here true e = refuses 2 (length s) (record { some = omega arith; listed = omega arith; inside = omega arith })
      here false e = let k = leb-false (length s) at e in follows (omega arith) (allowed p.phase b) refl

-- a command takes a byte at least, and bytes of the sheet
pub moves-on : {p : Progress} {s : List ℕ} {at : ℕ} {q : Progress} {e : ℕ} → Moves p s at q e → (at < e) × (e ≤ length s)
moves-on (by_size h) = let k = h.room in (omega arith, omega arith)
moves-on (by-quiet h) = let k = h.room in (omega arith, omega arith)
moves-on (by-rule h) = let k = h.room in (omega arith, omega arith)
moves-on (by-fault h) = let k = h.room in (omega arith, omega arith)
moves-on (by-start h) = let k = h.room in (omega arith, omega arith)
moves-on (by-test h) = let k = h.room in (omega arith, omega arith)
moves-on (by-press h) = let k = h.room in (omega arith, omega arith)

-- the END of an accepted sheet, with what the invariant says there
pub record Accepting (Inv : Progress → ℕ → Type 0) (s : List ℕ) (sh : Sheet) : Type 0 where
  pub phase : ℕ
  pub at : ℕ
  pub holds : Inv (record { phase = phase; sheet = sh }) at
  pub ending : Ends (record { phase = phase; sheet = sh }) s at
  pub whole : length s ≤ at + 1
  pub reached : all_reached sh ≡ true
  pub few-open : open_slots sh ≤ 32

-- all ways in which a reading ends
pub data Ending (Inv : Progress → ℕ → Type 0) (s : List ℕ) : Reading → Type 0 where
  accepts : (sh : Sheet) → Accepting Inv s sh → Ending Inv s (accepted sh)
  rejects : (number place : ℕ) → Refuses s number place → Ending Inv s (refused number place)

-- the tests at END, with their numbers
abbrev pub checks : Sheet → List (Bool × ℕ)
checks sh = (not (all_reached sh), 11) ∷ (ltb 32 (open_slots sh), 12) ∷ []

module _ (Inv : Progress → ℕ → Type 0) (s : List ℕ) where
  finish : (p : Progress) (at : ℕ) → Inv p at → Ends p s at → Ending Inv s (finishing p.sheet s at)
  unfolding finishing
  finish p at i h = more (ltb (at + 1) (length s)) refl
    where
      met : length s ≤ at + 1 → (t : Bool) → eqb (first_broken (checks p.sheet)) 0 ≡ t → Ending Inv s (cond t (accepted p.sheet) (refused (first_broken (checks p.sheet)) at))
      met k true e =
          let u = unbroken (checks p.sheet) (omega arith, (omega arith, tt)) (eqb-true _ _ e) in
          accepts p.sheet (record { phase = p.phase; at = at; holds = i; ending = h; whole = k; reached = not-false _ u.0; few-open = ltb-false _ _ u.1.0 })
      met k false e =
          let some = eqb-false (first_broken (checks p.sheet)) 0 e in
          let room = h.room in
          rejects (first_broken (checks p.sheet)) at (record { some = omega arith; listed = broken-most 12 (checks p.sheet) (omega arith, (omega arith, tt)); inside = omega arith })

      more : (t : Bool) → ltb (at + 1) (length s) ≡ t
          → Ending Inv s (cond t (refused 10 (at + 1)) (refuse_or (first_broken (checks p.sheet)) at (accepted p.sheet)))
      more true e = let k = ltb-true (at + 1) (length s) e in rejects 10 (at + 1) (record { some = omega arith; listed = omega arith; inside = omega arith })
      more false e = met (ltb-false _ _ e) (eqb (first_broken (checks p.sheet)) 0) refl

  module _ (on : (p q : Progress) (at e : ℕ) → Inv p at → Moves p s at q e → Inv q e) where
    ending-from : (fuel : ℕ) (p : Progress) (at : ℕ) → length s < fuel + at → at ≤ length s → Inv p at → Ending Inv s (from fuel p s at)
    unfolding from
    ending-from zero p at k h i = absurd (omega arith)
    ending-from (suc fuel) p at k h i = one (one_command p s at) (case p s at) (λ q e. ending-from fuel q e)
      where
        one : (o : Outcome) → Case p s at o → ((q : Progress) (e : ℕ) → length s < fuel + e → e ≤ length s → Inv q e → Ending Inv s (from fuel q s e))
            → Ending Inv s (resume o (λ q e. from fuel q s e))
        one o (moves q e m) rest = let far = moves-on m in rest q e (omega arith) far.1 (on p q at e i m)
        one o (ends z) rest = finish p at i z
        one o (refuses number place r) rest = rejects number place r

    -- the induction: an invariant that the blank progress meets and that every command keeps holds at the END of an accepted sheet
    pub ending : Inv blank 0 → Ending Inv s (reading s)
    unfolding reading
    ending i = one (ltb 16384 (length s)) refl
      where
        one : (t : Bool) → ltb 16384 (length s) ≡ t → Ending Inv s (cond t (refused 1 16384) (from (length s + 1) blank s 0))
        one true e = let k = ltb-true 16384 (length s) e in rejects 1 16384 (record { some = omega arith; listed = omega arith; inside = omega arith })
        one false e = ending-from (length s + 1) blank 0 (omega arith) (omega arith) i

    -- the same for an accepted sheet
    pub accepting : (sh : Sheet) → Inv blank 0 → reading s ≡ accepted sh → Accepting Inv s sh
    accepting sh i = one (reading s) (ending i)
      where
        one : (r : Reading) → Ending Inv s r → r ≡ accepted sh → Accepting Inv s sh
        one r (accepts q a) e = let same : q ≡ sh = cc in subst (λ (x : Sheet). Accepting Inv s x) same a
        one r (rejects number place a) e = never (cc)
