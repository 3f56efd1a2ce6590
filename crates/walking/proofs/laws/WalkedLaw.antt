-- 02's Point 8, of whole walks, call by call.
use Rattle.std.specs.Prelude.{◌≡◌, ◌⊎◌, ◌∷◌, ◌++◌}
use Rattle.lists.specs.Proving.{ℕ, refl, sym, ◌∙◌, ap, subst, inl, inr, ⊎_elim, List, [], length, append_snoc, never}
use mathlib.Core.List.Memᴰ
use mathlib.Core.List.{map, append_assoc, append-nil, Memᴰ}
use Rattle.lists.specs.Lists.{All, Ascending, Before}
use Rattle.lists.specs.laws.AllLaw.{all-imp, all-mem}
use Rattle.sheet.specs.Sheet.{Sheet}
use Rattle.sheet.specs.Reading.{with_tests}
use Rattle.sheet.specs.laws.AcceptedLaw.{well-formed}
use Rattle.sheet.specs.laws.RowLaw.{before-trans}
use Rattle.model.specs.Mutant.{slots, IsMutant}
use Rattle.model.specs.Suite.{Passes, compare_of}
use Rattle.model.specs.Longer.{with_test}
use Rattle.model.specs.Verdict.{ComparedMeans}
use Rattle.model.specs.Walk.{Standing, start, after, end, Later, rest, departing}
use Rattle.model.specs.Walk.{Taken as Next}
use Rattle.model.proofs.laws.JudgeLaw.{compared}
use Rattle.model.proofs.laws.LongerLaw.{slots-longer, mutant-longer, mutant-shorter, compare-longer, passes-fewer}
use Rattle.model.proofs.laws.WalkLaw.{rest-remains, remains-rest, rest-ascending, ascending-once, every-once, rest_end, rest-tail, judge-walks}
use Rattle.walking.specs.Walked.{Call, took, added, Walk, walk_at, place_after, leaves, Chained, left, shown, taken_in, mutants_in, test_of, tests_in, first_departing, History, mutants_of, taken_of, longer, left_by, EveryWalk, WholeWalk, RestOfWalk, GivesEnd}
use Rattle.walking.proofs.laws.TurnLaw.{Stands, Turn, stays, ends, goes, turned, stands_on, end-given, Outcome, keeps, grows, grow}

-- ---- with no test added: those taken, then the rest from the place left
pub rest-walked : {sh : Sheet} {n : ℕ} (w : Walk) → Stands sh n w → (calls : List Call) → Chained n w calls → tests_in calls ≡ [] → mutants_in n calls ++ rest sh (left n w calls).place ≡ rest sh w.place
unfolding Chained left taken_in tests_in
rest-walked w st [] ch e = refl
rest-walked {sh} {n} w st (took t ∷ calls) ch e =
    let u = turned st t ch.0 in go u (rest-walked (leaves n w (took t)) (stands_on st t u) calls ch.1 e)
  where
    place : Standing
    place = place_after n w.place t.answer t.new_board

    final : List (List ℕ)
    final = rest sh (left n (walk_at w.sheet place) calls).place

    go : Turn sh n w.place t → mutants_in n calls ++ final ≡ rest sh place →
        map (λ (x : Next). x.mutant) (shown n t.answer t.new_board t.new_sequence ++ taken_in n calls) ++ final ≡ rest sh w.place
    go (stays f g) ih = rw g (ih ∙ ap (rest sh) f)
    go (ends r f g) ih = rw g (ih ∙ ap (rest sh) f ∙ rest_end sh ∙ sym r)
    go (goes b bs r f g) ih = rw g (ap (λ (l : List (List ℕ)). b ∷ l) (ih ∙ ap (rest sh) f ∙ rest-tail sh w.place b bs r) ∙ sym r)
rest-walked {sh} {n} w st (added a ∷ calls) ch e = go (grow st a ch.0) (λ s'. rest-walked (leaves n w (added a)) s' calls ch.1)
  where
    go : Outcome sh n w a → (Stands sh n (leaves n w (added a)) → tests_in calls ≡ [] → mutants_in n calls ++ rest sh (left n (leaves n w (added a)) calls).place ≡ rest sh w.place) →
        mutants_in n calls ++ rest sh (left n (leaves n w (added a)) calls).place ≡ rest sh w.place
    go (keeps g s') ih = ih s' (rw g at e)
    go (grows g s') ih = let none-added : a.presses ∷ tests_in calls ≡ [] = rw g at e in never (cc)

-- ---- with tests added: the sheet and the place left
tests-more : (sh : Sheet) (xs : List ℕ) (ts : List (List ℕ)) → (sh.tests ++ xs ∷ []) ++ ts ≡ sh.tests ++ (xs ∷ ts)
tests-more sh xs ts = append_snoc sh.tests xs ts

pub walked-stands : {sh : Sheet} {n : ℕ} (w : Walk) → Stands sh n w → (calls : List Call) → Chained n w calls → Stands (longer sh calls) n (left n w calls)
unfolding Chained left tests_in
walked-stands {sh} {n} w st [] ch = subst (λ (ts : List (List ℕ)). Stands (with_tests sh ts) n w) (sym (append-nil sh.tests)) st
walked-stands {sh} {n} w st (took t ∷ calls) ch = walked-stands (leaves n w (took t)) (stands_on st t (turned st t ch.0)) calls ch.1
walked-stands {sh} {n} w st (added a ∷ calls) ch = go (grow st a ch.0) (λ (sh' : Sheet) s'. walked-stands {sh = sh'} (leaves n w (added a)) s' calls ch.1)
  where
    final : Walk
    final = left n (leaves n w (added a)) calls

    go : Outcome sh n w a → ((sh' : Sheet) → Stands sh' n (leaves n w (added a)) → Stands (longer sh' calls) n final) →
        Stands (with_tests sh (sh.tests ++ (test_of a.answer a.presses ++ tests_in calls))) n final
    go (keeps g s') ih = subst (λ (ts : List (List ℕ)). Stands (with_tests sh (sh.tests ++ (ts ++ tests_in calls))) n final) (sym g) (ih sh s')
    go (grows g s') ih =
        subst (λ (ts : List (List ℕ)). Stands (with_tests sh (sh.tests ++ (ts ++ tests_in calls))) n final) (sym g)
        (subst (λ (ts : List (List ℕ)). Stands (with_tests sh ts) n final) (tests-more sh a.presses (tests_in calls)) (ih (with_test sh a.presses) s'))

-- ---- those taken
-- what stands after a mutant after the place stands after the place
onward : (place : Standing) (b c : List ℕ) → Later place b → Before b c → Later place c
onward start b c h k = tt
onward (after l) b c h k = before-trans l b c h k
onward end b c h k = h

-- they stand after the place, in dictionary order
pub walked-later : {sh : Sheet} {n : ℕ} (w : Walk) → Stands sh n w → (calls : List Call) → Chained n w calls → All (Later w.place) (mutants_in n calls) × Ascending Before (mutants_in n calls)
unfolding Chained left taken_in Ascending
walked-later w st [] ch = (tt, tt)
walked-later {sh} {n} w st (took t ∷ calls) ch =
    let u = turned st t ch.0 in go u (walked-later (leaves n w (took t)) (stands_on st t u) calls ch.1)
  where
    place : Standing
    place = place_after n w.place t.answer t.new_board

    go : Turn sh n w.place t → All (Later place) (mutants_in n calls) × Ascending Before (mutants_in n calls) →
        let ms = map (λ (x : Next). x.mutant) (shown n t.answer t.new_board t.new_sequence ++ taken_in n calls) in All (Later w.place) ms × Ascending Before ms
    go (stays f g) ih = rw g (subst (λ (p : Standing). All (Later p) (mutants_in n calls)) f ih.0, ih.1)
    go (ends r f g) ih =
        rw g (all-imp (Later w.place) (Later end) (λ c k. absurd k) (mutants_in n calls) (subst (λ (p : Standing). All (Later p) (mutants_in n calls)) f ih.0), ih.1)
    go (goes b bs r f g) ih =
        let h = (rest-remains sh w.place {b = b} (rw r (Memᴰ.head refl))).later in
        let more : All (Before b) (mutants_in n calls) = subst (λ (p : Standing). All (Later p) (mutants_in n calls)) f ih.0 in
        rw g ((h, all-imp (Later w.place) (Before b) (λ c k. onward w.place b c h k) (mutants_in n calls) more), (more, ih.1))
walked-later {sh} {n} w st (added a ∷ calls) ch = go (grow st a ch.0) (λ (sh' : Sheet) s'. walked-later {sh = sh'} (leaves n w (added a)) s' calls ch.1)
  where
    go : Outcome sh n w a → ((sh' : Sheet) → Stands sh' n (leaves n w (added a)) → All (Later w.place) (mutants_in n calls) × Ascending Before (mutants_in n calls)) →
        All (Later w.place) (mutants_in n calls) × Ascending Before (mutants_in n calls)
    go (keeps g s') ih = ih sh s'
    go (grows g s') ih = ih (with_test sh a.presses) s'

-- one of those taken: a mutant, with compare's answer
pub record Shows (sh : Sheet) (t : Next) : Type 0 where
  pub is : IsMutant sh t.mutant
  pub compares : t.compared ≡ compare_of sh t.mutant

shows-shorter : (sh : Sheet) (ts : List (List ℕ)) (t : Next) → Shows (with_tests sh ts) t → Shows sh t
shows-shorter sh ts t h = record { is = mutant-longer sh ts t.mutant h.is; compares = h.compares ∙ compare-longer sh ts t.mutant }

pub walked-shows : {sh : Sheet} {n : ℕ} (w : Walk) → Stands sh n w → (calls : List Call) → Chained n w calls → All (Shows sh) (taken_in n calls)
unfolding Chained taken_in
walked-shows w st [] ch = tt
walked-shows {sh} {n} w st (took t ∷ calls) ch =
    let u = turned st t ch.0 in go u (walked-shows (leaves n w (took t)) (stands_on st t u) calls ch.1)
  where
    go : Turn sh n w.place t → All (Shows sh) (taken_in n calls) → All (Shows sh) (shown n t.answer t.new_board t.new_sequence ++ taken_in n calls)
    go (stays f g) ih = rw g ih
    go (ends r f g) ih = rw g ih
    go (goes b bs r f g) ih = rw g (record { is = (rest-remains sh w.place {b = b} (rw r (Memᴰ.head refl))).is; compares = refl }, ih)
walked-shows {sh} {n} w st (added a ∷ calls) ch = go (grow st a ch.0) (λ (sh' : Sheet) s'. walked-shows {sh = sh'} (leaves n w (added a)) s' calls ch.1)
  where
    go : Outcome sh n w a → ((sh' : Sheet) → Stands sh' n (leaves n w (added a)) → All (Shows sh') (taken_in n calls)) → All (Shows sh) (taken_in n calls)
    go (keeps g s') ih = ih sh s'
    go (grows g s') ih =
        all-imp (Shows sh) (Shows (with_test sh a.presses)) (λ t h. shows-shorter sh (sh.tests ++ a.presses ∷ []) t h) (taken_in n calls) (ih (with_test sh a.presses) s')

-- ---- none is left out
mem-front : {b : List ℕ} (ts us : List (List ℕ)) → Memᴰ b ts → Memᴰ b (ts ++ us)
mem-front [] us m = absurd (Memᴰ.not-nil m)
mem-front (t ∷ ts) us m = ⊎_elim (λ e. Memᴰ.head e) (λ k. Memᴰ.tail (mem-front ts us k)) (Memᴰ.cases_cons m)

passes-first : (sh : Sheet) (ts : List (List ℕ)) (b : List ℕ) → Passes (with_tests sh (sh.tests ++ ts)) b → Passes sh b
passes-first sh ts b h = passes-fewer sh sh.tests (sh.tests ++ ts) (λ t m. mem-front sh.tests ts m) b h

-- a mutant after the place that passes the list as it is at last was taken, or stands after the place left
pub walked-every : {sh : Sheet} {n : ℕ} (w : Walk) → Stands sh n w → (calls : List Call) → Chained n w calls →
    (b : List ℕ) → IsMutant sh b → Passes (longer sh calls) b → Later w.place b → Memᴰ b (mutants_in n calls) ⊎ Later (left n w calls).place b
unfolding Chained left taken_in tests_in Ascending
walked-every w st [] ch b is ps h = inr h
walked-every {sh} {n} w st (took t ∷ calls) ch b is ps h =
    let u = turned st t ch.0 in go u (walked-every (leaves n w (took t)) (stands_on st t u) calls ch.1 b is ps)
  where
    place : Standing
    place = place_after n w.place t.answer t.new_board

    final : Standing
    final = (left n (walk_at w.sheet place) calls).place

    here : Memᴰ b (rest sh w.place)
    here = remains-rest sh w.place (record { is = is; passes = passes-first sh (tests_in calls) b ps; later = h })

    go : Turn sh n w.place t → (Later place b → Memᴰ b (mutants_in n calls) ⊎ Later final b) →
        Memᴰ b (map (λ (x : Next). x.mutant) (shown n t.answer t.new_board t.new_sequence ++ taken_in n calls)) ⊎ Later final b
    go (stays f g) ih = rw g (ih (rw f h))
    go (ends r f g) ih = absurd (Memᴰ.not-nil (subst (Memᴰ b) r here))
    go (goes c cs r f g) ih =
        let up : All (Before c) cs × Ascending Before cs = subst (Ascending Before) r (rest-ascending sh w.place) in
        rw g
        (⊎_elim (λ e. inl (Memᴰ.head e))
        (λ k. ⊎_elim (λ m. inl (Memᴰ.tail m)) (λ l. inr l) (ih (rw f (all-mem (Before c) cs b up.0 k))))
        (Memᴰ.cases_cons (subst (Memᴰ b) r here)))
walked-every {sh} {n} w st (added a ∷ calls) ch b is ps h = go (grow st a ch.0) (λ (sh' : Sheet) s'. walked-every {sh = sh'} (leaves n w (added a)) s' calls ch.1 b)
  where
    final : Standing
    final = (left n (leaves n w (added a)) calls).place

    go : Outcome sh n w a →
        ((sh' : Sheet) → Stands sh' n (leaves n w (added a)) → IsMutant sh' b → Passes (longer sh' calls) b → Later w.place b → Memᴰ b (mutants_in n calls) ⊎ Later final b) →
        Memᴰ b (mutants_in n calls) ⊎ Later final b
    go (keeps g s') ih = ih sh s' is (subst (λ (ts : List (List ℕ)). Passes (with_tests sh (sh.tests ++ (ts ++ tests_in calls))) b) g ps) h
    go (grows g s') ih =
        ih (with_test sh a.presses) s' (mutant-shorter sh (sh.tests ++ a.presses ∷ []) b is)
        (subst (λ (ts : List (List ℕ)). Passes (with_tests sh ts) b) (sym (tests-more sh a.presses (tests_in calls)))
        (subst (λ (ts : List (List ℕ)). Passes (with_tests sh (sh.tests ++ (ts ++ tests_in calls))) b) g ps)) h

-- ---- walks from the start
module _ {sh : Sheet} {s : List ℕ} {calls : List Call} (hi : History sh s calls) where
  begins : Stands sh (length (slots sh)) (walk_at s start)
  begins = record { reads = hi.reads; many = refl; last = tt }

  all-mutants : (ts : List Next) → All (Shows sh) ts → All (IsMutant sh) (map (λ (t : Next). t.mutant) ts)
  all-mutants [] h = tt
  all-mutants (t ∷ ts) h = (h.0.is, all-mutants ts h.1)

  compared-means : (t : Next) → Shows sh t → ComparedMeans sh t.mutant t.compared
  compared-means t h = rw h.compares (compared sh (well-formed s sh hi.reads) t.mutant)

  -- of every walk
  pub every-walk : EveryWalk sh s calls
  every-walk =
      let stands = walked-stands (walk_at s start) begins calls hi.chained in
      let shows = walked-shows (walk_at s start) begins calls hi.chained in
      record {
        sheet = stands.reads;
        last = stands.last;
        ascend = (walked-later (walk_at s start) begins calls hi.chained).1;
        mutants = all-mutants (taken_of sh calls) shows;
        compared = all-imp (λ (t : Next). ComparedMeans sh t.mutant t.compared) (Shows sh) compared-means (taken_of sh calls) shows;
        every = λ b is ps.
            ⊎_elim (λ m. inl m) (λ l. inr (record { is = mutant-shorter sh (sh.tests ++ tests_in calls) b is; passes = ps; later = l }))
            (walked-every (walk_at s start) begins calls hi.chained b is ps tt);
      }

  departing-first : (ts : List Next) → All (Shows sh) ts → departing sh (map (λ (t : Next). t.mutant) ts) ≡ first_departing ts
  unfolding departing first_departing
  departing-first [] h = refl
  departing-first (t ∷ ts) h = rw (h.0.compares, departing-first ts h.1) refl

  -- over a walk to its end with no test added
  pub whole-walk : tests_in calls ≡ [] → (left_by sh s calls).place ≡ end → WholeWalk sh calls
  whole-walk none-added ended =
      let all : mutants_of sh calls ≡ rest sh start =
      sym (append-nil (mutants_of sh calls)) ∙ ap (λ (l : List (List ℕ)). mutants_of sh calls ++ l) (sym (ap (rest sh) ended ∙ rest_end sh))
      ∙ rest-walked (walk_at s start) begins calls hi.chained none-added in
      record {
        every = λ b is ps. rw all (every-once sh b is ps);
        only = λ b m. let r = rest-remains sh start {b = b} (subst (Memᴰ b) all m) in (r.is, r.passes);
        judge = judge-walks sh ∙ ap (departing sh) (sym all) ∙ departing-first (taken_of sh calls) (walked-shows (walk_at s start) begins calls hi.chained);
      }

-- ---- one part of a walk after another
chained-both : (n : ℕ) (w : Walk) (before calls : List Call) → Chained n w (before ++ calls) → Chained n w before × Chained n (left n w before) calls
unfolding Chained left
chained-both n w [] calls ch = (tt, ch)
chained-both n w (c ∷ before) calls ch = let r = chained-both n (leaves n w c) before calls ch.1 in ((ch.0, r.0), r.1)

left_both : (n : ℕ) (w : Walk) (before calls : List Call) → left n w (before ++ calls) ≡ left n (left n w before) calls
unfolding left
left_both n w [] calls = refl
left_both n w (c ∷ before) calls = left_both n (leaves n w c) before calls

map_both : (ts us : List Next) → map (λ (t : Next). t.mutant) (ts ++ us) ≡ map (λ (t : Next). t.mutant) ts ++ map (λ (t : Next). t.mutant) us
map_both [] us = refl
map_both (t ∷ ts) us = ap (λ (l : List (List ℕ)). t.mutant ∷ l) (map_both ts us)

taken-both : (n : ℕ) (before calls : List Call) → taken_in n (before ++ calls) ≡ taken_in n before ++ taken_in n calls
unfolding taken_in
taken-both n [] calls = refl
taken-both n (took t ∷ before) calls = rw (taken-both n before calls) (sym (append_assoc (shown n t.answer t.new_board t.new_sequence) (taken_in n before) (taken_in n calls)))
taken-both n (added a ∷ before) calls = taken-both n before calls

-- the calls after `before`, from where it left the walk
module _ {sh : Sheet} {s : List ℕ} (before calls : List Call) (hi : History sh s (before ++ calls)) where
  parts : Chained (length (slots sh)) (walk_at s start) before × Chained (length (slots sh)) (left_by sh s before) calls
  parts = chained-both (length (slots sh)) (walk_at s start) before calls hi.chained

  stands-there : Stands (longer sh before) (length (slots sh)) (left_by sh s before)
  stands-there = walked-stands (walk_at s start) (record { reads = hi.reads; many = refl; last = tt }) before parts.0

  -- boards already taken stand, and the rest is exactly the later boards that pass the longer list
  pub rest-of-walk : tests_in calls ≡ [] → (left_by sh s (before ++ calls)).place ≡ end → RestOfWalk sh s before calls
  rest-of-walk none-added ended =
      let n = length (slots sh) in
      let ended' : (left n (left_by sh s before) calls).place ≡ end = ap (λ (w : Walk). w.place) (sym (left_both n (walk_at s start) before calls)) ∙ ended in
      let all : mutants_of sh calls ≡ rest (longer sh before) (left_by sh s before).place =
      sym (append-nil (mutants_of sh calls)) ∙ ap (λ (l : List (List ℕ)). mutants_of sh calls ++ l) (sym (ap (rest (longer sh before)) ended' ∙ rest_end (longer sh before)))
      ∙ rest-walked (left_by sh s before) stands-there calls parts.1 none-added in
      record {
        stand = ap (map (λ (t : Next). t.mutant)) (taken-both n before calls) ∙ map_both (taken_in n before) (taken_in n calls);
        every = λ b r.
            rw all (ascending-once b (rest (longer sh before) (left_by sh s before).place) (rest-ascending (longer sh before) (left_by sh s before).place) (remains-rest (longer sh before) (left_by sh s before).place r));
        only = λ b m. rest-remains (longer sh before) (left_by sh s before).place {b = b} (subst (Memᴰ b) all m);
      }

-- ---- after the end
gives-shorter : (sh : Sheet) (ts : List (List ℕ)) (c : Call) → GivesEnd (with_tests sh ts) c → GivesEnd sh c
gives-shorter sh ts (took t) h = λ lb ls. h (rw (slots-longer sh ts) lb) ls
gives-shorter sh ts (added a) h = tt

ends-again : {sh : Sheet} {n : ℕ} (w : Walk) → Stands sh n w → w.place ≡ end → (calls : List Call) → Chained n w calls → All (GivesEnd sh) calls
unfolding Chained
ends-again w st e [] ch = tt
ends-again {sh} {n} w st e (took t ∷ calls) ch =
    let u = turned st t ch.0 in
    (λ lb ls. end-given st e t ch.0 lb ls, ends-again (leaves n w (took t)) (stands_on st t u) (go u) calls ch.1)
  where
    go : Turn sh n w.place t → place_after n w.place t.answer t.new_board ≡ end
    go (stays f g) = f ∙ e
    go (ends r f g) = f
    go (goes b bs r f g) = let none_left : b ∷ bs ≡ [] = sym r ∙ ap (rest sh) e ∙ rest_end sh in never (cc)
ends-again {sh} {n} w st e (added a ∷ calls) ch = (tt, go (grow st a ch.0) (λ (sh' : Sheet) s'. ends-again {sh = sh'} (leaves n w (added a)) s' e calls ch.1))
  where
    go : Outcome sh n w a → ((sh' : Sheet) → Stands sh' n (leaves n w (added a)) → All (GivesEnd sh') calls) → All (GivesEnd sh) calls
    go (keeps g s') ih = ih sh s'
    go (grows g s') ih =
        all-imp (GivesEnd sh) (GivesEnd (with_test sh a.presses)) (λ c h. gives-shorter sh (sh.tests ++ a.presses ∷ []) c h) calls (ih (with_test sh a.presses) s')

-- 02: after the end a take gives the end again, test added or not
pub end-again : {sh : Sheet} {s : List ℕ} (before calls : List Call) → History sh s (before ++ calls) → (left_by sh s before).place ≡ end → All (GivesEnd sh) calls
end-again {sh} {s} before calls hi ended =
    all-imp (GivesEnd sh) (GivesEnd (longer sh before)) (λ c h. gives-shorter sh (sh.tests ++ tests_in before) c h) calls
    (ends-again (left_by sh s before) (stands-there before calls hi) ended calls (parts before calls hi).1)
