-- From survivor to survivor.
use Rattle.std.specs.Prelude.{Option as Maybe, Some, None, Result as Answer, Ok, Err, IsOk, IsErr}
use Prim.Native.Nat.{ℕ, zero, suc, ◌+◌, ◌*◌, ◌≤◌, ◌<◌}
use native.Mathlib.Nat.{mul-le-mul}
use native.Mathlib.Omega.{arith}
use mathlib.Core.Path.{◌≡◌, refl, sym, ◌∙◌, ap, subst}
use mathlib.Core.Bool.{Bool, true, false, cond}
use mathlib.Core.Logic.{◌⊎◌, inl, inr, ⊎_elim}
use mathlib.Core.List.{List, [], ◌∷◌, ◌++◌}
use borrow.Author.Tests.{leb-true, leb-false, ne_eqb}
use lib.ListN.{length, take, replicate, length-append}
use Rattle.lists.specs.laws.TestLaw.{never}
use Rattle.sheet.specs.Sheet.{Sheet}
use Rattle.sheet.specs.Encode.{encode}
use Rattle.sheet.specs.Reading.{Result, refused}
use Rattle.model.specs.Machine.{DistinguishesFrom}
use Rattle.model.specs.Suite.{survivor, judge_of}
use Rattle.model.specs.Log.{Observation, reset, test_log}
use Rattle.model.specs.Mutant.{rule}
use Rattle.model.specs.Longer.{with_test}
use Rattle.model.specs.Making.{Grown}
use Rattle.model.specs.Verdict.{ShortestOf}
use Rattle.model.proofs.laws.JudgeLaw.{judge-none, judged-survivor}
use Rattle.model.proofs.laws.LongerLaw.{encode-longer, shortest-test}
use Rattle.model.proofs.laws.MakingLaw.{grow-complete, grow-more, grow-full}
use Rattle.block.specs.Layout.{states_of}
use Rattle.block.specs.Tabulated.{Wf}
use Rattle.block.specs.laws.TabledLaw.{well-formed}
use Rattle.cubes.specs.declared.goal.Goal.TheVariants.{Nonconforming}
use Rattle.refutation.specs.Lent.{StoreOk, Entry}
use Rattle.refutation.specs.Refuting.{Ready}
use Rattle.search.specs.Search.{ForSheet, mutant_in}
use Rattle.clearing.specs.Sweep.{AllCleared, Swept}
use Rattle.clearing.specs.Looking.{Found}
use Rattle.clearing.specs.laws.SurvivorLaw.{survivor-judged, swept-first}
use Rattle.search.specs.declared.settle.GaveUp.{GaveUp}
use Rattle.sweep.specs.Outcomes.{OutcomeOk}
use Rattle.sweep.specs.laws.GrowingLaw.{swept-longer, store-longer}
use Rattle.making.specs.declared.grow.Growth.{Growth}
use Rattle.making.specs.words.Growing.{Held, Fits, GrowingIn, Complete, fitting, longer_by}
use Rattle.making.proofs.AppendLaw.{suite-longer, encode-long, body-length}

-- ---- what a sweep answers that does not give up
pub found_out : {A E : Type 0} (r : Answer A E) → (IsErr r → ⊥) → IsOk r
found_out (Ok a) h = refl
found_out (Err e) h = absurd (h refl)

pub none-left : (o : Maybe ℕ) → ((d : ℕ) → o ≡ Some d → ⊥) → o ≡ None
none-left None h = refl
none-left (Some d) h = absurd (h d refl)

-- ---- whether a test fits
fits-means : (room end d : ℕ) → fitting room end d ≡ true → (0 < room) × (end + 2 + 2 * d ≤ 16384)
fits-means zero end d e = never (cc)
fits-means (suc room) end d e = (omega arith, leb-true _ _ (rw (ne_eqb (suc room) 0 (λ z. omega arith)) at e))

full-means : (room end d : ℕ) → fitting room end d ≡ false → (room ≡ 0) ⊎ (16384 < end + 2 + 2 * d)
full-means zero end d e = inl refl
full-means (suc room) end d e = inr (leb-false _ _ (rw (ne_eqb (suc room) 0 (λ z. omega arith)) at e))

-- ---- what is known at each survivor
-- what is to be made is what becomes of a sheet, and no mutant of it before p survives
pub record At (result : Result Grown) (m bytes log p blame : List ℕ) (g : Growth) : Type 0 where
  pub sheet : Sheet
  pub growing : GrowingIn result sheet m bytes log g
  pub swept : Swept sheet m p blame

module _ {result : Result Grown} {m bytes log p blame : List ℕ} {g : Growth} (at : At result m bytes log p blame g) where
  -- the suite is complete
  pub complete-at : AllCleared at.sheet → Complete result bytes g.end g.appended
  complete-at all =
      record {
        sheet = at.sheet;
        is = at.growing.leads ∙ grow-complete g.room g.appended at.sheet (judge-none at.sheet (λ b is passes. all b is passes));
        spelled = at.growing.held.spelled;
        short = at.growing.held.short;
        long = at.growing.held.long;
      }

  module _ {d : ℕ} {buffer : List ℕ} (found : Found at.sheet (mutant_in at.sheet p) d buffer) where
    judged : judge_of at.sheet ≡ survivor (mutant_in at.sheet p) found.inputs
    judged = survivor-judged at.growing.held.suite.tabled at.swept found

    shortest : ShortestOf at.sheet (mutant_in at.sheet p) found.inputs
    shortest = (judged-survivor at.sheet at.growing.held.suite.tabled.formed (mutant_in at.sheet p) found.inputs judged).1

    long-then : length (encode (with_test at.sheet found.inputs)) ≡ g.end + 2 + 2 * d
    long-then = omega (arith, encode-longer at.sheet found.inputs, encode-long at.sheet, body-length at.growing.held, found.long)

    -- its sequence does not fit
    pub full_at : fitting g.room g.end d ≡ false → result ≡ refused 18 0
    full_at e =
        at.growing.leads
        ∙ grow-full g.room g.appended at.sheet (mutant_in at.sheet p) found.inputs judged
        (⊎_elim (λ z. inl z) (λ l. inr (omega (arith, long-then))) (full-means g.room g.end d e))

    pub short-at : d ≤ 256
    short-at =
        let few = at.growing.held.suite.tabled.formed.size.states.few in
        omega (arith, found.long, shortest.short, mul-le-mul few few)

    module _ (fits : fitting g.room g.end d ≡ true) where
      room : (0 < g.room) × (g.end + 2 + 2 * d ≤ 16384)
      room = fits-means g.room g.end d fits

      -- it fits
      pub fits-at : Fits at.sheet (take d buffer) g.end
      unfolding DistinguishesFrom
      fits-at =
          rw found.shown
          (record {
            test = shortest-test at.sheet (mutant_in at.sheet p) found.inputs at.growing.held.suite.tabled.formed shortest;
            defined = record { expected = shortest.distinguishes.0; specifies = shortest.distinguishes.1 };
            few = omega (arith, at.growing.tests, room.0);
            short = omega (arith, room.1, found.long);
          })

      module _ {bytes' log' : List ℕ} {observed : ℕ} (held : Held (with_test at.sheet (take d buffer)) m bytes' log' (g.end + 1 + 2 * length (take d buffer)) observed) where
        held_then : Held (with_test at.sheet found.inputs) m bytes' log' (g.end + 1 + 2 * d) observed
        held_then =
            let same = subst (λ (ys : List ℕ). Held (with_test at.sheet ys) m bytes' log' (g.end + 1 + 2 * length ys) observed) found.shown held in
            subst (λ (k : ℕ). Held (with_test at.sheet found.inputs) m bytes' log' (g.end + 1 + 2 * k) observed) (sym found.long) same

        -- and is appended
        pub at_more : At result m bytes' log' p blame (longer_by g d observed)
        at_more =
            record {
              sheet = with_test at.sheet found.inputs;
              growing = record {
                leads = at.growing.leads ∙ grow-more g.room g.appended at.sheet (mutant_in at.sheet p) found.inputs judged room.0 (omega (arith, long-then, room.1));
                tests = omega (arith, at.growing.tests, room.0, length-append at.sheet.tests (found.inputs ∷ []));
                few = omega (arith, at.growing.few, room.0);
                held = held_then;
              };
              swept = swept-longer at.sheet found.inputs at.swept;
            }

        -- what is stored stays true
        pub store-more : {store : List Entry} → StoreOk Nonconforming m (take g.observed log) store → StoreOk Nonconforming m (take observed log') store
        store-more ok =
            store-longer (reset ∷ test_log (rule at.sheet) 0 found.inputs)
            (held_then.suite.suite ∙ suite-longer at.sheet found.inputs ∙ ap (λ (l : List Observation). l ++ (reset ∷ test_log (rule at.sheet) 0 found.inputs)) (sym at.growing.held.suite.suite)) ok

-- ---- the loop
-- of every sheet that grows so, and there is one; the facts and what is stored; and how long everything is
pub record Turning (m : List ℕ) (r : Bool) (store₀ : List Entry) (bytes₀ log₀ : List ℕ) (from : Growth) (facts : List ℕ) (store : List Entry) (notes bytes log p blame sequence : List ℕ) (g : Growth) : Type 0 where
  pub some : (result : Result Grown) × At result m bytes log p blame g
  pub each : (result : Result Grown) (sh : Sheet) → GrowingIn result sh m bytes₀ log₀ from → At result m bytes log p blame g
  pub facts-long : length facts ≡ 1088
  pub ready : r ≡ true → Ready m facts
  pub ok : StoreOk Nonconforming m (take g.observed log) store
  pub same_store : length store ≡ length store₀
  pub notes-long : length notes ≡ 9856
  pub same_bytes : length bytes ≡ length bytes₀
  pub same_log : length log ≡ length log₀
  pub long : length sequence ≡ 256

at_first : {result : Result Grown} {sh : Sheet} {m bytes log p blame : List ℕ} {g : Growth} → GrowingIn result sh m bytes log g → p ≡ replicate 32 0 → blame ≡ replicate 32 0 → At result m bytes log p blame g
at_first {sh = sh} gr ep eb = record { sheet = sh; growing = gr; swept = rw (ep, eb) (swept-first gr.held.suite.tabled) }

pub turning-start : {m facts notes bytes log p blame sequence : List ℕ} {r : Bool} {store : List Entry} {g : Growth} →
    ((result : Result Grown) × (sh : Sheet) × GrowingIn result sh m bytes log g) × (length facts ≡ 1088) →
    (r ≡ true → Ready m facts) × StoreOk Nonconforming m (take g.observed log) store →
    length notes ≡ 9856 → p ≡ replicate 32 0 → blame ≡ replicate 32 0 → length sequence ≡ 256 → Turning m r store bytes log g facts store notes bytes log p blame sequence g
turning-start pre kept ln ep eb l =
    record {
      some = (pre.0.0, at_first pre.0.2 ep eb);
      each = λ result sh gr. at_first gr ep eb;
      facts-long = pre.1;
      ready = kept.0;
      ok = kept.1;
      same_store = refl;
      notes-long = ln;
      same_bytes = refl;
      same_log = refl;
      long = l;
    }

-- what a sweep finds, of each sheet
abbrev pub Sweeps : List ℕ → List ℕ → List ℕ → List ℕ → Answer (Maybe ℕ) GaveUp → List ℕ → List ℕ → List ℕ → Type 0
Sweeps m log p blame o p' blame' buffer = (sh : Sheet) → ForSheet sh m log → Swept sh m p blame → OutcomeOk sh m o p' blame' buffer

-- a survivor, with what tells it from the specification
pub at-survivor : {result : Result Grown} {m bytes log p blame p' blame' buffer : List ℕ} {g : Growth} {d : ℕ} → (at : At result m bytes log p blame g) →
    Sweeps m (take g.observed log) p blame (Ok (Some d)) p' blame' buffer → (then : At result m bytes log p' blame' g) × Found then.sheet (mutant_in then.sheet p') d buffer
at-survivor at sw =
    let s = sw at.sheet at.growing.held.suite at.swept in
    (record { sheet = at.sheet; growing = at.growing; swept = s.0 }, s.1)

-- ---- a test is appended
-- what `append` promises
abbrev pub Appends : List ℕ → List ℕ → List ℕ → List ℕ → ℕ → ℕ → List ℕ → List ℕ → ℕ → Type 0
Appends xs m bytes log end n bytes' log' r = (sh : Sheet) → Held sh m bytes log end n → Fits sh xs end → Held (with_test sh xs) m bytes' log' (end + 1 + 2 * length xs) r

module _ {m bytes₀ log₀ : List ℕ} {r : Bool} {store₀ store : List Entry} {from : Growth} {facts notes bytes log p blame sequence : List ℕ} {g : Growth}
    (ti : Turning m r store₀ bytes₀ log₀ from facts store notes bytes log p blame sequence g) where
  here : At ti.some.0 m bytes log p blame g
  here = ti.some.1

  -- what a sweep asks
  pub sweep-asks : (((sh : Sheet) × ForSheet sh m (take g.observed log) × Swept sh m p blame) × (states_of m * states_of m ≤ length sequence))
      × ((r ≡ true → Ready m facts) × StoreOk Nonconforming m (take g.observed log) store)
  sweep-asks =
      let few : states_of m ≤ 16 = omega (arith, here.growing.held.suite.tabled.states, here.growing.held.suite.tabled.formed.size.states.few) in
      (((here.sheet, here.growing.held.suite, here.swept), omega (arith, mul-le-mul few few, ti.long)), (ti.ready, ti.ok))

  pub log-inside : g.observed ≤ length log
  log-inside = here.growing.held.inside

  pub block-formed : Wf m
  block-formed = well-formed here.growing.held.suite.tabled

  module _ {o : Answer (Maybe ℕ) GaveUp} (p' blame' sequence' : List ℕ) (sw : Sweeps m (take g.observed log) p blame o p' blame' sequence') where
    -- there is no survivor
    pub completes : o ≡ Ok None → {result : Result Grown} → At result m bytes log p blame g → Complete result bytes g.end g.appended
    completes e at = let none = rw e at sw in complete-at at (none at.sheet at.growing.held.suite at.swept)

    -- there is one
    module _ {d : ℕ} (e : o ≡ Ok (Some d)) where
      found-at : {result : Result Grown} → At result m bytes log p blame g → (then : At result m bytes log p' blame' g) × Found then.sheet (mutant_in then.sheet p') d sequence'
      found-at at = let one = rw e at sw in at-survivor at one

      pub fits-asks : (g.end ≤ 16384) × (d ≤ 256)
      fits-asks = let z = found-at here in (omega (arith, here.growing.held.short), short-at z.0 z.1)

      -- its sequence does not fit
      pub no_room : fitting g.room g.end d ≡ false → {result : Result Grown} → At result m bytes log p blame g → result ≡ refused 18 0
      no_room ef at = let z = found-at at in full_at z.0 z.1 ef

      -- it fits
      module _ (ef : fitting g.room g.end d ≡ true) where
        pub append-asks : (sh : Sheet) × Held sh m bytes log g.end g.observed × Fits sh (take d sequence') g.end
        append-asks = let z = found-at here in (z.0.sheet, z.0.growing.held, fits-at z.0 z.1 ef)

        pub longer-asks : (0 < g.room) × (g.end + 1 + 2 * d < 16384) × (g.appended + g.room ≤ 256)
        longer-asks = let f = fits-means g.room g.end d ef in (f.0, omega (arith, f.1), here.growing.few)

        -- the next turn
        module _ (facts' : List ℕ) (store' : List Entry) (notes' bytes' log' : List ℕ) (observed : ℕ) (ap : Appends (take d sequence') m bytes log g.end g.observed bytes' log' observed) where
          more-at : {result : Result Grown} → At result m bytes log p blame g → At result m bytes' log' p' blame' (longer_by g d observed)
          more-at at =
              let z = found-at at in
              at_more z.0 z.1 ef (ap z.0.sheet z.0.growing.held (fits-at z.0 z.1 ef))

          pub turning-more : {g' : Growth} → g' ≡ longer_by g d observed → (length facts' ≡ 1088) × ((m' : List ℕ) → Ready m' facts → Ready m' facts') →
              StoreOk Nonconforming m (take g.observed log) store' → length store' ≡ length store → length notes' ≡ length notes → length bytes' ≡ length bytes → length log' ≡ length log →
              length sequence' ≡ length sequence → Turning m r store₀ bytes₀ log₀ from facts' store' notes' bytes' log' p' blame' sequence' g'
          turning-more {g'} eg fs ok es en eb el eq =
              subst (λ (x : Growth). Turning m r store₀ bytes₀ log₀ from facts' store' notes' bytes' log' p' blame' sequence' x) (sym eg)
              (let z = found-at here in
              record {
                some = (ti.some.0, more-at here);
                each = λ result sh gr. more-at (ti.each result sh gr);
                facts-long = fs.0;
                ready = λ l. fs.1 m (ti.ready l);
                ok = store-more z.0 z.1 ef (ap z.0.sheet z.0.growing.held (fits-at z.0 z.1 ef)) ok;
                same_store = es ∙ ti.same_store;
                notes-long = en ∙ ti.notes-long;
                same_bytes = eb ∙ ti.same_bytes;
                same_log = el ∙ ti.same_log;
                long = eq ∙ ti.long;
              })
