-- What stays true when a test is appended.
use Rattle.std.specs.Prelude.{◌≡◌, List, [], ◌∷◌, ◌++◌, ℕ, length, get_or}
use Rattle.std.proofs.Common.{sym, ap, ◌∙◌, ⊎_elim}
use mathlib.Core.List.Memᴰ
use Rattle.sheet.specs.Sheet.{Sheet, is_open, choices_at, unruled_choices, wakings, waking_choices, waking_slots}
use Rattle.sheet.specs.WellFormed.{WellFormed}
use Rattle.model.specs.Machine.{Move}
use Rattle.model.specs.Mutant.{suspects, site_of, start_slot}
use Rattle.model.specs.Log.{Observation, reset, seen, GivesFrom}
use Rattle.model.specs.Longer.{with_test, Among}
use Rattle.sheet.specs.Reading.{with_tests}
use Rattle.model.proofs.laws.LongerLaw.{slots-longer, mutant-longer, compare-longer, passes-fewer}
use Rattle.block.specs.Tabled.{Tabled}
use Rattle.block.specs.Logged.{observations, GivesOf}
use Rattle.block.specs.Tabulated.{step_of, start_of}
use Rattle.cubes.specs.Cube.{Sought}
use Rattle.cubes.specs.declared.goal.Goal.{Goal}
use Rattle.refutation.specs.Lent.{StoreOk, Entry}
use Rattle.clearing.specs.Sweep.{Cleared, Swept}

-- ---- the sweep
-- a test is among more tests
still : (ts us : List (List ℕ)) → Among ts (ts ++ us)
still [] us t m = absurd (Memᴰ.not-nil m)
still (u ∷ ts) us t m = ⊎_elim (λ e. Memᴰ.head e) (λ h. Memᴰ.tail (still ts us t h)) (Memᴰ.cases_cons m)

module _ (sh : Sheet) (xs : List ℕ) where
  -- what is cleared stays cleared
  cleared-longer : (b : List ℕ) → Cleared sh b → Cleared (with_test sh xs) b
  cleared-longer b clear passes = compare-longer sh (sh.tests ++ xs ∷ []) b ∙ clear (passes-fewer sh sh.tests (sh.tests ++ xs ∷ []) (still sh.tests (xs ∷ [])) b passes)

  pub swept-longer : {m p blame : List ℕ} → Swept sh m p blame → Swept (with_test sh xs) m p blame
  swept-longer sw =
      record {
        full = sw.full;
        blame-long = sw.blame-long;
        before = sw.before;
        cleared = λ i l b is s h. cleared-longer b (sw.cleared i l b (mutant-longer sh (sh.tests ++ xs ∷ []) b is) s h);
      }

-- ---- the tables
pub tabled-longer : {sh : Sheet} {m : List ℕ} (ts : List (List ℕ)) → WellFormed (with_tests sh ts) → Tabled sh m → Tabled (with_tests sh ts) m
unfolding site_of start_slot suspects is_open choices_at unruled_choices wakings waking_choices waking_slots
tabled-longer {sh} ts wf tb =
    record {
      formed = wf;
      outputs = tb.outputs;
      targets = tb.targets;
      sites = tb.sites;
      firsts = tb.firsts;
      fault-outputs = tb.fault-outputs;
      fault-targets = tb.fault-targets;
      choices = λ i l. tb.choices i l ∙ ap (λ (s : List ℕ). get_or s i 1) (sym (slots-longer sh ts));
      states = tb.states;
      inputs = tb.inputs;
      count = tb.count ∙ ap length (sym (slots-longer sh ts));
      waking-site = tb.waking-site;
      wakings = tb.wakings;
    }

-- ---- the store
gives-front : (move : ℕ → ℕ → Move) (start s : ℕ) (l k : List Observation) → GivesFrom move start s (l ++ k) → GivesFrom move start s l
unfolding GivesFrom
gives-front move start s [] k g = tt
gives-front move start s (reset ∷ l) k g = gives-front move start start l k g
gives-front move start s (seen x o ∷ l) k g = (g.0, gives-front move start (move s x).target l k g.1)

-- fewer mutants are sought along a longer log
pub store-longer : {goal : Goal} {m old new : List ℕ} {store : List Entry} (k : List Observation) → observations new ≡ observations old ++ k → StoreOk goal m old store → StoreOk goal m new store
unfolding Sought GivesOf
store-longer {goal} {m} {old} {new} {store} k e ok =
    record {
      at = λ i d fits aged.
          let none = ok.at i d fits aged in
          record {
            at = λ b ra inc sought.
                none.at b ra inc
                (gives-front (step_of m b) (start_of m b) (start_of m b) (observations old) k (rw e at sought.0), sought.1);
          };
    }
