-- The whole state after a command.
use Prim.Native.Nat.{ℕ, ◌+◌, ◌<◌, ◌≤◌}
use mathlib.Core.Path.{◌≡◌, refl, ap, sym, ◌∙◌}
use mathlib.Core.Bool.{true, false, ◌&&◌}
use mathlib.Core.Option.{Option, none, some}
use mathlib.Core.List.{List, [], ◌∷◌, ◌++◌}
use native.Mathlib.Numerals.{add-one}
use native.Mathlib.Omega.{arith}
use lib.Dec.{leb, ltb}
use lib.ListN.{length}
use borrow.Author.Tests.{le-leb, lt-leb, le-ltb, lt-ltb, leb-true, eq-eqb, ne_eqb}
use Rattle.sheet.specs.declared.Row.{Row}
use Rattle.sheet.specs.declared.Size.{Size}
use Rattle.std.specs.Prelude.{Ok, Err}
use Rattle.commands.specs.declared.rules.Phase.TheVariants as phase
use Rattle.commands.specs.declared.rules.Broken.TheVariants as broken
use Rattle.commands.specs.declared.rules.Listed.{Listed}
use Rattle.commands.specs.declared.rules.Tests.{Tests}
use Rattle.commands.specs.declared.rules.State.{State}
use Rattle.lists.specs.Lists.{maybe, last}
use Rattle.sheet.specs.Sheet.{after}
use Rattle.sheet.specs.Reading.{Progress, add_press, size, quiet, rule, fault, start, test, press, unsized, sized, ruled, faulted, started, testing, during, in_one_to16, size_in_range, allowed, rises, last_test, first_broken, refusal, advance}
use Rattle.lists.specs.laws.TestLaw.{both}
use Rattle.sheet.specs.laws.PhaseLaw.{ordered-size, ordered-quiet, ordered-rule, ordered-fault, ordered-start, ordered-test, ordered-press}
use Rattle.sheet.specs.laws.RowLaw.{last_snoc}
use Rattle.sheet.specs.words.Tabled.{Within16, next_key, StartsHold}
use Rattle.commands.specs.words.Held.{RulesHold, FaultsHold, TestsHold, Holds, Applies}
use Rattle.sheet.specs.laws.RowTableLaw.{length-snoc}
use Rattle.commands.proofs.PressLaw.{last_test-snoc}

-- before any test the rules do not matter to where the test is
untested : {t : Tests} {rs : List Row} {l : List (List ℕ)} (qs : List Row) → l ≡ [] → TestsHold t rs l → TestsHold t qs l
unfolding after last_test last
untested {t} {rs} {l} qs e h = record {
  count = h.count;
  most = h.most;
  inputs = h.inputs;
  most-inputs = h.most-inputs;
  digit = h.digit;
  state = rw e (rw e at h.state);
}

-- a START's state rises exactly if it is not below the next one
module _ (l : List ℕ) (t : ℕ) where
  rises-true : next_key (λ s. s) (last l) ≤ t → rises l t ≡ true
  unfolding rises
  rises-true h = go (last l) h
    where
      go : (o : Option ℕ) → next_key (λ s. s) o ≤ t → maybe o true (λ s. ltb s t) ≡ true
      go none k = refl
      go (some s) k = lt-ltb s t k

  rises-false : t < next_key (λ s. s) (last l) → rises l t ≡ false
  unfolding rises
  rises-false h = go (last l) h
    where
      go : (o : Option ℕ) → t < next_key (λ s. s) o → maybe o true (λ s. ltb s t) ≡ false
      go none k = absurd (omega arith)
      go (some s) k = le-ltb s t (omega arith)

at-most-16 : (n : ℕ) → in_one_to16 n ≡ true → n ≤ 16
at-most-16 n e = leb-true _ _ (both (leb 1 n) (leb n 16) e).1

-- in which phase a command stands
module _ (phase : ℕ) where
  -- between an earliest and a latest phase
  within : (earliest latest : ℕ) → during earliest latest phase ≡ true → (earliest ≤ phase) × (phase ≤ latest)
  within earliest latest h = let t = both (leb earliest phase) (leb phase latest) h in (leb-true earliest phase t.0, leb-true phase latest t.1)

  pub allowed-size : allowed phase 1 ≡ true → phase ≡ unsized
  allowed-size h = let k = within unsized unsized h in omega arith

  pub allowed-quiet : allowed phase 8 ≡ true → phase ≡ sized
  allowed-quiet h = let k = within sized sized h in omega arith

  pub allowed-rule : allowed phase 2 ≡ true → phase ≤ ruled
  allowed-rule h = (within sized ruled h).1

  pub allowed-fault : allowed phase 3 ≡ true → phase ≤ faulted
  allowed-fault h = (within sized faulted h).1

  pub allowed-press : allowed phase 5 ≡ true → phase ≡ testing
  allowed-press h = let k = within testing testing h in omega arith

  pub allowed-start : allowed phase 7 ≡ true → phase ≤ started
  allowed-start h = (within sized started h).1

module _ (c : State) (p : Progress) (h : Holds c p) where
  pub state-size : (z : Size) → p.phase ≡ unsized → size_in_range z ≡ true → Applies p 1 (size z) (Ok tt) (record c { phase = phase.Sized; size = z })
  unfolding refusal first_broken advance
  state-size z o e =
      let t = both (in_one_to16 z.states) (in_one_to16 z.inputs && in_one_to16 z.outputs) e in
      let u = both (in_one_to16 z.inputs) (in_one_to16 z.outputs) t.1 in
      let b : Within16 z = record { states = at-most-16 z.states t.0; inputs = at-most-16 z.inputs u.0; outputs = at-most-16 z.outputs u.1 } in
      (simp e, record { phase = refl; size = refl; quiet = h.quiet; bounds = b; rules = h.rules; faults = h.faults; starts = h.starts; tests = h.tests; ordered = ordered-size h.ordered z (omega arith) })

  pub state-big : (z : Size) → size_in_range z ≡ false → Applies p 1 (size z) (Err broken.Size) c
  unfolding refusal first_broken
  state-big z e = simp e

  pub state-quiet : p.phase ≡ sized → Applies p 8 quiet (Ok tt) (record c { phase = phase.Quieted; quiet = true })
  unfolding refusal advance
  state-quiet o =
      (refl, record { phase = refl; size = h.size; quiet = refl; bounds = h.bounds; rules = h.rules; faults = h.faults; starts = h.starts; tests = h.tests; ordered = ordered-quiet h.ordered (omega arith) })

  pub state-rule : (row : Row) (t : Listed) (os ts : List ℕ) → p.phase ≤ ruled → (refusal p.sheet (rule row) ≡ 0) × RulesHold t os ts (p.sheet.rules ++ row ∷ [])
      → Applies p 2 (rule row) (Ok tt) (record c { phase = phase.Ruled; rules = t; output = os; target = ts })
  unfolding advance
  state-rule row t os ts o m = (
    m.0,
    let u = untested (p.sheet.rules ++ row ∷ []) (h.ordered.tests (omega arith)) h.tests in
        record { phase = refl; size = h.size; quiet = h.quiet; bounds = h.bounds; rules = m.1; faults = h.faults; starts = h.starts; tests = u; ordered = ordered-rule h.ordered row o },
  )

  pub state-fault : (row : Row) (t : Listed) (ms : List ℕ) → p.phase ≤ faulted → (refusal p.sheet (fault row) ≡ 0) × FaultsHold t ms (p.sheet.faults ++ row ∷ [])
      → Applies p 3 (fault row) (Ok tt) (record c { phase = phase.Faulted; faults = t; faulty = ms })
  unfolding advance
  state-fault row t ms o m =
      (m.0, record { phase = refl; size = h.size; quiet = h.quiet; bounds = h.bounds; rules = h.rules; faults = m.1; starts = h.starts; tests = h.tests; ordered = ordered-fault h.ordered row o })

  pub state-start : (t : ℕ) → p.phase ≤ started → t < c.size.states → c.starts ≤ t → (t ≡ 0 → ⊥)
      → Applies p 7 (start t) (Ok tt) (record c { phase = phase.Started; starts = t + 1 })
  unfolding refusal first_broken advance
  state-start t o m k n = (
    simp (lt-leb p.sheet.size.states t (rw (← h.size) m), rises-true p.sheet.starts t (omega (arith, h.starts.key)), ne_eqb t 0 n),
    let z : StartsHold (t + 1) (p.sheet.starts ++ t ∷ []) =
        record { key = add-one t ∙ sym (ap (next_key (λ s. s)) (last_snoc p.sheet.starts t)); most = omega (arith, h.bounds.states) } in
        record { phase = refl; size = h.size; quiet = h.quiet; bounds = h.bounds; rules = h.rules; faults = h.faults; starts = z; tests = h.tests; ordered = ordered-start h.ordered t o },
  )

  -- 5, 6 or 7
  pub state-outside : (t : ℕ) → c.size.states ≤ t → refusal p.sheet (start t) ≡ 5
  unfolding refusal first_broken
  state-outside t m = simp (le-leb p.sheet.size.states t (rw (← h.size) m))

  pub state-unordered : (t : ℕ) → t < c.size.states → t < c.starts → refusal p.sheet (start t) ≡ 6
  unfolding refusal first_broken
  state-unordered t m k = simp (lt-leb p.sheet.size.states t (rw (← h.size) m), rises-false p.sheet.starts t (omega (arith, h.starts.key)))

  pub state-awake : (t : ℕ) → t < c.size.states → c.starts ≤ t → t ≡ 0 → refusal p.sheet (start t) ≡ 7
  unfolding refusal first_broken
  state-awake t m k e = simp (lt-leb p.sheet.size.states t (rw (← h.size) m), rises-true p.sheet.starts t (omega (arith, h.starts.key)), eq-eqb t 0 e)

  pub state-press : (x : ℕ) (t : Tests) → p.phase ≡ testing → (refusal p.sheet (press x) ≡ 0) × TestsHold t p.sheet.rules (add_press p.sheet.tests x)
      → Applies p 5 (press x) (Ok tt) (record c { tests = t })
  unfolding advance
  state-press x t o m =
      (m.0, record { phase = h.phase ∙ o; size = h.size; quiet = h.quiet; bounds = h.bounds; rules = h.rules; faults = h.faults; starts = h.starts; tests = m.1; ordered = ordered-press h.ordered x (omega arith) })

  pub state-test : c.tests.count < 256 → Applies p 4 test (Ok tt) (record c { phase = phase.Testing; tests = record { count = c.tests.count + 1; inputs = 0; state = 0 } })
  unfolding refusal first_broken advance after
  state-test m = (
    simp (lt-leb 256 (length p.sheet.tests) (omega (arith, h.tests.count))),
    let t : TestsHold (record { count = c.tests.count + 1; inputs = 0; state = 0 }) p.sheet.rules (p.sheet.tests ++ [] ∷ []) =
        record {
          count = rw (length-snoc p.sheet.tests []) (ap (λ (n : ℕ). n + 1) h.tests.count);
          most = omega arith;
          inputs = rw (last_test-snoc p.sheet.tests []);
          most-inputs = omega arith;
          state = rw (last_test-snoc p.sheet.tests []);
          digit = omega arith;
        } in
        record { phase = refl; size = h.size; quiet = h.quiet; bounds = h.bounds; rules = h.rules; faults = h.faults; starts = h.starts; tests = t; ordered = ordered-test h.ordered },
  )

  pub state-tests : 256 ≤ c.tests.count → refusal p.sheet test ≡ 8
  unfolding refusal first_broken
  state-tests m = simp (le-leb 256 (length p.sheet.tests) (omega (arith, h.tests.count)))
