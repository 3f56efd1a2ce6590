-- All tables of an accepted sheet.
use Prim.Native.Nat.{ℕ, ◌+◌, ◌*◌, ◌<◌}
use mathlib.Core.Path.{◌≡◌, refl, ap, sym, ◌∙◌}
use mathlib.Core.Bool.{Bool, true, false, cond}
use mathlib.Core.List.{List, [], ◌∷◌}
use native.Mathlib.Omega.{arith}
use lib.Dec.{ltb}
use lib.ListN.{length, get_or, get_or-eq_default}
use borrow.Author.Tests.{ltb-false}
use Rattle.sheet.specs.declared.Span.{Span}
use Rattle.sheet.specs.declared.Summary.{Summary}
use Rattle.std.specs.Prelude.{Ok}
use Rattle.reading.specs.Layout.{layout_of}
use Rattle.sheet.specs.Sheet.{Sheet, wakings, waking_choices}
use Rattle.sheet.specs.Reading.{reading}
use Rattle.sheet.specs.Part.{span_of}
use Rattle.sheet.specs.declared.Tables.{Tables}
use Rattle.sheet.specs.Tables.{read_answer, tables_of, nought_tables}
use Rattle.sheet.specs.words.Tabled.{Within16}
use Rattle.commands.specs.words.Held.{RulesIn}
use Rattle.reading.specs.words.Places.{span_from, Table, FaultTables, TestTables, Countable, Fillable, Cleared}
use Rattle.sheet.specs.laws.TablesLaw.{unruled-by}
use Rattle.reading.proofs.SpanLaw.{told, tests-are, size_is, formed, same_span, laid_out}
use Rattle.reading.proofs.FillLaw.{table_is, pair-table, table_same, choices_by}

module _ (s : List ℕ) (m : Summary) (t₀ : Tables) (sh : Sheet) (h : Fillable s m t₀ sh) where
  pub size_fits : Within16 (record { states = m.states; inputs = m.inputs; outputs = m.outputs })
  size_fits =
      let k = (formed h.told).size in
      rw (size_is h.told) (record { states = k.states.few; inputs = k.inputs.few; outputs = k.outputs.few })

  pub countable : (t : Tables) → t.target ≡ t₀.target → (q : Bool) → q ≡ sh.quiet → (u : ℕ) → u ≡ cond q 1 (m.outputs * m.states) → FaultTables t sh.faults → Countable u t.target t.choices sh
  countable t e q eq u eu d =
      record { unruled-is = eu ∙ unruled-by sh (record { states = m.states; inputs = m.inputs; outputs = m.outputs }) q (size_is h.told) eq; leads = rw (sym e) at h.rules.leads; counts-are = d.counts-are; few = (formed h.told).few-faults }

  starts_by : (i : ℕ) → i < 256 → cond (ltb i m.tests) (span_from (layout_of sh).tests sh.tests i).start 0
      ≡ cond (ltb i (length sh.tests)) (span_of sh i).start 0
  starts_by i k = rw (tests-are h.told, ap (λ (x : Span). x.start) (same_span s i sh (layout_of sh) (laid_out h.told)))

  lengths-by : (i : ℕ) → i < 256 → cond (ltb i m.tests) (length (get_or sh.tests i [])) 0 ≡ length (get_or sh.tests i [])
  lengths-by i k = go (ltb i m.tests) refl
    where
      go : (b : Bool) → ltb i m.tests ≡ b → cond b (length (get_or sh.tests i [])) 0 ≡ length (get_or sh.tests i [])
      go true e = refl
      go false e = sym (ap length (get_or-eq_default sh.tests [] {n = i} (omega (arith, ltb-false i m.tests e, tests-are h.told))))

  pub filled : (f : Tables) → f ≡ record t₀ { choices = f.choices; first = f.first; mutated = f.mutated; diverted = f.diverted } → FaultTables f sh.faults → (cs : List ℕ) → Table 256 cs (choices_by sh) → (ws : List ℕ) → Table 16 ws (λ i. get_or (0 ∷ sh.starts) i 0)
      → (n : ℕ) → n ≡ length sh.starts + 1 → (q : Bool) → q ≡ sh.quiet → (e : Tables) → TestTables e (layout_of sh).tests sh.tests m.tests
      → ◌≡◌ {A = Tables} (record {
        output = f.output;
        target = f.target;
        choices = cs;
        first = f.first;
        mutated = f.mutated;
        diverted = f.diverted;
        wakings = ws;
        waking = n;
        quiet = q;
        starts = e.starts;
        lengths = e.lengths;
      }) (tables_of sh)
  unfolding tables_of wakings waking_choices
  filled f o d cs c ws y n en q eq e t =
      let a = ap (λ (x : Tables). x.output) o ∙ table_is (pair-table h.rules.outputs-are) in
      let b = ap (λ (x : Tables). x.target) o ∙ table_is (pair-table h.rules.leads.table) in
      let g = table_is c in
      let j = table_is (pair-table d.firsts-are) in
      let u = table_is d.mutated-are in
      let v = table_is d.diverted-are in
      let z = table_is y in
      let w = table_is (table_same (λ i. cond (ltb i (length sh.tests)) (span_of sh i).start 0) t.starts-are starts_by) in
      let x = table_is (table_same (λ i. length (get_or sh.tests i [])) t.lengths-are lengths-by) in
      let many : n ≡ length (0 ∷ sh.starts) = omega arith in
      λ i. record {
        output = a i;
        target = b i;
        choices = g i;
        first = j i;
        mutated = u i;
        diverted = v i;
        wakings = z i;
        waking = many i;
        quiet = eq i;
        starts = w i;
        lengths = x i;
      }

-- tables of noughts with the rules' tables filled are noughts where the passes begin
pub cleared : (b : Tables) → b ≡ nought_tables → (os ts : List ℕ) → Cleared (record b { output = os; target = ts })
cleared b e os ts = rw e (record { counts-are = refl; firsts-are = refl; mutated-are = refl; diverted-are = refl; starts-are = refl; lengths-are = refl })

module _ (s : List ℕ) (m : Summary) (e : Ok m ≡ read_answer (reading s)) where
  pub sheet-of : Sheet
  sheet-of = (told s m e).0

  -- what reading leaves is what filling starts from
  pub fillable : (t : Tables) → RulesIn (reading s) t.output t.target → Fillable s m t sheet-of
  unfolding sheet-of
  fillable t h = let p = (told s m e).1 in record { told = p; rules = rw p.is at h }
