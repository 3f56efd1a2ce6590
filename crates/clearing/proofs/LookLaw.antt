-- A mutant with all its choices, along the log and held against the specification.
use Rattle.std.specs.Prelude.{Option as Maybe, Some, None}
use mathlib.Core.Path.{◌≡◌, refl, sym, ap, ◌∙◌}
use mathlib.Core.Option.{Option, none, some}
use mathlib.Core.List.{List}
use Prim.Native.Nat.{ℕ, ◌*◌, ◌<◌}
use native.Mathlib.Omega.{arith}
use lib.ListN.{length, drop}
use lib.Seq.{get_or-take, take_at}
use Rattle.lists.specs.Lists.{overlay}
use Rattle.lists.specs.laws.TestLaw.{never}
use Rattle.sheet.specs.Sheet.{Sheet}
use Rattle.model.specs.Mutant.{slots, IsMutant, step, initial}
use Rattle.model.specs.Compare.{compare_pair, found}
use Rattle.model.specs.Log.{failed_in}
use Rattle.model.specs.Suite.{Place, first_failed_of, Passes, compare_of}
use Rattle.model.proofs.laws.StaysLaw.{start-below}
use Rattle.block.specs.Layout.{states_of, waking}
use Rattle.block.specs.Tabulated.{Wf, choices_at, chosen, step_of, start_of}
use Rattle.block.specs.Logged.{observations}
use Rattle.block.specs.laws.TabledLaw.{well-formed}
use Rattle.logs.specs.declared.walk.Wrong.{Wrong}
use Rattle.logs.specs.Walked.{moves_in, wrong_of}
use Rattle.logs.specs.laws.WalkedLaw.{walked-failed}
use Rattle.machine.specs.Differences.{Difference, difference_of}
use Rattle.machine.specs.Laid.{Chosen, Settles, Moves}
use Rattle.machine.specs.Product.{tables, Valid}
use Rattle.machine.specs.laws.LaidLaw.{settled-chosen, settled-start, settled-moves, tables-against, tables-valid}
use Rattle.search.specs.Search.{ForSheet, mutant_in}
use Rattle.search.specs.laws.TabulatesLaw.{tabulates}
use Rattle.clearing.specs.Sweep.{Cleared, Full}
use Rattle.cubes.specs.declared.goal.Goal.TheVariants.{Nonconforming}
use Rattle.walks.specs.Walks.{ToldOk}
use Rattle.clearing.specs.Looking.{Found, BySome}
use mathlib.Core.Logic.{inl, inr}
use Rattle.std.specs.Option.{unwrap_or}
use Rattle.clearing.specs.laws.SurvivorLaw.{full-mutant}

-- the suspects that were told, or all slots
pub or-all : {m log p : List ℕ} (told : Maybe ℕ) {r : ℕ} → r ≡ unwrap_or told 4294967295 → ToldOk Nonconforming m log p told → BySome m log p r
or-all None e h = inr e
or-all (Some used) e h = inl (rw e h)

right : (o : Option Place) → wrong_of o ≡ None → o ≡ none
right none e = refl
right (some f) e = never (cc)

module _ {sh : Sheet} {m log p : List ℕ} (f : ForSheet sh m log) (full : Full m p) where
  -- its choices are a mutant
  pub is-mutant : IsMutant sh (mutant_in sh p)
  is-mutant = full-mutant f.tabled full

  settles : Settles sh p (mutant_in sh p)
  settles = record { at = λ j l. sym (get_or-take (length (slots sh)) p j 0 l) }

  pub lay-asks : Wf m × Chosen m p
  lay-asks = (well-formed f.tabled, settled-chosen f.tabled is-mutant settles)

  module _ {outputs targets : List ℕ} (laid : Moves (step_of m p) outputs targets (16 * states_of m)) {start : ℕ}
      (es : chosen m p waking < choices_at m waking → start ≡ start_of m p) where
    moved : Moves (step sh (mutant_in sh p)) outputs targets (16 * sh.size.states)
    moved = settled-moves f.tabled is-mutant settles laid

    starts : start ≡ initial sh (mutant_in sh p)
    starts = es ((settled-chosen f.tabled is-mutant settles).at waking (omega arith)) ∙ settled-start f.tabled is-mutant settles

    pub compare-asks : Valid m targets × (start < states_of m)
    compare-asks = (tables-valid f.tabled (mutant_in sh p) moved, rw (starts, f.tabled.states) (start-below sh (mutant_in sh p) f.tabled.formed))

    walked : failed_in (moves_in outputs targets) start start 0 0 (observations log) ≡ first_failed_of sh (mutant_in sh p)
    walked = rw f.suite (walked-failed sh f.tabled.formed (mutant_in sh p) (tabulates f.tabled.formed (mutant_in sh p) moved) start starts)

    compared : compare_pair (tables m start outputs targets) ≡ compare_of sh (mutant_in sh p)
    unfolding compare_of
    compared = ap compare_pair (tables-against f.tabled (mutant_in sh p) moved start starts)

    module _ {r : Maybe Wrong} (er : r ≡ wrong_of (failed_in (moves_in outputs targets) start start 0 0 (observations log))) where
      -- a wrong output
      pub fails : {w : Wrong} → r ≡ Some w → Cleared sh (mutant_in sh p)
      fails e = λ passes. let z = er ∙ ap wrong_of (walked ∙ passes) in never (cc)

      -- no wrong output
      passes : r ≡ None → Passes sh (mutant_in sh p)
      passes e = sym walked ∙ right _ (sym er ∙ e)

    module _ {d : Difference} (ed : d ≡ difference_of (compare_pair (tables m start outputs targets))) where
      same : d ≡ difference_of (compare_of sh (mutant_in sh p))
      same = ed ∙ ap difference_of compared

      -- and no other output than specified
      pub conforms : d ≡ None → Cleared sh (mutant_in sh p)
      conforms e = λ passes. go (compare_of sh (mutant_in sh p)) same
        where
          go : (o : Option (List ℕ)) → d ≡ difference_of o → o ≡ none
          go none h = refl
          go (some xs) h = never (cc)

      -- or a sequence that shows one
      pub shown : {r : Maybe Wrong} → r ≡ wrong_of (failed_in (moves_in outputs targets) start start 0 0 (observations log)) → r ≡ None → {k : ℕ} → d ≡ Some k →
          (old : List ℕ) {buffer : List ℕ} → buffer ≡ overlay (found (compare_pair (tables m start outputs targets))) old → Found sh (mutant_in sh p) k buffer
      shown er e {k} ek old {buffer} eb = go (compare_of sh (mutant_in sh p)) refl same
        where
          go : (o : Option (List ℕ)) → compare_of sh (mutant_in sh p) ≡ o → d ≡ difference_of o → Found sh (mutant_in sh p) k buffer
          go none eo h = never (cc)
          go (some xs) eo h =
              let long : k ≡ length xs = cc in
              record {
                passes = passes er e;
                inputs = xs;
                compared = eo;
                long = long;
                shown = rw (eb, compared ∙ eo) (take_at xs (drop (length xs) old) k (sym long));
              }
