-- A mutant with all its choices, by tables: whether it is wanted, and what is shown of it.
use Rattle.std.specs.Prelude.{Option as Maybe, Some, None, Result as Answer, Ok, Err, IsOk}
use Rattle.std.specs.Prelude.{◌+◌, ◌*◌, ◌<◌, ◌≤◌, ◌≡◌, ◌∷◌, ◌++◌}
use Rattle.lists.specs.Proving.{arith, ℕ, suc, refl, sym, ◌∙◌, ap, subst, Bool, true, false, Option, some, none, List, length, get_or, set, take, drop, length-append, drop-cons, append_snoc, never}
use Rattle.std.proofs.Common.{mul-le-mul, length-drop, length-take-le, get_or-take, take-suc, take_at}
use lib.Seq.{set_at}
use Rattle.lists.specs.Lists.{overlay}
use Rattle.sheet.specs.Sheet.{Sheet}
use Rattle.model.specs.Mutant.{slots, IsMutant, step, initial}
use Rattle.model.specs.Compare.{compare_pair, found}
use Rattle.model.specs.Suite.{Place, compare_of}
use Rattle.model.specs.Log.{failed_in}
use Rattle.model.proofs.laws.LogLaw.{none-gives}
use Rattle.model.proofs.laws.StaysLaw.{start-below}
use Rattle.model.proofs.laws.SuspectLaw.{slot-count}
use Rattle.model.proofs.laws.OperationLaw.{mutant-length, in-range-at}
use Rattle.block.specs.Layout.{waking, states_of, slots_of}
use Rattle.block.specs.Tabulated.{Wf, choices_at, chosen, step_of, start_of}
use Rattle.block.specs.Logged.{observations}
use Rattle.block.specs.Tabled.{Tabled}
use Rattle.block.specs.laws.TabledLaw.{get_d_default, slot-few, well-formed}
use Rattle.logs.specs.declared.walk.Wrong.{Wrong}
use Rattle.logs.specs.Walked.{moves_in, wrong_of}
use Rattle.logs.specs.laws.WalkedLaw.{gives_none, walked}
use Rattle.machine.specs.declared.laying.Machine.{Machine}
use Rattle.machine.specs.Differences.{Difference, difference_of}
use Rattle.machine.specs.Laid.{Chosen, Settles, Moves}
use Rattle.machine.specs.Product.{tables, Valid}
use Rattle.sheet.specs.declared.Refusal.{Refusal}
use Rattle.machine.specs.Fits.{Machined, MachinedBy}
use Rattle.machine.specs.laws.FitsLaw.{mutant-fits}
use Rattle.machine.specs.laws.LaidLaw.{settled-chosen, settled-start, settled-moves, tables-against, tables-valid}
use Rattle.cubes.specs.declared.goal.Goal.{Goal}
use Rattle.cubes.specs.declared.goal.Goal.TheVariants.{Any, Nonconforming}
use Rattle.search.specs.Search.{Meets, Wanted, mutant_in, Searching, Decides}
use Rattle.search.specs.Shown.{Showing, Written}
use Rattle.search.specs.laws.TabulatesLaw.{tabulates}
use Rattle.search.proofs.SearchLaw.{full-mutant}

-- ---- writing the choices

-- one choice more
pub choice-more : (p old board : List ℕ) (j v : ℕ) → j < length p → j < length old → board ≡ take j p ++ drop j old → v ≡ get_or p j 0 →
    set board j v ≡ take (j + 1) p ++ drop (j + 1) old
choice-more p old board j v lp lo e ev =
    let f : j + 1 ≡ suc j = omega arith in
    ap (λ (l : List ℕ). set l j v) (e ∙ ap (λ (l : List ℕ). take j p ++ l) (drop-cons old j 0 lo))
    ∙ set_at (take j p) (get_or old j 0) (drop (suc j) old) v j (length-take-le j p (omega arith))
    ∙ ap (λ (w : ℕ). take j p ++ w ∷ drop (suc j) old) ev
    ∙ sym (append_snoc (take j p) (get_or p j 0) (drop (suc j) old))
    ∙ ap (λ (l : List ℕ). l ++ drop (suc j) old) (sym (take-suc p j 0 lp))
    ∙ ap (λ (i : ℕ). take i p ++ drop i old) (sym f)

pub choice-room : (p old board : List ℕ) (j : ℕ) → j ≤ length p → j ≤ length old → board ≡ take j p ++ drop j old → length board ≡ length old
choice-room p old board j lp lo e =
    let h = ap length e ∙ length-append (take j p) (drop j old) in
    omega (arith, length-take-le j p lp, length-drop j old)

-- all of them
pub choices-written : (p old board : List ℕ) (n j : ℕ) → n ≤ length p → j ≤ n → n ≤ j → board ≡ take j p ++ drop j old → board ≡ overlay (take n p) old
choices-written p old board n j lp l h e =
    let f : j ≡ n = omega arith in
    e ∙ ap (λ (i : ℕ). take i p ++ drop i old) f ∙ ap (λ (i : ℕ). take n p ++ drop i old) (sym (length-take-le n p lp))

-- ---- whether it is wanted

-- a table has room for a shortest distinguishing sequence
pub square-few : {m : List ℕ} → Wf m → states_of m * states_of m ≤ 256
square-few wf = mul-le-mul wf.few-states wf.few-states

-- by compare's answer
pub any-meets : {goal : Goal} (o : Option (List ℕ)) → goal ≡ Any → Decides (Meets goal o) true
any-meets o e = record { yes = λ t. rw e tt; no = λ f. never (cc) }

module _ {goal : Goal} {d : Difference} (eg : goal ≡ Nonconforming) where
  pub none-meets : (o : Option (List ℕ)) → d ≡ difference_of o → d ≡ None → Decides (Meets goal o) false
  none-meets none e z = record { yes = λ t. never (cc); no = λ f h. (rw eg at h) refl }
  none-meets (some xs) e z = never (cc)

  pub some-meets : (o : Option (List ℕ)) {k : ℕ} → d ≡ difference_of o → d ≡ Some k → Decides (Meets goal o) true
  some-meets none e z = never (cc)
  some-meets (some xs) e z = record { yes = λ t. rw eg (λ n. never (cc)); no = λ f. never (cc) }

right : (o : Option Place) → wrong_of o ≡ None → o ≡ none
right none e = refl
right (some f) e = never (cc)

module _ {sh : Sheet} {m p : List ℕ} (w : Searching sh m p (length (slots sh))) where
  tb : Tabled sh m
  tb = w.tabled

  is : IsMutant sh (mutant_in sh p)
  is = full-mutant w.prefix

  settles : Settles sh p (mutant_in sh p)
  settles = record { at = λ j l. sym (get_or-take (length (slots sh)) p j 0 l) }

  pub lay-asks : Wf m × Chosen m p
  lay-asks = (well-formed tb, settled-chosen tb is settles)

  module _ {outputs targets : List ℕ} (laid : Moves (step_of m p) outputs targets (16 * states_of m)) {start : ℕ}
      (es : chosen m p waking < choices_at m waking → start ≡ start_of m p) where
    moved : Moves (step sh (mutant_in sh p)) outputs targets (16 * sh.size.states)
    moved = settled-moves tb is settles laid

    starts : start ≡ initial sh (mutant_in sh p)
    starts = es ((settled-chosen tb is settles).at waking (omega arith)) ∙ settled-start tb is settles

    pub meets-asks : Valid m targets × (start < states_of m)
    meets-asks = (tables-valid tb (mutant_in sh p) moved, rw (starts, tb.states) (start-below sh (mutant_in sh p) tb.formed))

    compared : compare_pair (tables m start outputs targets) ≡ compare_of sh (mutant_in sh p)
    unfolding compare_of
    compared = ap compare_pair (tables-against tb (mutant_in sh p) moved start starts)

    along : (log : List ℕ) {r : Maybe Wrong} → r ≡ wrong_of (failed_in (moves_in outputs targets) start start 0 0 (observations log)) →
        r ≡ wrong_of (failed_in (step sh (mutant_in sh p)) (initial sh (mutant_in sh p)) (initial sh (mutant_in sh p)) 0 0 (observations log))
    along log er = er ∙ ap wrong_of (walked sh tb.formed (mutant_in sh p) (tabulates tb.formed (mutant_in sh p) moved) start starts log)

    module _ {goal : Goal} (log : List ℕ) {r : Maybe Wrong} (er : r ≡ wrong_of (failed_in (moves_in outputs targets) start start 0 0 (observations log))) where
      -- a wrong output: it is not
      pub fails : {w : Wrong} → r ≡ Some w → Decides (Wanted goal sh (observations log) (mutant_in sh p)) false
      fails e = record { yes = λ t. never (cc); no = λ f h. let z = along log er ∙ ap wrong_of (gives_none _ _ (observations log) _ 0 0 h.gives) in never (cc) }

      -- none: as the goal asks
      pub passes : r ≡ None → {s : Bool} → Decides (Meets goal (compare_pair (tables m start outputs targets))) s → Decides (Wanted goal sh (observations log) (mutant_in sh p)) s
      passes e d =
          record {
            yes = λ t. record { gives = none-gives _ _ (observations log) _ 0 0 (right _ (sym (along log er) ∙ e)); meets = subst (Meets goal) compared (d.yes t) };
            no = λ f h. d.no f (subst (Meets goal) (sym compared) h.meets);
          }

-- ---- what is shown of it

module _ {sh : Sheet} {m p : List ℕ} (h : Showing sh m p) {n : ℕ} (en : n ≡ slots_of m) where
  count : n ≡ length (slots sh)
  count = en ∙ h.tabled.count

  few : n ≤ 32
  few = omega (arith, count, slot-count sh, h.tabled.formed.few-open)

  -- its choices are bytes
  pub choice-bytes : (n ≤ 32) × (length p ≡ 32) × ((j : ℕ) → j < n → get_or p j 0 < 256)
  unfolding IsMutant
  choice-bytes = (
    few,
    h.long,
    λ j l.
        let lj : j < length (slots sh) = omega (arith, count) in
        let low = rw (get_or-take (length (slots sh)) p j 0 lj) at (in-range-at (slots sh) (mutant_in sh p) h.is j (omega (arith, mutant-length sh (mutant_in sh p) h.is))) in
        omega (arith, low, rw (get_d_default (slots sh) j 1 0 lj) at (slot-few sh h.tabled.formed j)),
  )

  module _ (board : List ℕ) {board' : List ℕ} (eb : board' ≡ overlay (take n p) board) where
    -- they stand at the buffer's front
    front : take n board' ≡ mutant_in sh p
    front = rw (eb, take_at (take n p) (drop (length (take n p)) board) n (length-take-le n p (omega (arith, few, h.long)))) (ap (λ (k : ℕ). take k p) count)

    pub front_length : n ≡ length (take n board')
    front_length = count ∙ sym (ap length front ∙ mutant-length sh (mutant_in sh p) h.is)

    pub machine-ok : (r : Answer Machine Refusal) → MachinedBy sh (take n board') r → IsOk r
    machine-ok (Ok mc) made = refl
    machine-ok (Err why) made = let fits = mutant-fits sh (mutant_in sh p) h.is in let misfit = rw front at made in never (cc)

    module _ {mc : Machine} (made : Machined sh (take n board') mc) where
      machined : Machined sh (mutant_in sh p) mc
      machined = subst (λ (b : List ℕ). Machined sh b mc) front made

      pub distinguish-asks : Valid m mc.target × (mc.start < states_of m)
      distinguish-asks = (
        tables-valid h.tabled (mutant_in sh p) (machined.moves),
        rw (machined.start, h.tabled.states) (start-below sh (mutant_in sh p) h.tabled.formed),
      )

      pub written : {d : Difference} (sequence : List ℕ) {sequence' : List ℕ} → d ≡ difference_of (compare_pair (tables m mc.start mc.output mc.target)) →
          sequence' ≡ overlay (found (compare_pair (tables m mc.start mc.output mc.target))) sequence → Written sh (mutant_in sh p) d board board' sequence sequence'
      unfolding compare_of
      written sequence ed es =
          let same = ap compare_pair (tables-against h.tabled (mutant_in sh p) (machined.moves) mc.start (machined.start)) in
          record { difference = rw same at ed; board = rw count at eb; sequence = rw same at es }
