-- The pairs of states in reach.
use Rattle.std.specs.Prelude.{◌+◌, ◌/◌, ◌%◌, ◌^◌, ◌<◌, ◌≤◌, ◌≡◌}
use Rattle.lists.specs.Proving.{arith, never, ℕ, refl, sym, ◌∙◌, ap, subst, ⊎_elim, by_cases, List, length, get_or, set, replicate, length-set, length-replicate, get_or-replicate, List·getD-eq-default, get_or-set_same, get_or-set_other, ℕ_discrete, dec_lt, below_more}
use Rattle.model.specs.Machine.{Move}
use Rattle.block.specs.Layout.{pair, waking, rule_output, rule_target, states_of, inputs_of}
use Rattle.block.specs.Tabulated.{Wf, Ranged, choice_of, chosen, step_of, start_of}
use Rattle.block.specs.declared.layout.Step.{Step}
use Rattle.block.specs.laws.ChoiceLaw.{step-inside, start-low}
use Rattle.cubes.specs.Sets.{Has, HasAll, Joined, Grows}
use Rattle.cubes.specs.Cube.{CellOk, Conform}
use Rattle.cubes.specs.laws.SetLaw.{nothing, alone, put_one, grows_none, grows-more}
use Rattle.cubes.specs.laws.ConformLaw.{cell-none, step-low, conforms}
use Rattle.walks.specs.Walks.{Agrees, Settled}
use Rattle.walks.specs.Reaching.{Met, Further, StartReached, CellKnown, CellReached, RowReached, AllWithin}
use Rattle.walks.specs.declared.reach.Reach.{Reach}
use Rattle.walks.specs.declared.reach.Stop.TheVariants.{Closed, Wrong}
use Rattle.walks.proofs.StandLaw.{agrees-fewer, start-settled}

-- ---- a pair is met
pub met-out : {rows : List ℕ} {s q : ℕ} → 16 ≤ q → Met rows rows s q
met-out l = record { grows = grows_none; here = λ h. absurd (omega arith) }

pub met_has : {rows : List ℕ} {s q : ℕ} → Has (get_or rows s 0) q → Met rows rows s q
met_has h = record { grows = grows_none; here = λ l. h }

pub met-new : {rows : List ℕ} {s q at e u : ℕ} → at ≡ s → s < length rows → e ≡ 2 ^ q → Joined (get_or rows at 0) e u → Met rows (set rows at u) s q
met-new {rows} {s} {q} {at} {e} {u} ea l ee jo =
    let put = put_one {old = rows} at q e u (omega arith) ee jo in
    record { grows = put.grows; here = λ h. subst (λ (n : ℕ). Has (get_or (set rows at u) n 0) q) ea put.here }

-- ---- further
pub further-none : {rows : List ℕ} {r : Reach} → Further rows rows r r
further-none = record { grows = grows_none; used = λ j h. h; few = λ l. l; free = λ e. e }

pub further-more : {a b c : List ℕ} {r s t : Reach} → Further a b r s → Further b c s t → Further a c r t
further-more f g = record {
  grows = grows-more f.grows g.grows;
  used = λ j h. g.used j (f.used j h);
  few = λ l. g.few (f.few l);
  free = λ e. f.free (g.free e);
}

cell-wider : {m p old new : List ℕ} {used wider s q x : ℕ} → Grows old new → HasAll used wider → CellOk m (Agrees p used) old s q x → CellOk m (Agrees p wider) new s q x
cell-wider gr more ok = record { out = λ t b w g. ok.out t b w (agrees-fewer more g); next = λ t b w g. gr.more _ _ (ok.next t b w (agrees-fewer more g)) }

known-further : {m p old new : List ℕ} {before after : Reach} {k x : ℕ} → Further old new before after → CellKnown m p old before k x → CellKnown m p new after k x
known-further f known = record { at = λ e l. cell-wider f.grows f.used (known.at (f.free e) l) }

-- ---- the start
pub start-stopped : {m p rows : List ℕ} {r : Reach} → r.count ≡ 0 → (r.stop ≡ Closed → ⊥) → StartReached m p rows rows r
start-stopped e n = record { grows = grows_none; few = omega (arith, e); start = λ f. absurd (n f) }

pub start-met : {m p old new : List ℕ} {used count : ℕ} {step : Step} → Wf m → Settled m p used waking step → Met old new 0 step.target → count ≤ 256 → StartReached m p old new (record { used = used; count = count; stop = Closed })
start-met {m} {new = new} wf se met few = record {
  grows = met.grows;
  few = few;
  start = λ f b w g.
      let e = start-settled se w g in
      subst (λ (q : ℕ). Has (get_or new 0 0) q) (sym e) (met.here (omega (arith, e, start-low wf w, wf.few-states)));
}

-- ---- one input
pub cell-undefined : {m p rows : List ℕ} {r : Reach} {k x : ℕ} → rule_target m (pair (k / 16) x) ≡ 255 → CellReached m p rows rows r r k x
cell-undefined e = record { further = further-none; cell = record { at = λ f l. cell-none e } }

pub cell-stopped : {m p rows : List ℕ} {before after : Reach} {k x : ℕ} → HasAll before.used after.used → after.count ≡ before.count → (after.stop ≡ Closed → ⊥) → CellReached m p rows rows before after k x
cell-stopped more e n = record { further = record { grows = grows_none; used = more; few = λ l. omega (arith, e); free = λ f. absurd (n f) }; cell = record { at = λ f. absurd (n f) } }

cell-settled : {m p rows : List ℕ} {used at s q x : ℕ} {step : Step} → Wf m → q < states_of m → x < inputs_of m → at ≡ pair q x → Settled m p used at step → step.output ≡ rule_output m (pair s x)
    → (step.target < 16 → Has (get_or rows (rule_target m (pair s x)) 0) step.target) → CellOk m (Agrees p used) rows s q x
cell-settled {m} {p} {rows} {used} {at} {s} {q} {x} {step} wf lq lx ea se eo here = record {
  out = λ t b w g. ap (λ (v : Move). v.output) (inside b) ∙ sym (se.output b w g) ∙ eo;
  next = λ t b w g.
      let et : step.target ≡ (step_of m b q x).target = se.target b w g ∙ sym (ap (λ (v : Move). v.target) (inside b)) in
      subst (λ (v : ℕ). Has (get_or rows (rule_target m (pair s x)) 0) v) et (here (omega (arith, et, step-low wf w lq lx, wf.few-states)));
}
  where
    inside : (b : List ℕ) → step_of m b q x ≡ choice_of m at (chosen m b at)
    inside b = step-inside m b q x lq lx ∙ ap (λ (j : ℕ). choice_of m j (chosen m b j)) (sym ea)

pub cell-met : {m p old new : List ℕ} {before : Reach} {used count at next k x : ℕ} {step : Step} → Wf m → x < inputs_of m → at ≡ pair (k % 16) x → HasAll before.used used → Settled m p used at step
    → step.output ≡ rule_output m (pair (k / 16) x) → next ≡ rule_target m (pair (k / 16) x) → Met old new next step.target → (before.count ≤ 256 → count ≤ 256)
    → CellReached m p old new before (record { used = used; count = count; stop = before.stop }) k x
cell-met {new = new} {step = step} wf lx ea more se eo en met few = record {
  further = record { grows = met.grows; used = more; few = few; free = λ e. e };
  cell = record { at = λ e l. cell-settled wf l lx ea se eo (λ lt. subst (λ (n : ℕ). Has (get_or new n 0) step.target) en (met.here lt)) };
}

-- ---- every input
pub row-none : {m p rows : List ℕ} {r : Reach} {k : ℕ} → RowReached m p rows rows r r k 0
row-none = record { further = further-none; row = λ x l. absurd (omega arith) }

pub row_more : {m p old mid new : List ℕ} {r s t : Reach} {k n : ℕ} → RowReached m p old mid r s k n → CellReached m p mid new s t k n → RowReached m p old new r t k (n + 1)
row_more {n = n} row cell = record { further = further-more row.further cell.further; row = below_more _ n (λ x l. known-further cell.further (row.row x l)) cell.cell }

pub row-stopped : {m p old mid new : List ℕ} {r s t : Reach} {k n w : ℕ} → RowReached m p old mid r s k n → CellReached m p mid new s t k n → t.stop ≡ Wrong → RowReached m p old new r t k w
row-stopped row cell e = record { further = further-more row.further cell.further; row = λ x l. record { at = λ f. never cc } }

pub row-all : {m p old new : List ℕ} {r s : Reach} {k n w : ℕ} → RowReached m p old new r s k n → w ≤ n → RowReached m p old new r s k w
row-all row l = record { further = row.further; row = λ x h. row.row x (omega arith) }

-- ---- within
pub record WithinTo (rows done : List ℕ) (n : ℕ) : Type 0 where
  pub at : (s : ℕ) → s < n → HasAll (get_or rows s 0) (get_or done s 0)

pub within_none : {rows done : List ℕ} → WithinTo rows done 0
within_none = record { at = λ s l. absurd (omega arith) }

pub within_more : {rows done : List ℕ} {n : ℕ} → WithinTo rows done n → HasAll (get_or rows n 0) (get_or done n 0) → WithinTo rows done (n + 1)
within_more {n = n} w h = record { at = below_more _ n w.at h }

pub within_all : {m rows done : List ℕ} {n : ℕ} → WithinTo rows done n → states_of m ≤ n → AllWithin m rows done
within_all w l = record { at = λ s h. w.at s (omega arith) }

-- ---- the pairs done: what is known of them, if nothing stops them
pub record Spreading (m p rows done : List ℕ) (r : Reach) : Type 0 where
  pub long : length rows ≡ 16
  pub done-long : length done ≡ 16
  pub few : r.count ≤ 256
  pub start : r.stop ≡ Closed → (b : List ℕ) → Ranged m b → Agrees p r.used b → Has (get_or rows 0 0) (start_of m b)
  pub known : (s q x : ℕ) → Has (get_or done s 0) q → x < inputs_of m → r.stop ≡ Closed → q < states_of m → CellOk m (Agrees p r.used) rows s q x

none-there : (n s : ℕ) → ◌≡◌ {A = ℕ} (get_or (replicate n 0) s 0) 0
none-there n s = by_cases (dec_lt s n) (λ l. get_or-replicate n s 0 0 l) (λ g. List·getD-eq-default (replicate n 0) 0 (omega (arith, length-replicate {A = ℕ} n 0)))

pub spreading-none : {m p rows : List ℕ} {r : Reach} → StartReached m p (replicate 16 0) rows r → Spreading m p rows (replicate 16 0) r
spreading-none st = record {
  long = st.grows.long;
  done-long = refl;
  few = st.few;
  start = st.start;
  known = λ s q x h. absurd (nothing q (subst (λ (n : ℕ). Has n q) (none-there 16 s) h));
}

pub spreading-more : {m p rows done more : List ℕ} {r t : Reach} {k j e u : ℕ} → j ≡ k / 16 → j < 16 → Spreading m p rows done r → RowReached m p rows more r t k (inputs_of m) → e ≡ 2 ^ (k % 16) → Joined (get_or done j 0) e u
    → Spreading m p more (set done j u) t
spreading-more {m} {p} {rows} {done} {more} {r} {t} {k} {j} {e} {u} ej lj sp row ee jo = record {
  long = row.further.grows.long ∙ sp.long;
  done-long = length-set done j u ∙ sp.done-long;
  few = row.further.few sp.few;
  start = λ f b w g. row.further.grows.more 0 (start_of m b) (sp.start (row.further.free f) b w (agrees-fewer row.further.used g));
  known = λ s q x h. go s q x (ℕ_discrete s j) h;
}
  where
    old : (s q x : ℕ) → Has (get_or done s 0) q → x < inputs_of m → t.stop ≡ Closed → q < states_of m → CellOk m (Agrees p t.used) more s q x
    old s q x h lx f lq = cell-wider row.further.grows row.further.used (sp.known s q x h lx (row.further.free f) lq)

    new : (q x : ℕ) → q ≡ k % 16 → x < inputs_of m → t.stop ≡ Closed → q < states_of m → CellOk m (Agrees p t.used) more j q x
    new q x eq lx f lq = rw (ej, eq) ((row.row x lx).at f (rw eq at lq))

    go : (s q x : ℕ) → Dec (s ≡ j) → Has (get_or (set done j u) s 0) q → x < inputs_of m → t.stop ≡ Closed → q < states_of m → CellOk m (Agrees p t.used) more s q x
    go s q x (no n) h lx f lq = old s q x (subst (λ (v : ℕ). Has v q) (get_or-set_other done j s u 0 n) h) lx f lq
    go s q x (yes es) h lx f lq =
        let here : get_or (set done j u) s 0 ≡ u = ap (λ (n : ℕ). get_or (set done j u) n 0) es ∙ get_or-set_same done j u 0 (omega (arith, sp.done-long)) in
        subst (λ (n : ℕ). CellOk m (Agrees p t.used) more n q x) (sym es)
        (⊎_elim (λ a. old j q x a lx f lq) (λ a. new q x (alone ee a) lx f lq) (jo.only q (subst (λ (v : ℕ). Has v q) here h)))

-- every pair in reach is done: those that have the choices used conform
pub spreading-all : {m p rows done : List ℕ} {r : Reach} → Wf m → Spreading m p rows done r → AllWithin m rows done → r.stop ≡ Closed → Conform m (Agrees p r.used)
spreading-all {m} {p} {rows} wf sp within e =
    conforms {a = states_of m} wf
    (record { at = λ s ls. record { at = λ q lq. record { at = λ has x lx. sp.known s q x (within.at s ls q has) lx e lq } } })
    (omega arith)
    (sp.start e)
