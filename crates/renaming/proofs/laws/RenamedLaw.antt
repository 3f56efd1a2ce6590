-- A renamed sheet: its rules, faults and STARTs are the renamed ones, and it is well-formed.
use Prim.Native.Nat.{ℕ, zero, suc, ◌+◌, ◌*◌, ◌<◌}
use Rattle.std.proofs.Common.{arith, ◌∙◌, subst, eqb-true, eq-eqb, ne_eqb}
use Rattle.std.specs.Prelude.{◌≡◌, Bool, true, false, ◌&&◌, eqb, length}
use Rattle.std.proofs.Math.Path.{refl, sym, ap, ap₂}
use Rattle.std.proofs.Math.Bool.{cond}
use Rattle.std.proofs.Math.Logic.{inl, inr}
use Rattle.std.proofs.Math.Option.{Option, none, some}
use mathlib.Core.List.{List, [], ◌∷◌, map, Memᴰ}
use Rattle.std.proofs.Math.Dec.{ltb}
use Rattle.std.proofs.lemmas.List.{length-map}
use Rattle.std.proofs.lemmas.Bool.{eqb-false}
use Rattle.lists.specs.Lists.{maybe, All, Ascending, Before, count, up_to}
use Rattle.lists.specs.laws.TestLaw.{never}
use Rattle.lists.specs.laws.AllLaw.{all-imp, all-mem, all_map}
use Rattle.lists.specs.laws.ListLaw.{ascending-of, all_both, up_to-snoc}
use Rattle.lists.specs.laws.MemberLaw.{mem-map, map-mem}
use Rattle.sheet.specs.declared.Row.{Row}
use Rattle.sheet.specs.declared.Size.{Size}
use Rattle.sheet.specs.Sheet.{Sheet, pair_of, row_of, is_at, rows_at, rule_at, after, unruled_choices, choices_at, is_open, open_below, open_pairs, wakings, waking_choices, waking_slots, open_slots}
use Rattle.sheet.specs.WellFormed.{RowIn, Mutates, StartIn, TestIn, WellFormed}
use Rattle.sheet.specs.laws.RowLaw.{before-irreflexive, rule-at}
use Rattle.model.proofs.laws.StaysLaw.{rule-row}
use Rattle.renaming.specs.Ordering.{sorted, only}
use Rattle.renaming.specs.Renaming.{renamed_row, renamed, Renames}
use Rattle.renaming.proofs.laws.SortLaw.{Up, Distinct, mem-all, union-all, sorted-up, mem-sorted, sorted-mem, sorted-length, distinct-map, total, total-map, total-same, total-sorted, total-append}
use Rattle.renaming.proofs.laws.PlaceLaw.{only-keys, only-rises, inverse, total-renamed}
use Rattle.renaming.proofs.laws.RowsLaw.{row-keys, rule-mem, mem-rule, one-row, rows-total}

-- a rule, if there is one, in new names
abbrev pub renamed_rule : (ℕ → ℕ) → Option Row → Option Row
renamed_rule p none = none
renamed_rule p (some r) = some (renamed_row p r)

-- the open pairs as a sum over the states
open-total : (sh : Sheet) (m : ℕ) → open_below sh m ≡ total (λ s. count (is_open sh s) sh.size.inputs) (up_to m)
unfolding open_below total up_to
open-total sh zero = refl
open-total sh (suc m) =
    let f : ℕ → ℕ = λ s. count (is_open sh s) sh.size.inputs in
    let more = ap (total f) (up_to-snoc m) ∙ total-append f (up_to m) (m ∷ []) in
    omega (arith, open-total sh m, more)

module _ (p : ℕ → ℕ) (rows : List Row) where
  abbrev rows_now : List Row
  rows_now = sorted row_of (map (renamed_row p) rows)

  -- the renamed rows are there, and no others
  pub row_now : (r : Row) → Memᴰ r rows → Memᴰ (renamed_row p r) rows_now
  row_now r m = mem-sorted row_of row-keys (map (renamed_row p) rows) (renamed_row p r) (mem-map (renamed_row p) m)

  pub row-was : (r : Row) → Memᴰ r rows_now → (q : Row) × Memᴰ q rows × (r ≡ renamed_row p q)
  row-was r m = map-mem (renamed_row p) rows (sorted-mem row_of row-keys (map (renamed_row p) rows) r m)

  -- what holds of each renamed row
  rows-now : (P : Row → Type 0) → All (λ r. P (renamed_row p r)) rows → All P rows_now
  rows-now P a = union-all row_of P (map (renamed_row p) rows) [] (all_map P (renamed_row p) rows a) tt

module _ (p : ℕ → ℕ) (z : Size) (ren : Renames z.states p) where
  row_in : (r : Row) → RowIn z r → RowIn z (renamed_row p r)
  row_in r h = record { source = ren.into r.source h.source; input = h.input; output = h.output; target = ren.into r.target h.target }

  row_apart : (q r : Row) → RowIn z q → RowIn z r → renamed_row p q ≡ renamed_row p r → q ≡ r
  row_apart q r hq hr e =
      let s = ren.apart q.source r.source hq.source hr.source (ap (λ w. w.source) e) in
      let t = ren.apart q.target r.target hq.target hr.target (ap (λ w. w.target) e) in
      λ i. record { source = s i; input = (e i).input; output = (e i).output; target = t i }

  -- different rows stay different
  rows-distinct : (key : Row → List ℕ) (rows : List Row) → All (RowIn z) rows → Ascending (Up key) rows → Distinct (map (renamed_row p) rows)
  rows-distinct key rows a up =
      distinct-map (RowIn z) (Up key) (renamed_row p)
      (λ q r hq hr l e. before-irreflexive (key r) (subst (λ w. Before (key w) (key r)) (row_apart q r hq hr e) l)) rows a up

  -- the rows at a renamed pair are as many as those at the pair
  rows-many : (rows : List Row) → All (RowIn z) rows → Ascending (Up row_of) rows → (s x : ℕ) → s < z.states → length (rows_at (rows_now p rows) (p s) x) ≡ length (rows_at rows s x)
  rows-many rows a up s x l =
      rows-total (rows_now p rows) (p s) x
      ∙ total-sorted row_of row-keys here (map (renamed_row p) rows) (rows-distinct row_of rows a up)
      ∙ total-map here (renamed_row p) rows
      ∙ total-same (λ r. here (renamed_row p r)) (λ r. cond (is_at r s x) 1 0) rows (all-imp _ (RowIn z) (λ r h. ap (λ b. cond (b && eqb r.input x) 1 0) (same r h)) rows a)
      ∙ sym (rows-total rows s x)
    where
      here : Row → ℕ
      here r = cond (is_at r (p s) x) 1 0

      same : (r : Row) → RowIn z r → eqb (p r.source) (p s) ≡ eqb r.source s
      same r h = go (eqb r.source s) refl
        where
          go : (b : Bool) → eqb r.source s ≡ b → eqb (p r.source) (p s) ≡ b
          go true e = eq-eqb (p r.source) (p s) (ap p (eqb-true r.source s e))
          go false e = ne_eqb (p r.source) (p s) (λ k. eqb-false r.source s e (ren.apart r.source s h.source l k))

module _ (p : ℕ → ℕ) (sh : Sheet) (wf : WellFormed sh) (ren : Renames sh.size.states p) where
  abbrev now : Sheet
  now = renamed p sh

  abbrev Was : Row → Type 0
  Was r = (q : Row) × Memᴰ q sh.rules × (r ≡ renamed_row p q)

  in-range : (r : Row) → Memᴰ r sh.rules → RowIn sh.size r
  in-range r m = all-mem (RowIn sh.size) sh.rules r wf.rules m

  -- the rules ascend by pairs
  pub rules-up : Ascending (Up pair_of) now.rules
  unfolding Before
  rules-up =
      ascending-of Was (Up row_of) (Up pair_of) pairs now.rules (mem-all Was now.rules (row-was p sh.rules)) (sorted-up row_of row-keys (map (renamed_row p) sh.rules))
    where
      pairs : (q r : Row) → Was q → Was r → Before (row_of q) (row_of r) → Before (pair_of q) (pair_of r)
      pairs q r wq wr (inl l) = inl l
      pairs q r wq wr (inr (e, inl l)) = inr (e, inl l)
      pairs q r wq wr (inr (e, inr (f, rest))) =
          let es = ren.apart wq.0.source wr.0.source (in-range wq.0 wq.1).source (in-range wr.0 wr.1).source
          (sym (ap (λ w. w.source) wq.2) ∙ e ∙ ap (λ w. w.source) wr.2) in
          let ex : wq.0.input ≡ wr.0.input = sym (ap (λ w. w.input) wq.2) ∙ f ∙ ap (λ w. w.input) wr.2 in
          let same : q ≡ r = wq.2 ∙ ap (renamed_row p) (one-row sh.rules wq.0 wr.0 wf.rules-ascend wq.1 wr.1 es ex) ∙ sym wr.2 in
          absurd (before-irreflexive (row_of r) (subst (λ w. Before (row_of w) (row_of r)) same (inr (e, inr (f, rest)))))

  -- the rule at a renamed pair is the renamed rule
  pub rule-now : (s x : ℕ) → s < sh.size.states → rule_at now.rules (p s) x ≡ renamed_rule p (rule_at sh.rules s x)
  rule-now s x l = go (rule_at sh.rules s x) refl (rule_at now.rules (p s) x) refl
    where
      go : (o : Option Row) → rule_at sh.rules s x ≡ o → (n : Option Row) → rule_at now.rules (p s) x ≡ n → rule_at now.rules (p s) x ≡ renamed_rule p o
      go (some r) e n f =
          let at = rule-at s x sh.rules r e in
          ap₂ (λ (u y : ℕ). rule_at now.rules (p u) y) (sym at.0) (sym at.1)
          ∙ mem-rule now.rules (renamed_row p r) rules-up (row_now p sh.rules r (rule-mem sh.rules s x r e))
      go none e none f = f
      go none e (some r) f =
          let was = row-was p sh.rules r (rule-mem now.rules (p s) x r f) in
          let at = rule-at (p s) x now.rules r f in
          let q = was.0 in
          let es : q.source ≡ s = ren.apart q.source s (in-range q was.1).source l (sym (ap (λ w. w.source) was.2) ∙ at.0) in
          let ex : q.input ≡ x = sym (ap (λ w. w.input) was.2) ∙ at.1 in
          let h : rule_at sh.rules s x ≡ some q = ap₂ (rule_at sh.rules) (sym es) (sym ex) ∙ mem-rule sh.rules q wf.rules-ascend was.1 in
          never (cc)

  -- sequences lead where they led
  pub after-now : (xs : List ℕ) (s t : ℕ) → s < sh.size.states → after sh.rules s xs ≡ some t → after now.rules (p s) xs ≡ some (p t)
  unfolding after
  after-now [] s t l e = let same : s ≡ t = cc in ap (λ u. some (p u)) same
  after-now (x ∷ xs) s t l e = rw (rule-now s x l) (go (rule_at sh.rules s x) refl (λ u. after-now xs u t) e)
    where
      go : (o : Option Row) → rule_at sh.rules s x ≡ o → ((u : ℕ) → u < sh.size.states → after sh.rules u xs ≡ some t → after now.rules (p u) xs ≡ some (p t)) →
          maybe o none (λ r. after sh.rules r.target xs) ≡ some t → maybe (renamed_rule p o) none (λ r. after now.rules r.target xs) ≡ some (p t)
      go none q ih h = never (cc)
      go (some r) q ih h = ih r.target (rule-row sh wf s x r q).row.target h

  -- a renamed pair has as many choices
  choices-now : (s x : ℕ) → s < sh.size.states → choices_at now (p s) x ≡ choices_at sh s x
  unfolding choices_at unruled_choices
  choices-now s x l = rw (rule-now s x l) (go (rule_at sh.rules s x))
    where
      unruled : ℕ
      unruled = cond sh.quiet 1 (sh.size.outputs * sh.size.states)

      go : (o : Option Row) → maybe (renamed_rule p o) unruled (λ r. suc (length (rows_at now.faults (p s) x))) ≡ maybe o unruled (λ r. suc (length (rows_at sh.faults s x)))
      go none = refl
      go (some r) = ap suc (rows-many p sh.size ren sh.faults wf.faults wf.faults-ascend s x l)

  -- as many open pairs
  pairs-now : open_pairs now ≡ open_pairs sh
  unfolding open_pairs is_open
  pairs-now =
      open-total now sh.size.states
      ∙ total-renamed sh.size.states p wf.size.states.some ren (λ s. count (is_open now s) sh.size.inputs) (λ s. count (is_open sh s) sh.size.inputs)
      (λ s l. ap (λ (f : ℕ → Bool). count f sh.size.inputs) (λ i x. ltb 1 (choices-now s x l i)))
      ∙ sym (open-total sh sh.size.states)

  starts-distinct : Distinct (map p sh.starts)
  starts-distinct =
      distinct-map (StartIn sh.size) ◌<◌ p (λ s t hs ht l e. let same = ren.apart s t hs.inside ht.inside e in omega arith) sh.starts wf.starts wf.starts-ascend

  pub starts-many : length now.starts ≡ length sh.starts
  starts-many = sorted-length only only-keys (map p sh.starts) starts-distinct ∙ length-map sh.starts p

  pub slots-now : open_slots now ≡ open_slots sh
  unfolding open_slots waking_slots waking_choices wakings
  slots-now = ap₂ (λ (w n : ℕ). cond (ltb 1 (suc w)) 1 0 + n) starts-many pairs-now

  pub rules-many : length now.rules ≡ length sh.rules
  rules-many = sorted-length row_of row-keys (map (renamed_row p) sh.rules) (rows-distinct p sh.size ren pair_of sh.rules wf.rules wf.rules-ascend) ∙ length-map sh.rules (renamed_row p)

  pub faults-many : length now.faults ≡ length sh.faults
  faults-many = sorted-length row_of row-keys (map (renamed_row p) sh.faults) (rows-distinct p sh.size ren row_of sh.faults wf.faults wf.faults-ascend) ∙ length-map sh.faults (renamed_row p)

  mutates : (r : Row) → RowIn sh.size r → Mutates sh.rules r → Mutates now.rules (renamed_row p r)
  mutates r h m =
      record {
        rule = renamed_row p m.rule;
        there = rule-now r.source r.input h.source ∙ ap (renamed_rule p) m.there;
        other = λ e. m.other (row_apart p sh.size ren r m.rule h (rule-row sh wf r.source r.input m.rule m.there).row e);
      }

  start-in : (t : ℕ) → StartIn sh.size t → StartIn sh.size (p t)
  start-in t h = go (p t) refl
    where
      go : (u : ℕ) → p t ≡ u → StartIn sh.size u
      go zero e = let same = ren.apart t 0 h.inside wf.size.states.some (e ∙ sym ren.zeroth) in let some = h.some in absurd (omega arith)
      go (suc u) e = record { some = omega arith; inside = rw e at (ren.into t h.inside) }

  -- a renamed sheet is well-formed
  pub well-formed-renamed : WellFormed now
  well-formed-renamed =
      record {
        size = wf.size;
        rules = rows-now p sh.rules (RowIn sh.size) (all-imp _ (RowIn sh.size) (row_in p sh.size ren) sh.rules wf.rules);
        rules-ascend = rules-up;
        faults = rows-now p sh.faults (RowIn sh.size) (all-imp _ (RowIn sh.size) (row_in p sh.size ren) sh.faults wf.faults);
        faults-ascend = sorted-up row_of row-keys (map (renamed_row p) sh.faults);
        faults-mutate = rows-now p sh.faults (Mutates now.rules) (all_both (RowIn sh.size) (Mutates sh.rules) _ mutates sh.faults wf.faults wf.faults-mutate);
        few-faults = rw faults-many wf.few-faults;
        starts = union-all only (StartIn sh.size) (map p sh.starts) [] (all_map (StartIn sh.size) p sh.starts (all-imp _ (StartIn sh.size) start-in sh.starts wf.starts)) tt;
        starts-ascend = only-rises now.starts (sorted-up only only-keys (map p sh.starts));
        few-tests = wf.few-tests;
        tests = all-imp (TestIn now.rules) (TestIn sh.rules)
            (λ xs h. record { reached = p h.reached; defined = rw ren.zeroth at (after-now xs 0 h.reached wf.size.states.some h.defined); short = h.short }) sh.tests wf.tests;
        reached = λ t l.
            let (q, inv) = inverse sh.size.states p wf.size.states.some ren in
            let r = wf.reached (q t) (inv.renames.into t l) in
            record { inputs = r.inputs; leads = rw (ren.zeroth, inv.right t l) at (after-now r.inputs 0 (q t) wf.size.states.some r.leads) };
        few-open = rw slots-now wf.few-open;
      }
