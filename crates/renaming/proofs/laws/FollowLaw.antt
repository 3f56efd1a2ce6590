-- A sheet that has every transition of another, with the states renamed: each mutant of that other has a mutant here that does the same, so
-- a suite that is complete here is complete there.
use Rattle.std.specs.Prelude.{ℕ, zero, ◌<◌, ◌≡◌, Bool, true, false, eqb}
use Rattle.std.proofs.Common.{arith, ◌∙◌}
use Rattle.std.proofs.Math.Path.{refl, sym, ap, ap₂, subst}
use Rattle.std.proofs.Math.Bool.{cond}
use Rattle.std.proofs.Math.Option.{Option, none, some}
use Rattle.std.proofs.Math.Logic.{⊎_elim}
use mathlib.Core.List.{List, [], ◌∷◌, map, Memᴰ}
use Rattle.lists.specs.Lists.{maybe, up_to, joined}
use Rattle.lists.specs.laws.AllLaw.{all-mem}
use Rattle.lists.specs.laws.MemberLaw.{mem-map, map-mem, mem-joined, joined-mem, up_to-below, up_to-has}
use Rattle.sheet.specs.declared.Row.{Row}
use Rattle.sheet.specs.declared.Size.{Size}
use Rattle.sheet.specs.Sheet.{Sheet, rows_at, rule_at, wakings}
use Rattle.sheet.specs.WellFormed.{WellFormed}
use Rattle.model.specs.Machine.{Move, Pair, prepend, outputs_from, specified_from, ConformingFrom}
use Rattle.model.specs.Mutant.{move_of, rule, stay, unruled, transitions, later, IsMutant, step, initial, against, Conforming}
use Rattle.model.specs.Suite.{wrong_from, wrong_in, first_failed_in, first_failed_of}
use Rattle.model.specs.Verdict.{Complete}
use Rattle.model.proofs.laws.SuiteLaw.{specified-uncons}
use Rattle.model.proofs.laws.StaysLaw.{Closed, RowAt, rows-at, closed, start-below}
use Rattle.renaming.specs.Renaming.{renamed_row, Renames}
use Rattle.renaming.proofs.laws.PlaceLaw.{Inverse, inverse}
use Rattle.renaming.proofs.laws.RowsLaw.{rows-mem, mem-rows}
use Rattle.renaming.proofs.laws.RenamedLaw.{renamed_rule}
use Rattle.renaming.proofs.laws.MutatedLaw.{step-mem, initial-mem, mutated}

-- a move to the renamed state
abbrev pub renamed_move : (ℕ → ℕ) → Move → Move
renamed_move p m = record { output = m.output; target = p m.target }

abbrev ruled_move : (ℕ → ℕ) → Option Move → Option Move
ruled_move p none = none
ruled_move p (some m) = some (renamed_move p m)

-- ---- machines
-- m' does what m does, with the states renamed
record Copies (p : ℕ → ℕ) (m m' : Pair) : Type 0 where
  rules : (s x : ℕ) → s < m.states → m'.rule (p s) x ≡ ruled_move p (m.rule s x)
  moves : (s x : ℕ) → s < m.states → x < m.inputs → m'.move (p s) x ≡ renamed_move p (m.move s x)

module _ (p : ℕ → ℕ) (m m' : Pair) (in-m : Closed m) (copies : Copies p m m') where
  copies-specified : (xs : List ℕ) (s : ℕ) → s < m.states → specified_from m'.rule (p s) xs ≡ specified_from m.rule s xs
  unfolding specified_from
  copies-specified [] s l = refl
  copies-specified (x ∷ xs) s l = rw (copies.rules s x l) (go (m.rule s x) refl (copies-specified xs))
    where
      go : (o : Option Move) → m.rule s x ≡ o → ((t : ℕ) → t < m.states → specified_from m'.rule (p t) xs ≡ specified_from m.rule t xs) →
          maybe (ruled_move p o) none (λ r. prepend r.output (specified_from m'.rule r.target xs)) ≡ maybe o none (λ r. prepend r.output (specified_from m.rule r.target xs))
      go none e ih = refl
      go (some r) e ih = ap (prepend r.output) (ih r.target (in-m.rule-below s x r l e))

  copies-outputs : (xs os : List ℕ) (s t : ℕ) → s < m.states → t < m.states → specified_from m.rule s xs ≡ some os → outputs_from m'.move (p t) xs ≡ outputs_from m.move t xs
  unfolding outputs_from
  copies-outputs [] os s t ls lt e = refl
  copies-outputs (x ∷ xs) os s t ls lt e =
      let f = specified-uncons m.rule s x xs os e in
      let lx = in-m.input-below s x f.move f.ruled in
      rw (copies.moves t x lt lx)
      (ap (λ (l : List ℕ). (m.move t x).output ∷ l)
      (copies-outputs xs f.rest f.move.target (m.move t x).target (in-m.rule-below s x f.move ls f.ruled) (in-m.move-below t x lt lx) f.specifies))

  copies-wrong : (xs : List ℕ) (s t : ℕ) → s < m.states → t < m.states → wrong_from m' (p s) (p t) xs ≡ wrong_from m s t xs
  unfolding wrong_from
  copies-wrong [] s t ls lt = refl
  copies-wrong (x ∷ xs) s t ls lt = rw (copies.rules s x ls) (go (m.rule s x) refl (copies-wrong xs))
    where
      go : (o : Option Move) → m.rule s x ≡ o → ((u v : ℕ) → u < m.states → v < m.states → wrong_from m' (p u) (p v) xs ≡ wrong_from m u v xs) →
          maybe (ruled_move p o) none (λ r. cond (eqb r.output (m'.move (p t) x).output) (later (wrong_from m' r.target (m'.move (p t) x).target xs)) (some zero))
          ≡ maybe o none (λ r. cond (eqb r.output (m.move t x).output) (later (wrong_from m r.target (m.move t x).target xs)) (some zero))
      go none e ih = refl
      go (some r) e ih =
          let lx = in-m.input-below s x r e in
          rw (copies.moves t x lt lx)
          (ap (λ w. cond (eqb r.output (m.move t x).output) (later w) (some zero)) (ih r.target (m.move t x).target (in-m.rule-below s x r ls e) (in-m.move-below t x lt lx)))

  copies-conforming : (s t : ℕ) → s < m.states → t < m.states → ConformingFrom m' (p s) (p t) → ConformingFrom m s t
  unfolding ConformingFrom
  copies-conforming s t ls lt c xs os e = sym (copies-outputs xs os s t ls lt e) ∙ c xs os (copies-specified xs s ls ∙ e)

-- ---- sheets
-- the sheet a has the rules of b, and its faults and waking states and perhaps more, with the states renamed
pub record Follows (p : ℕ → ℕ) (b a : Sheet) : Type 0 where
  pub size : a.size ≡ b.size
  pub quiet : a.quiet ≡ b.quiet
  pub renames : Renames b.size.states p
  pub ruled : (s x : ℕ) → s < b.size.states → rule_at a.rules (p s) x ≡ renamed_rule p (rule_at b.rules s x)
  pub faulty : (r : Row) → Memᴰ r b.faults → Memᴰ (renamed_row p r) a.faults
  pub waking : (t : ℕ) → Memᴰ t b.starts → Memᴰ (p t) a.starts

-- the transitions without a rule, by the sizes
abbrev all_moves : Size → Bool → ℕ → List Move
all_moves z quiet s = cond quiet (stay s ∷ []) (joined (λ o. map (λ t. record { output = o; target = t }) (up_to z.states)) (up_to z.outputs))

moves-on : (p : ℕ → ℕ) (z : Size) (quiet : Bool) (s : ℕ) (m : Move) → Renames z.states p → Memᴰ m (all_moves z quiet s) → Memᴰ (renamed_move p m) (all_moves z quiet (p s))
moves-on p z true s m ren there = ⊎_elim (λ e. mathlib.Core.List.Memᴰ.head (ap (renamed_move p) e)) (λ n. absurd (mathlib.Core.List.Memᴰ.not-nil n)) (mathlib.Core.List.Memᴰ.cases_cons there)
moves-on p z false s m ren there =
    let row : ℕ → List Move = λ o. map (λ t. record { output = o; target = t }) (up_to z.states) in
    let (o, lo, mo) = joined-mem row (up_to z.outputs) there in
    let (t, lt, e) = map-mem (λ t. record { output = o; target = t }) (up_to z.states) mo in
    let below = ren.into t (all-mem (λ i. i < z.states) (up_to z.states) t (up_to-below z.states) lt) in
    subst (λ w. Memᴰ (renamed_move p w) (joined row (up_to z.outputs))) (sym e)
    (mem-joined row lo (mem-map (λ u. record { output = o; target = u }) (up_to-has z.states (p t) below)))

module _ (p : ℕ → ℕ) (b a : Sheet) (wf : WellFormed b) (follows : Follows p b a) where
  -- a transition there is one here
  transition-on : (s x : ℕ) (m : Move) → s < b.size.states → Memᴰ m (transitions b s x) → Memᴰ (renamed_move p m) (transitions a (p s) x)
  unfolding transitions unruled
  transition-on s x m l there =
      rw (follows.ruled s x l) (go (rule_at b.rules s x) there)
    where
      go : (o : Option Row) → Memᴰ m (maybe o (all_moves b.size b.quiet s) (λ r. move_of r ∷ map move_of (rows_at b.faults s x))) →
          Memᴰ (renamed_move p m) (maybe (renamed_rule p o) (all_moves a.size a.quiet (p s)) (λ r. move_of r ∷ map move_of (rows_at a.faults (p s) x)))
      go none h =
          subst (λ z. Memᴰ (renamed_move p m) (all_moves z a.quiet (p s))) (sym follows.size)
          (subst (λ q. Memᴰ (renamed_move p m) (all_moves b.size q (p s))) (sym follows.quiet) (moves-on p b.size b.quiet s m follows.renames h))
      go (some r) h =
          ⊎_elim (λ e. mathlib.Core.List.Memᴰ.head (ap (renamed_move p) e))
          (λ n.
          let (q, here, e) = map-mem move_of (rows_at b.faults s x) n in
          let at = all-mem (RowAt b.size s x) (rows_at b.faults s x) q (rows-at b.size s x b.faults wf.faults) here in
          let now = mem-rows a.faults (renamed_row p q) (follows.faulty q (rows-mem b.faults s x q here)) in
          let now' : Memᴰ (renamed_row p q) (rows_at a.faults (p s) x) =
          subst (λ u. Memᴰ (renamed_row p q) (rows_at a.faults (p u) x)) at.source (subst (λ y. Memᴰ (renamed_row p q) (rows_at a.faults (p q.source) y)) at.input now) in
          mathlib.Core.List.Memᴰ.tail (subst (λ w. Memᴰ (renamed_move p w) (map move_of (rows_at a.faults (p s) x))) (sym e) (mem-map move_of now')))
          (mathlib.Core.List.Memᴰ.cases_cons h)

  waking-on : (t : ℕ) → Memᴰ t (wakings b) → Memᴰ (p t) (wakings a)
  unfolding wakings
  waking-on t m = ⊎_elim (λ e. mathlib.Core.List.Memᴰ.head (ap p e ∙ follows.renames.zeroth)) (λ n. mathlib.Core.List.Memᴰ.tail (follows.waking t n)) (mathlib.Core.List.Memᴰ.cases_cons m)

  -- a mutant here that does what c does there, with the states renamed
  pub record Followed (c : List ℕ) : Type 0 where
    pub mutant : List ℕ
    pub is : IsMutant a mutant
    pub steps : (s x : ℕ) → s < b.size.states → x < b.size.inputs → step a mutant (p s) x ≡ renamed_move p (step b c s x)
    pub start : initial a mutant ≡ p (initial b c)

  rules-on : (s x : ℕ) → s < b.size.states → rule a (p s) x ≡ ruled_move p (rule b s x)
  unfolding rule
  rules-on s x l = rw (follows.ruled s x l) (go (rule_at b.rules s x))
    where
      go : (o : Option Row) → maybe (renamed_rule p o) none (λ r. some (move_of r)) ≡ ruled_move p (maybe o none (λ r. some (move_of r)))
      go none = refl
      go (some r) = refl

  -- each mutant there has one here
  pub followed : (c : List ℕ) → IsMutant b c → Followed c
  followed c is = found (inverse b.size.states p wf.size.states.some follows.renames)
    where
      states : a.size.states ≡ b.size.states
      states = ap (λ (z : Size). z.states) follows.size

      inputs : a.size.inputs ≡ b.size.inputs
      inputs = ap (λ (z : Size). z.inputs) follows.size

      found : (q : ℕ → ℕ) × Inverse b.size.states p q → Followed c
      found (q, inv) =
          let d = mutated a (λ s x m. m ≡ renamed_move p (step b c (q s) x)) (λ t. t ≡ p (initial b c))
          (λ s x ls lx.
          let l : s < b.size.states = omega (arith, states) in
          let k = inv.renames.into s l in (
            renamed_move p (step b c (q s) x),
            subst (λ u. Memᴰ (renamed_move p (step b c (q s) x)) (transitions a u x)) (inv.right s l)
                (transition-on (q s) x (step b c (q s) x) k (step-mem b wf c is (q s) x k (omega (arith, inputs)))),
            refl,
          ))
          (p (initial b c), waking-on (initial b c) (initial-mem b wf c is), refl) in
          record {
            mutant = d.mutant;
            is = d.is;
            steps = λ s x ls lx.
                let k = follows.renames.into s ls in
                d.steps (p s) x (omega (arith, states)) (omega (arith, inputs)) ∙ ap (λ u. renamed_move p (step b c u x)) (inv.left s ls);
            start = d.wakes;
          }

  module _ (c : List ℕ) (d : Followed c) where
    copies : Copies p (against b c) (against a d.mutant)
    copies = record { rules = rules-on; moves = d.steps }

    -- it fails the tests that the other fails
    same-failed : (ts : List (List ℕ)) → first_failed_in a d.mutant ts ≡ first_failed_in b c ts
    unfolding first_failed_in wrong_in
    same-failed [] = refl
    same-failed (t ∷ ts) =
        let zeroth : 0 ≡ p 0 = sym follows.renames.zeroth in
        let same : wrong_from (against a d.mutant) 0 (initial a d.mutant) t ≡ wrong_from (against b c) 0 (initial b c) t =
        ap₂ (λ (s u : ℕ). wrong_from (against a d.mutant) s u t) zeroth d.start
        ∙ copies-wrong p (against b c) (against a d.mutant) (closed b c wf) copies t 0 (initial b c) wf.size.states.some (start-below b c wf) in
        rw (same, same-failed ts) refl

    conforming-on : Conforming a d.mutant → Conforming b c
    conforming-on h =
        copies-conforming p (against b c) (against a d.mutant) (closed b c wf) copies 0 (initial b c) wf.size.states.some (start-below b c wf)
        (subst (λ s. ConformingFrom (against a d.mutant) s (p (initial b c))) (sym follows.renames.zeroth)
        (subst (ConformingFrom (against a d.mutant) 0) d.start h))

  -- what is complete here finds every nonconforming mutant there
  pub fails-there : Complete a → (c : List ℕ) → IsMutant b c → (Conforming b c → ⊥) → first_failed_in b c a.tests ≡ none → ⊥
  unfolding Complete first_failed_of
  fails-there complete c is departs passes =
      let d = followed c is in
      complete d.mutant d.is (λ h. departs (conforming-on c d h)) (same-failed c d a.tests ∙ passes)

  -- so with the same tests it is complete there
  pub complete-back : a.tests ≡ b.tests → Complete a → Complete b
  unfolding Complete first_failed_of
  complete-back same complete c is departs passes = fails-there complete c is departs (ap (first_failed_in b c) same ∙ passes)
