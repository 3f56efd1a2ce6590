-- A set of pairs of states that is closed under some mutants makes each of them conforming.
use Rattle.std.specs.Prelude.{◌+◌, ◌*◌, ◌<◌, ◌≤◌, ◌≡◌, ◌∷◌}
use Rattle.lists.specs.Proving.{arith, ℕ, refl, sym, ◌∙◌, ap, ap₂, subst, Option, some, none, List, [], get_or, ℕ_discrete, below_more, never}
use Rattle.std.proofs.Math.Option.{some-injective}
use Rattle.lists.specs.Lists.{maybe}
use Rattle.model.specs.Machine.{Move, prepend, outputs_from, specified_from, ConformingFrom}
use Rattle.cubes.specs.Sets.{Has, HasAll}
use Rattle.block.specs.Layout.{pair, site_at, rule_output, rule_target, states_of, inputs_of}
use Rattle.block.specs.Tabulated.{Wf, Ranged, rule_of, step_of, start_of}
use Rattle.cubes.specs.declared.goal.Goal.TheVariants.{Nonconforming}
use Rattle.block.specs.Tabulated.{StepIs}
use Rattle.block.specs.declared.layout.Step.{Step}
use Rattle.block.specs.laws.ChoiceLaw.{choice-at, choice-low, choice-lone, step-closed, step-open, RuleAt, rule-at, start-low}
use Rattle.cubes.specs.Cube.{In, NoneIn, Conform, AllConform, Given, LoneOk, FreedOk, CellOk, RowOk, LineOk, Sought, StartsOk}
use Rattle.cubes.specs.laws.SuspectedLaw.{place-low, Suspected, suspected}

-- ---- one input at a pair of states
pub lone-low : {m : List ℕ} {k : ℕ} {r : Step} → Wf m → k < 256 → site_at m k ≡ 255 → StepIs m k 0 r → r.target < 16
lone-low {m} {k} wf lk e is = omega (arith, is.target wf (choice-lone m k e), choice-low k 0 wf (omega (arith, lk)) (choice-lone m k e), wf.few-states)

pub lone-ok : {m : List ℕ} {k o row : ℕ} {r : Step} → Wf m → site_at m k ≡ 255 → StepIs m k 0 r → r.output ≡ o → Has row r.target → LoneOk m k o row
lone-ok {m} {k} {o} {row} {r} wf e is eo h =
    let lc = choice-lone m k e in
    record { out = sym (is.output wf lc) ∙ eo; next = subst (λ (y : ℕ). Has row y) (is.target wf lc) h }

pub cell-none : {m pairs : List ℕ} {those : List ℕ → Type 0} {s q x : ℕ} → rule_target m (pair s x) ≡ 255 → CellOk m those pairs s q x
cell-none e = record { out = λ t. absurd (t e); next = λ t. absurd (t e) }

pub cell-lone : {m pairs : List ℕ} {those : List ℕ → Type 0} {s q x o row : ℕ} (k : ℕ) → q < states_of m → x < inputs_of m → k ≡ pair q x → site_at m k ≡ 255 → o ≡ rule_output m (pair s x)
    → row ≡ get_or pairs (rule_target m (pair s x)) 0 → LoneOk m k o row → CellOk m those pairs s q x
cell-lone {m} {pairs} {those} {s} {q} {x} {o} {row} k lq lx ek es eo er ok =
    let at : site_at m (pair q x) ≡ 255 = subst (λ (n : ℕ). site_at m n ≡ 255) ek es in
    let lo : LoneOk m (pair q x) o row = subst (λ (n : ℕ). LoneOk m n o row) ek ok in
    record {
      out = λ t b r g. ap (λ (y : Move). y.output) (step-closed m b q x lq lx at) ∙ lo.out ∙ eo;
      next = λ t b r g. rw (step-closed m b q x lq lx at, ← er) lo.next;
    }

pub cell-freed : {m facts cube pairs : List ℕ} {s q x i o l row : ℕ} (k : ℕ) → Given m facts → q < states_of m → x < inputs_of m → k ≡ pair q x → i ≡ site_at m k → (site_at m k ≡ 255 → ⊥)
    → l ≡ get_or cube i 0 → o ≡ rule_output m (pair s x) → row ≡ get_or pairs (rule_target m (pair s x)) 0 → FreedOk facts l i o row → CellOk m (In m cube) pairs s q x
cell-freed {m} {facts} {cube} {pairs} {s} {q} {x} {i} {o} {l} {row} k gi lq lx ek ei ns el eo er ok = record {
  out = λ t b r g. out b r g ∙ eo;
  next = λ t b r g. subst (λ (y : ℕ). Has y (step_of m b q x).target) er (ok.next (step_of m b q x) (sus b r g).means (out b r g)
      (subst (λ (y : ℕ). Has (get_or facts (i * 16 + y) 0) (step_of m b q x).target) (out b r g) ((sus b r g).at (λ j v. Has (get_or facts (j * 16 + v.output) 0) v.target) gi.tables.going)));
}
  where
    sus : (b : List ℕ) → Ranged m b → In m cube b → Suspected m (step_of m b q x) i l
    sus b r g = suspected k gi.wf lq lx ek ei ns el r g

    out : (b : List ℕ) → Ranged m b → In m cube b → (step_of m b q x).output ≡ o
    out b r g = ok.out (step_of m b q x) (sus b r g).means ((sus b r g).at (λ j v. Has (get_or facts (512 + j) 0) v.output) gi.tables.sounding)

-- ---- the loops
pub record RowTo (m : List ℕ) (those : List ℕ → Type 0) (pairs : List ℕ) (s q x : ℕ) : Type 0 where
  pub at : (y : ℕ) → y < x → CellOk m those pairs s q y

pub row-none : {m pairs : List ℕ} {those : List ℕ → Type 0} {s q : ℕ} → RowTo m those pairs s q 0
row-none = record { at = λ y l. absurd (omega arith) }

pub row_more : {m pairs : List ℕ} {those : List ℕ → Type 0} {s q x : ℕ} → RowTo m those pairs s q x → CellOk m those pairs s q x → RowTo m those pairs s q (x + 1)
row_more {x = x} r c = record { at = below_more _ x r.at c }

pub row-all : {m pairs : List ℕ} {those : List ℕ → Type 0} {s q x : ℕ} → RowTo m those pairs s q x → inputs_of m ≤ x → RowOk m those pairs s q
row-all r l = record { at = λ has y h. r.at y (omega arith) }

pub row-not : {m pairs : List ℕ} {those : List ℕ → Type 0} {s q row : ℕ} → row ≡ get_or pairs s 0 → (Has row q → ⊥) → RowOk m those pairs s q
row-not e n = record { at = λ has. absurd (n (rw e has)) }

pub record LineTo (m : List ℕ) (those : List ℕ → Type 0) (pairs : List ℕ) (s q : ℕ) : Type 0 where
  pub at : (p : ℕ) → p < q → RowOk m those pairs s p

pub line-none : {m pairs : List ℕ} {those : List ℕ → Type 0} {s : ℕ} → LineTo m those pairs s 0
line-none = record { at = λ y l. absurd (omega arith) }

pub line-more : {m pairs : List ℕ} {those : List ℕ → Type 0} {s q : ℕ} → LineTo m those pairs s q → RowOk m those pairs s q → LineTo m those pairs s (q + 1)
line-more {q = q} r c = record { at = below_more _ q r.at c }

pub line-all : {m pairs : List ℕ} {those : List ℕ → Type 0} {s q : ℕ} → LineTo m those pairs s q → states_of m ≤ q → LineOk m those pairs s
line-all r l = record { at = λ p h. r.at p (omega arith) }

pub record ClosedTo (m : List ℕ) (those : List ℕ → Type 0) (pairs : List ℕ) (a : ℕ) : Type 0 where
  pub at : (s : ℕ) → s < a → LineOk m those pairs s

pub closed_none : {m pairs : List ℕ} {those : List ℕ → Type 0} → ClosedTo m those pairs 0
closed_none = record { at = λ y l. absurd (omega arith) }

pub closed-more : {m pairs : List ℕ} {those : List ℕ → Type 0} {a : ℕ} → ClosedTo m those pairs a → LineOk m those pairs a → ClosedTo m those pairs (a + 1)
closed-more {a = a} r c = record { at = below_more _ a r.at c }

-- ---- conforming
-- a defined sequence that begins with x
pub record Pressed (m : List ℕ) (s x : ℕ) (xs os : List ℕ) : Type 0 where
  pub low : s < states_of m
  pub input : x < inputs_of m
  pub there : rule_target m (pair s x) ≡ 255 → ⊥
  pub rest : List ℕ
  pub splits : os ≡ rule_output m (pair s x) ∷ rest
  pub defined : specified_from (rule_of m) (rule_target m (pair s x)) xs ≡ some rest

pub pressed : (m : List ℕ) (s x : ℕ) (xs os : List ℕ) → specified_from (rule_of m) s (x ∷ xs) ≡ some os → Pressed m s x xs os
unfolding specified_from
pressed m s x xs os e = go (rule_of m s x) refl e
  where
    more : (r : Move) → RuleAt m s x r → (q : Option (List ℕ)) → specified_from (rule_of m) r.target xs ≡ q → prepend r.output q ≡ some os → Pressed m s x xs os
    more r at none eq e = never (cc)
    more r at (some rest) eq e = record {
      low = at.low;
      input = at.input;
      there = at.there;
      rest = rest;
      splits = sym (some-injective _ _ e) ∙ ap (λ (n : ℕ). n ∷ rest) at.output;
      defined = subst (λ (n : ℕ). specified_from (rule_of m) n xs ≡ some rest) at.target eq;
    }

    go : (o : Option Move) → rule_of m s x ≡ o → maybe o none (λ r. prepend r.output (specified_from (rule_of m) r.target xs)) ≡ some os → Pressed m s x xs os
    go none eo e = never (cc)
    go (some r) eo e = more r (rule-at m s x r eo) (specified_from (rule_of m) r.target xs) refl e

nothing-same : (m b os : List ℕ) (s q : ℕ) → specified_from (rule_of m) s [] ≡ some os → outputs_from (step_of m b) q [] ≡ os
unfolding specified_from outputs_from
nothing-same m b os s q d = some-injective _ _ d

pub press-given : (m b : List ℕ) (q x : ℕ) (xs : List ℕ) → outputs_from (step_of m b) q (x ∷ xs) ≡ (step_of m b q x).output ∷ outputs_from (step_of m b) (step_of m b q x).target xs
unfolding outputs_from
press-given m b q x xs = refl

-- a mutant goes from states to states
pub step-low : {m b : List ℕ} {q x : ℕ} → Wf m → Ranged m b → q < states_of m → x < inputs_of m → (step_of m b q x).target < states_of m
step-low {m} {b} {q} {x} wf r lq lx = go (ℕ_discrete (site_at m (pair q x)) 255)
  where
    lk : pair q x < 257
    lk = omega (arith, place-low wf lq lx)

    go : Dec (site_at m (pair q x) ≡ 255) → (step_of m b q x).target < states_of m
    go (yes e) = rw (step-closed m b q x lq lx e) (choice-low (pair q x) 0 wf lk (choice-lone m (pair q x) e))
    go (no n) =
        let li = wf.sites (pair q x) lk n in
        rw (step-open m b q x (site_at m (pair q x)) lq lx li refl)
        (choice-low (pair q x) (get_or b (site_at m (pair q x)) 0) wf lk (choice-at m (pair q x) (site_at m (pair q x)) (get_or b (site_at m (pair q x)) 0) refl li (r.at (site_at m (pair q x)) li)))

-- those mutants, if the pairs have their starts
pub conforms : {m pairs : List ℕ} {those : List ℕ → Type 0} {a : ℕ} → Wf m → ClosedTo m those pairs a → states_of m ≤ a
    → ((b : List ℕ) → Ranged m b → those b → Has (get_or pairs 0 0) (start_of m b)) → Conform m those
unfolding ConformingFrom
conforms {m} {pairs} {those} {a} wf r l starts = λ b i g xs os d. go b i g xs os 0 (start_of m b) (start-low wf i) (starts b i g) d
  where
    go : (b : List ℕ) → Ranged m b → those b → (xs os : List ℕ) (s q : ℕ) → q < states_of m → Has (get_or pairs s 0) q → specified_from (rule_of m) s xs ≡ some os → outputs_from (step_of m b) q xs ≡ os
    go b i g [] os s q lq y d = nothing-same m b os s q d
    go b i g (x ∷ xs) os s q lq y d =
        let ps = pressed m s x xs os d in
        let cv : CellOk m those pairs s q x = ((r.at s (omega (arith, ps.low))).at q lq).at y x ps.input in
        press-given m b q x xs
        ∙ ap₂ (λ (y : ℕ) (ys : List ℕ). y ∷ ys) (cv.out ps.there b i g)
        (go b i g xs ps.rest (rule_target m (pair s x)) (step_of m b q x).target (step-low wf i lq ps.input) (cv.next ps.there b i g) ps.defined)
        ∙ sym ps.splits

-- those of a cube
pub all-conform : {m cube pairs : List ℕ} {a set : ℕ} → Wf m → ClosedTo m (In m cube) pairs a → states_of m ≤ a → StartsOk m cube set → HasAll set (get_or pairs 0 0) → AllConform m cube
all-conform {m} wf r l starts more = record { at = conforms wf r l (λ b i g. more (start_of m b) (starts.at b i g)) }

-- so none of them is nonconforming
pub conforms-none : {m log cube : List ℕ} → AllConform m cube → NoneIn Nonconforming m log cube
unfolding Sought
conforms-none f = record { at = λ b r g y. y.1 (f.at b r g) }
