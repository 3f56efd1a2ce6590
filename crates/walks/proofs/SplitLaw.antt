-- A settled part by the choices of a suspect.
use Rattle.std.specs.Prelude.{◌+◌, ◌<◌, ◌≤◌, ◌≡◌, true, Option as Maybe, Some, None, is_some}
use Rattle.lists.specs.Proving.{arith, ℕ, sym, ◌∙◌, ap, subst, never, by_cases, List, length, get_or, set, List·getD-eq-default, get_or-set_same, get_or-set_other, ℕ_discrete, dec_lt}
use Rattle.block.specs.Tabulated.{Ranged}
use Rattle.cubes.specs.Sets.{Has, Joined}
use Rattle.cubes.specs.Cube.{Sought, Conform, Extends}
use Rattle.cubes.specs.declared.goal.Goal.{Goal}
use Rattle.cubes.specs.declared.goal.Goal.TheVariants.{Nonconforming}
use Rattle.walks.specs.Walks.{Agrees, NoneBy, Stands, ToldOk, SplitOk}
use Rattle.walks.specs.declared.walk.Place.{Place}
use Rattle.walks.proofs.StandLaw.{agrees-fewer}

-- ---- one more choice settled
module _ (p : List ℕ) (i c : ℕ) where
  -- a suspect that is not settled is in no one's way
  agrees-parent : {b : List ℕ} {used : ℕ} → get_or p i 0 ≡ 256 → Agrees (set p i c) used b → Agrees p used b
  agrees-parent free g = record {
    at = λ j h s.
        let other : get_or (set p i c) j 0 ≡ get_or p j 0 = get_or-set_other p i j c 0 (λ e. s (ap (λ (n : ℕ). get_or p n 0) e ∙ free)) in
        g.at j h (λ z. s (sym other ∙ z)) ∙ other;
  }

  -- nor one whose choice is the mutant's, if it is used
  agrees-child : {b : List ℕ} {used : ℕ} → (Has used i → get_or b i 0 ≡ get_or (set p i c) i 0) → Agrees p used b → Agrees (set p i c) used b
  agrees-child {b} {used} here g = record { at = λ j h s. go j h s (ℕ_discrete j i) }
    where
      go : (j : ℕ) → Has used j → (get_or (set p i c) j 0 ≡ 256 → ⊥) → Dec (j ≡ i) → get_or b j 0 ≡ get_or (set p i c) j 0
      go j h s (yes e) = subst (λ (n : ℕ). get_or b n 0 ≡ get_or (set p i c) n 0) (sym e) (here (subst (λ (n : ℕ). Has used n) e h))
      go j h s (no n) = let other = get_or-set_other p i j c 0 n in g.at j h (λ z. s (other ∙ z)) ∙ sym other

  pub stands-child : {m log : List ℕ} {place : Place} → get_or p i 0 ≡ 256 → Stands m log p place → Stands m log (set p i c) place
  stands-child free st = record { at = λ b w g. st.at b w (agrees-parent free g) }

  -- what does not depend on the suspect holds without its choice
  pub none-parent : {goal : Goal} {m log : List ℕ} {used : ℕ} → NoneBy goal m log (set p i c) used → (Has used i → ⊥) → NoneBy goal m log p used
  none-parent none free = record { at = λ b w g. none.at b w (agrees-child (λ h. absurd (free h)) g) }

-- ---- the same part, written otherwise
pub stands-as : {m log p q : List ℕ} {place : Place} → q ≡ p → Stands m log p place → Stands m log q place
stands-as {m} {log} {p} {q} {place} e st = subst (λ (l : List ℕ). Stands m log l place) (sym e) st

pub none-as : {goal : Goal} {m log p q : List ℕ} {used : ℕ} → q ≡ p → NoneBy goal m log q used → NoneBy goal m log p used
none-as {goal} {m} {log} {used = used} e none = subst (λ (l : List ℕ). NoneBy goal m log l used) e none

-- ---- all its choices
-- none of the mutants whose choice at i is below c is sought
pub record Tried (goal : Goal) (m log p : List ℕ) (i c used : ℕ) : Type 0 where
  pub at : (b : List ℕ) → Ranged m b → Agrees p used b → get_or b i 0 < c → Sought goal m log b → ⊥

pub tried-none : {goal : Goal} {m log p : List ℕ} {i used : ℕ} → Tried goal m log p i 0 used
tried-none = record { at = λ b w g l. absurd (omega arith) }

-- an unsettled suspect has a place
inside : (p : List ℕ) (i : ℕ) → get_or p i 0 ≡ 256 → i < length p
inside p i free = by_cases (dec_lt i (length p)) (λ l. l) (λ n. let past : length p ≤ i = omega (arith, n) in absurd (omega (arith, free, List·getD-eq-default p 0 past)))

pub tried-more : {goal : Goal} {m log p : List ℕ} {i c used by wider : ℕ} → get_or p i 0 ≡ 256 → Tried goal m log p i c used → NoneBy goal m log (set p i c) by → Joined used by wider → Tried goal m log p i (c + 1) wider
tried-more {goal} {m} {log} {p} {i} {c} free tr none jo = record {
  at = λ b w g l. by_cases (dec_lt (get_or b i 0) c) (tr.at b w (agrees-fewer jo.left g))
      (λ n. none.at b w (agrees-child p i c (λ h. let same : get_or b i 0 ≡ c = omega arith in same ∙ sym (get_or-set_same p i c 0 (inside p i free))) (agrees-fewer jo.right g)));
}

pub tried-all : {goal : Goal} {m log p : List ℕ} {i c n left used : ℕ} → Tried goal m log p i c used → SplitOk m p i left n → n ≤ c → NoneBy goal m log p used
tried-all {i = i} tr sp l = record { at = λ b w g. tr.at b w g (omega (arith, sp.count, w.at i sp.low)) }

-- ---- what is told
-- those that conform are not sought
pub none-conforming : {m log p : List ℕ} {used : ℕ} → Conform m (Agrees p used) → NoneBy Nonconforming m log p used
unfolding Sought
none-conforming f = record { at = λ b w g y. y.1 (f b w g) }

-- a mutant with all the choices of the prefix has those used, whichever are told
pub none-told : (goal : Goal) (m log p : List ℕ) (r : Maybe ℕ) → ToldOk goal m log p r → is_some r ≡ true → (b : List ℕ) → Ranged m b → Extends b p → Sought goal m log b → ⊥
none-told goal m log p None told e b w ex = never cc
none-told goal m log p (Some used) told e b w ex = told.at b w (record { at = λ j h. ex j })

-- what stands before each choice; q is p, settled at the suspect by the choice before
pub record Trying (goal : Goal) (m log p q : List ℕ) (i left end : ℕ) (place : Place) (c used : ℕ) : Type 0 where
  pub split : SplitOk m p i left end
  pub few : end ≤ 256
  pub stands : Stands m log p place
  pub tried : Tried goal m log p i c used
  pub child : (v : ℕ) → set q i v ≡ set p i v
