-- The search: one state more, all states that a state leads to, and one look more.
use Rattle.std.specs.Prelude.{◌+◌, ◌%◌, ◌<◌, ◌≤◌, ◌≡◌}
use Rattle.lists.specs.Proving.{arith, ℕ, suc, refl, sym, ◌∙◌, ap, subst, Option, some, none, List, get_or, set, replicate, add-one, lt-ltb, le-ltb}
use Rattle.lists.specs.Lists.{maybe, first}
use lib.ListN.{drop}
use Rattle.lists.specs.laws.ListLaw.{all-at-index}
use Rattle.sheet.specs.declared.Row.{Row}
use Rattle.sheet.specs.Sheet.{Sheet, rule_at}
use Rattle.sheet.specs.words.Tabled.{place_of, rule_target}
use Rattle.model.proofs.laws.StaysLaw.{rule-row}
use Rattle.renaming.specs.Renaming.{meet, meet_from, met_by, order, number_of}
use Rattle.renaming.proofs.laws.MetLaw.{Met, met-room, from-met, met-states}
use Rattle.renaming.proofs.laws.MarkLaw.{Marked, marked-old, unmarked, marked-new, marked-none, look-next, look_none, marked_all}
use Rattle.numbering.specs.words.Searched.{meet_next, Room, Searched}

-- ---- one state
module _ {met o number : List ℕ} {count : ℕ} (m : Marked met o number count) (t : ℕ) where
  next-met : t < 16 → meet_next met t ≡ meet met t
  next-met l = rw (lt-ltb t 16 l) refl

  module _ (low : t < 16) where
    module _ (room : Room met t) (free : get_or number t 0 ≡ 255) where
      pub meet-room : count < 16
      meet-room = omega (arith, m.counted, room low (unmarked m t low free))

      pub meet-new : Marked (meet_next met t) (set o count t) (set number t count) (count + 1)
      meet-new = subst (λ (l : List ℕ). Marked l (set o count t) (set number t count) (count + 1)) (sym (next-met low)) (marked-new m t low free meet-room)

  pub meet-at : {i : ℕ} → i ≡ t → i < 16 → Room met t → get_or number i 0 ≡ 255 → Marked (meet_next met t) (set o count t) (set number i count) (count + 1)
  meet-at e low room free = rw e (meet-new (omega arith) room (rw e at free))

-- ---- the states that s leads to
-- where the code reads in the table
pub read-there : (target : List ℕ) {r : ℕ} (s x : ℕ) → r ≡ place_of s x → get_or target r 0 ≡ get_or target (place_of s x) 0
read-there target s x e = ap (λ k. get_or target k 0) e

module _ {sh : Sheet} {target : List ℕ} {inputs : ℕ} (h : Searched sh target inputs) (s : ℕ) (in-range : s < sh.size.states) (met : List ℕ) where
  module _ (x : ℕ) (below : x < inputs) (t : ℕ) (is : t ≡ get_or target (place_of s x) 0) where
    leads : t ≡ rule_target (rule_at sh.rules s x)
    leads =
        let few = h.formed.size.states.few in
        let narrow = h.formed.size.inputs.few in
        is ∙ h.table.at s x (omega arith) (omega (arith, h.width))

    pub from-room : Met sh.size.states met → Room (meet_from sh.rules s met x) t
    from-room hm = subst (Room (meet_from sh.rules s met x)) (sym leads) (go (rule_at sh.rules s x) refl)
      where
        go : (o : Option Row) → rule_at sh.rules s x ≡ o → Room (meet_from sh.rules s met x) (rule_target o)
        go none e l out = absurd (omega arith)
        go (some r) e l out =
            let few = h.formed.size.states.few in
            omega (arith, met-room sh.size.states (meet_from sh.rules s met x) r.target (from-met sh h.formed s met x hm) (rule-row sh h.formed s x r e).row.target out)

    from_next : meet_from sh.rules s met (x + 1) ≡ meet_next (meet_from sh.rules s met x) t
    unfolding meet_from
    from_next = rw (add-one, leads) (go (rule_at sh.rules s x) refl)
      where
        go : (o : Option Row) → rule_at sh.rules s x ≡ o → maybe o (meet_from sh.rules s met x) (λ r. meet (meet_from sh.rules s met x) r.target) ≡ meet_next (meet_from sh.rules s met x) (rule_target o)
        go none e = refl
        go (some r) e =
            let few = h.formed.size.states.few in
            let low : r.target < 16 = omega (arith, (rule-row sh h.formed s x r e).row.target) in
            rw (lt-ltb r.target 16 low) refl

    pub from_more : {o number : List ℕ} {count : ℕ} → Marked (meet_next (meet_from sh.rules s met x) t) o number count → Marked (meet_from sh.rules s met (x + 1)) o number count
    from_more {o} {number} {count} m = subst (λ (l : List ℕ). Marked l o number count) (sym from_next) m

pub from-none : (sh : Sheet) (s : ℕ) (met : List ℕ) {o number : List ℕ} {count : ℕ} → Marked met o number count → Marked (meet_from sh.rules s met 0) o number count
unfolding meet_from
from-none sh s met m = m

pub from_all : (sh : Sheet) (s : ℕ) (met : List ℕ) {x inputs : ℕ} {o number : List ℕ} {count : ℕ} → x ≤ inputs → inputs ≤ x → Marked (meet_from sh.rules s met x) o number count → Marked (meet_from sh.rules s met inputs) o number count
from_all sh s met {x} {inputs} {o} {number} {count} a b m = let e : x ≡ inputs = omega arith in subst (λ (n : ℕ). Marked (meet_from sh.rules s met n) o number count) e m

-- ---- one look more
module _ {sh : Sheet} {target : List ℕ} {inputs : ℕ} (h : Searched sh target inputs) (i : ℕ) where
  module _ {o number : List ℕ} {count : ℕ} (m : Marked (met_by sh i) o number count) where
    pub look-state : i < count → get_or o i 0 < sh.size.states
    look-state l =
        let low = all-at-index (λ s. s < sh.size.states) (met_by sh i) i 0 (omega (arith, m.counted)) (met-states sh h.formed i).below in
        omega (arith, m.stands i l, low)

    pub look-met : {o' number' : List ℕ} {r : ℕ} → i < count → Marked (meet_from sh.rules (get_or o i 0) (met_by sh i) inputs) o' number' r → Marked (met_by sh (suc i)) o' number' r
    unfolding met_by
    look-met {o'} {number'} {r} l k =
        let met = met_by sh i in
        let same : meet_from sh.rules (get_or o i 0) met inputs ≡ maybe (first (drop i met)) met (λ s. meet_from sh.rules s met sh.size.inputs) =
        rw (m.stands i l, h.width) (sym (look-next met i met (λ s. meet_from sh.rules s met sh.size.inputs) (omega (arith, m.counted)))) in
        subst (λ (l : List ℕ). Marked l o' number' r) same k

    pub look-past : count ≤ i → Marked (met_by sh (suc i)) o number count
    unfolding met_by
    look-past l =
        let met = met_by sh i in
        subst (λ (l : List ℕ). Marked l o number count) (sym (look_none met i met (λ s. meet_from sh.rules s met sh.size.inputs) (omega (arith, m.counted)))) m

  pub look-more : {o number : List ℕ} {count : ℕ} → Marked (met_by sh (suc i)) o number count → Marked (met_by sh (i + 1)) o number count
  look-more {o} {number} {count} m = subst (λ (j : ℕ). Marked (met_by sh j) o number count) (sym (add-one i)) m

pub looked-none : (sh : Sheet) → Marked (met_by sh 0) (replicate 16 0) (set (replicate 16 255) 0 0) 1
unfolding met_by
looked-none sh = marked-none

pub looked-all : {sh : Sheet} {target : List ℕ} {inputs : ℕ} → Searched sh target inputs → (i : ℕ) → i ≡ sh.size.states → {o number : List ℕ} {count : ℕ} → Marked (met_by sh i) o number count → (t : ℕ) → t < sh.size.states → get_or number t 0 ≡ number_of sh t
unfolding order
looked-all {sh} h i e {o} {number} {count} m t l = marked_all sh h.formed (subst (λ (j : ℕ). Marked (met_by sh j) o number count) e m) t l
