-- The store of refutations.
use Rattle.std.specs.Prelude.{◌<◌, ◌≤◌, ◌≡◌, Option as Maybe, Some, None, IfSome}
use Rattle.lists.specs.Proving.{arith, ℕ, ◌∙◌, ap, subst, List, length, get_or, set, replicate, length-set, sym, length-replicate, get_or-replicate, get_or-set_same, get_or-set_other, ℕ_discrete}
use Rattle.cubes.specs.Cube.{NoneIn}
use Rattle.cubes.specs.declared.goal.Goal.{Goal}
use Rattle.store.specs.Store.{StoreOk, Aged, Kept, Tells, Learns}
use Rattle.store.specs.declared.entries.Entry.{Entry}

-- no entry of a fresh store is in use
pub fresh : {goal : Goal} {m log : List ℕ} (n : ℕ) (entry : Entry) → entry.age ≡ 0 → StoreOk goal m log (replicate n entry)
fresh n entry z = record { at = λ e d l u. absurd (omega (arith, z, ap (λ (x : Entry). x.age) (get_or-replicate {A = Entry} n e entry d (omega (arith, l, length-replicate {A = Entry} n entry))), u)) }

pub kept_same : {store : List Entry} → Kept store store
kept_same = record { at = λ g m l ok. ok }

pub kept_more : {a b c : List Entry} → Kept a b → Kept b c → Kept a c
kept_more x y = record { at = λ g m l ok. y.at g m l (x.at g m l ok) }

-- an entry in whose place stands one in which no mutant is sought, if it is in use
put : {goal : Goal} {m log : List ℕ} {store : List Entry} (e : ℕ) (entry : Entry) → e < length store → (1 ≤ entry.age → NoneIn goal m log entry.cube) → StoreOk goal m log store → StoreOk goal m log (set store e entry)
put {goal} {m} {log} {store} e entry le ns ok = record { at = λ f d lf. go f d (omega (arith, lf, length-set store e entry)) (ℕ_discrete f e) }
  where
    go : (f : ℕ) (d : Entry) → f < length store → Dec (f ≡ e) → 1 ≤ (get_or (set store e entry) f d).age → NoneIn goal m log (get_or (set store e entry) f d).cube
    go f d lf (yes s) =
        let here : entry ≡ get_or (set store e entry) f d = rw s (sym (get_or-set_same store e entry d le)) in
        subst (λ (x : Entry). 1 ≤ x.age → NoneIn goal m log x.cube) here ns
    go f d lf (no n) = subst (λ (x : Entry). 1 ≤ x.age → NoneIn goal m log x.cube) (sym (get_or-set_other store e f entry d n)) (ok.at f d lf)

pub kept-aged : {store : List Entry} (e : ℕ) (d entry : Entry) → e < length store → Aged (get_or store e d) entry → Kept store (set store e entry)
kept-aged {store} e d entry le a = record { at = λ g m l ok. put e entry le (λ u. subst (λ (y : List ℕ). NoneIn g m l y) (sym a.cube) (ok.at e d le (a.used u))) ok }

-- an entry is handed out
pub handed : {store : List Entry} (e : ℕ) (d entry : Entry) (r : Maybe (List ℕ)) → e < length store → Aged (get_or store e d) entry × IfSome r (λ cube. (1 ≤ entry.age) × (cube ≡ entry.cube)) → Kept store (set store e entry) × Tells (set store e entry) r
handed e d entry None le a = (kept-aged e d entry le a.0, record { at = λ g m l ok. tt })
handed {store} e d entry (Some cube) le a = (kept-aged e d entry le a.0, record { at = λ g m l ok. subst (λ (y : List ℕ). NoneIn g m l y) (ap (λ (x : Entry). x.cube) here ∙ sym a.1.1) (ok.at e entry long (subst (λ (x : Entry). 1 ≤ x.age) (sym here) a.1.0)) })
  where
    here : get_or (set store e entry) e entry ≡ entry
    here = get_or-set_same store e entry entry le

    long : e < length (set store e entry)
    long = omega (arith, le, length-set store e entry)

pub learns_none : {old new : List Entry} {cube : List ℕ} → Kept old new → Learns old new cube
learns_none k = record { at = λ g m l wf st n. k.at g m l st }

pub learns-more : {old mid : List Entry} (e : ℕ) (entry : Entry) → Kept old mid → e < length mid → Learns old (set mid e entry) entry.cube
learns-more e entry k le = record { at = λ g m l wf st n. put e entry le (λ u. n) (k.at g m l st) }
