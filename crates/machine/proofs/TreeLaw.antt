-- The tree of a search, breadth first: it grows link by link, and what a link that shows another output, or a full tree, tells.
use Prim.Native.Nat.{ℕ, zero, suc, ◌+◌, ◌*◌, ◌/◌, ◌%◌, ◌≤◌, ◌<◌}
use native.Mathlib.Decide.{dec_lt, ℕ_discrete}
use native.Mathlib.Omega.{arith}
use mathlib.Core.Path.{◌≡◌, refl, sym, ap, ◌∙◌, subst}
use mathlib.Core.Logic.{◌⊎◌, inl, inr, ⊎_elim, by_cases}
use mathlib.Core.Bool.{Bool, true, false, cond}
use mathlib.Core.Option.{some, none}
use mathlib.Core.List.{List, [], ◌∷◌, ◌++◌, append_assoc}
use borrow.Author.Tests.{lt-ltb, le-ltb}
use lib.Dec.{eqb, ltb}
use lib.ListN.{length, get_or, set, length-set, length-append, replicate, length-replicate, get_or-replicate}
use lib.Seq.{get_or-set_same, get_or-set_other}
use Rattle.lists.specs.Lists.{count, overlay}
use Rattle.lists.specs.laws.TestLaw.{never}
use Rattle.sheet.specs.laws.ReachedLaw.{count_most}
use Rattle.model.specs.Machine.{Pair, DistinguishesFrom}
use Rattle.model.specs.Compare.{compare_pair, found}
use Rattle.model.specs.Verdict.{After}
use Rattle.model.proofs.laws.StaysLaw.{Closed}
use Rattle.model.proofs.laws.CompareLaw.{Shown, dist-uncons, dist-one, dist-cons, dist-nil}
use Rattle.machine.specs.declared.product.Led.{Led}
use Rattle.machine.specs.declared.product.Led.TheVariants as led
use Rattle.std.specs.Prelude.{Some, None}
use Rattle.machine.specs.Product.{leads}
use Rattle.machine.specs.Tree.{pair_at, link_at, unseen, Spare, EnteredPair, Paths, LinkSettled, Tree, ExpandedOk}
use Rattle.machine.specs.Differences.{Difference, difference_of}
use Rattle.machine.proofs.SequenceLaw.{AtMost, after-append, after_last, at-most-append, at-most-longer, at-most-trans, compare-first, compare-nothing, compare-short}
use Rattle.machine.proofs.PathLaw.{paths-fewer}
use Rattle.machine.proofs.ProductLaw.{Onward, leads-undefined, leads-apart, leads-to}

-- below n + 1: below n, or n
below : (P : ℕ → Type 0) (n : ℕ) → ((i : ℕ) → i < n → P i) → P n → (i : ℕ) → i < n + 1 → P i
below P n h e i l = by_cases (ℕ_discrete i n) (λ q. subst P (sym q) e) (λ ne. h i (omega arith))

-- a pair that is seen for the first time
module _ (seen : List ℕ) (v : ℕ) (fresh : get_or seen v 0 ≡ 0) (long : v < length seen) where
  unseen_same : (n : ℕ) → n ≤ v → unseen (set seen v 1) n ≡ unseen seen n
  unfolding count
  unseen_same zero l = refl
  unseen_same (suc n) l = rw (get_or-set_other seen v n 1 0 (omega arith), unseen_same n (omega arith)) refl

  pub unseen-less : (n : ℕ) → v < n → unseen seen n ≡ suc (unseen (set seen v 1) n)
  unfolding count
  unseen-less zero l = elim l [ ]
  unseen-less (suc n) l =
      by_cases (ℕ_discrete n v)
      (λ e. rw (e, fresh, get_or-set_same seen v 1 0 long, unseen_same v (omega arith)) refl)
      (λ ne. let o = get_or-set_other seen v n 1 0 ne in rw (o, unseen-less n (omega arith)) (go (eqb (get_or seen n 0) 0)))
    where
      go : (b : Bool) → cond b (suc (suc (unseen (set seen v 1) n))) (suc (unseen (set seen v 1) n)) ≡ suc (cond b (suc (unseen (set seen v 1) n)) (unseen (set seen v 1) n))
      go true = refl
      go false = refl

-- before the first entry
pub room-none : {entries seen : List ℕ} → entries ≡ replicate 256 0 → seen ≡ replicate 256 0 → Spare entries seen 0
room-none {entries} {seen} ee es =
    record {
      entries-long = rw ee (length-replicate {A = ℕ} 256 0);
      seen-long = rw es (length-replicate {A = ℕ} 256 0);
      room = omega (arith, count_most (λ v. eqb (get_or seen v 0) 0) 256);
    }

-- there is an entry for it
pub room-one : {entries seen : List ℕ} {n v : ℕ} → Spare entries seen n → v < 256 → get_or seen v 0 ≡ 0 → n < 256
room-one {entries} {seen} {n} {v} r l fresh = omega (arith, unseen-less seen v fresh (omega (arith, r.seen-long)) 256 l, r.room)

-- what is entered
module _ {entries seen : List ℕ} {n link : ℕ} {r : Led} where
  pub entered-none : ((v : ℕ) → r ≡ led.To v → ⊥) → EnteredPair entries seen n link r entries seen n
  entered-none h = record { same = λ _. (refl, refl, refl); new = λ v e. absurd (h v e) }

  module _ {v i : ℕ} (e : r ≡ led.To v) (ei : i ≡ v) where
    pub entered-old : (get_or seen i 0 ≡ 0 → ⊥) → EnteredPair entries seen n link r entries seen n
    entered-old h = record { same = λ _. (refl, refl, refl); new = λ w f z. let q : w ≡ i = cc in absurd (h (rw (← q) z)) }

    pub entered-new : get_or seen i 0 ≡ 0 → EnteredPair entries seen n link r (set entries n (256 * link + i)) (set seen i 1) (n + 1)
    entered-new z = record { same = λ h. absurd (h v e (rw (← ei) z)); new = λ w f _. let q : w ≡ i = cc in rw q (refl, refl, refl) }

-- the entries before stay
entered-keeps : {entries seen entries' seen' : List ℕ} {n n' link : ℕ} {r : Led} → EnteredPair entries seen n link r entries' seen' n' → (i : ℕ) → i < n →
    (i < n') × (get_or entries' i 0 ≡ get_or entries i 0)
entered-keeps {entries} {seen} {entries'} {seen'} {n} {n'} {link} {r} e i l = go r refl
  where
    stays : ((v : ℕ) → r ≡ led.To v → get_or seen v 0 ≡ 0 → ⊥) → (i < n') × (get_or entries' i 0 ≡ get_or entries i 0)
    stays h = let k = e.same h in (omega (arith, k.2), rw k.0 refl)

    go : (q : Led) → r ≡ q → (i < n') × (get_or entries' i 0 ≡ get_or entries i 0)
    go led.Undefined q = stays (λ v f. never (cc))
    go led.Apart q = stays (λ v f. never (cc))
    go (led.To v) q =
        by_cases (ℕ_discrete (get_or seen v 0) 0)
        (λ z. let k = e.new v q z in (omega (arith, k.2), rw k.0 (get_or-set_other entries n i (256 * link + v) 0 (omega arith))))
        (λ nz. stays (λ w f z. nz (let same : v ≡ w = cc in rw same z)))

-- the first entry
pub tree-root : (m : Pair) {entries seen entries' seen' : List ℕ} {n : ℕ} → m.start < m.states → m.states ≤ 16 →
    entries ≡ replicate 256 0 → seen ≡ replicate 256 0 → EnteredPair entries seen 0 0 (led.To m.start) entries' seen' n →
    Tree m entries' seen' n 0
tree-root m {entries} {seen} {entries'} {seen'} {n} low few ee es entered =
    let zeros : (i : ℕ) → i < 256 → get_or seen i 0 ≡ 0 = λ i l. rw (es) (get_or-replicate {A = ℕ} 256 i 0 0 l) in
    let e = entered.new m.start refl (zeros m.start (omega arith)) in
    let none = room-none ee es in
    let long = none.entries-long in
    let seen-long = none.seen-long in
    let here : get_or entries' 0 0 ≡ m.start = rw (e.0, get_or-set_same entries 0 (256 * 0 + m.start) 0 (omega arith)) (omega arith) in
    let is : pair_at entries' 0 ≡ m.start = rw here (omega arith) in
    let one : n ≡ 1 = e.2 in
    record {
      sized = record {
        entries-long = rw e.0 (length-set entries 0 _ ∙ long);
        seen-long = rw e.1 (length-set seen m.start 1 ∙ seen-long);
        room = rw (e.1, one) (omega (arith, unseen-less seen m.start (zeros m.start (omega arith)) (omega arith) 256 (omega arith), none.room));
      };
      some = omega arith;
      root = is;
      path = λ i. [];
      paths = record { root = refl; back = λ i pos l. absurd (omega arith); step = λ i pos l. absurd (omega arith) };
      inside = λ i l. let z : i ≡ 0 = omega arith in rw (z, is) (omega arith, omega arith);
      came = λ i pos l. absurd (omega arith);
      order = λ i j pos k l. absurd (omega arith);
      made = λ i pos l. absurd (omega arith);
      kept = λ v l ne. by_cases (ℕ_discrete v m.start) (λ q. (0, omega arith, is ∙ sym q)) (λ nq. absurd (ne (rw (e.1, get_or-set_other seen m.start v 1 0 nq) (zeros v l))));
      done = λ l k. absurd (omega arith);
    }

-- the states that an input leads to
next-states : {m : Pair} → Closed m → m.states ≤ 16 → {v x w : ℕ} (o : Onward m v x w) → v % 16 < m.states → (w / 16 ≡ o.rule.target) × (w % 16 ≡ (m.move (v % 16) x).target)
next-states {m} cl few {v} {x} {w} o l =
    let low = cl.move-below (v % 16) x l (cl.input-below (v / 16) x o.rule o.specified) in
    (omega (arith, o.next), omega (arith, o.next))

-- where an input leads from a pair of states
next-inside : {m : Pair} → Closed m → m.states ≤ 16 → (v x w : ℕ) → (v / 16 < m.states) × (v % 16 < m.states) → x < m.inputs → leads m v x ≡ led.To w →
    (w / 16 < m.states) × (w % 16 < m.states)
next-inside {m} cl few v x w i lx e =
    let o = leads-to m v x e in
    let p = cl.rule-below (v / 16) x o.rule i.0 o.specified in
    let q = cl.move-below (v % 16) x i.1 lx in
    let s = next-states cl few o i.1 in
    (omega (arith, s.0), omega (arith, s.1))

module _ {m : Pair} (cl : Closed m) (few : m.states ≤ 16) (narrow : m.inputs ≤ 16) {entries seen : List ℕ} {n : ℕ} where
  -- the same entries, and more links are settled
  tree-on : {at : ℕ} (to : ℕ) → Tree m entries seen n at → at ≤ to → ((l : ℕ) → l < to → l % 16 < m.inputs → LinkSettled m entries n l) → Tree m entries seen n to
  tree-on to t le done =
      record {
        sized = t.sized;
        some = t.some;
        root = t.root;
        path = t.path;
        paths = t.paths;
        inside = t.inside;
        came = t.came;
        order = t.order;
        made = λ i pos l. omega (arith, t.made i pos l);
        kept = t.kept;
        done = done;
      }

  -- the next link is settled: it leads to no pair that was not seen
  tree-same : {at : ℕ} → Tree m entries seen n at → LinkSettled m entries n at → Tree m entries seen n (at + 1)
  tree-same {at} t s = tree-on (at + 1) t (omega arith) (below (λ l. l % 16 < m.inputs → LinkSettled m entries n l) at t.done (λ _. s))

  -- or it leads to one, the next entry
  module _ {h x v : ℕ} (t : Tree m entries seen n (16 * h + x)) (lh : h < n) (lx : x < m.inputs) (e : leads m (pair_at entries h) x ≡ led.To v)
      (fresh : get_or seen v 0 ≡ 0) (lv : v < 256) where
    at : ℕ
    at = 16 * h + x

    after : List ℕ
    after = set entries n (256 * at + v)

    room : n < 256
    room = room-one t.sized lv fresh

    old : (i : ℕ) → i < n → get_or after i 0 ≡ get_or entries i 0
    unfolding after
    old i l = get_or-set_other entries n i (256 * at + v) 0 (omega arith)

    here : get_or after n 0 ≡ 256 * at + v
    unfolding after
    here = get_or-set_same entries n (256 * at + v) 0 (omega (arith, t.sized.entries-long, room))

    new-pair : pair_at after n ≡ v
    new-pair = rw here (omega arith)

    new-link : link_at after n ≡ at
    new-link = rw here (omega arith)

    path : ℕ → List ℕ
    path i = cond (ltb i n) (t.path i) (t.path h ++ x ∷ [])

    old-path : (i : ℕ) → i < n → path i ≡ t.path i
    unfolding path
    old-path i l = rw (lt-ltb i n l) refl

    new-path : path n ≡ t.path h ++ x ∷ []
    unfolding path
    new-path = rw (le-ltb n n (omega arith)) refl

    parent : at / 16 ≡ h
    unfolding at
    parent = omega arith

    last : at % 16 ≡ x
    unfolding at
    last = omega arith

    -- what holds of the entries before, and of the new one
    each : (P : ℕ → Type 0) → ((i : ℕ) → i < n → P i) → P n → (i : ℕ) → i < n + 1 → P i
    each P = below P n

    grown-paths : Paths after (n + 1) path
    grown-paths =
        record {
          root = old-path 0 t.some ∙ t.paths.root;
          back = λ i pos l. each (λ j. 0 < j → link_at after j / 16 < j) (λ j k p. rw (old j k) (t.paths.back j p k)) (λ _. rw (new-link, parent) lh) i l pos;
          step = λ i pos l. each (λ j. 0 < j → path j ≡ path (link_at after j / 16) ++ link_at after j % 16 ∷ [])
              (λ j k p.
              let b = t.paths.back j p k in
              rw (old j k, old-path j k, old-path (link_at entries j / 16) (omega arith)) (t.paths.step j p k))
              (λ _. rw (new-link, parent, last, new-path, old-path h lh) refl) i l pos;
        }

    was_settled : (l : ℕ) → l < at → l % 16 < m.inputs → LinkSettled m after (n + 1) l
    unfolding at
    was_settled l k low =
        rw (old (l / 16) (omega arith))
        (⊎_elim (λ u. inl u) (λ s. inr (s.0, omega (arith, s.1), rw (old s.0 s.1) s.2, λ pos. rw (old s.0 s.1) (s.3 pos))) (t.done l k low))

    is-settled : LinkSettled m after (n + 1) at
    is-settled = rw (parent, last, old h lh) (inr (n, omega arith, rw new-pair e, λ _. rw new-link (omega arith)))

    tree-new : Tree m after (set seen v 1) (n + 1) (at + 1)
    unfolding at after
    tree-new =
        record {
          sized = record {
            entries-long = length-set entries n (256 * at + v) ∙ t.sized.entries-long;
            seen-long = length-set seen v 1 ∙ t.sized.seen-long;
            room = omega (arith, unseen-less seen v fresh (omega (arith, t.sized.seen-long)) 256 lv, t.sized.room);
          };
          some = omega arith;
          root = rw (old 0 t.some) t.root;
          path = path;
          paths = grown-paths;
          inside = each (λ i. (pair_at after i / 16 < m.states) × (pair_at after i % 16 < m.states)) (λ i l. rw (old i l) (t.inside i l)) (rw new-pair (next-inside cl few (pair_at entries h) x v (t.inside h lh) lx e));
          came = λ i pos l. each (λ j. 0 < j → leads m (pair_at after (link_at after j / 16)) (link_at after j % 16) ≡ led.To (pair_at after j))
              (λ j k p.
              let b = t.paths.back j p k in
              rw (old j k, old (link_at entries j / 16) (omega arith)) (t.came j p k))
              (λ _. rw (new-link, new-pair, parent, last, old h lh) e) i l pos;
          order = λ i j pos k l. each (λ j. i < j → link_at after i < link_at after j)
              (λ j lj li. rw (old i (omega arith), old j lj) (t.order i j pos li lj))
              (λ li. rw (old i li, new-link) (t.made i pos li)) j l k;
          made = λ i pos l. each (λ j. 0 < j → link_at after j < at + 1) (λ j k p. rw (old j k) (omega (arith, t.made j p k))) (λ _. rw new-link (omega arith)) i l pos;
          kept = λ w lw ne. by_cases (ℕ_discrete w v) (λ q. (n, omega arith, new-pair ∙ sym q))
              (λ nq.
              let k = t.kept w lw (λ z. ne (get_or-set_other seen v w 1 0 nq ∙ z)) in
              (k.0, omega (arith, k.1), rw (old k.0 k.1) k.2));
          done = below (λ l. l % 16 < m.inputs → LinkSettled m after (n + 1) l) at was_settled (λ _. is-settled);
        }

  -- after an input that shows no other output
  module _ {h x n' : ℕ} {r : Led} {entries' seen' : List ℕ} (t : Tree m entries seen n (16 * h + x)) (lh : h < n) (lx : x < m.inputs)
      (e : r ≡ leads m (pair_at entries h) x) (together : r ≡ led.Apart → ⊥) (entered : EnteredPair entries seen n (16 * h + x) r entries' seen' n') where
    parent-here : (16 * h + x) / 16 ≡ h
    parent-here = omega arith

    last-here : (16 * h + x) % 16 ≡ x
    last-here = omega arith

    next_here : 16 * h + (x + 1) ≡ 16 * h + x + 1
    next_here = omega arith

    settled_here : (leads m (pair_at entries h) x ≡ led.Undefined) ⊎ ((i : ℕ) × (i < n) × (leads m (pair_at entries h) x ≡ led.To (pair_at entries i)) × (0 < i → link_at entries i ≤ 16 * h + x)) →
        LinkSettled m entries n (16 * h + x)
    settled_here s = rw (parent-here, last-here) s

    stays : ((v : ℕ) → r ≡ led.To v → get_or seen v 0 ≡ 0 → ⊥) → LinkSettled m entries n (16 * h + x) → Tree m entries' seen' n' (16 * h + (x + 1))
    stays known s = let k = entered.same known in rw (k.0, k.1, k.2, next_here) (tree-same t s)

    by-led : (l : Led) → r ≡ l → Tree m entries' seen' n' (16 * h + (x + 1))
    unfolding after at
    by-led led.Undefined q = stays (λ v f. never (cc)) (settled_here (inl (sym e ∙ q)))
    by-led led.Apart q = absurd (together q)
    by-led (led.To v) q =
        let i = next-inside cl few (pair_at entries h) x v (t.inside h lh) lx (sym e ∙ q) in
        let low : v < 256 = omega (arith, i.0) in
        by_cases (ℕ_discrete (get_or seen v 0) 0)
        (λ z.
        let k = entered.new v q z in
        rw (k.0, k.1, k.2, next_here) (tree-new t lh lx (sym e ∙ q) z low))
        (λ nz.
        let k = t.kept v low nz in
        stays (λ w f z. nz (let same : v ≡ w = cc in rw same z))
        (settled_here (inr (k.0, k.1, sym e ∙ q ∙ ap led.To (sym k.2), λ pos. omega (arith, t.made k.0 pos k.1)))))

    pub tree-more : Tree m entries' seen' n' (16 * h + (x + 1))
    tree-more = by-led r refl

  -- after the last input
  pub tree-next : (h : ℕ) → Tree m entries seen n (16 * h + m.inputs) → Tree m entries seen n (16 * (h + 1))
  tree-next h t = tree-on (16 * (h + 1)) t (omega arith) (λ l k low. t.done l (omega arith) low)

-- the expansion of entry h, the pair v, up to input x
pub record Expanding (m : Pair) (entries seen : List ℕ) (n h v x : ℕ) : Type 0 where
  pub tree : Tree m entries seen n (16 * h + x)
  pub there : h < n
  pub pair : v ≡ pair_at entries h

module _ {m : Pair} {entries seen : List ℕ} {n h v : ℕ} where
  pub expanding-none : Tree m entries seen n (16 * h) → h < n → v ≡ pair_at entries h → Expanding m entries seen n h v 0
  expanding-none t l e = record { tree = subst (λ (at : ℕ). Tree m entries seen n at) (omega arith) t; there = l; pair = e }

  pub expanding-pair : {x : ℕ} → Expanding m entries seen n h v x → (v / 16 < m.states) × (v % 16 < m.states)
  expanding-pair g = rw g.pair (g.tree.inside h g.there)

  module _ (cl : Closed m) (few : m.states ≤ 16) (narrow : m.inputs ≤ 16) {x : ℕ} (g : Expanding m entries seen n h v x) where
    pub expanding-more : {n' : ℕ} {r : Led} {entries' seen' : List ℕ} → x < m.inputs → r ≡ leads m v x → (r ≡ led.Apart → ⊥) →
        EnteredPair entries seen n (16 * h + x) r entries' seen' n' → Expanding m entries' seen' n' h v (x + 1)
    expanding-more lx e together entered =
        let k = entered-keeps entered h g.there in
        record { tree = tree-more cl few narrow g.tree g.there lx (e ∙ rw g.pair refl) together entered; there = k.0; pair = g.pair ∙ rw k.1 refl }

    pub expanding-apart : {r : Led} → x < m.inputs → r ≡ leads m v x → r ≡ led.Apart → ExpandedOk m entries seen n h (Some x)
    expanding-apart lx e q = (g.there, lx, g.tree, rw (← g.pair) (sym e ∙ q))

    pub expanding-all : x ≡ m.inputs → ExpandedOk m entries seen n h None
    expanding-all e = (g.there, tree-next cl few narrow h (rw e at g.tree))

-- what the tree tells
module _ {m : Pair} (cl : Closed m) (few : m.states ≤ 16) (narrow : m.inputs ≤ 16) {entries seen : List ℕ} {n at : ℕ} (t : Tree m entries seen n at) (low : m.start < m.states) where
  -- u distinguishes the states of entry i
  Tells : ℕ → List ℕ → Type 0
  Tells i u = DistinguishesFrom m (pair_at entries i / 16) (pair_at entries i % 16) u

  -- a later entry has a later path
  ascending : (b i j : ℕ) → i < j → j < n → j ≤ b → After (t.path i) (t.path j)
  ascending zero i j li lj lb = absurd (omega arith)
  ascending (suc b) i j li lj lb =
      let back = t.paths.back j (omega arith) lj in
      by_cases (ℕ_discrete i 0)
      (λ z. rw (z, t.paths.root, t.paths.step j (omega arith) lj) (inl (simp length-append (omega arith))))
      (λ nz.
      let less = t.order i j (omega arith) li lj in
      let k = link_at entries i in
      let l = link_at entries j in
      rw (t.paths.step i (omega arith) (omega arith), t.paths.step j (omega arith) lj)
      (by_cases (ℕ_discrete (k / 16) (l / 16))
      (λ q. rw q (after_last (t.path (l / 16)) (omega arith)))
      (λ nq. after-append (t.path (k / 16)) (t.path (l / 16)) (k % 16 ∷ []) (l % 16 ∷ []) refl (ascending b (k / 16) (l / 16) (omega arith) (omega arith) (omega arith)))))

  -- the inputs of a link: those that lead to its entry, and its own
  along : ℕ → List ℕ
  along l = t.path (l / 16) ++ l % 16 ∷ []

  -- a later link has later inputs
  later : (k l : ℕ) → k ≤ l → l / 16 < n → AtMost (along k) (along l)
  unfolding along
  later k l le low =
      by_cases (ℕ_discrete k l) (λ q. inl (ap along q))
      (λ ne. inr (by_cases (ℕ_discrete (k / 16) (l / 16))
      (λ q. rw q (after_last (t.path (l / 16)) (omega arith)))
      (λ nq. after-append (t.path (k / 16)) (t.path (l / 16)) (k % 16 ∷ []) (l % 16 ∷ []) refl (ascending (l / 16) (k / 16) (l / 16) (omega arith) low (omega arith)))))

  -- an entry that was reached by no later link than l
  reached : (i l : ℕ) → i < n → (0 < i → link_at entries i ≤ l) → l / 16 < n → AtMost (t.path i) (along l)
  unfolding along
  reached i l li h low =
      by_cases (ℕ_discrete i 0)
      (λ z. rw (z, t.paths.root) (inr (inl (simp length-append (omega arith)))))
      (λ nz. rw (t.paths.step i (omega arith) li) (later (link_at entries i) l (h (omega arith)) low))

  -- a distinguishing sequence from an entry, along settled links to one that is not
  module _ (R : ℕ → List ℕ → Type 0)
      (ends : (i x : ℕ) (u : List ℕ) → i < n → x < m.inputs → at ≤ 16 * i + x → R i (x ∷ u))
      (goes : (i j x : ℕ) (u : List ℕ) → i < n → x < m.inputs → AtMost (t.path j) (t.path i ++ x ∷ []) → R j u → R i (x ∷ u)) where
    -- its first input, along a settled link
    onward : (i x : ℕ) (u : List ℕ) → i < n → ((j : ℕ) → j < n → Tells j u → R j u) → 16 * i + x < at →
        x < m.inputs → Shown m (λ a b. DistinguishesFrom m a b u) (pair_at entries i / 16) (pair_at entries i % 16) x → R i (x ∷ u)
    unfolding Tells Shown along
    onward i x u li next k lx s =
        let v = pair_at entries i in
        let l = 16 * i + x in
        let parent : l / 16 ≡ i = omega arith in
        let last : l % 16 ≡ x = omega arith in
        let to : (j : ℕ) → j < n → leads m v x ≡ led.To (pair_at entries j) → (0 < j → link_at entries j ≤ l) → R i (x ∷ u) = λ j lj e made.
        (let o = leads-to m v x e in
        let both : some o.rule ≡ some s.0 = sym o.specified ∙ s.1 in
        let same : o.rule ≡ s.0 = cc in
        let q = next-states cl few o (t.inside i li).1 in
        let at_most = rw (parent, last) at (reached j l lj made (rw parent li)) in
        ⊎_elim (λ ne. absurd (ne (rw (← same) o.same)))
        (λ h. goes i j x u li lx at_most (next j lj (rw (q.0, q.1, same) h)))
        s.2) in
        ⊎_elim (λ e. let z = leads-undefined m v x e in let z' = s.1 in never (cc)) (λ e. to e.0 e.1 e.2 e.3)
        (rw (parent, last) at (t.done l k (rw last lx)))

    follow : (u : List ℕ) (i : ℕ) → i < n → Tells i u → R i u
    unfolding Tells Shown
    follow [] i li d = absurd (dist-nil m _ _ d)
    follow (x ∷ u) i li d =
        let s = dist-uncons m _ _ x u d in
        let lx = cl.input-below _ x s.0 s.1 in
        by_cases (dec_lt (16 * i + x) at) (λ k. onward i x u li (follow u) k lx s) (λ k. ends i x u li lx (omega arith))

  -- the inputs that lead to an entry, before a sequence that distinguishes its states
  from-root : (b i : ℕ) (u : List ℕ) → i < n → i ≤ b → Tells i u → Tells 0 (t.path i ++ u)
  unfolding Tells
  from-root zero i u li lb d = let z : i ≡ 0 = omega arith in rw (z, t.paths.root) (rw z at d)
  from-root (suc b) i u li lb d =
      by_cases (ℕ_discrete i 0) (λ z. rw (z, t.paths.root) (rw z at d))
      (λ nz.
      let l = link_at entries i in
      let back = t.paths.back i (omega arith) li in
      let o = leads-to m (pair_at entries (l / 16)) (l % 16) (t.came i (omega arith) li) in
      let q = next-states cl few o (t.inside (l / 16) (omega arith)).1 in
      rw (t.paths.step i (omega arith) li, append_assoc)
      (from-root b (l / 16) (l % 16 ∷ u) (omega arith) (omega arith) (dist-cons m _ _ (l % 16) u o.rule o.specified (rw (q.0, q.1) at d))))

  -- the root is the pair of the starts
  root-first : pair_at entries 0 / 16 ≡ 0
  root-first = omega (arith, t.root)

  root-second : pair_at entries 0 % 16 ≡ m.start
  root-second = omega (arith, t.root)

  along-is : (h x : ℕ) → x < m.inputs → along (16 * h + x) ≡ t.path h ++ x ∷ []
  unfolding along
  along-is h x lx =
      let parent : (16 * h + x) / 16 ≡ h = omega arith in
      let last : (16 * h + x) % 16 ≡ x = omega arith in
      rw (parent, last) refl

  -- no sequence that distinguishes an entry's states comes, after the inputs that lead to it, before those of the next link
  module _ (h x : ℕ) (ea : at ≡ 16 * h + x) (lx : x < m.inputs) where
    not-before : (i : ℕ) (u : List ℕ) → i < n → Tells i u → AtMost (along at) (t.path i ++ u)
    not-before i u li d =
        follow (λ j w. AtMost (along at) (t.path j ++ w))
        (λ j y w lj ly k.
        let l : (16 * j + y) / 16 ≡ j = omega arith in
        rw (← append_assoc (t.path j) (y ∷ []) w)
        (at-most-trans _ _ _ (rw (along-is j y ly) at (later at (16 * j + y) k (omega arith))) (at-most-longer (t.path j ++ y ∷ []) w)))
        (λ j k y w lj ly a r. rw (← append_assoc (t.path j) (y ∷ []) w) (at-most-trans _ _ _ r (at-most-append (t.path k) (t.path j ++ y ∷ []) w a)))
        u i li d

  -- the next link shows another output
  pub tree-found : (h x : ℕ) → at ≡ 16 * h + x → h < n → x < m.inputs → leads m (pair_at entries h) x ≡ led.Apart → compare_pair m ≡ some (t.path h ++ x ∷ [])
  unfolding Tells
  tree-found h x ea lh lx e =
      let o = leads-apart m (pair_at entries h) x e in
      compare-first cl low (t.path h ++ x ∷ [])
      (rw (root-first, root-second) at (from-root h h (x ∷ []) lh (omega arith) (dist-one m _ _ x o.rule o.specified o.differs)))
      (λ ys d. rw (ap along ea ∙ along-is h x lx, t.paths.root) at (not-before h x ea lx 0 ys t.some (rw (root-first, root-second) d)))

  -- all links are settled
  pub tree-full : at ≡ 16 * n → compare_pair m ≡ none
  unfolding Tells
  tree-full ea =
      compare-nothing cl low
      (λ ys d. follow (λ _ _. ⊥) (λ i x u li lx k. omega arith) (λ i j x u li lx a h. h) ys 0 t.some (rw (root-first, root-second) d))

-- what comparing answers and writes
abbrev pub Distinguished : Pair → Difference → List ℕ → List ℕ → Type 0
Distinguished m r buf₀ buf = (r ≡ difference_of (compare_pair m)) × (buf ≡ overlay (found (compare_pair m)) buf₀)

module _ {m : Pair} (cl : Closed m) (few : m.states ≤ 16) (narrow : m.inputs ≤ 16) (low : m.start < m.states) {entries seen : List ℕ} {h : ℕ} where
  -- an input of entry h shows another output
  module _ {x n : ℕ} (ok : ExpandedOk m entries seen n h (Some x)) where
    found_here : compare_pair m ≡ some (ok.2.path h ++ x ∷ [])
    found_here = tree-found cl few narrow ok.2 low h x refl ok.0 ok.1 ok.3

    pub way-there : Paths entries (h + 1) ok.2.path
    way-there = paths-fewer (h + 1) (omega (arith, ok.0)) ok.2.paths

    pub way-short : length (ok.2.path h) < m.states * m.states
    way-short = omega (arith, compare-short cl low _ found_here, length-append (ok.2.path h) (x ∷ []))

    pub entry-low : h < 256
    entry-low = omega (arith, ok.0, ok.2.sized.room)

    pub told-apart : {d : ℕ} (buf₀ : List ℕ) {buf : List ℕ} → (d ≡ length (ok.2.path h) + 1) × (buf ≡ overlay (ok.2.path h ++ x ∷ []) buf₀) → Distinguished m (Some d) buf₀ buf
    told-apart buf₀ w = rw found_here (ap Some (w.0 ∙ sym (length-append (ok.2.path h) (x ∷ []))), w.1)

  -- all entries are expanded
  pub told_none : {n : ℕ} {buf₀ buf : List ℕ} → Tree m entries seen n (16 * h) → h ≡ n → buf ≡ buf₀ → Distinguished m None buf₀ buf
  told_none t e same = rw (tree-full cl few narrow t low (ap (λ (i : ℕ). 16 * i) e)) (refl, same)
