-- The join: for each choice of a suspect a cube with it that has no mutant sought; so has none what they have in common, that suspect free.
use Rattle.std.specs.Prelude.{◌+◌, ◌/◌, ◌%◌, ◌<◌, ◌≤◌, ◌≡◌, ◌⊎◌}
use Rattle.lists.specs.Proving.{arith, ℕ, refl, sym, ◌∙◌, ap, subst, inl, inr, ⊎_elim, List, length, get_or, set, length-set, get_or-set_same, get_or-set_other, ℕ_discrete, below_more}
use Rattle.model.specs.Machine.{Move}
use Rattle.cubes.specs.Sets.{Has, Joined}
use Rattle.block.specs.Layout.{site_at, choices_of}
use Rattle.block.specs.Tabulated.{Wf, Ranged, choice_of, chosen}
use Rattle.cubes.specs.declared.goal.Goal.{Goal}
use Rattle.block.specs.laws.ChoiceLaw.{chosen-some}
use Rattle.cubes.specs.Cube.{Means, In, NoneIn, BothOk, InBut, Joining, Covers, Adds, MeetsAll, AddsOk}
use Rattle.cubes.specs.laws.SetLaw.{nothing}
use Rattle.cubes.specs.laws.LiteralLaw.{meant, meaning}

-- nothing is done yet
pub join-none : {goal : Goal} {m log all done : List ℕ} {k : ℕ} → ((o : ℕ) → get_or done o 0 ≡ 0) → Joining goal m log all done k
join-none {goal} {m} {log} {all} {done} {k} e = record { at = λ b r g h y. nothing (choice_of m k (chosen m b k)).target (subst (λ (n : ℕ). Has n (choice_of m k (chosen m b k)).target) (e (choice_of m k (chosen m b k)).output) h) }

-- one more cube without mutant sought
pub join_more : {goal : Goal} {m log all done cube more wider : List ℕ} {k : ℕ} → Wf m → k < 257 → (site_at m k ≡ 255 → ⊥) → Joining goal m log all done k → NoneIn goal m log cube
    → MeetsAll all cube more → Adds done wider (get_or cube (site_at m k) 0) → Joining goal m log more wider k
join_more {goal} {m} {log} {all} {done} {cube} {more} {wider} {k} wf lk nk jo ns me ad = record { at = λ b r g h y. ⊎_elim (λ old. jo.at b r (less b g) old y) (λ new. ns.at b r (inside b g new) y) (ad.at (choice_of m k (chosen m b k)) h) }
  where
    less : (b : List ℕ) → InBut m more b (site_at m k) → InBut m all b (site_at m k)
    less b g = record { at = λ j lj nj d. (me.at (site_at m j) (wf.sites j lj nj)).left (choice_of m j (chosen m b j)) (g.at j lj nj d) }

    inside : (b : List ℕ) → InBut m more b (site_at m k) → Means (get_or cube (site_at m k) 0) (choice_of m k (chosen m b k)) → In m cube b
    inside b g new = record { at = λ j lj nj. go j lj nj (ℕ_discrete (site_at m j) (site_at m k)) }
      where
        go : (j : ℕ) → j < 257 → (site_at m j ≡ 255 → ⊥) → Dec (site_at m j ≡ site_at m k) → Means (get_or cube (site_at m j) 0) (choice_of m j (chosen m b j))
        go j lj nj (yes e) = subst (λ (n : ℕ). Means (get_or cube (site_at m n) 0) (choice_of m n (chosen m b n))) (sym (wf.once k j lk lj nk e)) new
        go j lj nj (no d) = (me.at (site_at m j) (wf.sites j lj nj)).right (choice_of m j (chosen m b j)) (g.at j lj nj d)

-- every choice is done
pub join-all : {goal : Goal} {m log all done : List ℕ} {k : ℕ} → Wf m → k < 257 → (site_at m k ≡ 255 → ⊥) → Joining goal m log all done k → Covers m done k → NoneIn goal m log (set all (site_at m k) 4294967295)
join-all {goal} {m} {log} {all} {done} {k} wf lk nk jo co = record { at = λ b r g y. jo.at b r (but b g) (co.at (chosen m b k) (low b r)) y }
  where
    low : (b : List ℕ) → Ranged m b → chosen m b k < choices_of m (site_at m k)
    low b r = rw (chosen-some m b k nk) (r.at (site_at m k) (wf.sites k lk nk))

    but : (b : List ℕ) → In m (set all (site_at m k) 4294967295) b → InBut m all b (site_at m k)
    but b g = record { at = λ j lj nj d. subst (λ (l : ℕ). Means l (choice_of m j (chosen m b j))) (get_or-set_other all (site_at m k) (site_at m j) 4294967295 0 d) (g.at j lj nj) }

-- ---- `meet_in`
pub record MeetsTo (all cube r : List ℕ) (n : ℕ) : Type 0 where
  pub long : length r ≡ 32
  pub low : n ≤ 32
  pub at : (j : ℕ) → j < n → BothOk (get_or all j 0) (get_or cube j 0) (get_or r j 0)
  pub others : (j : ℕ) → n ≤ j → get_or r j 0 ≡ get_or all j 0

pub meets-none : {all cube : List ℕ} → length all ≡ 32 → MeetsTo all cube all 0
meets-none l = record { long = l; low = omega arith; at = λ j h. absurd (omega arith); others = λ j h. refl }

pub meets-more : {all cube r : List ℕ} {n l : ℕ} → MeetsTo all cube r n → n < 32 → BothOk (get_or r n 0) (get_or cube n 0) l → MeetsTo all cube (set r n l) (n + 1)
meets-more {all} {cube} {r} {n} {l} me ln bo = record {
  long = length-set r n l ∙ me.long;
  low = omega arith;
  at = below_more _ n (λ j h. subst (λ (y : ℕ). BothOk (get_or all j 0) (get_or cube j 0) y) (sym (get_or-set_other r n j l 0 (λ e. omega (arith, e, h)))) (me.at j h)) here;
  others = λ j h. get_or-set_other r n j l 0 (λ e. omega (arith, e, h)) ∙ me.others j (omega arith);
}
  where
    here : BothOk (get_or all n 0) (get_or cube n 0) (get_or (set r n l) n 0)
    here = rw (get_or-set_same r n l 0 (omega (arith, me.long, ln))) (subst (λ (y : ℕ). BothOk y (get_or cube n 0) l) (me.others n (omega arith)) bo)

pub meets-all : {all cube r : List ℕ} {n : ℕ} → MeetsTo all cube r n → 32 ≤ n → MeetsAll all cube r
meets-all me l = record { long = me.long; at = λ j h. me.at j (omega arith) }

-- ---- `note`
pub note-none : {done : List ℕ} {l : ℕ} (o : ℕ) → length done ≡ 16 → o ≡ l / 65536 → 16 ≤ o → AddsOk done done l
note-none {done} {l} o ld e lo = record {
  long = ld;
  adds = record { at = λ v h. inl h };
  keeps = λ v h. h;
  here = λ v lv n h. absurd (omega (arith, (meant l v n h).0));
}

pub note-some : {done : List ℕ} {l : ℕ} (o g u : ℕ) → length done ≡ 16 → o ≡ l / 65536 → o < 16 → g ≡ l % 65536 → Joined (get_or done o 0) g u → AddsOk done (set done o u) l
note-some {done} {l} o g u ld e lo eg jo = record {
  long = length-set done o u ∙ ld;
  adds = record { at = λ v h. add v (ℕ_discrete v.output o) h };
  keeps = λ v h. keep v (ℕ_discrete v.output o) h;
  here = λ v lv n h. put v (meant l v n h);
}
  where
    same : get_or (set done o u) o 0 ≡ u
    same = get_or-set_same done o u 0 (omega (arith, ld))

    add : (v : Move) → Dec (v.output ≡ o) → Has (get_or (set done o u) v.output 0) v.target → Has (get_or done v.output 0) v.target ⊎ Means l v
    add v (no n) h = inl (subst (λ (y : ℕ). Has y v.target) (get_or-set_other done o v.output u 0 n) h)
    add v (yes w) h =
        let h2 : Has u v.target = subst (λ (y : ℕ). Has y v.target) (ap (λ (y : ℕ). get_or (set done o u) y 0) w ∙ same) h in
        ⊎_elim (λ old. inl (subst (λ (y : ℕ). Has (get_or done y 0) v.target) (sym w) old)) (λ new. inr (meaning l v (sym e ∙ sym w) (subst (λ (y : ℕ). Has y v.target) eg new))) (jo.only v.target h2)

    keep : (v : Move) → Dec (v.output ≡ o) → Has (get_or done v.output 0) v.target → Has (get_or (set done o u) v.output 0) v.target
    keep v (no n) h = subst (λ (y : ℕ). Has y v.target) (sym (get_or-set_other done o v.output u 0 n)) h
    keep v (yes w) h = subst (λ (y : ℕ). Has y v.target) (sym (ap (λ (y : ℕ). get_or (set done o u) y 0) w ∙ same)) (jo.left v.target (subst (λ (y : ℕ). Has (get_or done y 0) v.target) w h))

    put : (v : Move) → (l / 65536 ≡ v.output) × Has (l % 65536) v.target → Has (get_or (set done o u) v.output 0) v.target
    put v h = subst (λ (y : ℕ). Has y v.target) (sym (ap (λ (y : ℕ). get_or (set done o u) y 0) (sym h.0 ∙ sym e) ∙ same)) (jo.right v.target (subst (λ (y : ℕ). Has y v.target) (sym eg) h.1))

-- ---- every choice of a suspect in turn: those below c are done
pub record DoneTo (m done : List ℕ) (k c : ℕ) : Type 0 where
  pub at : (d : ℕ) → d < c → Has (get_or done (choice_of m k d).output 0) (choice_of m k d).target

pub done_none : {m done : List ℕ} {k : ℕ} → DoneTo m done k 0
done_none = record { at = λ d l. absurd (omega arith) }

-- the choice c is done already
pub done-skip : {m done : List ℕ} {k c : ℕ} → DoneTo m done k c → Has (get_or done (choice_of m k c).output 0) (choice_of m k c).target → DoneTo m done k (c + 1)
done-skip {c = c} t h = record { at = below_more _ c t.at h }

-- the literal of a cube without mutant sought means it
pub done_more : {m done wider : List ℕ} {k c l : ℕ} → DoneTo m done k c → AddsOk done wider l → (l ≡ 4294967295 → ⊥) → (choice_of m k c).output < 16 → Means l (choice_of m k c) → DoneTo m wider k (c + 1)
done_more {m} {k = k} {c = c} t a n lo h = record { at = below_more _ c (λ d l. a.keeps (choice_of m k d) (t.at d l)) (a.here (choice_of m k c) lo n h) }

pub done_all : {m done : List ℕ} {k c : ℕ} → DoneTo m done k c → choices_of m (site_at m k) ≤ c → Covers m done k
done_all t l = record { at = λ d h. t.at d (omega arith) }
