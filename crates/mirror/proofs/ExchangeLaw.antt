-- What makes two states exchangeable.
use Rattle.std.specs.Prelude.{◌+◌, ◌*◌, ◌/◌, ◌%◌, ◌^◌, ◌<◌, ◌≤◌, ◌≡◌, ◌⊎◌}
use Rattle.lists.specs.Proving.{arith, ℕ, refl, sym, ◌∙◌, ap, ap₂, subst, inl, inr, List, length, get_or, set, replicate, length-set, get_or-replicate, get_or-set_same, get_or-set_other, below_more}
use mathlib.Core.Path.{fun_ext}
use native.Mathlib.Nat.{mod-lt, mod-eq_of_lt, div-eq_of_lt, div-add-mod', mul-add-div_right, mul-add-mod_self_right, div-lt_iff_lt-mul}
use Rattle.model.specs.Machine.{Move}
use Rattle.block.specs.Layout.{pair, site_at, rule_target, states_of, inputs_of}
use Rattle.block.specs.Tabulated.{Wf, choices_at, choice_of, chosen, start_of, StepIs}
use Rattle.block.specs.declared.layout.Step.{Step}
use Rattle.block.specs.laws.ChoiceLaw.{is-unruled}
use Rattle.cubes.specs.Sets.{Has, Joined}
use Rattle.cubes.specs.Cube.{StartsOk}
use Rattle.cubes.specs.laws.LiteralLaw.{any-means}
use Rattle.cubes.specs.laws.SetLaw.{one_same}
use Rattle.mirror.specs.Mirror.{other, turned, Each, Offers, OffersStep, Answered, Exchanges, Movable, FixedOk, Exchangeable, Partnered, Below, Exchanged}
use Rattle.mirror.proofs.OtherLaw.{other-low, other-same, each-one}

move_same : (u v : Move) → u.output ≡ v.output → u.target ≡ v.target → u ≡ v
move_same u v p q = ap₂ {C = Move} (λ (o t : ℕ). record { output = o; target = t }) p q

-- ---- one choice
pub offers : {m : List ℕ} {j d o t : ℕ} {r : Step} → Wf m → d < choices_at m j → StepIs m j d r → r.output ≡ o → r.target ≡ t → OffersStep m j o t
offers {m} {j} {d} wf ld is eo et =
    record { choice = d; low = ld; is = move_same (choice_of m j d) (record { output = _; target = _ }) (sym (is.output wf ld) ∙ eo) (sym (is.target wf ld) ∙ et) }

pub answers : {m : List ℕ} {k j c t : ℕ} {r : Step} (a b : ℕ) → Wf m → c < choices_at m k → StepIs m k c r → t ≡ other a b r.target → OffersStep m j r.output t → Answered m a b k j c
answers {m} {k} {j} {c} {t} {r} a b wf lc is et h = subst (λ (v : Move). Offers m j v)
    (move_same (record { output = r.output; target = t }) (turned a b (choice_of m k c)) (is.output wf lc) (et ∙ ap (λ (y : ℕ). other a b y) (is.target wf lc))) h

-- ---- two pairs without a rule: choice c is output c / n and next state c % n
quotient : (q t n : ℕ) → t < n → (q * n + t) / n ≡ q
quotient q t n l = mul-add-div_right {m = n} (omega arith) q t ∙ omega (arith, div-eq_of_lt l)

remainder : (q t n : ℕ) → t < n → (q * n + t) % n ≡ t
remainder q t n l = mul-add-mod_self_right q n t ∙ mod-eq_of_lt l

below-multiple : (c t n z : ℕ) → c < z → z % n ≡ 0 → t < n → c / n * n + t < z
below-multiple c t n z lc e l =
    let is : z / n * n ≡ z = omega (arith, div-add-mod' z n) in
    let low : c / n < z / n = (div-lt_iff_lt-mul {k = n} {x = c} {y = z / n} (omega arith)).1 (rw is lc) in
    rw is at ((div-lt_iff_lt-mul {k = n} {x = c / n * n + t} {y = z / n} (omega arith)).0 (rw (quotient (c / n) t n l) low))

pub unruled-exchange : {m : List ℕ} {a b k j : ℕ} → Wf m → k < 256 → j < 256 → a < states_of m → b < states_of m → rule_target m k ≡ 255 → rule_target m j ≡ 255
    → (site_at m k ≡ 255 → ⊥) → (site_at m j ≡ 255 → ⊥)
    → choices_at m k ≡ choices_at m j → choices_at m k % states_of m ≡ 0 → Exchanges m a b k j
unruled-exchange {m} {a} {b} {k} {j} wf lk lj la lb ek ej sk sj en ez = record { at = λ c lc. go c lc }
  where
    unruled : (k : ℕ) → k < 256 → rule_target m k ≡ 255 → (site_at m k ≡ 255 → ⊥) → (c : ℕ) → StepIs m k c (record { output = c / states_of m; target = c % states_of m })
    unruled k lk e s c = is-unruled k c (states_of m) (record { output = c / states_of m; target = c % states_of m }) lk e s refl (λ l h. (refl, refl))

    go : (c : ℕ) → c < choices_at m k → Answered m a b k j c
    go c lc =
        let lt : other a b (c % states_of m) < states_of m = other-low a b (c % states_of m) (states_of m) la lb (mod-lt c wf.some-states) in
        let d : ℕ = c / states_of m * states_of m + other a b (c % states_of m) in
        let ld : d < choices_at m j = rw en at (below-multiple c (other a b (c % states_of m)) (states_of m) (choices_at m k) lc ez lt) in
        answers a b wf lc (unruled k lk ek sk c) refl (offers wf ld (unruled j lj ej sj d) (quotient _ _ _ lt) (remainder _ _ _ lt))

-- ---- the states that stay: 0, and where a mutant in the cube that means everything starts
pub fixed-all : {m : List ℕ} {e r u : ℕ} → Wf m → e ≡ 1 → StartsOk m (replicate 32 4294967295) r → Joined e r u → FixedOk m u
fixed-all {m} wf e st jo = record {
  zero = jo.left 0 (subst (λ (y : ℕ). Has y 0) (sym e) (one_same 0));
  start = λ c r. jo.right (start_of m c) (st.at c r (record { at = λ k lk nk. any-means _ (choice_of m k (chosen m c k)) (get_or-replicate {A = ℕ} 32 (site_at m k) 4294967295 0 (wf.sites k lk nk)) }));
}

pub movable : {m : List ℕ} {set s : ℕ} → FixedOk m set → (Has set s → ⊥) → Movable m s
movable {m} {set} f n = record {
  zero = λ e. n (subst (λ (y : ℕ). Has set y) (sym e) f.zero);
  start = λ c r e. n (subst (λ (y : ℕ). Has set y) e (f.start c r));
}

-- a state that can be exchanged with another can be so the other way round
pub exchangeable-back : {m : List ℕ} {a b : ℕ} → Exchangeable m a b → Exchangeable m b a
exchangeable-back {m} {a} {b} ex = record {
  a-low = ex.b-low;
  b-low = ex.a-low;
  a-free = ex.b-free;
  b-free = ex.a-free;
  rows = subst (λ (f : ℕ → ℕ). Below (λ s. Below (λ x. Below (λ c. OffersStep m (pair (f s) x) (choice_of m (pair s x) c).output (f (choice_of m (pair s x) c).target)) (choices_at m (pair s x))) (inputs_of m)) (states_of m)) (fun_ext (λ s. other-same a b s)) ex.rows;
}

pub known-partner : {m facts : List ℕ} {a b set : ℕ} → Partnered m facts a → b < a → Has (get_or facts (544 + b) 0) a → set ≡ 2 ^ b → Each (λ t. Exchangeable m a t) set
known-partner {a = a} {b} p l h e = each-one b e (exchangeable-back ((p.at b l).at a h))

-- ---- the facts, the sets of the states below n written
pub record SwapsTo (m old new : List ℕ) (n : ℕ) : Type 0 where
  pub low : n ≤ 16
  pub long : length new ≡ 1088
  pub sets : Partnered m new n
  pub others : (j : ℕ) → (j < 544) ⊎ (560 ≤ j) → get_or new j 0 ≡ get_or old j 0

pub swaps-none : {m facts : List ℕ} → length facts ≡ 1088 → SwapsTo m facts facts 0
swaps-none l = record { low = omega arith; long = l; sets = record { at = λ a h. absurd (omega arith) }; others = λ j h. refl }

pub swaps-more : {m old new : List ℕ} {n s : ℕ} (k : ℕ) → SwapsTo m old new n → n < 16 → k ≡ 544 + n → Each (λ b. Exchangeable m n b) s → SwapsTo m old (set new k s) (n + 1)
swaps-more {m} {old} {new} {n} {s} k t l e h = record {
  low = omega arith;
  long = length-set new k s ∙ t.long;
  sets = record {
    at = below_more _ n (λ a la. subst (λ (y : ℕ). Each (λ b. Exchangeable m a b) y) (sym (get_or-set_other new k (544 + a) s 0 (λ w. omega (arith, w)))) (t.sets.at a la))
        (subst (λ (y : ℕ). Each (λ b. Exchangeable m n b) y) (sym (ap (λ (y : ℕ). get_or (set new k s) y 0) (sym e) ∙ get_or-set_same new k s 0 (omega (arith, t.long)))) h);
  };
  others = λ j h. get_or-set_other new k j s 0 (away j h) ∙ t.others j h;
}
  where
    away : (j : ℕ) → (j < 544) ⊎ (560 ≤ j) → j ≡ k → ⊥
    away j (inl h) w = omega arith
    away j (inr h) w = omega arith

pub swaps-all : {m old new : List ℕ} {n : ℕ} → SwapsTo m old new n → 16 ≤ n → Exchanged m old new
swaps-all t l = record { long = t.long; swaps = record { at = λ a h. t.sets.at a (omega arith) }; others = t.others }
