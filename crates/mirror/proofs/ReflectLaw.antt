-- A cube in which no mutant is sought, and which does not tell two exchangeable states apart but at one suspect.
use Rattle.std.specs.Prelude.{◌/◌, ◌%◌, ◌<◌, ◌≡◌}
use Rattle.lists.specs.Proving.{arith, ℕ, Bool, true, false, never, refl, sym, ◌∙◌, ap, subst, ⊎_elim, by_cases, List, get_or, ℕ_discrete, dec_lt}
use mathlib.Core.Bool.{beq}
use native.Mathlib.Nat.{div-add-mod'}
use Rattle.model.specs.Machine.{Move}
use Rattle.block.specs.Layout.{pair, waking, site_at}
use Rattle.block.specs.Tabulated.{Wf, Ranged, choice_of, chosen}
use Rattle.cubes.specs.Sets.{Has}
use Rattle.cubes.specs.Cube.{Means, MeansStep, In, NoneIn, Sought, InBut, AddsOk}
use Rattle.cubes.specs.declared.goal.Goal.{Goal}
use Rattle.cubes.specs.laws.LiteralLaw.{any-means, meant, meaning}
use Rattle.mirror.specs.Mirror.{other, turned, Each}
use Rattle.mirror.specs.Reflect.{Quiet, Silent, Blind, Mirrors, Under, ReflectedOk}
use Rattle.mirror.proofs.OtherLaw.{other-rest, other-back, other-cases}
use Rattle.mirror.proofs.ImageLaw.{over, over-waking, Image, image-of}

-- ---- literals
pub blind-any : {a b l : ℕ} → l ≡ 4294967295 → Blind a b l
blind-any {l = l} e = record { at = λ v h. any-means l _ e }

pub blind-some : {a b l : ℕ} → (l ≡ 4294967295 → ⊥) → (Has (l % 65536) a → Has (l % 65536) b) → (Has (l % 65536) b → Has (l % 65536) a) → Blind a b l
blind-some {a} {b} {l} n there back = record { at = λ v h. go v (meant l v n h) }
  where
    go : (v : Move) → (l / 65536 ≡ v.output) × Has (l % 65536) v.target → Means l (turned a b v)
    go v h = meaning l (turned a b v) h.0 (other-cases (λ t. Has (l % 65536) t) a b v.target (λ e. there (rw e at h.1)) (λ e. back (rw e at h.1)) (λ p q. h.1))

-- two answers that are the same, of a set whether it has a and whether it has b
pub blind-same : {a b l set : ℕ} (x y : Bool) → set ≡ l % 65536 → (l ≡ 4294967295 → ⊥) → (x ≡ true → Has set a) × (x ≡ false → Has set a → ⊥) → (y ≡ true → Has set b) × (y ≡ false → Has set b → ⊥) → beq x y ≡ true → Blind a b l
blind-same true true es n p q e = blind-some n (λ h. rw es at (q.0 refl)) (λ h. rw es at (p.0 refl))
blind-same false false es n p q e = blind-some n (λ h. absurd (p.1 refl (rw es h))) (λ h. absurd (q.1 refl (rw es h)))
blind-same true false es n p q e = never cc
blind-same false true es n p q e = never cc

-- ---- a mutant in `all` whose transition at the pair k leads to b is not sought, as its image is in the cube
module _ {m cube all : List ℕ} {k a b o : ℕ} (wf : Wf m) (lk : k < 257) (nk : site_at m k ≡ 255 → ⊥) (mn : MeansStep (get_or cube (site_at m k) 0) o a) (sa : Silent m cube a)
    (mi : Mirrors m cube (site_at m k) a b) (un : Under all cube (site_at m k)) (c : List ℕ) (g : InBut m all c (site_at m k)) (eo : (choice_of m k (chosen m c k)).output ≡ o) (et : (choice_of m k (chosen m c k)).target ≡ b) where
  -- at a state of which the cube speaks
  moved : (s j : ℕ) → Silent m cube s → j < 256 → (site_at m j ≡ 255 → ⊥) → (get_or cube (site_at m j) 0 ≡ 4294967295 → ⊥) → j / 16 ≡ s → ⊥
  moved s j si lj nj f e = f (subst (λ (q : ℕ). Quiet m cube q) (ap (λ (q : ℕ). pair q (j % 16)) (sym e) ∙ div-add-mod' j 16) (si.at (j % 16) (wf.inside j lj nj).1) nj)

  -- so a pair of which it speaks is its own image
  own-image : (j : ℕ) → j < 257 → (site_at m j ≡ 255 → ⊥) → (get_or cube (site_at m j) 0 ≡ 4294967295 → ⊥) → over a b j ≡ j
  own-image j lj nj f =
      by_cases (dec_lt j 256)
      (λ l. ap (λ (q : ℕ). pair q (j % 16)) (other-rest a b (j / 16) (moved a j sa l nj f) (moved b j mi.silent l nj f)) ∙ div-add-mod' j 16)
      (λ n. let e : j ≡ waking = omega (arith, n, lj) in rw e (over-waking m a b wf mi.exchange))

  turned-means : (j : ℕ) → j < 257 → (site_at m j ≡ 255 → ⊥) → Dec (site_at m j ≡ site_at m k) → Means (get_or cube (site_at m j) 0) (turned a b (choice_of m j (chosen m c j)))
  turned-means j lj nj (yes w) =
      let back : other a b (choice_of m k (chosen m c k)).target ≡ a = other-back a b (choice_of m k (chosen m c k)).target et in
      subst (λ (q : ℕ). Means (get_or cube (site_at m q) 0) (turned a b (choice_of m q (chosen m c q)))) (sym (wf.once k j lk lj nk w)) (rw (eo, back) mn)
  turned-means j lj nj (no n) =
      let li = wf.sites j lj nj in
      (mi.blind.at (site_at m j) li n).at (choice_of m j (chosen m c j)) (un.at (site_at m j) li n (choice_of m j (chosen m c j)) (g.at j lj nj n))

  image-in : (im : Image m a b c) → In m cube im.list
  image-in im = record { at = λ j lj nj. go j lj nj (ℕ_discrete (get_or cube (site_at m j) 0) 4294967295) }
    where
      go : (j : ℕ) → j < 257 → (site_at m j ≡ 255 → ⊥) → Dec (get_or cube (site_at m j) 0 ≡ 4294967295) → Means (get_or cube (site_at m j) 0) (choice_of m j (chosen m im.list j))
      go j lj nj (yes e) = any-means _ _ e
      go j lj nj (no f) =
          let is : choice_of m j (chosen m im.list j) ≡ turned a b (choice_of m j (chosen m c j)) =
          im.choice j lj nj ∙ ap (λ (q : ℕ). turned a b (choice_of m q (chosen m c q))) (own-image j lj nj f) in
          subst (λ (v : Move). Means (get_or cube (site_at m j) 0) v) (sym is) (turned-means j lj nj (ℕ_discrete (site_at m j) (site_at m k)))

  not-sought : {goal : Goal} {log : List ℕ} → NoneIn goal m log cube → Ranged m c → Sought goal m log c → ⊥
  not-sought {goal} {log} ns r y = let im = image-of m c a b wf mi.exchange r in ns.at im.list im.ranged (image-in im) (im.sought goal log y)

-- ---- so its transition can be joined
pub reflect-some : {m cube done wider : List ℕ} {k i a o g l : ℕ} → Wf m → k < 257 → (site_at m k ≡ 255 → ⊥) → i ≡ site_at m k → MeansStep (get_or cube i 0) o a → Silent m cube a
    → Each (λ b. Mirrors m cube i a b) g → (l ≡ 4294967295 → ⊥) → l / 65536 ≡ o → l % 65536 ≡ g → AddsOk done wider l → ReflectedOk m cube done wider k
reflect-some {m} {cube} {done} {wider} {k} {i} {a} {o} {g} {l} wf lk nk ei mn sa each n eo eg ad = record {
  long = ad.long;
  keeps = ad.keeps;
  joins = λ goal log all ns un jo. record {
    at = λ c r b h y. ⊎_elim (λ old. jo.at c r b old y) (λ new. fresh goal log all ns un c r b (meant l (choice_of m k (chosen m c k)) n new) y) (ad.adds.at (choice_of m k (chosen m c k)) h);
  };
}
  where
    fresh : (goal : Goal) (log all : List ℕ) → NoneIn goal m log cube → Under all cube (site_at m k) → (c : List ℕ) → Ranged m c → InBut m all c (site_at m k)
        → (l / 65536 ≡ (choice_of m k (chosen m c k)).output) × Has (l % 65536) (choice_of m k (chosen m c k)).target → Sought goal m log c → ⊥
    fresh goal log all ns un c r b new y = not-sought wf lk nk (rw ei at mn) sa
        (subst (λ (j : ℕ). Mirrors m cube j a (choice_of m k (chosen m c k)).target) ei (each.at (choice_of m k (chosen m c k)).target (rw eg at new.1)))
        un c b (sym new.0 ∙ eo) refl ns r y
