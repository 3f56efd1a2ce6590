-- From one mutant to a later one.
use mathlib.Core.Path.{◌≡◌, refl, sym, ap, ◌∙◌, subst}
use mathlib.Core.Logic.{⊎_elim, by_cases}
use mathlib.Core.List.{List, ◌++◌}
use borrow.Rule.Slice.PartMut.{put_mid, mid_of, post_of, same_len_mid}
use Rattle.std.proofs.lemmas.List.{get_or_append_left, get_or-append_right, get_or-replicate}
use Prim.Native.Nat.{ℕ, ◌+◌, ◌-◌, ◌%◌, ◌<◌, ◌≤◌, ◌^◌}
use native.Mathlib.Nat.{mod-lt}
use native.Mathlib.Omega.{arith}
use native.Mathlib.Decide.{ℕ_discrete, dec_lt}
use lib.Pow.{pow_pos}
use lib.ListN.{length, get_or, set, take, drop, replicate, length-set, length-replicate, length-drop}
use lib.Seq.{get_or-set_same, get_or-set_other, get_or-take, length-take-le}
use Rattle.sheet.specs.Sheet.{Sheet}
use Rattle.model.specs.Mutant.{IsMutant}
use Rattle.block.specs.Layout.{choices_of}
use Rattle.block.specs.Tabled.{Tabled}
use Rattle.block.specs.laws.TabledLaw.{ranged, slot-some, well-formed}
use Rattle.cubes.specs.Sets.{Has, Joined}
use Rattle.cubes.specs.laws.SetLaw.{nothing}
use Rattle.clearing.specs.laws.SlotLaw.{has-below, below-has, before-has}
use Rattle.clearing.specs.Sweep.{Cleared, Shares, Top, Swept, Refutes, Reset, Later}

-- ---- one number set, and those after it to 0
pub reset-filled : (old ys : List ℕ) {j v : ℕ} → length old ≡ 32 → j < 32 → ys ≡ replicate (length (mid_of (j + 1) (32 - (j + 1)) (set old j v))) 0 →
    Reset old (put_mid (j + 1) (32 - (j + 1)) (set old j v) ys) j v
reset-filled old ys {j} {v} long low e =
    record {
      long = same_len_mid (j + 1) (32 - (j + 1)) (set old j v) ys (ly ∙ sym lm) ∙ lx;
      same = λ i l. front i (omega arith) ∙ get_or-set_other old j i v 0 (λ e. omega arith);
      here = front j (omega arith) ∙ get_or-set_same old j v 0 (omega arith);
      rest = λ i h l. get_or-append_right (take (j + 1) (set old j v)) (ys ++ post_of (j + 1) (32 - (j + 1)) (set old j v)) (j + 1) i 0 lf (omega arith)
          ∙ get_or_append_left ys (post_of (j + 1) (32 - (j + 1)) (set old j v)) 0 (i - (j + 1)) (omega (arith, ly))
          ∙ ap (λ (z : List ℕ). get_or z (i - (j + 1)) 0) e
          ∙ get_or-replicate (length (mid_of (j + 1) (32 - (j + 1)) (set old j v))) (i - (j + 1)) 0 0 (omega (arith, lm));
    }
  where
    lx : length (set old j v) ≡ 32
    lx = length-set old j v ∙ long

    lf : length (take (j + 1) (set old j v)) ≡ j + 1
    lf = length-take-le (j + 1) (set old j v) (omega (arith, lx))

    lm : length (mid_of (j + 1) (32 - (j + 1)) (set old j v)) ≡ 32 - (j + 1)
    lm = length-take-le (32 - (j + 1)) (drop (j + 1) (set old j v)) (omega (arith, length-drop (j + 1) (set old j v), lx))

    ly : length ys ≡ 32 - (j + 1)
    ly = ap length e ∙ length-replicate {A = ℕ} (length (mid_of (j + 1) (32 - (j + 1)) (set old j v))) 0 ∙ lm

    front : (i : ℕ) → i < j + 1 → get_or (put_mid (j + 1) (32 - (j + 1)) (set old j v) ys) i 0 ≡ get_or (set old j v) i 0
    front i l = get_or_append_left (take (j + 1) (set old j v)) (ys ++ post_of (j + 1) (32 - (j + 1)) (set old j v)) 0 i (omega (arith, lf)) ∙ get_or-take (j + 1) (set old j v) i 0 l

-- ---- the highest slot of what refutes p
module _ {sh : Sheet} {m p blame : List ℕ} {a c j others : ℕ} (tb : Tabled sh m) (sw : Swept sh m p blame) (re : Refutes sh p a c) (top : Top a j)
    (jo : Joined (get_or blame j 0) (a % 2 ^ j) others) (fits : others < 2 ^ 32) where
  -- the slots to blame stand before it
  pub others-before : others < 2 ^ j
  others-before = below-has others j fits (λ i h. ⊎_elim (has-below (get_or blame j 0) j i (sw.before j top.low)) (has-below (a % 2 ^ j) j i (mod_below)) (jo.only i h))
    where
      mod_below : a % 2 ^ j < 2 ^ j
      mod_below = mod-lt a (pow_pos j)

  -- a mutant with their choices and one below c there is cleared
  clear : (b : List ℕ) → IsMutant sh b → Shares p others b → get_or b j 0 < c → Cleared sh b
  clear b is s l =
      by_cases (dec_lt (get_or b j 0) (get_or p j 0))
      (λ h. sw.cleared j top.low b is (record { at = λ i k. s.at i (jo.left i k) }) h)
      (λ n. re.at j top b is (λ i li k. s.at i (jo.right i (before-has a j i li k))) (omega arith) l)

  -- the slot gets the choice c
  pub swept-more : {q more : List ℕ} → c < choices_of m j → Reset p q j c → Reset blame more j others → Swept sh m q more × Later p q
  swept-more {q} {more} lc rp rb = (
    record {
      full = record { long = rp.long; low = λ i l. low i l (dec_lt i j) (ℕ_discrete i j) };
      blame-long = rb.long;
      before = λ i l. early i l (dec_lt i j) (ℕ_discrete i j);
      cleared = λ i l. cleared i l (dec_lt i j) (ℕ_discrete i j);
    },
    record { place = j; low = top.low; same = rp.same; more = omega (arith, re.more j top, rp.here) },
  )
    where
      low : (i : ℕ) → i < 32 → Dec (i < j) → Dec (i ≡ j) → get_or q i 0 < choices_of m i
      low i l (yes h) e = rw (rp.same i h) (sw.full.low i l)
      low i l (no n) (yes e) = rw (e, rp.here) lc
      low i l (no n) (no k) = omega (arith, rp.rest i (omega arith) l, tb.choices i l, slot-some sh tb.formed i)

      early : (i : ℕ) → i < 32 → Dec (i < j) → Dec (i ≡ j) → get_or more i 0 < 2 ^ i
      early i l (yes h) e = rw (rb.same i h) (sw.before i l)
      early i l (no n) (yes e) = rw (e, rb.here) others-before
      early i l (no n) (no k) = omega (arith, rb.rest i (omega arith) l, pow_pos i)

      cleared : (i : ℕ) → i < 32 → Dec (i < j) → Dec (i ≡ j) → (b : List ℕ) → IsMutant sh b → Shares q (get_or more i 0) b → get_or b i 0 < get_or q i 0 → Cleared sh b
      cleared i l (yes h) e b is s lb =
          sw.cleared i l b is
          (record { at = λ k g. let lk = has-below (get_or blame i 0) i k (sw.before i l) g in s.at k (rw (rb.same i h) g) ∙ rp.same k (omega arith) })
          (rw (rp.same i h) at lb)
      cleared i l (no n) (yes e) b is s lb =
          clear b is
          (record { at = λ k g. let lk = has-below others j k others-before g in s.at k (rw (e, rb.here) g) ∙ rp.same k lk })
          (rw (e, rp.here) at lb)
      cleared i l (no n) (no k) b is s lb = absurd (omega (arith, rp.rest i (omega arith) l, lb))

  -- there is no such choice: the slots to blame refute p
  module _ (lc : choices_of m j ≤ c) where
    each : (b : List ℕ) → IsMutant sh b → Shares p others b → Cleared sh b
    each b is s = clear b is s (omega (arith, (ranged tb b is).at j top.low))

    pub refutes-on : {d : ℕ} → ((k : ℕ) → Top others k → d ≡ get_or p k 0 + 1) → Refutes sh p others d
    refutes-on {d} ed =
        record {
          all = λ z b is. each b is (record { at = λ i h. absurd (nothing i (subst (λ (n : ℕ). Has n i) z h)) });
          more = λ k t. omega (arith, ed k t);
          at = λ k t b is same l lb.
              each b is (record {
                at = λ i h. by_cases (dec_lt i k) (λ li. same i li h)
                    (λ n. let e : i ≡ k = omega (arith, has-below others (k + 1) i t.most h) in
                    let eb : get_or b k 0 ≡ get_or p k 0 = omega (arith, ed k t) in
                    rw e eb);
              });
        }

    pub swept-on : Swept sh m p (set blame j others)
    swept-on =
        record {
          full = sw.full;
          blame-long = length-set blame j others ∙ sw.blame-long;
          before = λ i l. by_cases (ℕ_discrete i j) (λ e. rw (e, at_j) others-before) (λ n. rw (get_or-set_other blame j i others 0 n) (sw.before i l));
          cleared = λ i l b is s lb. by_cases (ℕ_discrete i j)
              (λ e. clear b is (record { at = λ k g. s.at k (rw (e, at_j) g) }) (omega (arith, re.more j top, rw e at lb)))
              (λ n. sw.cleared i l b is (record { at = λ k g. s.at k (rw (get_or-set_other blame j i others 0 n) g) }) lb);
        }
      where
        at_j : get_or (set blame j others) j 0 ≡ others
        at_j = get_or-set_same blame j others 0 (omega (arith, top.low, sw.blame-long))

    pub falls : others < a
    falls = omega (arith, others-before, top.least)

-- ---- from slot to slot: the sets a with the choices c, as far as p is refuted
pub record Advancing (m p₀ blame₀ : List ℕ) (by next : ℕ) (p blame : List ℕ) (a c : ℕ) : Type 0 where
  pub same : p ≡ p₀
  pub some : (sh : Sheet) × Tabled sh m × Swept sh m p₀ blame × Refutes sh p₀ a c
  pub each : (sh : Sheet) → Tabled sh m → Swept sh m p₀ blame₀ → Refutes sh p₀ by next → Swept sh m p₀ blame × Refutes sh p₀ a c

pub advancing-none : {m p blame : List ℕ} {by next : ℕ} → ((sh : Sheet) × Tabled sh m × Swept sh m p blame × Refutes sh p by next) → Advancing m p blame by next p blame by next
advancing-none s = record { same = refl; some = s; each = λ sh tb sw re. (sw, re) }

module _ {m p₀ blame₀ p blame : List ℕ} {by next a c : ℕ} (ad : Advancing m p₀ blame₀ by next p blame a c) where
  -- p has few choices
  pub few-choices : (length p ≡ 32) × ((i : ℕ) → i < 32 → get_or p i 0 ≤ 256)
  few-choices =
      let s = ad.some in
      rw ad.same (s.2.full.long, λ i l. omega (arith, s.2.full.low i l, (well-formed s.1).choices i l))

  pub blame-long : length blame ≡ 32
  blame-long = ad.some.2.blame-long

  module _ {j k others : ℕ} (top : Top a j) (ek : k ≡ j) (jo : Joined (get_or blame k 0) (a % 2 ^ j) others) (fits : others < 2 ^ 32) where
    joined : Joined (get_or blame j 0) (a % 2 ^ j) others
    joined = rw ek at jo

    pub advancing-ends : {q more : List ℕ} → c < choices_of m j → Reset p q j c → Reset blame more j others →
        (sh : Sheet) → Tabled sh m → Swept sh m p₀ blame₀ → Refutes sh p₀ by next → Swept sh m q more × Later p₀ q
    advancing-ends {q} lc rp rb sh tb sw re =
        let s = ad.each sh tb sw re in
        swept-more tb s.0 s.1 top joined fits lc (subst (λ (l : List ℕ). Reset l q j c) ad.same rp) rb

    module _ (lc : choices_of m j ≤ c) where
      pub advancing-more : {d i : ℕ} → i ≡ j → ((h : ℕ) → Top others h → d ≡ get_or p h 0 + 1) → Advancing m p₀ blame₀ by next p (set blame i others) others d
      advancing-more {d} {i} ei ed =
          let ed₀ : (h : ℕ) → Top others h → d ≡ get_or p₀ h 0 + 1 = rw ad.same at ed in
          rw ei
          (record {
            same = ad.same;
            some = let s = ad.some in (s.0, s.1, swept-on s.1 s.2 s.3 top joined fits lc, refutes-on s.1 s.2 s.3 top joined fits lc ed₀);
            each = λ sh tb sw re. let s = ad.each sh tb sw re in (swept-on tb s.0 s.1 top joined fits lc, refutes-on tb s.0 s.1 top joined fits lc ed₀);
          })

      pub advancing-falls : others < a
      advancing-falls = let s = ad.some in falls s.1 s.2 s.3 top joined fits lc
