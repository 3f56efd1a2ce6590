-- A cube without survivor, from a mutant in it on.
use mathlib.Core.Path.{◌≡◌, refl, sym, ap, ap₂, ◌∙◌, subst}
use mathlib.Core.Logic.{by_cases}
use mathlib.Core.List.{List}
use Prim.Native.Nat.{ℕ, ◌+◌, ◌%◌, ◌<◌, ◌≤◌, ◌^◌}
use native.Mathlib.Omega.{arith}
use native.Mathlib.Decide.{ℕ_discrete, dec_lt}
use borrow.Author.Count.{below_more}
use lib.Pow.{pow_pos}
use lib.ListN.{get_or}
use Rattle.block.specs.Layout.{site_at, choices_of}
use Rattle.block.specs.Tabulated.{Wf, Ranged, choices_at, choice_of, chosen, StepIs}
use Rattle.block.specs.declared.layout.Step.{Step}
use Rattle.block.specs.laws.ChoiceLaw.{chosen-some, choice-at}
use Rattle.block.specs.laws.TabledLaw.{ranged}
use Rattle.cubes.specs.Sets.{Has, Joined}
use Rattle.cubes.specs.Cube.{Means, MeansStep, In}
use Rattle.cubes.specs.laws.LiteralLaw.{any-means}
use Rattle.cubes.specs.laws.SetLaw.{nothing, one_same}
use Rattle.clearing.specs.declared.order.Clearing.{Clearing}
use Rattle.clearing.specs.Sweep.{Top, Full}
use Rattle.clearing.specs.Asking.{SpeaksTo, Speaks, Passed, CubeRefutes}
use Rattle.clearing.specs.laws.SlotLaw.{has-below, top_one}
use Rattle.clearing.specs.laws.BlamesLaw.{unsought}

-- ---- the slots of which a cube speaks
pub to_same : {set l j : ℕ} → l ≡ 4294967295 → SpeaksTo set l j set
to_same e = record { more = λ i h. h; here = λ n. absurd (n e) }

pub to-joined : {set l j r : ℕ} → j < 32 → Joined set (2 ^ (j % 32)) r → SpeaksTo set l j r
to-joined {j = j} low jo = record { more = jo.left; here = λ n. jo.right j (subst (λ (i : ℕ). Has (2 ^ i) j) (omega arith) (one_same j)) }

pub speaks-none : {cube : List ℕ} → Speaks cube 0 0
speaks-none = record { at = λ j l. absurd (omega arith) }

pub speaks_more : {cube : List ℕ} {set l n k r : ℕ} → k ≡ n → l ≡ get_or cube k 0 → Speaks cube set n → SpeaksTo set l n r → Speaks cube r (n + 1)
speaks_more {cube} {n = n} {k = k} ek el sp to =
    record { at = below_more _ n (λ j l ne. to.more j (sp.at j l ne)) (λ ne. to.here (λ e. ne (ap (λ (i : ℕ). get_or cube i 0) (sym ek) ∙ sym el ∙ e))) }

pub speaks-all : {cube : List ℕ} {set n : ℕ} → Speaks cube set n → 32 ≤ n → Speaks cube set 32
speaks-all sp l = record { at = λ j h. sp.at j (omega arith) }

-- ---- the choices that a literal means
pub meant_is : {m : List ℕ} {k c : ℕ} {s : Step} (l : ℕ) → Wf m → StepIs m k c s → MeansStep l s.output s.target → c < choices_at m k → Means l (choice_of m k c)
meant_is {m} {k} {c} l wf is h low =
    subst (Means l) (ap₂ (λ (o t : ℕ). record { output = o; target = t }) (is.output wf low) (is.target wf low)) h

pub record PassingTo (m : List ℕ) (l k j c d : ℕ) : Type 0 where
  pub more : c < d
  pub means : (e : ℕ) → c < e → e < d → e < choices_of m j → Means l (choice_of m k e)

pub passing-none : {m : List ℕ} {l k j c d : ℕ} → d ≡ c + 1 → PassingTo m l k j c d
passing-none e = record { more = omega arith; means = λ x g h. absurd (omega arith) }

pub passed_none : {m : List ℕ} {l j c : ℕ} → Passed m l j c (c + 1)
passed_none = record { more = omega arith; means = λ k x lk ek g h. absurd (omega arith) }

pub passing-more : {m : List ℕ} {l k j c d : ℕ} → PassingTo m l k j c d → site_at m k ≡ j → j < 32 → (d < choices_at m k → Means l (choice_of m k d)) → PassingTo m l k j c (d + 1)
passing-more {m} {l} {k} {j} {c} {d} pa es lj h =
    record {
      more = omega (arith, pa.more);
      means = λ e g le lc. by_cases (ℕ_discrete e d)
          (λ ed. subst (λ (x : ℕ). Means l (choice_of m k x)) (sym ed) (h (subst (λ (x : ℕ). x < choices_at m k) ed (choice-at m k j e es lj lc))))
          (λ n. pa.means e g (omega arith) lc);
    }

pub passing-less : {m : List ℕ} {l k j c d e : ℕ} → PassingTo m l k j c d → c < e → e ≤ d → PassingTo m l k j c e
passing-less pa lo le = record { more = lo; means = λ x g h. pa.means x g (omega arith) }

pub passing-all : {m : List ℕ} {l k j c d : ℕ} → Wf m → k < 257 → j < 32 → site_at m k ≡ j → PassingTo m l k j c d → Passed m l j c d
passing-all {m} {l} {k} {j} wf lk lj es pa =
    record {
      more = pa.more;
      means = λ h e lh eh g le lc.
          let same : h ≡ k = wf.once k h lk lh (λ z. omega (arith, z, es)) (eh ∙ sym es) in
          subst (λ (x : ℕ). Means l (choice_of m x e)) (sym same) (pa.means e g le lc);
    }

-- ---- what the cube clears
module _ {m cube p : List ℕ} {by : ℕ} (wf : Wf m) (full : Full m p) (sp : Speaks cube by 32) where
  -- a mutant is in the cube if at the slots of which it speaks its choices are p's, or meant
  in-cube : {b : List ℕ} → In m cube p →
      ((k i : ℕ) → k < 257 → site_at m k ≡ i → i < 32 → Has by i → (get_or b i 0 ≡ get_or p i 0 → ⊥) → Means (get_or cube i 0) (choice_of m k (get_or b i 0))) → In m cube b
  in-cube {b} inp other = record { at = go }
    where
      go : (k : ℕ) → k < 257 → (site_at m k ≡ 255 → ⊥) → Means (get_or cube (site_at m k) 0) (choice_of m k (chosen m b k))
      go k lk ne =
          let i = site_at m k in
          let li : i < 32 = wf.sites k lk ne in
          by_cases (ℕ_discrete (get_or cube i 0) 4294967295) (λ e. any-means _ _ e)
          (λ n. by_cases (ℕ_discrete (get_or b i 0) (get_or p i 0))
          (λ e. subst (λ (c : ℕ). Means (get_or cube i 0) (choice_of m k c)) (chosen-some m p k ne ∙ sym e ∙ sym (chosen-some m b k ne)) (inp.at k lk ne))
          (λ d. subst (λ (c : ℕ). Means (get_or cube i 0) (choice_of m k c)) (sym (chosen-some m b k ne)) (other k i lk refl li (sp.at i li n) d)))

  pub refutes-none : {next : ℕ} → by ≡ 0 → CubeRefutes m cube p (record { by = by; next = next })
  refutes-none e =
      let none : (j : ℕ) → Has by j → ⊥ = λ j h. nothing j (subst (λ (n : ℕ). Has n j) e h) in
      record {
        at = λ sh log f ns inp.
            record {
              all = λ z b is. unsought f full b is (ns.at b (ranged f.tabled b is) (in-cube inp (λ k i lk ei li h. absurd (none i h))));
              more = λ j t. absurd (omega (arith, t.least, e, pow_pos j));
              at = λ j t. absurd (omega (arith, t.least, e, pow_pos j));
            };
      }

  pub refutes-some : {j k h next : ℕ} → Top by j → k ≡ j → h ≡ j → Passed m (get_or cube k 0) j (get_or p h 0) next → CubeRefutes m cube p (record { by = by; next = next })
  refutes-some {j} {k} {h} {next} top ek eh pa =
      record {
        at = λ sh log f ns inp.
            record {
              all = λ z. absurd (omega (arith, top.least, z, pow_pos j));
              more = λ i t. rw (top_one t top, sym eh) pa.more;
              at = λ i t b is same l lb.
                  unsought f full b is
                  (ns.at b (ranged f.tabled b is)
                  (in-cube inp (one i (top_one t top) b (ranged f.tabled b is) same l lb)));
            };
      }
    where
      one : (i : ℕ) → i ≡ j → (b : List ℕ) → Ranged m b → ((x : ℕ) → x < i → Has by x → get_or b x 0 ≡ get_or p x 0) → get_or p i 0 ≤ get_or b i 0 → get_or b i 0 < next →
          (y x : ℕ) → y < 257 → site_at m y ≡ x → x < 32 → Has by x → (get_or b x 0 ≡ get_or p x 0 → ⊥) → Means (get_or cube x 0) (choice_of m y (get_or b x 0))
      one i ei b ra same l lb y x ly ex lx hx ne =
          by_cases (dec_lt x j) (λ lj. absurd (ne (same x (omega arith) hx)))
          (λ n.
          let e : x ≡ j = omega (arith, has-below by (j + 1) x top.most hx) in
          rw e
          (subst (λ (z : ℕ). Means (get_or cube z 0) (choice_of m y (get_or b j 0))) ek
          (pa.means y (get_or b j 0) ly (ex ∙ e) (rw eh (omega (arith, rw ei at l, rw e at ne))) (rw ei at lb) (ra.at j top.low))))
