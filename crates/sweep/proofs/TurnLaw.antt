-- One turn: what is asked of a mutant, and what a look at it tells.
use Rattle.std.specs.Prelude.{Option as Maybe, Some, None}
use mathlib.Core.Path.{◌≡◌, refl, sym, ap, ◌∙◌, subst}
use mathlib.Core.Logic.{by_cases}
use mathlib.Core.List.{List, ◌++◌}
use borrow.Rule.Slice.PartMut.{put_mid, mid_of, post_of, same_len_mid}
use Rattle.std.proofs.lemmas.List.{get_or_append_left, get_or-append_right, get_or-replicate}
use Rattle.lists.specs.Proving.{List·getD-eq-default}
use Prim.Native.Nat.{ℕ, ◌+◌, ◌-◌, ◌<◌, ◌≤◌}
use native.Mathlib.Omega.{arith}
use native.Mathlib.Decide.{dec_lt}
use lib.ListN.{length, get_or, take, drop, replicate, length-replicate, length-drop}
use lib.Seq.{get_or-take, length-take-le}
use Rattle.sheet.specs.Sheet.{Sheet}
use Rattle.block.specs.Tabulated.{Wf, Ranged}
use Rattle.cubes.specs.Sets.{Has}
use Rattle.cubes.specs.laws.SetLaw.{nothing}
use Rattle.cubes.specs.Cube.{Extends, NoneIn}
use Rattle.cubes.specs.declared.goal.Goal.TheVariants.{Nonconforming}
use Rattle.refutation.specs.Refuting.{PrefixIn}
use Rattle.clearing.specs.Sweep.{Blames, Top, Full, Refutes}
use Rattle.clearing.specs.Asking.{CubeRefutes}
use Rattle.clearing.specs.Looking.{BySome}
use Rattle.clearing.specs.laws.BlamesLaw.{blames}
use Rattle.clearing.specs.laws.SlotLaw.{has-below}
use Rattle.clearing.specs.declared.order.Clearing.{Clearing}
use Rattle.sweep.specs.Turning.{AskedOk, ConformedOk}

-- ---- the first choices of p
pub prefixed : (p ys : List ℕ) (k : ℕ) → length p ≡ 32 → k ≤ 32 → ys ≡ replicate (length (mid_of k (32 - k) p)) 256 → Extends p (put_mid k (32 - k) p ys)
prefixed p ys k lp lk e j n =
    by_cases (dec_lt j k)
    (λ l. sym (get_or_append_left (take k p) (ys ++ post_of k (32 - k) p) 0 j (omega (arith, lf)) ∙ get_or-take k p j 0 l))
    (λ h. by_cases (dec_lt j 32) (λ l. absurd (n (unsettled (omega arith) l)))
    (λ g. List·getD-eq-default p 0 (omega (arith, lp)) ∙ sym (List·getD-eq-default (put_mid k (32 - k) p ys) 0 (omega (arith, long)))))
  where
    lf : length (take k p) ≡ k
    lf = length-take-le k p (omega (arith, lp))

    lm : length (mid_of k (32 - k) p) ≡ 32 - k
    lm = length-take-le (32 - k) (drop k p) (omega (arith, length-drop k p, lp))

    ly : length ys ≡ 32 - k
    ly = ap length e ∙ length-replicate {A = ℕ} (length (mid_of k (32 - k) p)) 256 ∙ lm

    long : length (put_mid k (32 - k) p ys) ≡ 32
    long = same_len_mid k (32 - k) p ys (ly ∙ sym lm) ∙ lp

    unsettled : k ≤ j → j < 32 → get_or (put_mid k (32 - k) p ys) j 0 ≡ 256
    unsettled h l =
        get_or-append_right (take k p) (ys ++ post_of k (32 - k) p) k j 0 lf h
        ∙ get_or_append_left ys (post_of k (32 - k) p) 0 (j - k) (omega (arith, ly))
        ∙ ap (λ (z : List ℕ). get_or z (j - k) 0) e
        ∙ get_or-replicate (length (mid_of k (32 - k) p)) (j - k) 256 0 (omega (arith, lm))

-- ---- what is asked
-- p is one of the mutants of its prefix
pub ranged-full : {m p : List ℕ} → Full m p → Ranged m p
ranged-full full = record { short = omega (arith, full.long); at = full.low }

pub few-full : {m p : List ℕ} → Wf m → Full m p → (length p ≡ 32) × ((i : ℕ) → i < 32 → get_or p i 0 ≤ 256)
few-full wf full = (full.long, λ i l. omega (arith, full.low i l, wf.choices i l))

pub asked-some : {m log p q cube : List ℕ} {c : Clearing} → Full m p → Extends p q → NoneIn Nonconforming m log cube → PrefixIn m cube q → CubeRefutes m cube p c → AskedOk m log p (Some c)
asked-some {log = log} full ex none pre re = λ sh f. re.at sh log f none (pre.at _ (ranged-full full) ex)

-- ---- what a look tells
pub blames-refutes : {sh : Sheet} {p : List ℕ} {by next : ℕ} → Blames sh p by → ((j : ℕ) → Top by j → next ≡ get_or p j 0 + 1) → Refutes sh p by next
blames-refutes {sh} {p} {by} {next} bl en =
    record {
      all = λ z b is. bl.at b is (record { at = λ j h. absurd (nothing j (subst (λ (n : ℕ). Has n j) z h)) });
      more = λ j t. omega (arith, en j t);
      at = λ j t b is same l lb.
          bl.at b is (record {
            at = λ i h. by_cases (dec_lt i j) (λ li. same i li h)
                (λ n. let e : i ≡ j = omega (arith, has-below by (j + 1) i t.most h) in
                let eb : get_or b j 0 ≡ get_or p j 0 = omega (arith, en j t) in
                rw e eb);
          });
    }

-- ---- what clears a mutant that conforms
pub conformed-asked : {m log p : List ℕ} {c : Clearing} → AskedOk m log p (Some c) → ConformedOk m log p c
conformed-asked told = record { at = λ sh f clear. told sh f }

pub conformed-by : {m log p : List ℕ} {by : ℕ} {c : Clearing} → Full m p → BySome m log p by → (c.by ≡ by) × ((j : ℕ) → Top by j → c.next ≡ get_or p j 0 + 1) → ConformedOk m log p c
conformed-by full by is = record { at = λ sh f clear. rw is.0 (blames-refutes (blames f full by clear) is.1) }
