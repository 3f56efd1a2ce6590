-- From turn to turn.
use Rattle.std.specs.Prelude.{Option as Maybe, Result as Answer, Ok, Err, IsErr}
use Rattle.search.specs.declared.settle.GaveUp.{GaveUp}
use Rattle.sweep.specs.Outcomes.{OutcomeOk}
use mathlib.Core.Path.{◌≡◌, refl, sym, ◌∙◌, subst, ap}
use mathlib.Core.Logic.{◌⊎◌, inl, inr}
use mathlib.Core.Bool.{true}
use mathlib.Core.List.{List, [], ◌∷◌}
use Prim.Native.Nat.{ℕ, zero, suc, ◌+◌, ◌-◌, ◌*◌, ◌<◌, ◌≤◌, ◌^◌}
use native.Mathlib.Nat.{suc-mul, pow-succ', mul-le-mul_right}
use native.Mathlib.Omega.{arith}
use lib.ListN.{length, get_or}
use Rattle.lists.specs.laws.TestLaw.{never}
use Rattle.sheet.specs.Sheet.{Sheet}
use Rattle.block.specs.Tabled.{Tabled}
use Rattle.block.specs.Tabulated.{Wf}
use Rattle.block.specs.laws.TabledLaw.{well-formed}
use Rattle.cubes.specs.declared.goal.Goal.TheVariants.{Nonconforming}
use Rattle.refutation.specs.Lent.{StoreOk, Entry}
use Rattle.search.specs.Search.{ForSheet}
use Rattle.clearing.specs.Sweep.{Full, Swept, Refutes, Later, Advanced}

-- ---- the place of a mutant in dictionary order, as a number
pub rank : List ℕ → ℕ
rank [] = 0
rank (c ∷ p) = c * 257 ^ length p + rank p

rank_below : (p : List ℕ) → ((i : ℕ) → i < length p → get_or p i 0 < 257) → rank p < 257 ^ length p
unfolding rank
rank_below [] low = omega arith
rank_below (c ∷ p) low =
    let h = rank_below p (λ i l. low (suc i) (omega arith)) in
    let most : suc c * 257 ^ length p ≤ 257 * 257 ^ length p = mul-le-mul_right (257 ^ length p) (low 0 (omega arith)) in
    omega (arith, suc-mul c (257 ^ length p), pow-succ' 257 (length p))

rank-more : (p q : List ℕ) (k : ℕ) → length p ≡ length q → ((i : ℕ) → i < length p → get_or p i 0 < 257) → k < length p → ((i : ℕ) → i < k → get_or q i 0 ≡ get_or p i 0) → get_or p k 0 < get_or q k 0 → rank p < rank q
unfolding rank
rank-more [] q k e low l same more = absurd (omega arith)
rank-more (c ∷ p) [] k e low l same more = absurd (omega arith)
rank-more (c ∷ p) (d ∷ q) zero e low l same more =
    let h = rank_below p (λ i li. low (suc i) (omega arith)) in
    let el : length p ≡ length q = omega arith in
    let one : suc c * 257 ^ length p ≤ d * 257 ^ length p = mul-le-mul_right (257 ^ length p) more in
    rw (← el) (omega (arith, suc-mul c (257 ^ length p)))
rank-more (c ∷ p) (d ∷ q) (suc k) e low l same more =
    let el : length p ≡ length q = omega arith in
    let ec : d ≡ c = same 0 (omega arith) in
    let ih = rank-more p q k el (λ i li. low (suc i) (omega arith)) (omega arith) (λ i li. same (suc i) (omega arith)) more in
    rw (ec, ← el) (omega (arith, ih))

-- ---- where a turn gives up
pub gave-up : {sh : Sheet} {m p blame : List ℕ} (buffer : List ℕ) (r : Answer (Maybe ℕ) GaveUp) → IsErr r → Swept sh m p blame → OutcomeOk sh m r p blame buffer
gave-up buffer (Ok found) e s = never (cc)
gave-up buffer (Err g) e s = s

-- ---- from turn to turn
pub record Sweeping (m log p₀ blame₀ p blame : List ℕ) (store₀ store : List Entry) (notes₀ notes sequence₀ sequence : List ℕ) : Type 0 where
  pub some : (sh : Sheet) × ForSheet sh m log × Swept sh m p blame
  pub each : (sh : Sheet) → ForSheet sh m log → Swept sh m p₀ blame₀ → Swept sh m p blame
  pub kept : StoreOk Nonconforming m log store
  pub same_store : length store ≡ length store₀
  pub same-notes : length notes ≡ length notes₀
  pub same-sequence : length sequence ≡ length sequence₀

-- how far it is to the last
pub left : List ℕ → ℕ
left p = 257 ^ 32 - rank p

falls : {a b : ℕ} (n : ℕ) → a < b → b < n → n - b < n - a
falls n l h = omega arith

few : {m p : List ℕ} → Wf m → Full m p → (i : ℕ) → i < length p → get_or p i 0 < 257
few wf full i l = omega (arith, full.low i (omega (arith, full.long)), wf.choices i (omega (arith, full.long)))

pub left_less : {m p q : List ℕ} → Wf m → Full m p → Full m q → Later p q → left q < left p
unfolding left
left_less {m} {p} {q} wf fp fq la =
    falls (257 ^ 32)
    (rank-more p q la.place (fp.long ∙ sym fq.long) (few wf fp) (omega (arith, la.low, fp.long)) la.same la.more)
    (subst (λ (n : ℕ). rank q < 257 ^ n) fq.long (rank_below q (few wf fq)))

module _ {m log p₀ blame₀ p blame : List ℕ} {store₀ store : List Entry} {notes₀ notes sequence₀ sequence : List ℕ} (sw : Sweeping m log p₀ blame₀ p blame store₀ store notes₀ notes sequence₀ sequence) where
  -- what a turn asks, and advancing after it
  pub full : Full m p
  full = sw.some.2.full

  advanced : {q more : List ℕ} {by next : ℕ} → ((sh : Sheet) → ForSheet sh m log → Refutes sh p by next) →
      ((sh : Sheet) → Tabled sh m → Swept sh m p blame → Refutes sh p by next → Advanced sh m p true q more) → (sh : Sheet) → ForSheet sh m log → Swept sh m p blame → Swept sh m q more × Later p q
  advanced re ad sh f s = ad sh f.tabled s (re sh f)

  pub sweeping-less : {q more : List ℕ} {by next : ℕ} → ((sh : Sheet) → ForSheet sh m log → Refutes sh p by next) →
      ((sh : Sheet) → Tabled sh m → Swept sh m p blame → Refutes sh p by next → Advanced sh m p true q more) → left q < left p
  sweeping-less re ad =
      let s = sw.some in
      let a = advanced re ad s.0 s.1 s.2 in
      left_less (well-formed s.1.tabled) full a.0.full a.1

  pub sweeping-more : {q more noted written : List ℕ} {kept : List Entry} {by next : ℕ} → ((sh : Sheet) → ForSheet sh m log → Refutes sh p by next) →
      ((sh : Sheet) → Tabled sh m → Swept sh m p blame → Refutes sh p by next → Advanced sh m p true q more) →
      StoreOk Nonconforming m log kept → length kept ≡ length store → length noted ≡ length notes → length written ≡ length sequence →
      Sweeping m log p₀ blame₀ q more store₀ kept notes₀ noted sequence₀ written
  sweeping-more re ad ok es en eq =
      record {
        some = let s = sw.some in (s.0, s.1, (advanced re ad s.0 s.1 s.2).0);
        each = λ sh f s. (advanced re ad sh f (sw.each sh f s)).0;
        kept = ok;
        same_store = es ∙ sw.same_store;
        same-notes = en ∙ sw.same-notes;
        same-sequence = eq ∙ sw.same-sequence;
      }
