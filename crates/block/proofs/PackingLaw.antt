-- Filling the block, cell by cell.
use Rattle.std.specs.Prelude.{◌+◌, ◌-◌, ◌<◌, ◌≤◌, ◌≡◌, ◌⊎◌}
use Rattle.lists.specs.Proving.{arith, ℕ, refl, sym, ◌∙◌, subst, inl, inr, List, length, get_or, set, length-set, get_or-set_same, get_or-set_other, below_more}
use borrow.Rule.Slice.PartMut.{put_mid}
use Rattle.std.proofs.Common.{rules}
use Rattle.std.proofs.lemmas.List.{places}
use Rattle.block.specs.Packing.{Filled, Copied}

pub fill_none : {m : List ℕ} (base size : ℕ) (Right : ℕ → ℕ → Type 0) → length m ≡ 1620 → Filled m m base size 0 Right
fill_none base size Right l = record { low = omega arith; long = l; same = λ k h. absurd (omega arith); others = λ j h. refl }

pub fill_more : {old new : List ℕ} {base size n : ℕ} {Right : ℕ → ℕ → Type 0} (v : ℕ) → base + size ≤ 1620 → Filled old new base size n Right → n < size → Right n v
    → Filled old (set new (base + n) v) base size (n + 1) Right
fill_more {old} {new} {base} {size} {n} {Right} v fits f l ok = record {
  low = omega arith;
  long = length-set new (base + n) v ∙ f.long;
  same = below_more _ n (λ k h. subst (λ (y : ℕ). Right k y) (sym (get_or-set_other new (base + n) (base + k) v 0 (λ s. omega (arith, s, h)))) (f.same k h))
      (subst (λ (y : ℕ). Right n y) (sym (get_or-set_same new (base + n) v 0 (omega (arith, f.long, f.low, fits)))) ok);
  others = λ j h. get_or-set_other new (base + n) j v 0 (λ s. out j h s) ∙ f.others j h;
}
  where
    out : (j : ℕ) → (j < base) ⊎ (base + size ≤ j) → j ≡ base + n → ⊥
    out j (inl h) s = omega (arith, h, s)
    out j (inr h) s = omega (arith, h, s, l)

pub fill-all : {old new : List ℕ} {base size n : ℕ} {Right : ℕ → ℕ → Type 0} → Filled old new base size n Right → size ≤ n → Filled old new base size size Right
fill-all f l = record { low = omega arith; long = f.long; same = λ k h. f.same k (omega arith); others = f.others }

-- a part of the cells, overwritten
pub copied : {old put : List ℕ} (base : ℕ) (from : List ℕ) → length old ≡ 1620 → base + length from ≤ 1620 → put ≡ from → Copied old (put_mid base (base + length from - base) old put) base from (length from)
copied {old} base from l fits e = rw e (record { low = omega arith; long = long; same = λ k h. same k h; others = others })
  where
    long : length (put_mid base (base + length from - base) old from) ≡ 1620
    long = search (rules, places)

    same : (k : ℕ) → k < length from → get_or (put_mid base (base + length from - base) old from) (base + k) 0 ≡ get_or from k 0
    same k h = search (rules, places)

    others : (j : ℕ) → (j < base) ⊎ (base + length from ≤ j) → get_or (put_mid base (base + length from - base) old from) j 0 ≡ get_or old j 0
    others j (inl h) = search (rules, places)
    others j (inr h) = search (rules, places)
