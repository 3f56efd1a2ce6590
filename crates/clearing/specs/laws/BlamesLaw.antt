-- By the choices at which slots a mutant is cleared.
use Rattle.std.specs.Prelude.{◌≡◌, List, ℕ, suc, ◌+◌, ◌-◌, ◌<◌, ◌≤◌, ◌^◌, length}
use Rattle.std.proofs.Math.Path.{refl}
use Rattle.std.proofs.Common.{sym, ap, ◌∙◌, subst, inl, inr, pow-suc, arith, pow_pos, ext_get_or, get_or-take, length-take-le}
use Rattle.std.proofs.Math.Option.{Option, none, some}
use Rattle.std.proofs.Math.Pow.{high, ones_split}
use Rattle.sheet.specs.Sheet.{Sheet}
use Rattle.model.specs.Mutant.{slots, IsMutant}
use Rattle.model.specs.Suite.{compare_of}
use Rattle.model.proofs.laws.JudgeLaw.{some-nonconforming}
use Rattle.model.proofs.laws.LogLaw.{passes-gives}
use Rattle.model.proofs.laws.OperationLaw.{mutant-length}
use Rattle.model.proofs.laws.SuspectLaw.{slot-count}
use Rattle.block.specs.laws.TabledLaw.{start-same, pair_same, ranged, gives_same}
use Rattle.cubes.specs.Sets.{Has}
use Rattle.cubes.specs.Cube.{Sought}
use Rattle.cubes.specs.declared.goal.Goal.TheVariants.{Nonconforming}
use Rattle.walks.specs.Walks.{NoneBy}
use Rattle.search.specs.Search.{ForSheet, mutant_in}
use Rattle.clearing.specs.Sweep.{Cleared, Shares, Blames, Full}
use Rattle.clearing.specs.Looking.{BySome}

-- the set of all slots has each of them
all-has : (j : ℕ) → j < 32 → Has 4294967295 j
unfolding Has
all-has j l =
    let k = 32 - j - 1 in
    let e : 4294967295 ≡ 2 ^ (suc k + j) - 1 = ap (λ (n : ℕ). 2 ^ n - 1) (let f : 32 ≡ suc k + j = omega arith in f) in
    let two = pow-suc 2 k in
    rw (e, ones_split (suc k) j, high (2 ^ suc k - 1) j {lo = 2 ^ j - 1} (omega (arith, pow_pos j))) (omega (arith, two, pow_pos k))

module _ {sh : Sheet} {m log p : List ℕ} (f : ForSheet sh m log) (full : Full m p) where
  -- a mutant that is not sought is cleared
  pub unsought : (b : List ℕ) → IsMutant sh b → (Sought Nonconforming m log b → ⊥) → Cleared sh b
  unfolding Sought
  unsought b is h passes = go (compare_of sh b) refl
    where
      go : (o : Option (List ℕ)) → compare_of sh b ≡ o → o ≡ none
      go none e = refl
      go (some xs) e =
          absurd (h (
            rw (gives_same f.tabled b is log, f.suite) (passes-gives sh b passes),
            λ c. some-nonconforming sh f.tabled.formed b xs e (rw (pair_same f.tabled b is, start-same f.tabled b is) at c),
          ))

  few : length (slots sh) ≤ 32
  few = omega (arith, slot-count sh, f.tabled.formed.few-open)

  -- p is the only one with all its choices
  alone : (b : List ℕ) → IsMutant sh b → Shares p 4294967295 b → b ≡ mutant_in sh p
  alone b is s =
      ext_get_or 0 b (mutant_in sh p) (mutant-length sh b is ∙ sym (length-take-le (length (slots sh)) p (omega (arith, few, full.long))))
      (λ i h. let l : i < length (slots sh) = omega (arith, mutant-length sh b is) in s.at i (all-has i (omega (arith, few))) ∙ sym (get_or-take (length (slots sh)) p i 0 l))

  pub blames-by : {set : ℕ} → NoneBy Nonconforming m log p set → Blames sh p set
  blames-by by = record { at = λ b is s. unsought b is (by.at b (ranged f.tabled b is) (record { at = λ j h n. s.at j h })) }

  pub blames : {set : ℕ} → BySome m log p set → Cleared sh (mutant_in sh p) → Blames sh p set
  blames (inl by) clear = blames-by by
  blames (inr e) clear =
      record { at = λ b is s. subst (Cleared sh) (sym (alone b is (subst (λ (n : ℕ). Shares p n b) e s))) clear }
