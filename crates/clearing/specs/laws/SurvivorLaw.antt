-- What a sweep finds is the judgement.
use Rattle.std.specs.Prelude.{◌≡◌, List, [], ◌∷◌, ℕ, zero, suc, ◌<◌, ◌≤◌, length, get_or, replicate}
use Rattle.std.proofs.Common.{◌∙◌, inl, inr, le_of_suc-le-suc, arith, pow_pos, get_or-take, length-take-le}
use Rattle.std.proofs.lemmas.List.{length-replicate, get_or-replicate}
use Rattle.lists.specs.Lists.{Before}
use Rattle.sheet.specs.Sheet.{Sheet}
use Rattle.model.specs.Mutant.{slots, IsMutant}
use Rattle.model.specs.Suite.{survivor, judge_of}
use Rattle.model.proofs.laws.JudgeLaw.{judge-first}
use Rattle.model.proofs.laws.OperationLaw.{mutant-length, in-range}
use Rattle.model.proofs.laws.SuspectLaw.{slot-count}
use Rattle.block.specs.Tabled.{Tabled}
use Rattle.block.specs.laws.TabledLaw.{get_d_default, slot-some}
use Rattle.search.specs.Search.{mutant_in}
use Rattle.clearing.specs.Sweep.{Cleared, Full, Swept}
use Rattle.clearing.specs.Looking.{Found}
use Rattle.clearing.specs.laws.SlotLaw.{has-below}

-- ---- the first one
-- where two lists first differ
record Differs (b c : List ℕ) : Type 0 where
  place : ℕ
  low : place < length b
  same : (i : ℕ) → i < place → get_or b i 0 ≡ get_or c i 0
  less : get_or b place 0 < get_or c place 0

differs : (b c : List ℕ) → Before b c → Differs b c
unfolding Before
differs [] c h = absurd h
differs (x ∷ b) [] h = absurd h
differs (x ∷ b) (y ∷ c) (inl l) = record { place = 0; low = omega arith; same = λ i k. absurd (omega arith); less = l }
differs (x ∷ b) (y ∷ c) (inr (e, h)) =
    let d = differs b c h in
    record { place = suc d.place; low = omega (arith, d.low); same = first_then d; less = d.less }
  where
    first_then : (d : Differs b c) (i : ℕ) → i < suc d.place → get_or (x ∷ b) i 0 ≡ get_or (y ∷ c) i 0
    first_then d zero l = e
    first_then d (suc i) l = d.same i (le_of_suc-le-suc l)

-- all the choices are a mutant
pub full-mutant : {sh : Sheet} {m p : List ℕ} → Tabled sh m → Full m p → IsMutant sh (mutant_in sh p)
unfolding IsMutant
full-mutant {sh} {m} {p} tb full =
    let few : length (slots sh) ≤ 32 = omega (arith, slot-count sh, tb.formed.few-open) in
    let long : length (mutant_in sh p) ≡ length (slots sh) = length-take-le (length (slots sh)) p (omega (arith, few, full.long)) in
    in-range (slots sh) (mutant_in sh p) long
    (λ j h.
    let l : j < length (slots sh) = omega (arith, long) in
    rw (get_or-take (length (slots sh)) p j 0 l) (rw (tb.choices j (omega (arith, few)) ∙ get_d_default (slots sh) j 1 0 l) at (full.low j (omega (arith, few)))))

module _ {sh : Sheet} {m p blame : List ℕ} (tb : Tabled sh m) (sw : Swept sh m p blame) where
  -- no mutant before it survives
  pub before-cleared : (b : List ℕ) → IsMutant sh b → Before b (mutant_in sh p) → Cleared sh b
  before-cleared b is before =
      let d = differs b (mutant_in sh p) before in
      let few : length (slots sh) ≤ 32 = omega (arith, slot-count sh, tb.formed.few-open) in
      let inside : d.place < length (slots sh) = omega (arith, d.low, mutant-length sh b is) in
      sw.cleared d.place (omega arith) b is
      (record {
        at = λ j h.
            let lj = has-below (get_or blame d.place 0) d.place j (sw.before d.place (omega arith)) h in
            d.same j lj ∙ get_or-take (length (slots sh)) p j 0 (omega arith);
      })
      (rw (get_or-take (length (slots sh)) p d.place 0 inside) at d.less)

  -- so a survivor there is the verdict
  pub survivor-judged : {n : ℕ} {buffer : List ℕ} → (found : Found sh (mutant_in sh p) n buffer) → judge_of sh ≡ survivor (mutant_in sh p) found.inputs
  survivor-judged found =
      judge-first sh (mutant_in sh p) found.inputs (full-mutant tb sw.full) found.passes found.compared (λ c ic before. before-cleared c ic before)

-- ---- the first mutant of all, with no slots to blame
pub swept-first : {sh : Sheet} {m : List ℕ} → Tabled sh m → Swept sh m (replicate 32 0) (replicate 32 0)
swept-first {sh} tb =
    record {
      full = record { long = length-replicate {A = ℕ} 32 0; low = λ i l. rw (get_or-replicate {A = ℕ} 32 i 0 0 l) (omega (arith, tb.choices i l, slot-some sh tb.formed i)) };
      blame-long = length-replicate {A = ℕ} 32 0;
      before = λ i l. rw (get_or-replicate {A = ℕ} 32 i 0 0 l) (pow_pos i);
      cleared = λ i l b is s h. absurd (omega (arith, get_or-replicate {A = ℕ} 32 i 0 0 l, h));
    }
