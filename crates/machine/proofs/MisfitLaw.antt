-- Whether bytes are a mutant, and its machine, as the code finds them.
use Prim.Native.Nat.{ℕ, ◌*◌, ◌≤◌, ◌<◌}
use native.Mathlib.Omega.{arith}
use mathlib.Core.Path.{◌≡◌, refl, sym, ◌∙◌}
use mathlib.Core.List.{List}
use borrow.Author.Tests.{eq-eqb, ne_eqb}
use Rattle.std.specs.Prelude.{Ok, Err}
use lib.ListN.{length, get_or}
use Rattle.sheet.specs.Sheet.{Sheet}
use Rattle.model.specs.Mutant.{slots, IsMutant}
use Rattle.model.specs.Operations.{with_mutant}
use Rattle.model.proofs.laws.SuspectLaw.{slot-count}
use Rattle.model.proofs.laws.OperationLaw.{in-range, first-high}
use Rattle.block.specs.Layout.{waking, choices_of, states_of, slots_of}
use Rattle.block.specs.Tabulated.{choices_at, chosen, step_of, start_of}
use Rattle.block.specs.Tabled.{Tabled}
use Rattle.block.specs.laws.TabledLaw.{get_d_default}
use Rattle.sheet.specs.declared.Refusal.{Refusal}
use Rattle.sheet.specs.Tables.{refusal_of}
use Rattle.machine.specs.Laid.{Settles, Moves}
use Rattle.machine.specs.Fits.{HighAt, fit_of, Widened, Machined}
use Rattle.machine.specs.laws.LaidLaw.{settled-chosen, settled-start, settled-moves}
use Rattle.machine.specs.laws.FitsLaw.{mutant-fits}

pub few-slots : {sh : Sheet} {m : List ℕ} → Tabled sh m → slots_of m ≤ 32
few-slots {sh} tb = omega (arith, tb.count, slot-count sh, tb.formed.few-open)

module _ {sh : Sheet} {m : List ℕ} (tb : Tabled sh m) (b : List ℕ) where
  pub fit_length : (length b ≡ slots_of m → ⊥) → {why : Refusal} → why ≡ refusal_of 13 0 → Err why ≡ fit_of sh b
  unfolding fit_of with_mutant
  fit_length ne e = rw (e, ne_eqb (length b) (length (slots sh)) (λ e. ne (e ∙ sym tb.count))) refl

  module _ (e : length b ≡ slots_of m) {r : ℕ} (h : HighAt m b r) where
    long : length b ≡ length (slots sh)
    long = e ∙ tb.count

    size-at : (j : ℕ) → j < length b → choices_of m j ≡ get_or (slots sh) j 0
    size-at j l = tb.choices j (omega (arith, few-slots tb)) ∙ get_d_default (slots sh) j 1 0 (omega (arith, long))

    pub fit-high : r < length b → {why : Refusal} → why ≡ refusal_of 14 r → Err why ≡ fit_of sh b
    unfolding fit_of with_mutant
    fit-high l ew =
        let at : r < length b = omega arith in
        rw (
          ew,
          eq-eqb (length b) (length (slots sh)) long,
          first-high (slots sh) b r
              (record {
                is = at;
                slot = omega (arith, long);
                high = rw (size-at r at) at (h.high at);
                low = λ j lj. rw (size-at j (omega arith)) at (h.low j lj);
              }),
        ) refl

    pub fit_low : length b ≤ r → Ok tt ≡ fit_of sh b
    unfolding IsMutant
    fit_low l = sym (mutant-fits sh b (in-range (slots sh) b long (λ j lj. rw (size-at j lj) at (h.low j (omega arith)))))

-- the machine of bytes that are a mutant
module _ {sh : Sheet} {m : List ℕ} (tb : Tabled sh m) {b p : List ℕ} (w : Widened b p) where
  pub settles : Settles sh p b
  settles = record { at = λ j l. w.at j (omega (arith, slot-count sh, tb.formed.few-open)) }

  pub machined : {start : ℕ} {outputs targets : List ℕ} → IsMutant sh b → (chosen m p waking < choices_at m waking → start ≡ start_of m p) →
      Moves (step_of m p) outputs targets (16 * states_of m) → Machined sh b (record { start = start; output = outputs; target = targets })
  machined is es moved =
      record { is = is; start = es ((settled-chosen tb is settles).at waking (omega arith)) ∙ settled-start tb is settles; moves = settled-moves tb is settles moved }
