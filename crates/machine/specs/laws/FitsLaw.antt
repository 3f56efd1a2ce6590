-- Whether bytes are a mutant: what each answer means.
use Rattle.std.specs.Prelude.{ℕ, ◌≡◌, Bool, not, List, length, Ok, Err}
use Rattle.std.proofs.Math.Path.{refl, ap}
use Rattle.std.proofs.Math.Bool.{true, false}
use Rattle.std.proofs.Math.Option.{Option, none, some}
use Rattle.std.proofs.Common.{eqb-true}
use Rattle.std.proofs.Math.Dec.{eqb}
use Rattle.sheet.specs.declared.Refusal.{Refusal}
use Rattle.sheet.specs.Sheet.{Sheet}
use Rattle.sheet.specs.Reading.{Result, accepted, refused}
use Rattle.sheet.specs.Tables.{refusal_of}
use Rattle.lists.specs.laws.TestLaw.{never}
use Rattle.model.specs.Mutant.{slots, IsMutant}
use Rattle.model.specs.Operations.{first_high, with_mutant, refuse_if, refuse_at}
use Rattle.model.proofs.laws.OperationLaw.{mutant-goes-on, is-mutant}
use Rattle.machine.specs.Fits.{fit_answer, fit_of}

module _ (sh : Sheet) (b : List ℕ) where
  -- a refusal for the mutant ends every operation
  pub fit_refused : (why : Refusal) → fit_of sh b ≡ Err why → {A : Type 0} (r : Result A) → with_mutant sh b r ≡ refused why.number why.place
  unfolding fit_of with_mutant
  fit_refused why e {A} r = go (eqb (length b) (length (slots sh))) (first_high (slots sh) b) e
    where
      by : Refusal → Result A
      by w = refused w.number w.place

      go : (t : Bool) (o : Option ℕ) → fit_answer (refuse_if (not t) 13 0 (refuse_at o 14 (accepted tt))) ≡ Err why →
          refuse_if {A = A} (not t) 13 0 (refuse_at o 14 r) ≡ refused why.number why.place
      go true none h = never (cc)
      go true (some i) h = let g : refusal_of 14 i ≡ why = cc in ap by g
      go false o h = let g : refusal_of 13 0 ≡ why = cc in ap by g

  pub fit-mutant : fit_of sh b ≡ Ok tt → IsMutant sh b
  unfolding fit_of with_mutant
  fit-mutant e = go (eqb (length b) (length (slots sh))) refl (first_high (slots sh) b) refl e
    where
      go : (t : Bool) → eqb (length b) (length (slots sh)) ≡ t → (o : Option ℕ) → first_high (slots sh) b ≡ o →
          fit_answer (refuse_if (not t) 13 0 (refuse_at o 14 (accepted tt))) ≡ Ok tt → IsMutant sh b
      go true et none eo h = is-mutant sh b (eqb-true (length b) (length (slots sh)) et) eo
      go true et (some i) eo h = never (cc)
      go false et o eo h = never (cc)

  pub mutant-fits : IsMutant sh b → fit_of sh b ≡ Ok tt
  unfolding fit_of
  mutant-fits m = ap fit_answer (mutant-goes-on sh b (accepted tt) m)

  pub not-mutant : (why : Refusal) → fit_of sh b ≡ Err why → IsMutant sh b → ⊥
  not-mutant why e m = let e' = mutant-fits m in never (cc)
