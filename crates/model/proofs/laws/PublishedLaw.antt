-- The machines here are 000's: their runs are traces, conforming is quasi-equivalence, and a run is the response after one reset.
use Rattle.std.specs.Prelude.{ℕ, suc, ◌≡◌, length, replicate}
use Rattle.std.proofs.Math.Path.{refl, sym, ap}
use Rattle.std.proofs.Math.Option.{Option, none, some}
use mathlib.Core.List.{List, [], ◌∷◌, ◌++◌, map}
use Rattle.lists.specs.Lists.{maybe}
use Rattle.sheet.specs.Sheet.{Sheet}
use Rattle.lists.specs.laws.TestLaw.{never}
use Rattle.model.specs.Machine.{Move, prepend, outputs_from, specified_from, ConformingFrom}
use Rattle.model.specs.Mutant.{rule, step, initial, outputs, specified, Conforming}
use Rattle.model.specs.Implementation.{reset, input, respond_from, respond, required_from, required}
use Rattle.model.specs.Traces.{TraceFrom, QuasiEquivalent, specification, machine}
use Rattle.model.specs.Verdict.{RanMeans}
use Rattle.model.proofs.laws.SuiteLaw.{outputs-length, specified-uncons}

-- xs has specified outputs, or it begins with ys, which has, and goes on with an input x that has no rule there
pub data DefinedOr (specifies : List ℕ → Option (List ℕ)) (xs : List ℕ) : Type 0 where
  defined : (os : List ℕ) → specifies xs ≡ some os → DefinedOr specifies xs
  undefined : (ys : List ℕ) (x : ℕ) (zs os : List ℕ) → xs ≡ ys ++ x ∷ zs → specifies ys ≡ some os → specifies (ys ++ x ∷ []) ≡ none →
      DefinedOr specifies xs

module _ (rule : ℕ → ℕ → Option Move) where
  -- a specification's traces are the defined sequences with their specified outputs
  pub trace-specified : (s : ℕ) (xs os : List ℕ) → TraceFrom (specification rule) s xs os → specified_from rule s xs ≡ some os
  unfolding TraceFrom specified_from
  trace-specified s [] [] h = refl
  trace-specified s [] (o ∷ os) h = absurd h
  trace-specified s (x ∷ xs) [] h = absurd h
  trace-specified s (x ∷ xs) (o ∷ os) (t, e, h) = rw (e, trace-specified t xs os h) refl

  -- and back
  pub specified-trace : (s : ℕ) (xs os : List ℕ) → specified_from rule s xs ≡ some os → TraceFrom (specification rule) s xs os
  unfolding TraceFrom specified_from
  specified-trace s [] [] e = tt
  specified-trace s [] (o ∷ os) e = never (cc)
  specified-trace s (x ∷ xs) os e =
      let f = specified-uncons rule s x xs os e in
      rw f.is (f.move.target, f.ruled, specified-trace f.move.target xs f.rest f.specifies)

  -- the required outputs on inputs that follow a reset: those specified as long as the sequence is defined
  required-defined : (s : ℕ) (xs os : List ℕ) → specified_from rule s xs ≡ some os → required_from rule (some s) (map input xs) ≡ map (λ o. some o) os
  unfolding specified_from required_from
  required-defined s [] os e = let z : [] ≡ os = cc in rw (← z) refl
  required-defined s (x ∷ xs) os e =
      let f = specified-uncons rule s x xs os e in
      rw (f.is, f.ruled) (ap (λ l. some f.move.output ∷ l) (required-defined f.move.target xs f.rest f.specifies))

  required-lost : (xs : List ℕ) → required_from rule none (map input xs) ≡ replicate (length xs) none
  unfolding required_from
  required-lost [] = refl
  required-lost (x ∷ xs) = ap (λ l. none ∷ l) (required-lost xs)

  -- and none from the first input without a rule on
  required-undefined : (s : ℕ) (xs : List ℕ) (x : ℕ) (ys os : List ℕ) →
      specified_from rule s xs ≡ some os → specified_from rule s (xs ++ x ∷ []) ≡ none →
      required_from rule (some s) (map input (xs ++ x ∷ ys)) ≡ map (λ o. some o) os ++ replicate (suc (length ys)) none
  unfolding specified_from required_from
  required-undefined s [] x ys os e n =
      let z : [] ≡ os = cc in
      rw (← z, unruled (rule s x) n) (ap (λ l. none ∷ l) (required-lost ys))
    where
      unruled : (o : Option Move) → maybe o none (λ r. prepend r.output (some [])) ≡ none → o ≡ none
      unruled none h = refl
      unruled (some r) h = never (cc)
  required-undefined s (y ∷ xs) x ys os e n =
      let f = specified-uncons rule s y xs os e in
      let h : maybe (rule s y) none (λ r. prepend r.output (specified_from rule r.target (xs ++ x ∷ []))) ≡ none = n in
      let n' = unprepend f.move.output (specified_from rule f.move.target (xs ++ x ∷ [])) (rw f.ruled at h) in
      rw (f.is, f.ruled)
      (ap (λ l. some f.move.output ∷ l) (required-undefined f.move.target xs x ys f.rest f.specifies n'))
    where
      unprepend : (o : ℕ) (w : Option (List ℕ)) → prepend o w ≡ none → w ≡ none
      unprepend o none h = refl
      unprepend o (some w) h = never (cc)

  -- every sequence is defined, or has a longest defined part
  defined-or : (s : ℕ) (xs : List ℕ) → DefinedOr (specified_from rule s) xs
  unfolding specified_from
  defined-or s [] = defined [] refl
  defined-or s (x ∷ xs) = go (rule s x) refl (λ t. defined-or t xs)
    where
      next : (r : Move) → rule s x ≡ some r → DefinedOr (specified_from rule r.target) xs → DefinedOr (specified_from rule s) (x ∷ xs)
      next r e (defined os h) = defined (r.output ∷ os) (rw (e, h) refl)
      next r e (undefined ys y zs os is h n) =
          undefined (x ∷ ys) y zs (r.output ∷ os) (ap (λ l. x ∷ l) is) (rw (e, h) refl) (rw (e, n) refl)

      go : (o : Option Move) → rule s x ≡ o → ((t : ℕ) → DefinedOr (specified_from rule t) xs) → DefinedOr (specified_from rule s) (x ∷ xs)
      go none e ih = undefined [] x xs [] refl refl (rw e refl)
      go (some r) e ih = next r e (ih r.target)

module _ (move : ℕ → ℕ → Move) where
  -- a machine's traces are the sequences with its outputs
  pub trace-outputs : (s : ℕ) (xs os : List ℕ) → TraceFrom (machine move) s xs os → outputs_from move s xs ≡ os
  unfolding TraceFrom outputs_from
  trace-outputs s [] [] h = refl
  trace-outputs s [] (o ∷ os) h = absurd h
  trace-outputs s (x ∷ xs) [] h = absurd h
  trace-outputs s (x ∷ xs) (o ∷ os) (t, e, h) = rw (e, trace-outputs t xs os h) refl

  -- and back
  pub outputs-trace : (s : ℕ) (xs os : List ℕ) → outputs_from move s xs ≡ os → TraceFrom (machine move) s xs os
  unfolding TraceFrom outputs_from
  outputs-trace s [] os e = rw (← e) tt
  outputs-trace s (x ∷ xs) os e =
      rw (← e) ((move s x).target, refl, outputs-trace (move s x).target xs (outputs_from move (move s x).target xs) refl)

  inputs-only : (start s : ℕ) (xs : List ℕ) → respond_from move start s (map input xs) ≡ outputs_from move s xs
  unfolding respond_from outputs_from
  inputs-only start s [] = refl
  inputs-only start s (x ∷ xs) = ap (λ (l : List ℕ). (move s x).output ∷ l) (inputs-only start (move s x).target xs)

module _ (sh : Sheet) where
  -- a conforming mutant is quasi-equivalent to the specification
  pub conforming-quasi : (b : List ℕ) → Conforming sh b → QuasiEquivalent (specification (rule sh)) 0 (machine (step sh b)) (initial sh b)
  unfolding QuasiEquivalent ConformingFrom
  conforming-quasi b h xs os t = outputs-trace (step sh b) (initial sh b) xs os (h xs os (trace-specified (rule sh) 0 xs os t))

  -- a mutant that is quasi-equivalent to the specification conforms
  pub quasi-conforming : (b : List ℕ) → QuasiEquivalent (specification (rule sh)) 0 (machine (step sh b)) (initial sh b) → Conforming sh b
  unfolding QuasiEquivalent ConformingFrom
  quasi-conforming b h xs os e = trace-outputs (step sh b) (initial sh b) xs os (h xs os (specified-trace (rule sh) 0 xs os e))

  -- a mutant's outputs on inputs are those after one reset
  pub one-reset : (b xs : List ℕ) → respond sh b (reset ∷ map input xs) ≡ outputs sh b xs
  unfolding respond respond_from outputs
  one-reset b xs = inputs-only (step sh b) (initial sh b) (initial sh b) xs

  -- so a run is told as 01 describes the machine
  pub ran-means : (b xs : List ℕ) → RanMeans sh b xs (outputs sh b xs)
  unfolding outputs
  ran-means b xs = record { responds = sym (one-reset b xs); one_each = outputs-length (step sh b) (initial sh b) xs }

  -- the required outputs after one reset are the specified ones, if the sequence is defined
  pub required-after-reset : (xs os : List ℕ) → specified sh xs ≡ some os → required sh (reset ∷ map input xs) ≡ map (λ o. some o) os
  unfolding specified required required_from
  required-after-reset xs os e = required-defined (rule sh) 0 xs os e

  -- otherwise they are those of the longest defined part, and from the first input without a rule on there are none
  pub required-until : (xs : List ℕ) (x : ℕ) (ys os : List ℕ) → specified sh xs ≡ some os → specified sh (xs ++ x ∷ []) ≡ none →
      required sh (reset ∷ map input (xs ++ x ∷ ys)) ≡ map (λ o. some o) os ++ replicate (suc (length ys)) none
  unfolding specified required required_from
  required-until xs x ys os e n = required-undefined (rule sh) 0 xs x ys os e n

  -- one of the two holds of every sequence
  pub defined-or-not : (xs : List ℕ) → DefinedOr (specified sh) xs
  unfolding specified
  defined-or-not xs = defined-or (rule sh) 0 xs
