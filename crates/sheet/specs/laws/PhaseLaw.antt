-- What each phase leaves empty: the parts of a sheet come one after another.
use Rattle.std.specs.Prelude.{◌≡◌, refl, false, List, [], ◌∷◌, ℕ, suc, ◌<◌, ◌≤◌, length}
use Rattle.std.proofs.Common.{ap, arith}
use Rattle.std.proofs.Math.ListN.{length-append}
use Rattle.sheet.specs.declared.Row.{Row}
use Rattle.sheet.specs.declared.Size.{Size}
use Rattle.sheet.specs.Reading.{Progress, size, quiet, rule, fault, start, test, press, unsized, sized, quieted, ruled, faulted, started, testing, add_press, advance, blank}
use Rattle.sheet.specs.laws.ReadingLaw.{next, Moves, by_size, by-quiet, by-rule, by-fault, by-start, by-test, by-press}

pub record Ordered (p : Progress) : Type 0 where
  pub quiet : p.phase ≤ sized → p.sheet.quiet ≡ false
  pub rules : p.phase ≤ quieted → p.sheet.rules ≡ []
  pub faults : p.phase ≤ ruled → p.sheet.faults ≡ []
  pub starts : p.phase ≤ faulted → p.sheet.starts ≡ []
  pub tests : p.phase ≤ started → p.sheet.tests ≡ []
  pub begun : testing ≤ p.phase → 0 < length p.sheet.tests

-- a PRESS adds no test
pub press-length : (l : List (List ℕ)) (x : ℕ) → length (add_press l x) ≡ length l
unfolding add_press
press-length [] x = refl
press-length (y ∷ []) x = refl
press-length (y ∷ w ∷ l) x = ap suc (press-length (w ∷ l) x)

-- the blank progress is ordered, and every command keeps the order
pub ordered-blank : Ordered blank
unfolding blank
ordered-blank = record { quiet = λ _. refl; rules = λ _. refl; faults = λ _. refl; starts = λ _. refl; tests = λ _. refl; begun = λ k. absurd (omega arith) }

module _ {p : Progress} (o : Ordered p) where
  pub ordered-size : (z : Size) → p.phase ≤ unsized → Ordered (next p sized (size z))
  unfolding advance
  ordered-size z h =
      record { quiet = λ k. o.quiet (omega arith); rules = λ k. o.rules (omega arith); faults = λ k. o.faults (omega arith); starts = λ k. o.starts (omega arith); tests = λ k. o.tests (omega arith); begun = λ k. absurd (omega arith) }

  pub ordered-quiet : p.phase ≤ sized → Ordered (next p quieted quiet)
  unfolding advance
  ordered-quiet h =
      record { quiet = λ k. absurd (omega arith); rules = λ k. o.rules (omega arith); faults = λ k. o.faults (omega arith); starts = λ k. o.starts (omega arith); tests = λ k. o.tests (omega arith); begun = λ k. absurd (omega arith) }

  pub ordered-rule : (r : Row) → p.phase ≤ ruled → Ordered (next p ruled (rule r))
  unfolding advance
  ordered-rule r h =
      record { quiet = λ k. absurd (omega arith); rules = λ k. absurd (omega arith); faults = λ k. o.faults (omega arith); starts = λ k. o.starts (omega arith); tests = λ k. o.tests (omega arith); begun = λ k. absurd (omega arith) }

  pub ordered-fault : (r : Row) → p.phase ≤ faulted → Ordered (next p faulted (fault r))
  unfolding advance
  ordered-fault r h =
      record { quiet = λ k. absurd (omega arith); rules = λ k. absurd (omega arith); faults = λ k. absurd (omega arith); starts = λ k. o.starts (omega arith); tests = λ k. o.tests (omega arith); begun = λ k. absurd (omega arith) }

  pub ordered-start : (t : ℕ) → p.phase ≤ started → Ordered (next p started (start t))
  unfolding advance
  ordered-start t h =
      record { quiet = λ k. absurd (omega arith); rules = λ k. absurd (omega arith); faults = λ k. absurd (omega arith); starts = λ k. absurd (omega arith); tests = λ k. o.tests (omega arith); begun = λ k. absurd (omega arith) }

  pub ordered-test : Ordered (next p testing test)
  unfolding advance
  ordered-test =
      record { quiet = λ k. absurd (omega arith); rules = λ k. absurd (omega arith); faults = λ k. absurd (omega arith); starts = λ k. absurd (omega arith); tests = λ k. absurd (omega arith); begun = λ k. simp length-append (omega arith) }

  pub ordered-press : (x : ℕ) → testing ≤ p.phase → Ordered (next p testing (press x))
  unfolding advance
  ordered-press x h =
      record { quiet = λ k. absurd (omega arith); rules = λ k. absurd (omega arith); faults = λ k. absurd (omega arith); starts = λ k. absurd (omega arith); tests = λ k. absurd (omega arith); begun = λ k. rw press-length (o.begun h) }

pub ordered-on : {p : Progress} {s : List ℕ} {at : ℕ} {q : Progress} {e : ℕ} → Ordered p → Moves p s at q e → Ordered q
ordered-on o (by_size h) = ordered-size o _ h.late
ordered-on o (by-quiet h) = ordered-quiet o h.late
ordered-on o (by-rule h) = ordered-rule o _ h.late
ordered-on o (by-fault h) = ordered-fault o _ h.late
ordered-on o (by-start h) = ordered-start o _ h.late
ordered-on o (by-test h) = ordered-test o
ordered-on o (by-press h) = ordered-press o _ h.early
