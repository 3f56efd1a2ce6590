-- What a sweep finds.
use Rattle.std.specs.Prelude.{Option as Maybe, Some, None, Result as Answer, Ok, Err}
use Rattle.std.specs.Prelude.{List, ℕ}
use Rattle.sheet.specs.Sheet.{Sheet}
use Rattle.search.specs.Search.{mutant_in}
use Rattle.search.specs.declared.settle.GaveUp.{GaveUp}
use Rattle.clearing.specs.Sweep.{AllCleared, Swept}
use Rattle.clearing.specs.Looking.{Found}

-- no mutant survives; p does, and no earlier one; or nothing is said but that no earlier one does
abbrev pub OutcomeOk : Sheet → List ℕ → Answer (Maybe ℕ) GaveUp → List ℕ → List ℕ → List ℕ → Type 0
OutcomeOk sh m (Ok None) p blame buffer = AllCleared sh
OutcomeOk sh m (Ok (Some d)) p blame buffer = Swept sh m p blame × Found sh (mutant_in sh p) d buffer
OutcomeOk sh m (Err e) p blame buffer = Swept sh m p blame
