use Rattle.sheet.specs.Sheet.{Sheet}
use Rattle.reading.specs.words.Places.{Table, Countable}
use Rattle.reading.proofs.FillLaw as laws
use Rattle.reading.proofs.filling.count_choices.Given as goal

abbrev pub invariant-loop-p : goal.invariant-loop-p
invariant-loop-p l = (sh : Sheet) → Countable l.unruled l.target l.initial.choices sh → Table 256 l.choices (laws.partly (laws.choices_by sh) (laws.faults_by sh) l.p)
