-- `numbers_of`: the search has looked at the first i states.
use Rattle.sheet.specs.Sheet.{Sheet}
use Rattle.renaming.specs.Renaming.{met_by}
use Rattle.numbering.specs.words.Searched.{Searched, MarkedIn}
use Rattle.numbering.proofs.first_reached.numbers_of.Given as goal

abbrev pub invariant-loop-i : goal.invariant-loop-i
invariant-loop-i l = (sh : Sheet) → Searched sh l.target l.inputs → MarkedIn (met_by sh l.i) l.met
