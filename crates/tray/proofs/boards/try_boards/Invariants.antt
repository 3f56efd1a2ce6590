-- `try_boards`: the results of the first i stand at the front.
use Rattle.lists.specs.Proving.{length}
use Rattle.sheet.specs.Sheet.{Sheet}
use Rattle.search.specs.Search.{ForSheet}
use Rattle.tray.specs.words.Trays.{TrayOf}
use Rattle.tray.proofs.TryLaw.{TriedTo}
use Rattle.tray.proofs.boards.try_boards.Given as goal

abbrev pub invariant-loop-i : goal.invariant-loop-i
invariant-loop-i l = (sh : Sheet) → ForSheet sh l.block l.log → TrayOf sh l.boards l.tray (length l.initial.results) → TriedTo sh l.tray l.initial.results l.results l.at l.i
