-- `meet_from`: the states that s leads to by the inputs below x.
use Rattle.std.specs.Prelude.{◌<◌}
use Rattle.lists.specs.Proving.{List}
use Prim.Native.Nat.{ℕ}
use Rattle.sheet.specs.Sheet.{Sheet}
use Rattle.renaming.specs.Renaming.{meet_from}
use Rattle.renaming.proofs.laws.MetLaw.{Met}
use Rattle.numbering.specs.words.Searched.{Searched, MarkedIn}
use Rattle.numbering.proofs.first_reached.Met.meet_from.Given as goal

abbrev pub invariant-loop-x : goal.invariant-loop-x
invariant-loop-x l = (sh : Sheet) (states : List ℕ) → Searched sh l.target l.inputs → l.s < sh.size.states → Met sh.size.states states → MarkedIn states l.initial.self → MarkedIn (meet_from sh.rules l.s states l.x) l.self
