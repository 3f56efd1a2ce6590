-- `load`: the tables that were read are the sheet's.
use Rattle.lists.specs.Proving.{refl, sym, ◌∙◌}
use Rattle.block.proofs.LoadLaw.{accepts, gives}
use Rattle.sheet.specs.laws.TablesLaw.{into-accepted}
use Rattle.block.proofs.packing.load.Goals as goal

pub tabulate-requires : goal.tabulate-requires
tabulate-requires c = let a = accepts c.in_ok-size.was c.load_noughts.ensures.reading (into-accepted _ _ (sym c.in_ok-size.was ∙ c.load_noughts.ensures.reading) c.load_noughts.ensures.tables) in (a.sheet, a.read)

pub returns : goal.returns
returns c = record { opened = gives (accepts c.in_ok-size.was c.load_noughts.ensures.reading (into-accepted _ _ (sym c.in_ok-size.was ∙ c.load_noughts.ensures.reading) c.load_noughts.ensures.tables)) refl refl refl c.tabulate.ensures; refused = tt }
