-- `tabulate`: the places of the copies, one after another.
use Rattle.std.proofs.Common.{rules}
use Rattle.block.proofs.TabulateLaw.{few, tabled}
use Rattle.block.proofs.packing.tabulate.Goals as goal

pub number-sites-requires : goal.number-sites-requires
number-sites-requires c = few c.requires.1 _ _ c.into.ensures c.into-2.ensures

pub returns : goal.returns
returns c = λ sh rd. tabled rd _ _ c.into.ensures c.into-2.ensures c.number-sites.result (search rules) c.number-sites.ensures _ c.waking_site.ensures c.copy.ensures c.copy-2.ensures c.copy_first.ensures c.copy-3.ensures c.copy-4.ensures c.copy_choices.ensures c.copy-5.ensures c.copy-6.ensures c.copy-7.ensures
