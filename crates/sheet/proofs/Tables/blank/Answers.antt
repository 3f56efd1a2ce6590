use Rattle.std.proofs.Common.{rules}
use Rattle.sheet.specs.Tables.{blank_tables}
use Rattle.sheet.proofs.Tables.blank.Goals as goal

pub returns : goal.returns
unfolding blank_tables
returns c = search rules
