use Rattle.std.proofs.Common.{◌≡◌, ◌-◌, length}
use Rattle.commands.proofs.ScanLaw.{Going}
use Rattle.commands.proofs.scan.scan.Given as goal

abbrev pub invariant-loop-command : goal.invariant-loop-command
invariant-loop-command l = (l.reader.sheet.now ≡ l.sheet) × Going l.reader.sheet.now l.state l.reader.at

abbrev pub decreases-loop-command : goal.decreases-loop-command
decreases-loop-command l = length l.reader.sheet.now - l.reader.at
