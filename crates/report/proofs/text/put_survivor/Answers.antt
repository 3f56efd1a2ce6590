-- The lines of a survivor, one after the other.
use Rattle.writing.proofs.laws.SpelledLaw.{spelled-both}
use Rattle.report.specs.Text.{survivor_lines}
use Rattle.report.proofs.text.put_survivor.Goals as goal

pub returns : goal.returns
unfolding survivor_lines
returns c = spelled-both c.bytes-first.ensures (spelled-both c.put_line-second.ensures.text c.put_line.ensures.text)
