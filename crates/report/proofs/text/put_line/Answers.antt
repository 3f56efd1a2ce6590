-- A line: its word, its numbers, a line feed.
use borrow.Author.Rules.{rules}
use Rattle.writing.proofs.laws.SpelledLaw.{spelled-both}
use Rattle.report.specs.Text.{line}
use Rattle.report.proofs.text.put_line.Goals as goal

pub returns : goal.returns
unfolding line
returns c = record { text = spelled-both c.bytes-middle.ensures (spelled-both c.put_fields-end.ensures.text c.byte.ensures); short = search rules }
