-- `assemble`: one part after another.
use Rattle.writing.proofs.laws.SpelledLaw.{spelled-both}
use Rattle.merging.proofs.join.Parts.assemble.Goals as goal

pub returns : goal.returns
returns c = spelled-both c.bytes-ruled.ensures
    (spelled-both c.bytes-faulted.ensures (spelled-both c.bytes-started.ensures (spelled-both c.bytes-tested.ensures (spelled-both c.bytes-ended.ensures c.byte.ensures))))
