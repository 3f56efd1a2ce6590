-- `spell_longer`: all but END, the test, END.
-- all but the last byte
use Rattle.std.specs.Prelude.{◌≡◌, ◌-◌}
use Rattle.lists.specs.Proving.{arith, sym, length, take, List, ℕ}
use lib.Seq.{length-take-le}
use Rattle.sheet.specs.laws.PartLaw.{presses-length}
use Rattle.writing.proofs.laws.SpelledLaw.{spelled-both}
use Rattle.adding.proofs.spell_longer.Goals as goal

but_last : (l : List ℕ) → length (take (length l - 1) l) ≡ length l - 1
but_last l = length-take-le (length l - 1) l (omega arith)

pub slice_bounds-bytes-end : goal.slice_bounds-bytes-end
slice_bounds-bytes-end c = sym (but_last c.args.sheet.now)

pub bytes-begun-requires : goal.bytes-begun-requires
bytes-begun-requires c = omega (arith, but_last c.args.sheet.now, c.requires)

pub test-tested-requires : goal.test-tested-requires
test-tested-requires c =
    let b = c.bytes-begun.ensures in
    omega (arith, but_last c.args.sheet.now, presses-length c.args.presses.now, c.requires, b.many, b.long)

pub byte-requires : goal.byte-requires
byte-requires c =
    let b = c.bytes-begun.ensures in
    let t = c.test-tested.ensures in
    omega (arith, but_last c.args.sheet.now, presses-length c.args.presses.now, c.requires, b.many, b.long, t.many, t.long)

pub returns : goal.returns
returns c =
    spelled-both (spelled-both c.bytes-begun.ensures c.test-tested.ensures) c.byte.ensures
