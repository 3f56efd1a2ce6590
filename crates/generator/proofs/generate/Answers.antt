-- `generate`: the two refusals, then the sheet.
use Rattle.std.proofs.Common.{sym, ◌∙◌}
use Rattle.sheet.specs.laws.CommandLaw.{size_in_lem}
use Rattle.generator.proofs.GenerateLaw.{out_of_range, no_room, promised}
use Rattle.generator.proofs.generate.Goals as goal

pub returns-then-not-is_in_range : goal.returns-then-not-is_in_range
returns-then-not-is_in_range c =
    let a = c.args in
    let p = out_of_range a.seed a.size a.buffer.now (sym c.is_in_range.ensures ∙ c.if-not-is_in_range.true) in
    rw c.new.ensures (record { answer = p.0; bytes = p.1.0; told = p.1.1 })

pub returns-then-buffer-lt16384 : goal.returns-then-buffer-lt16384
returns-then-buffer-lt16384 c =
    let a = c.args in
    let p = no_room a.seed a.size a.buffer.now (sym c.is_in_range.ensures ∙ c.if-not-is_in_range.false) c.if-buffer-lt16384.true in
    rw c.new-then-buffer-lt16384.ensures (record { answer = p.0; bytes = p.1.0; told = p.1.1 })

pub spell-requires : goal.spell-requires
spell-requires c = record { size_in = size_in_lem c.args.size (sym c.is_in_range.ensures ∙ c.if-not-is_in_range.false); in_bounds = c.if-buffer-lt16384.false }

pub returns : goal.returns
returns c =
    let a = c.args in
    let p = promised a.seed a.size a.buffer.now _ _ c.spell.ensures.value c.spell.ensures.buffer_after in
    record { answer = p.0; bytes = p.1.0; told = p.1.1 }
