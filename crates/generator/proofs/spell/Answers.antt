-- `spell`: the tables of the draft, written.
use Rattle.std.proofs.Common.{List, ℕ, length, ap, ◌∙◌}
use Rattle.lists.specs.Lists.{overlay}
use Rattle.sheet.specs.Reading.{Result}
use Rattle.writing.specs.Writing.{written_answer, sheet_writes}
use Rattle.generator.proofs.GenerateLaw.{written-tables}
use Rattle.generator.proofs.spell.Goals as goal

pub returns : goal.returns
returns c =
    let a = c.args in
    let e = written-tables a.seed a.size (length a.buffer.now) c.requires.size_in c.requires.in_bounds c.put_pairs-faulted.ensures c.pairs_of-ruled.result c.pairs_of-ruled.ensures in
    record {
      value = c.write.ensures.answer ∙ ap written_answer e;
      buffer_after = c.write.ensures.bytes ∙ ap (λ (x : Result (List ℕ)). overlay (sheet_writes x) a.buffer.now) e;
    }
