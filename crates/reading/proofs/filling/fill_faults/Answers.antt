use Rattle.std.proofs.Common.{◌≡◌, ◌<◌, ◌∙◌, ap, length, get_or, arith}
use Rattle.sheet.specs.declared.Tables.{Tables}
use Rattle.sheet.specs.Tables.{no_row}
use Rattle.reading.proofs.FillLaw as laws
use Rattle.reading.proofs.filling.fill_faults.Goals as goal
use Rattle.reading.proofs.filling.fill_faults.Goals.{in-Some, in_default}

pub overflow_add-place : goal.overflow_add-place
overflow_add-place c = let room = laws.fault-room c.requires.0.1 c.loop-i.i (omega (arith, c.requires.0.2)) in omega arith

pub note_fault-requires : goal.note_fault-requires
note_fault-requires c =
    let l = c.requires.0.0 in
    let from = c.requires.0.1 in
    let i = c.loop-i.i in
    let h : i < length l = omega (arith, c.requires.0.2) in
    let there = c.fault_at.ensures _ (laws.fault-there from i h) in
    let same : c.in-Some.row ≡ get_or l i no_row = cc in
    (laws.row-digits from i h _ same, omega (arith, from.few), (_, laws.taken-length from i h, c.loop-i.invariant.noted l from c.requires.0.2 c.requires.1))

pub loop-i-preserved : goal.loop-i-preserved
loop-i-preserved c = record {
  noted = λ l from e none.
      let i = c.loop-i.i in
      let h : i < length l = omega arith in
      let there = c.fault_at.ensures _ (laws.fault-there from i h) in
      elim c.match-fault_at.branch [
        | in-Some w ↦
            let same : w.in-Some.row ≡ get_or l i no_row = cc in
            rw w.tables-is (laws.noted-next from i h _ _ same (w.note_fault.ensures.noted _ (laws.taken-length from i h) (c.loop-i.invariant.noted l from e none)))
        | in_default w ↦ (let empty = w.in_default.is in cc)
      ];
  others =
      elim c.match-fault_at.branch [
        | in-Some w ↦
            let t = w.note_fault.new.tables in
            rw w.tables-is (w.note_fault.ensures.others ∙ ap (λ (x : Tables). record x { choices = t.choices; first = t.first; mutated = t.mutated; diverted = t.diverted }) c.loop-i.invariant.others)
        | in_default w ↦ rw w.tables-is c.loop-i.invariant.others
      ];
}
