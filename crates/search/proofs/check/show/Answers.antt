-- `show`: the machine of the bytes written is the mutant's.
use Rattle.lists.specs.Proving.{◌∙◌}
use Rattle.search.proofs.CheckLaw.{choice-bytes, front_length, machine-ok, distinguish-asks, written}
use Rattle.search.proofs.check.show.Goals as goal

pub write_choices-requires : goal.write_choices-requires
write_choices-requires c =
    let en = c.from-n.ensures ∙ c.slots.ensures in
    let b = choice-bytes c.requires.0.1 en in (b.0, b.1, rw en c.requires.1.choices, b.2)

pub slice_bounds-machine_of-end-2 : goal.slice_bounds-machine_of-end-2
slice_bounds-machine_of-end-2 c = front_length c.requires.0.1 (c.from-n.ensures ∙ c.slots.ensures) _ c.write_choices.ensures

pub unwrap-machine-requires : goal.unwrap-machine-requires
unwrap-machine-requires c =
    let h = c.requires.0.1 in machine-ok h (c.from-n.ensures ∙ c.slots.ensures) _ c.write_choices.ensures _ (c.machine_of.ensures c.requires.0.0 h.tabled)

pub distinguish-requires : goal.distinguish-requires
distinguish-requires c =
    let h = c.requires.0.1 in
    let made = rw c.unwrap-machine.ensures at (c.machine_of.ensures c.requires.0.0 h.tabled) in
    let a = distinguish-asks h (c.from-n.ensures ∙ c.slots.ensures) _ c.write_choices.ensures made in record { valid = a.0; start_bound = a.1; block_in_bounds = c.requires.1.inputs }

pub returns : goal.returns
returns c =
    λ sh h.
    let made = rw c.unwrap-machine.ensures at (c.machine_of.ensures sh h.tabled) in
    written h (c.from-n.ensures ∙ c.slots.ensures) _ c.write_choices.ensures made _ c.distinguish.ensures.value c.distinguish.ensures.buf_after
