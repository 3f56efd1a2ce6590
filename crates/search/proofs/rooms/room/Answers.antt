-- `room`: of the mutant, then of the sequence.
use Rattle.std.specs.Prelude.{◌*◌, ◌≡◌}
use Rattle.lists.specs.Proving.{arith, refl, sym, ◌∙◌}
use Rattle.search.specs.laws.RoomLaw.{room-there, no-board, no-sequence}
use Rattle.search.proofs.rooms.room.Goals as goal

pub returns-then-board-from : goal.returns-then-board-from
returns-then-board-from c = λ sh tb. rw c.new.ensures (sym (no-board sh _ _ (omega (arith, c.if-board-from.true, c.from.ensures, c.slots.ensures, tb.count))))

pub returns-then-sequence-from : goal.returns-then-sequence-from
returns-then-sequence-from c = λ sh tb.
    let n = c.from-2.ensures ∙ c.states.ensures ∙ tb.states in
    let square : c.from-3.result ≡ sh.size.states * sh.size.states = c.from-3.ensures ∙ c.bound.ensures ∙ rw n refl in
    rw c.new-then-sequence-from.ensures (sym (no-sequence sh _ _ (omega (arith, c.if-board-from.false, c.from.ensures, c.slots.ensures, tb.count)) (rw square at c.if-sequence-from.true)))

pub returns : goal.returns
returns c = λ sh tb.
    let n = c.from-2.ensures ∙ c.states.ensures ∙ tb.states in
    let square : c.from-3.result ≡ sh.size.states * sh.size.states = c.from-3.ensures ∙ c.bound.ensures ∙ rw n refl in
    sym (room-there sh _ _ (omega (arith, c.if-board-from.false, c.from.ensures, c.slots.ensures, tb.count)) (rw square at c.if-sequence-from.false))
