use Rattle.lists.specs.Proving.{arith, refl}
use Rattle.leaves.specs.laws.NotedLaw.{changed-set, changed-more}
use Rattle.leaves.proofs.NotesLaw.{counted, carried}
use Rattle.leaves.proofs.notes.count_node.Goals as goal

pub returns-then-n-lt65535 : goal.returns-then-n-lt65535
returns-then-n-lt65535 c =
    let notes = c.args.notes.now in
    (changed-set 0 _ (omega arith) (omega arith) refl, λ l. counted notes l (omega arith) (omega (arith, c.slice_known-2-1.given 1)))

pub returns : goal.returns
returns c =
    let notes = c.args.notes.now in
    let less = c.slice_known-2-1.given in
    let count = carried notes c.wrapping_add_u16.result in
    (changed-more (changed-set 0 0 (omega arith) (omega arith) refl) (changed-set 1 _ (omega arith) (omega arith) refl), λ l. count l (omega arith) (omega (arith, less 0)) c.wrapping_add_u16.ensures.value (omega (arith, less 1)))
