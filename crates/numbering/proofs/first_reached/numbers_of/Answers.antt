-- `numbers_of`: the search has looked at the first i states.
use Rattle.lists.specs.Proving.{arith}
use Rattle.numbering.proofs.SearchLaw.{look-more, looked-none, looked-all}
use Rattle.numbering.proofs.first_reached.numbers_of.Goals as goal

pub loop-i-init : goal.loop-i-init
loop-i-init c = λ sh h. looked-none sh

pub look-requires : goal.look-requires
look-requires c = let p = c.requires in
    (p.0, p.1, c.loop-i.invariant p.0 p.1)

pub loop-i-preserved : goal.loop-i-preserved
loop-i-preserved c = λ sh h. look-more h c.loop-i.i (c.look.ensures sh h (c.loop-i.invariant sh h))

pub returns : goal.returns
returns c = let p = c.requires in record { result_len = (c.loop-i.invariant p.0 p.1).numbered; t_value = λ sh h e. looked-all h c.loop-i.i (omega (arith, c.loop-i-test.false, e)) (c.loop-i.invariant sh h) }
