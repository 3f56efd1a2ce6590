-- `meet_from`: the states that s leads to by the inputs below x.
use Rattle.lists.specs.Proving.{arith}
use Rattle.numbering.proofs.SearchLaw.{read-there, from-none, from-room, from_more, from_all}
use Rattle.numbering.proofs.first_reached.Met.meet_from.Goals as goal

pub loop-x-init : goal.loop-x-init
loop-x-init c = λ sh met h l hm m. from-none sh _ met m

pub meet-requires : goal.meet-requires
meet-requires c = let p = c.requires in
    (_, c.loop-x.invariant p.0 p.1 p.2 p.3 p.4 p.5, from-room p.2 _ p.3 p.1 _ c.loop-x-test.true _ (read-there _ c.args.s c.loop-x.x (omega (arith, c.from.ensures, c.from-in-loop-x.ensures))) p.4)

pub loop-x-preserved : goal.loop-x-preserved
loop-x-preserved c =
    λ sh met h l hm m.
    let is = read-there _ c.args.s c.loop-x.x (omega (arith, c.from.ensures, c.from-in-loop-x.ensures)) in
    from_more h _ l met _ c.loop-x-test.true _ is (c.meet.ensures _ (c.loop-x.invariant sh met h l hm m) (from-room h _ l met _ c.loop-x-test.true _ is hm))

pub returns : goal.returns
returns c = λ sh met h l hm m. from_all sh _ met (omega arith) c.loop-x-test.false (c.loop-x.invariant sh met h l hm m)
