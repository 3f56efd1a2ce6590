use Rattle.std.proofs.Common.{◌≡◌, true, false, get_or, arith}
use Rattle.lists.specs.laws.TestLaw.{never}
use Rattle.ending.proofs.EndLaw as laws
use Rattle.ending.proofs.round.Goals as goal
use Rattle.ending.proofs.round.Goals.{then-seen-s+then-not-done-s, else-seen-s, else-seen-s-via-then-seen-s+else-not-done-s, else-seen-s-via-else-seen-s}

pub loop-s-init : goal.loop-s-init
loop-s-init c = λ rules f g h d m q. laws.round-none c.args.size rules g m

pub loop-s-preserved : goal.loop-s-preserved
loop-s-preserved c =
    let a = c.args in
    elim c.if-seen-s.branch [
      | then-seen-s+then-not-done-s w ↦
          λ rules f g h d m q.
          rw w.next-is (laws.round-new a.size rules g d m _ (omega (arith, c.requires)) w.if-seen-s.true (w.spread.ensures rules _ h (c.loop-s.invariant rules f g h d m q)))
      | else-seen-s w ↦
          let done : get_or a.seen.now c.loop-s.s false ≡ true → get_or a.done.now c.loop-s.s false ≡ true =
          elim w.else-seen-s.branch [
            | else-seen-s-via-then-seen-s+else-not-done-s v ↦ λ e. v.if-not-done-s.false
            | else-seen-s-via-else-seen-s v ↦ λ e. never (cc (v.if-seen-s.false))
          ] in
          λ rules f g h d m q. rw w.next-is (laws.round-known a.size rules g d m _ (omega (arith, c.requires)) q (omega arith) done (c.loop-s.invariant rules f g h d m q))
    ]

pub returns : goal.returns
returns c = λ rules f g h d m q. let e : c.loop-s.s ≡ c.args.size.states = omega arith in rw (← e) (c.loop-s.invariant rules f g h d m q)
