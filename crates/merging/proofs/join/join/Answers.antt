-- `join`: another machine, or the united parts within the limits.
use Rattle.lists.specs.Proving.{arith, refl, sym, ◌∙◌, ap, length}
use Rattle.renaming.specs.Merging.{merged}
use Rattle.merging.proofs.PartsLaw.{fault-part, fault-room, start-part, start-room, head-short, tests-short}
use Rattle.merging.proofs.JoinLaw.{join-short, other-heads, same-heads, join-other, join-same, join-within, pieces, take-fewer}
use Rattle.merging.proofs.join.join.Goals as goal

pub returns-then-buffer-lt16384 : goal.returns-then-buffer-lt16384
returns-then-buffer-lt16384 c = λ x y p q e. join-short x y c.new.ensures c.if-buffer-lt16384.true

pub returns-then-ne : goal.returns-then-ne
returns-then-ne c = λ x y p q e. join-other x y _ c.if-buffer-lt16384.false c.new-then-ne.ensures (other-heads x y c.ne.ensures (c.head.ensures x p) (c.head-2.ensures y q) c.if-ne.true)

pub unite-f-requires : goal.unite-f-requires
unite-f-requires c = let p = c.requires.1.2 in
    let q = c.requires.1.3 in
    let ep = c.faults.ensures _ p in
    let eq = c.faults-2.ensures _ q in
    ((_, _, fault-part p ep, fault-part q eq), omega (arith, fault-room p, fault-room q, ap length ep, ap length eq))

pub unite-t-requires : goal.unite-t-requires
unite-t-requires c = let p = c.requires.1.2 in
    let q = c.requires.1.3 in
    let ep = c.starts.ensures _ p in
    let eq = c.starts-2.ensures _ q in
    ((_, _, start-part p ep, start-part q eq), omega (arith, start-room p, start-room q, ap length ep, ap length eq))

pub close-requires : goal.close-requires
close-requires c = let p = c.requires.1.2 in
    let q = c.requires.1.3 in (
      c.if-buffer-lt16384.false,
      c.requires.0,
      record {
        head-short = omega (arith, ap length (c.head-3.ensures _ p), head-short p);
        faults-short = omega (arith, take-fewer c.unite-f.result c.unite-f.new.to, c.unite-f.ensures.inside);
        starts-short = omega (arith, take-fewer c.unite-t.result c.unite-t.new.to, c.unite-t.ensures.inside);
        tests-short = omega (arith, ap length (c.tests.ensures _ p), tests-short p);
        more-short = omega (arith, ap length (c.tests-2.ensures _ q), tests-short q);
      },
    )

pub returns : goal.returns
returns c = λ x y p q e.
    let same = same-heads x y c.ne.ensures (c.head.ensures x p) (c.head-2.ensures y q) c.if-ne.false in
    let faults = c.unite-f.ensures.spelled _ _ (fault-part p (c.faults.ensures x p)) (fault-part q (c.faults-2.ensures y q)) in
    let starts = c.unite-t.ensures.spelled _ _ (start-part p (c.starts.ensures x p)) (start-part q (c.starts-2.ensures y q)) in
    join-within x y _ c.if-buffer-lt16384.false same
    (c.close.ensures (merged x y) (pieces x y (c.head-3.ensures x p) refl refl (c.tests.ensures x p) (c.tests-2.ensures y q) faults starts (omega (arith, p.many, q.many)) (e (join-same x y same))))
