-- `refute`: none of the mutants whose choice at the suspect is below c is sought.
use Rattle.lists.specs.Proving.{arith, refl, ◌∙◌, ap, ℕ, subst, not-false}
use lib.Seq.{set-set}
use Rattle.cubes.specs.Sets.{Has}
use Rattle.walks.proofs.SplitLaw.{tried-none, tried-more, tried-all, stands-child, none-parent, stands-as, none-as}
use Rattle.walks.proofs.refute.+refute.Goals as goal

pub returns-in_default : goal.returns-in_default
returns-in_default t c = c.told_of.ensures _ _ _ _ c.look-halt.ensures

pub loop-c-init : goal.loop-c-init
loop-c-init t c =
    let split = c.in_ok-end.ensures in
    record {
      split = split;
      few = omega (arith, split.count, c.requires.0.choices _ split.low);
      stands = rw c.in-Waits.is at c.look-halt.ensures;
      tried = tried-none;
      child = λ v. refl;
    }

pub refute-requires : goal.refute-requires
refute-requires t c =
    let inv = c.loop-c.invariant in
    (omega (arith, inv.split.some), (c.requires.0, rw c.from.ensures (stands-as (inv.child _) (stands-child _ _ _ inv.split.free inv.stands))))

pub returns-then-not-holds : goal.returns-then-not-holds
returns-then-not-holds t c =
    let inv = c.loop-c.invariant in
    none-parent _ _ c.loop-c.c (none-as (inv.child _) (rw c.from.ensures at c.in_ok-by.ensures))
    (λ h. c.holds.ensures.modulo.1 c.if-not-holds.true (subst (λ (n : ℕ). Has c.in_ok-by.by n) (omega (arith, inv.split.low)) h))

pub loop-c-preserved : goal.loop-c-preserved
loop-c-preserved t c =
    let inv = c.loop-c.invariant in
    record {
      split = inv.split;
      few = inv.few;
      stands = inv.stands;
      tried = tried-more inv.split.free inv.tried (none-as (inv.child _) (rw c.from.ensures at c.in_ok-by.ensures)) c.union-used.ensures;
      child = λ v. rw c.from.ensures (set-set c.loop-c.q _ c.loop-c.c v ∙ inv.child v);
    }

pub returns : goal.returns
returns t c = tried-all c.loop-c.invariant.tried c.loop-c.invariant.split c.loop-c-test.false
