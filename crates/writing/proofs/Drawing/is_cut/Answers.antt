-- `is_cut`: the tables one after another.
use Rattle.std.proofs.Common.{length, ◌%◌, sym, ◌∙◌}
use borrow.Author.Tests.{eq-eqb, ne_eqb}
use Rattle.writing.specs.Drawing.{is_cut}
use Rattle.writing.proofs.RestLaw.{odd-cut, even-cut}
use Rattle.writing.proofs.Drawing.is_cut.Goals as goal
use Rattle.writing.proofs.Drawing.is_cut.Goals.{then-self-ne0, else-self-ne0}

pub returns-then-self-ne0-2 : goal.returns-then-self-ne0-2
unfolding is_cut
returns-then-self-ne0-2 c =
    elim c.if-self-ne0.branch [
      | then-self-ne0 w ↦ rw (c.if-self-ne0-2.true, ne_eqb (length c.args.self.now.rules.now % 4) 0 w.if-self-ne0.true)
      | else-self-ne0 w ↦ rw (eq-eqb (length c.args.self.now.rules.now % 4) 0 w.if-self-ne0.false) (c.if-self-ne0-2.true ∙ odd-cut _ _ (sym w.value-is ∙ c.if-self-ne0-2.true))
    ]

pub returns-else-self-ne0-2 : goal.returns-else-self-ne0-2
unfolding is_cut
returns-else-self-ne0-2 c =
    elim c.if-self-ne0.branch [
      | then-self-ne0 w ↦ (let v = rw (ne_eqb (length c.args.self.now.rules.now % 4) 0 w.if-self-ne0.true) at w.value-is in cc)
      | else-self-ne0 w ↦ rw (eq-eqb (length c.args.self.now.rules.now % 4) 0 w.if-self-ne0.false, c.adds_up.ensures) (even-cut _ _ (sym w.value-is ∙ c.if-self-ne0-2.false))
    ]
