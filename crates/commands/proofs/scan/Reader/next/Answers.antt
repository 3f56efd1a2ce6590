use Rattle.std.proofs.Common.{sym, ◌∙◌}
use Rattle.commands.proofs.CommandLaw.{next-past, next-whole, next-barred, next-short, next-short-barred, next-unknown}
use Rattle.commands.proofs.scan.Reader.next.Goals.{in_default-via-in-Ok+else-may_stand, in_default-via-in-Err-Short+else-may_stand-2}
use Rattle.commands.proofs.scan.Reader.next.Goals as goal

pub returns-in-Ok : goal.returns-in-Ok
returns-in-Ok c =
    next-whole c.args.self.now.sheet.now _ _ _ (sym c.fetch.ensures ∙ c.in-Ok.is)
    (sym (rw c.byte.ensures at c.may_stand.ensures) ∙ c.if-may_stand.true)

pub returns-in-Err-Nothing : goal.returns-in-Err-Nothing
returns-in-Err-Nothing c =
    let i = c.in-Err-Nothing in
    rw c.new.ensures (next-past c.args.self.now.sheet.now _ _ (rw i.field-0-is at (sym c.fetch.ensures ∙ i.is)))

pub returns-in-Err-Unknown : goal.returns-in-Err-Unknown
returns-in-Err-Unknown c =
    let i = c.in-Err-Unknown in
    rw c.new-in-Err-Unknown.ensures (next-unknown c.args.self.now.sheet.now _ _ _ (rw i.field-0-is at (sym c.fetch.ensures ∙ i.is)))

pub returns-in-Err-Short : goal.returns-in-Err-Short
returns-in-Err-Short c =
    let i = c.in-Err-Short in
    rw c.new-in-Err-Short.ensures
    (next-short c.args.self.now.sheet.now _ _ i.byte (rw i.field-0-is at (sym c.fetch.ensures ∙ i.is)) (sym c.if-may_stand-2.ensures))

pub returns-in_default : goal.returns-in_default
returns-in_default c =
    let s = c.args.self.now.sheet.now in
    rw c.new-in_default.ensures
    (elim c.in_default.branch [
      | in_default-via-in-Ok+else-may_stand w ↦
          next-barred s _ _ w.in-Ok.command (sym c.fetch.ensures ∙ w.in-Ok.is) (sym (rw w.byte.ensures at w.may_stand.ensures) ∙ w.if-may_stand.false)
      | in_default-via-in-Err-Short+else-may_stand-2 w ↦
          next-short-barred s _ _ w.in-Err-Short.byte (rw w.in-Err-Short.field-0-is at (sym c.fetch.ensures ∙ w.in-Err-Short.is)) (sym w.if-may_stand-2.ensures)
    ])
