use Rattle.std.proofs.Common.{◌≡◌, ◌+◌, arith, Err, ap, refl}
use Rattle.commands.specs.words.Fetch.{byte_of}
use Rattle.commands.specs.laws.FetchLaw.{wide}
use Rattle.commands.proofs.CommandLaw.{step_end, step-go, step-refused, stands-allowed, stands-all, not-end, numbered}
use Rattle.commands.proofs.ScanLaw.{gathered, going_start, going_on, going_refused, going_end}
use Rattle.commands.proofs.scan.scan.Goals as goal

pub loop-command-init : goal.loop-command-init
loop-command-init c = (refl, going_start c.args.sheet.now _ c.requires)

pub returns-in_err-command : goal.returns-in_err-command
returns-in_err-command c =
    let i = c.loop-command.invariant in
    let g = i.1 in
    let same : c.from_residual.result ≡ Err c.in_err-command.field-0.0 = grind arith in
    rw (← i.0, same) (going_refused c.loop-command.reader.sheet.now g _ _ (c.in_err-command.ensures g.progress g.holds.phase))

pub finish-requires : goal.finish-requires
finish-requires c = (c.in_ok-command.ensures.here, c.loop-command.invariant.1.holds.bounds)

pub returns-in-End : goal.returns-in-End
returns-in-End c =
    let s = c.loop-command.reader.sheet.now in
    let i = c.loop-command.invariant in
    let g = i.1 in
    rw (← i.0) (going_end s g _ (step_end g.progress s _ g.holds.phase c.in_ok-command.ensures (ap byte_of c.in-End.is)) (c.finish.ensures g.progress.sheet (gathered g.holds)))

pub apply-requires : goal.apply-requires
apply-requires c = let g = c.loop-command.invariant.1 in (g.progress, g.holds)

pub returns-in-Err : goal.returns-in-Err
returns-in-Err c =
    let s = c.loop-command.reader.sheet.now in
    let i = c.loop-command.invariant in
    let g = i.1 in
    let w = c.in_ok-command.ensures in
    let other = not-end _ c.in_default.not-End in
    let broken = c.in-Err.ensures g.progress (stands-allowed g.progress s _ g.holds.phase w) other g.holds in
    rw (← i.0, c.new.ensures, c.number.ensures) (going_refused s g _ _ (step-refused g.progress s _ g.holds.phase w other _ broken (numbered c.in-Err.why)))

pub loop-command-preserved : goal.loop-command-preserved
loop-command-preserved c =
    let s = c.loop-command.reader.sheet.now in
    let i = c.loop-command.invariant in
    let g = i.1 in
    let w = c.in_ok-command.ensures in
    let other = not-end _ c.in_default.not-End in
    let taken = c.in_default-apply.ensures g.progress (stands-allowed g.progress s _ g.holds.phase w) other g.holds in (
      i.0,
      rw c.width.ensures
          (going_on s g _ _ (c.loop-command.reader.at + _) (omega (arith, wide (byte_of c.in_ok-command.command))) (stands-all g.progress s _ g.holds.phase w)
          (step-go g.progress s _ g.holds.phase w other taken.0) taken.1),
    )
