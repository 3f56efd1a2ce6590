-- `press_all`: press by press, until one is refused.
use Rattle.std.proofs.Common.{rules}
use Rattle.adding.proofs.PressLaw.{pressing-none, pressing-again, pressing-stops, pressing-all}
use Rattle.adding.proofs.press_all.Goals as goal

pub loop-i-init : goal.loop-i-init
loop-i-init c = pressing-none

pub press-requires : goal.press-requires
press-requires c = (c.requires, c.loop-i.invariant.digit)

pub returns-in_err-s : goal.returns-in_err-s
returns-in_err-s c = search (rules, pressing-stops c.loop-i.invariant c.loop-i-test.true c.press.ensures.value c.in_err-s.was)

pub loop-i-preserved : goal.loop-i-preserved
loop-i-preserved c = pressing-again c.loop-i.invariant c.loop-i-test.true c.press.ensures.value c.in_ok-s.was c.in_ok-s.ensures.state

pub returns : goal.returns
returns c = pressing-all c.loop-i.invariant c.loop-i-test.false
