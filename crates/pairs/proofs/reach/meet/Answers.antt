use Rattle.pairs.proofs.MeetingLaw.{meets-free, meets-none}
use Rattle.pairs.proofs.reach.meet.Goals as goal

pub returns-then-is_some : goal.returns-then-is_some
returns-then-is_some c = meets-free _ c.exact.ensures.0 c.exact.ensures.1 c.unsettled-waking.ensures

pub returns-in-Ok : goal.returns-in-Ok
returns-in-Ok c = meets-free _ c.exact.ensures.0 c.exact.ensures.1 c.in-Ok.ensures

pub returns-in-Err : goal.returns-in-Err
returns-in-Err c = meets-none c.keep.ensures
