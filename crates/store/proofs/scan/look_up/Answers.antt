use Rattle.store.proofs.StoreLaw.{handed}
use Rattle.store.proofs.scan.look_up.Goals as goal

pub returns : goal.returns
returns c = handed _ _ _ _ c.if-e-store.false c.hand_out.ensures
