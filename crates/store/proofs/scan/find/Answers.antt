use Rattle.std.specs.Prelude.{◌<◌, length}
use Rattle.lists.specs.Proving.{rules}
use Rattle.store.proofs.StoreLaw.{handed}
use Rattle.store.proofs.scan.find.Goals as goal

pub returns : goal.returns
returns c = let le : c.in_ok-e.e < length c.args.store.now = search rules in handed _ _ _ _ le c.hand_out.ensures
