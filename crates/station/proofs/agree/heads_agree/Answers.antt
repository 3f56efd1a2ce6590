use mathlib.Core.Path.{sym}
use lib.Seq.{length-take-le}
use Rattle.station.proofs.PartsLaw.{same-by, head_in}
use Rattle.station.proofs.ReadLaw.{is-told}
use Rattle.station.proofs.agree.heads_agree.Goals as goal

pub slice_bounds-eq-end : goal.slice_bounds-eq-end
slice_bounds-eq-end c = let (sh, e) = is-told c.args.sheet.now c.requires.old_told in sym (length-take-le _ _ (head_in c.args.sheet.now e (c.layout_of-h.ensures sh e)).inside)

pub slice_bounds-eq-end-2 : goal.slice_bounds-eq-end-2
slice_bounds-eq-end-2 c = let (sh, e) = is-told c.args.changed.now c.requires.new_told in sym (length-take-le _ _ (head_in c.args.changed.now e (c.layout_of-k.ensures sh e)).inside)

pub returns : goal.returns
returns c = λ a b ea eb. same-by c.eq.ensures (head_in c.args.sheet.now ea (c.layout_of-h.ensures a ea)).bytes (head_in c.args.changed.now eb (c.layout_of-k.ensures b eb)).bytes
