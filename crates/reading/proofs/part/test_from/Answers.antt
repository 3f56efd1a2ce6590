use Rattle.std.proofs.Common.{◌≡◌, arith}
use Rattle.reading.proofs.PlaceLaw as laws
use Rattle.reading.proofs.part.test_from.Goals as goal

pub loop-j-init : goal.loop-j-init
loop-j-init c = λ l e h. laws.place-start _ _ l e

pub test_at-span-requires : goal.test_at-span-requires
test_at-span-requires c = laws.place-room _ _ _ _ _ (c.loop-j.invariant c.requires.0 c.requires.1 c.requires.2)

pub loop-j-preserved : goal.loop-j-preserved
loop-j-preserved c = λ l e h. laws.place-next c.args.sheet.now c.args.place l c.loop-j.j c.loop-j.at (omega arith) (c.loop-j.invariant l e h) _ c.test_at-span.ensures

pub test_at-requires : goal.test_at-requires
test_at-requires c = laws.place-room _ _ _ _ _ (c.loop-j.invariant c.requires.0 c.requires.1 c.requires.2)

pub returns : goal.returns
returns c =
    let last : c.loop-j.j ≡ c.args.i = omega arith in
    λ l e h. laws.place_found c.args.sheet.now c.args.place l c.args.i c.loop-j.at h (rw last at (c.loop-j.invariant l e h)) _ c.test_at.ensures
