use Rattle.std.proofs.Common.{sym}
use Rattle.brick_store.proofs.BoxWriting.{place_is}
use Rattle.brick_store.proofs.boxes.place_in.Goals as goal

pub returns-clause-value : goal.returns-clause-value
returns-clause-value c =
    sym (place_is c.args.sizes.now c.args.area.now _ _ c.args.p.x c.args.p.y c.args.p.z c.low-low.ensures.value c.high-high.ensures.value
    c.requires.point.x c.requires.point.y c.requires.point.z)
