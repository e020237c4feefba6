use Rattle.std.proofs.Common.{ap, arith}
use Rattle.iso_base.specs.declared.point.Point.{Point}
use Rattle.brick_store.proofs.BoxWriting.{is_part}
use Rattle.brick_store.proofs.boxes.part_in.Goals as goal

pub returns : goal.returns
returns c =
    let low = c.low-low.ensures.value in
    let high = c.high-high.ensures.value in
    let first = c.first_point-first.ensures in
    is_part c.args.sizes.now c.args.area.now c.args.brick.0 _ c.low-low.ensures.area
    (omega (arith, c.offsets-x.ensures.first, ap (λ (p : Point). p.x) low, first.x))
    (omega (arith, c.offsets-x.ensures.end, ap (λ (p : Point). p.x) high, first.x))
    (omega (arith, c.offsets-y.ensures.first, ap (λ (p : Point). p.y) low, first.y))
    (omega (arith, c.offsets-y.ensures.end, ap (λ (p : Point). p.y) high, first.y))
    (omega (arith, c.offsets-z.ensures.first, ap (λ (p : Point). p.z) low, first.z))
    (omega (arith, c.offsets-z.ensures.end, ap (λ (p : Point). p.z) high, first.z))
    c.requires.x_from c.requires.x_to c.requires.y_from c.requires.y_to c.requires.z_from c.requires.z_to
