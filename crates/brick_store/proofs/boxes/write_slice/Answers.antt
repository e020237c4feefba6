use Rattle.std.proofs.Common.{◌≡◌, ◌+◌, ap, subst, arith}
use Rattle.iso_base.specs.declared.point.Point.{Point}
use Rattle.brick_store.specs.Copies.{first_brick_along}
use Rattle.brick_store.specs.Rows.{reach_end}
use Rattle.brick_store.specs.Boxes.{AreBoxWritten}
use Rattle.brick_store.proofs.BoxWriting.{no_zone, zones_at}
use Rattle.brick_store.proofs.RowWriting.{joined_y}
use Rattle.brick_store.proofs.boxes.write_slice.Goals as goal

pub loop-y-init : goal.loop-y-init
loop-y-init g c = no_zone c.args.sizes.now c.args.area.now c.args.values _ (g.C.PackedList.list c.args.copies.now) (λ b s. absurd (omega (arith, s.y_from, s.y_to, c.first_brick_along-first.ensures, ap (λ (p : Point). p.y) c.low.ensures.value)))

pub loop-y-preserved : goal.loop-y-preserved
loop-y-preserved g c =
    let grid = c.args.sizes.now in
    let a = c.args.area.now in
    zones_at grid a c.args.values _ _ _ (g.C.PackedList.list c.args.copies.now) (g.C.PackedList.list c.loop-y.copies) _
    (joined_y grid (first_brick_along a.low.x) (reach_end grid.nx (a.high.x + 1)) (first_brick_along a.low.y) 0 c.args.z (c.args.z + 1) c.loop-y.y (omega (arith, c.first_brick_along-first.ensures, ap (λ (p : Point). p.y) c.low.ensures.value, c.loop-y.auto.y)))
    c.loop-y.invariant c.write_line.ensures

pub returns : goal.returns
returns g c =
    let grid = c.args.sizes.now in
    let a = c.args.area.now in
    let all : c.loop-y.y ≡ reach_end grid.ny (a.high.y + 1)
    = omega (arith, c.first_brick_along-first.ensures, ap (λ (p : Point). p.y) c.low.ensures.value, c.low.ensures.area.y, c.requires.high.y, c.brick_end-end.ensures, ap (λ (p : Point). p.y) c.high.ensures.value, c.ny.ensures.value, c.loop-y.auto.y-end, c.loop-y-test.false) in
    subst (λ y. AreBoxWritten grid a c.args.values (record {
      x = first_brick_along a.low.x;
      x_end = reach_end grid.nx (a.high.x + 1);
      y = first_brick_along a.low.y;
      y_end = y;
      z = c.args.z;
      z_end = c.args.z + 1;
    }) (g.C.PackedList.list c.args.copies.now) (g.C.PackedList.list c.loop-y.copies)) all c.loop-y.invariant
