use Rattle.std.proofs.Common.{◌≡◌, ◌+◌, ap, subst, arith}
use Rattle.iso_base.specs.declared.point.Point.{Point}
use Rattle.brick_store.specs.Copies.{first_brick_along}
use Rattle.brick_store.specs.Rows.{reach_end}
use Rattle.brick_store.specs.Boxes.{AreBoxWritten, box_zone}
use Rattle.brick_store.proofs.BoxWriting.{box_stands, no_zone, zones_at}
use Rattle.brick_store.proofs.RowWriting.{joined_z}
use Rattle.brick_store.proofs.boxes.write_box.Goals as goal

pub loop-z-init : goal.loop-z-init
loop-z-init g c = no_zone c.args.sizes.now c.args.area.now c.args.values _ (g.C.PackedList.list c.args.copies.now) (λ b s. absurd (omega (arith, s.z_from, s.z_to, c.first_brick_along-first.ensures, ap (λ (p : Point). p.z) c.low.ensures.value)))

pub loop-z-preserved : goal.loop-z-preserved
loop-z-preserved g c =
    let grid = c.args.sizes.now in
    let a = c.args.area.now in
    zones_at grid a c.args.values _ _ _ (g.C.PackedList.list c.args.copies.now) (g.C.PackedList.list c.loop-z.copies) _
    (joined_z grid (first_brick_along a.low.x) (reach_end grid.nx (a.high.x + 1)) (first_brick_along a.low.y) (reach_end grid.ny (a.high.y + 1)) (first_brick_along a.low.z) 0 c.loop-z.z
    (omega (arith, c.first_brick_along-first.ensures, ap (λ (p : Point). p.z) c.low.ensures.value, c.loop-z.auto.z)))
    c.loop-z.invariant c.write_slice.ensures

pub returns-clause-copies : goal.returns-clause-copies
returns-clause-copies g c =
    let grid = c.args.sizes.now in
    let a = c.args.area.now in
    let all : c.loop-z.z ≡ reach_end grid.nz (a.high.z + 1) = omega (arith, c.first_brick_along-first.ensures, ap (λ (p : Point). p.z) c.low.ensures.value, c.low.ensures.area.z, c.requires.high.z, c.brick_end-end.ensures, ap (λ (p : Point). p.z) c.high.ensures.value, c.nz.ensures.value, c.loop-z.auto.z-end, c.loop-z-test.false) in
    let is : AreBoxWritten grid a c.args.values (box_zone grid a) (g.C.PackedList.list c.args.copies.now) (g.C.PackedList.list c.loop-z.copies)
    = subst (λ z. AreBoxWritten grid a c.args.values (record {
      x = first_brick_along a.low.x;
      x_end = reach_end grid.nx (a.high.x + 1);
      y = first_brick_along a.low.y;
      y_end = reach_end grid.ny (a.high.y + 1);
      z = first_brick_along a.low.z;
      z_end = z;
    }) (g.C.PackedList.list c.args.copies.now) (g.C.PackedList.list c.loop-z.copies)) all c.loop-z.invariant in
    (box_stands grid a c.args.values (g.C.PackedList.list c.args.copies.now) (g.C.PackedList.list c.loop-z.copies) c.nz.ensures.grid (record { area = c.low.ensures.area; high = c.requires.high }) c.requires.copies is).0

pub returns-clause-samples : goal.returns-clause-samples
returns-clause-samples g c =
    let grid = c.args.sizes.now in
    let a = c.args.area.now in
    let all : c.loop-z.z ≡ reach_end grid.nz (a.high.z + 1) = omega (arith, c.first_brick_along-first.ensures, ap (λ (p : Point). p.z) c.low.ensures.value, c.low.ensures.area.z, c.requires.high.z, c.brick_end-end.ensures, ap (λ (p : Point). p.z) c.high.ensures.value, c.nz.ensures.value, c.loop-z.auto.z-end, c.loop-z-test.false) in
    let is : AreBoxWritten grid a c.args.values (box_zone grid a) (g.C.PackedList.list c.args.copies.now) (g.C.PackedList.list c.loop-z.copies)
    = subst (λ z. AreBoxWritten grid a c.args.values (record {
      x = first_brick_along a.low.x;
      x_end = reach_end grid.nx (a.high.x + 1);
      y = first_brick_along a.low.y;
      y_end = reach_end grid.ny (a.high.y + 1);
      z = first_brick_along a.low.z;
      z_end = z;
    }) (g.C.PackedList.list c.args.copies.now) (g.C.PackedList.list c.loop-z.copies)) all c.loop-z.invariant in
    (box_stands grid a c.args.values (g.C.PackedList.list c.args.copies.now) (g.C.PackedList.list c.loop-z.copies) c.nz.ensures.grid (record { area = c.low.ensures.area; high = c.requires.high }) c.requires.copies is).1
