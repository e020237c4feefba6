use Rattle.std.proofs.Common.{◌≡◌, ◌+◌, ap, subst, arith}
use Rattle.iso_base.specs.declared.point.Point.{Point}
use Rattle.brick_store.specs.Copies.{first_brick_along}
use Rattle.brick_store.specs.Rows.{reach_end}
use Rattle.brick_store.specs.Boxes.{AreBoxWritten}
use Rattle.brick_store.proofs.BoxWriting.{no_zone, zones_at}
use Rattle.brick_store.proofs.RowWriting.{joined_x}
use Rattle.brick_store.proofs.boxes.write_line.Goals as goal

pub loop-x-init : goal.loop-x-init
loop-x-init g c = no_zone c.args.sizes.now c.args.area.now c.args.values _ (g.C.PackedList.list c.args.copies.now) (λ b s. absurd (omega (arith, s.x_from, s.x_to, c.first_brick_along-first.ensures, ap (λ (p : Point). p.x) c.low.ensures.value)))

pub loop-x-preserved : goal.loop-x-preserved
loop-x-preserved g c =
    zones_at c.args.sizes.now c.args.area.now c.args.values _ _ _ (g.C.PackedList.list c.args.copies.now) (g.C.PackedList.list c.loop-x.copies) _
    (joined_x c.args.sizes.now (first_brick_along c.args.area.now.low.x) 0 c.args.y (c.args.y + 1) c.args.z (c.args.z + 1) c.loop-x.x (omega (arith, c.first_brick_along-first.ensures, ap (λ (p : Point). p.x) c.low.ensures.value, c.loop-x.auto.x)))
    c.loop-x.invariant c.write_brick.ensures

pub returns : goal.returns
returns g c =
    let grid = c.args.sizes.now in
    let a = c.args.area.now in
    let all : c.loop-x.x ≡ reach_end grid.nx (a.high.x + 1)
    = omega (arith, c.first_brick_along-first.ensures, ap (λ (p : Point). p.x) c.low.ensures.value, c.low.ensures.area.x, c.requires.high.x, c.brick_end-end.ensures, ap (λ (p : Point). p.x) c.high.ensures.value, c.nx.ensures.value, c.loop-x.auto.x-end, c.loop-x-test.false) in
    subst (λ x. AreBoxWritten grid a c.args.values (record {
      x = first_brick_along a.low.x;
      x_end = x;
      y = c.args.y;
      y_end = c.args.y + 1;
      z = c.args.z;
      z_end = c.args.z + 1;
    }) (g.C.PackedList.list c.args.copies.now) (g.C.PackedList.list c.loop-x.copies)) all c.loop-x.invariant
