use Rattle.std.proofs.Common.{◌≡◌, ◌+◌, List, length, arith, subst, ℤ}
use Rattle.brick_store.specs.Copies.{first_brick_along}
use Rattle.brick_store.specs.Rows.{AreRowWritten, reach_end, row_zone}
use Rattle.brick_store.proofs.RowWriting.{both_written, joined_z, row_reaches, row_stands}
use Rattle.brick_store.proofs.rows.write_row.Goals as goal

pub loop-z-preserved : goal.loop-z-preserved
loop-z-preserved g c =
    let grid = c.args.sizes.now in
    let p = c.args.p in
    both_written grid p c.args.values.now _ _ _ (g.C.PackedList.list c.args.copies.now) (g.C.PackedList.list c.loop-z.copies) _
    (joined_z grid (first_brick_along p.x) (reach_end grid.nx (p.x + length c.args.values.now)) (first_brick_along p.y) (reach_end grid.ny (p.y + 1)) (first_brick_along p.z) 0 c.loop-z.z
    (omega (arith, c.bricks_at-first.ensures.first, c.loop-z.auto.z)))
    c.loop-z.invariant c.write_slice.ensures

pub returns-clause-copies : goal.returns-clause-copies
returns-clause-copies g c =
    let grid = c.args.sizes.now in
    let p = c.args.p in
    let values : List ℤ = c.args.values.now in
    let all : c.loop-z.z ≡ reach_end grid.nz (p.z + 1) = omega (arith, c.bricks_at-first.ensures, c.nz.ensures.value, c.loop-z.auto.z-end, c.loop-z-test.false) in
    let is : AreRowWritten grid p values (row_zone grid p (length values)) (g.C.PackedList.list c.args.copies.now) (g.C.PackedList.list c.loop-z.copies)
    = subst (λ z. AreRowWritten grid p values (record {
      x = first_brick_along p.x;
      x_end = reach_end grid.nx (p.x + length values);
      y = first_brick_along p.y;
      y_end = reach_end grid.ny (p.y + 1);
      z = first_brick_along p.z;
      z_end = z;
    }) (g.C.PackedList.list c.args.copies.now) (g.C.PackedList.list c.loop-z.copies)) all c.loop-z.invariant in
    (row_stands grid p values (row_zone grid p (length values)) (g.C.PackedList.list c.args.copies.now) (g.C.PackedList.list c.loop-z.copies) c.nz.ensures.grid c.requires.point c.requires.inside c.requires.copies
    (λ b x y z o row. row_reaches grid p (length values) b x y z c.nz.ensures.grid c.requires.point c.requires.inside o row) is).0

pub returns-clause-samples : goal.returns-clause-samples
returns-clause-samples g c =
    let grid = c.args.sizes.now in
    let p = c.args.p in
    let values : List ℤ = c.args.values.now in
    let all : c.loop-z.z ≡ reach_end grid.nz (p.z + 1) = omega (arith, c.bricks_at-first.ensures, c.nz.ensures.value, c.loop-z.auto.z-end, c.loop-z-test.false) in
    let is : AreRowWritten grid p values (row_zone grid p (length values)) (g.C.PackedList.list c.args.copies.now) (g.C.PackedList.list c.loop-z.copies)
    = subst (λ z. AreRowWritten grid p values (record {
      x = first_brick_along p.x;
      x_end = reach_end grid.nx (p.x + length values);
      y = first_brick_along p.y;
      y_end = reach_end grid.ny (p.y + 1);
      z = first_brick_along p.z;
      z_end = z;
    }) (g.C.PackedList.list c.args.copies.now) (g.C.PackedList.list c.loop-z.copies)) all c.loop-z.invariant in
    (row_stands grid p values (row_zone grid p (length values)) (g.C.PackedList.list c.args.copies.now) (g.C.PackedList.list c.loop-z.copies) c.nz.ensures.grid c.requires.point c.requires.inside c.requires.copies
    (λ b x y z o row. row_reaches grid p (length values) b x y z c.nz.ensures.grid c.requires.point c.requires.inside o row) is).1
