use Rattle.std.proofs.Common.{◌*◌, map, ap, subst, sym, arith}
use Rattle.std.proofs.lemmas.List.{length-map}
use Rattle.flat_mesh.specs.Lattice.{Leveled}
use Rattle.brick_rows.specs.Runs.{IsRun}
use Rattle.brick_rows.proofs.Heights.{part_fits, part_is, run_of}
use Rattle.brick_rows.proofs.bricks_at_level.BricksAtLevel.full_run.Goals as goal

pub offset_bounds-copies-start : goal.offset_bounds-copies-start
offset_bounds-copies-start g c =
    let fits = part_fits c.args.self.now c.self.inside.store.now c.self.inside.level c.self.view_is c.sizes.ensures.volume c.args.x c.args.row.y c.args.row.z (omega (arith, c.requires.x))
    (omega (arith, c.requires.y)) (omega (arith, c.requires.z)) c.args.row.bricks c.requires.row.bricks c.args.by.up c.args.by.far c.requires.y c.requires.z c.requires.up c.requires.far
    (map g.T.Packed.value c.args.copies.now) c.requires.copies c.args.start 9
    c.requires.start (omega (arith, c.requires.x, ap (λ (f : Leveled). f.grid.nx) c.self.view_is)) in
    omega (arith, fits, length-map c.args.copies.now g.T.Packed.value)

pub slice_bounds-result-end : goal.slice_bounds-result-end
slice_bounds-result-end g c =
    let fits = part_fits c.args.self.now c.self.inside.store.now c.self.inside.level c.self.view_is c.sizes.ensures.volume c.args.x c.args.row.y c.args.row.z (omega (arith, c.requires.x))
    (omega (arith, c.requires.y)) (omega (arith, c.requires.z)) c.args.row.bricks c.requires.row.bricks c.args.by.up c.args.by.far c.requires.y c.requires.z c.requires.up c.requires.far
    (map g.T.Packed.value c.args.copies.now) c.requires.copies c.args.start 9
    c.requires.start (omega (arith, c.requires.x, ap (λ (f : Leveled). f.grid.nx) c.self.view_is)) in
    omega (arith, fits, length-map c.args.copies.now g.T.Packed.value)

pub returns : goal.returns
returns g c =
    let v = c.self.inside.store.now in
    subst (IsRun c.args.self.now (8 * c.args.x) _ _) (sym (part_is g.T.Packed.value c.args.copies.now _ _))
    (run_of c.args.self.now v c.self.inside.level c.self.view_is c.sizes.ensures.volume c.args.x c.args.row.y c.args.row.z (omega (arith, c.requires.x))
    (omega (arith, c.requires.y)) (omega (arith, c.requires.z)) c.args.row.bricks c.requires.row.bricks c.args.by.up c.args.by.far c.requires.y c.requires.z c.requires.up c.requires.far
    (map g.T.Packed.value c.args.copies.now) c.requires.copies c.args.start 9 c.requires.start (omega (arith, c.requires.x, ap (λ (f : Leveled). f.grid.nx) c.self.view_is)))
