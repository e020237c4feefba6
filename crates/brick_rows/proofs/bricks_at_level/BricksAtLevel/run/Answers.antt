use Rattle.std.proofs.Common.{◌+◌, ◌*◌, map, ap, subst, sym, arith}
use Rattle.std.proofs.lemmas.List.{length-map}
use Rattle.iso_defs.specs.Grid.{Grid}
use Rattle.brick_rows.specs.Runs.{IsRun}
use Rattle.brick_rows.proofs.Heights.{part_fits, part_is, run_of}
use Rattle.brick_rows.proofs.bricks_at_level.BricksAtLevel.run.Goals as goal

pub offset_bounds-copies-start : goal.offset_bounds-copies-start
offset_bounds-copies-start g c =
    let fits = part_fits c.args.self.now c.self.inside.store.now c.self.inside.level c.self.view_is c.sizes-sizes.ensures.volume c.args.x c.args.row.y c.args.row.z c.requires.x
    (omega (arith, c.requires.y)) (omega (arith, c.requires.z)) c.args.row.bricks c.requires.row.bricks c.args.by.up c.args.by.far c.requires.y c.requires.z c.requires.up c.requires.far
    (map g.T.Packed.value c.args.copies.now) c.requires.copies (729 * (c.args.row.bricks.first + c.args.x) + 9 * (c.args.row.bricks.y + c.args.by.up + 9 * (c.args.row.bricks.z + c.args.by.far))) c.min-count.result
    (omega arith) (omega (arith, c.nx.ensures.value, ap (λ (g : Grid). g.nx) c.sizes-sizes.ensures.value)) in
    omega (arith, fits, length-map c.args.copies.now g.T.Packed.value)

pub slice_bounds-result-end : goal.slice_bounds-result-end
slice_bounds-result-end g c =
    let fits = part_fits c.args.self.now c.self.inside.store.now c.self.inside.level c.self.view_is c.sizes-sizes.ensures.volume c.args.x c.args.row.y c.args.row.z c.requires.x
    (omega (arith, c.requires.y)) (omega (arith, c.requires.z)) c.args.row.bricks c.requires.row.bricks c.args.by.up c.args.by.far c.requires.y c.requires.z c.requires.up c.requires.far
    (map g.T.Packed.value c.args.copies.now) c.requires.copies (729 * (c.args.row.bricks.first + c.args.x) + 9 * (c.args.row.bricks.y + c.args.by.up + 9 * (c.args.row.bricks.z + c.args.by.far))) c.min-count.result
    (omega arith) (omega (arith, c.nx.ensures.value, ap (λ (g : Grid). g.nx) c.sizes-sizes.ensures.value)) in
    omega (arith, fits, length-map c.args.copies.now g.T.Packed.value)

pub returns : goal.returns
returns g c =
    let v = c.self.inside.store.now in
    subst (IsRun c.args.self.now (8 * c.args.x) _ _) (sym (part_is g.T.Packed.value c.args.copies.now _ _))
    (run_of c.args.self.now v c.self.inside.level c.self.view_is c.sizes-sizes.ensures.volume c.args.x c.args.row.y c.args.row.z c.requires.x
    (omega (arith, c.requires.y)) (omega (arith, c.requires.z)) c.args.row.bricks c.requires.row.bricks c.args.by.up c.args.by.far c.requires.y c.requires.z c.requires.up c.requires.far
    (map g.T.Packed.value c.args.copies.now) c.requires.copies _ _ (omega arith) (omega (arith, c.nx.ensures.value, ap (λ (g : Grid). g.nx) c.sizes-sizes.ensures.value)))
