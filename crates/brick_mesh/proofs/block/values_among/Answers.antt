use Rattle.std.proofs.Common.{◌∙◌, ◌<◌, map, arith}
use Rattle.std.proofs.lemmas.List.{length-map}
use Rattle.brick_mesh.proofs.Corners.{corner_sample, corners_are}
use Rattle.brick_mesh.proofs.block.values_among.Goals as goal

pub corner_values-requires-clause-inside : goal.corner_values-requires-clause-inside
corner_values-requires-clause-inside g c =
    let few : c.args.cell < 512 = c.requires.cell.local in
    omega (arith, c.requires.copies.count, length-map c.args.copies.now g.T.Packed.value)

pub corner_values-requires-clause-range : goal.corner_values-requires-clause-range
corner_values-requires-clause-range g c =
    corner_sample c.args.store.now c.args.brick.0 c.args.level (map g.T.Packed.value c.args.copies.now) c.args.cell c.sizes.ensures.volume c.requires.brick c.requires.copies c.requires.cell

pub returns-clause-value : goal.returns-clause-value
returns-clause-value g c =
    c.corner_values.ensures.value
    ∙ corners_are c.args.store.now c.args.brick.0 c.args.level (map g.T.Packed.value c.args.copies.now) c.args.cell c.sizes.ensures.volume c.requires.brick c.requires.copies c.requires.cell
