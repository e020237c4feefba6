use Rattle.std.proofs.Common.{◌∙◌, sym, ap}
use Rattle.flat_mesh.specs.Cases.{values_at}
use Rattle.sample_rows.proofs.Corners.{are_samples, values_are}
use Rattle.sample_rows.proofs.field.ListField.values.Goals as goal

pub heights_of-requires : goal.heights_of-requires
heights_of-requires g c = are_samples _ c.self.invariant c.args.cell.low c.in-Some.corners c.in-Some.ensures

pub heights_of-requires-in-None : goal.heights_of-requires-in-None
heights_of-requires-in-None g c = are_samples _ c.self.invariant c.args.cell.low c.each_corner.result c.each_corner.ensures

pub returns-in-Some-clause-values : goal.returns-in-Some-clause-values
returns-in-Some-clause-values g c =
    values_are c.args.self.now _ c.args.cell.low c.in-Some.corners c.heights_of.result c.self.view_is c.in-Some.ensures c.heights_of.ensures.values
    ∙ ap (values_at c.args.self.now) (sym c.requires.index)

pub returns-in-None-clause-values : goal.returns-in-None-clause-values
returns-in-None-clause-values g c =
    values_are c.args.self.now _ c.args.cell.low c.each_corner.result c.heights_of-in-None.result c.self.view_is c.each_corner.ensures c.heights_of-in-None.ensures.values
    ∙ ap (values_at c.args.self.now) (sym c.requires.index)
