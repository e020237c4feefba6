use Rattle.std.proofs.Common.{All}
use Rattle.measure.specs.Measures.{HasNoArea}
use Rattle.part_laws.specs.Printed.{HasNoBorder, HasOneVolumeIn, measures_at}
use Rattle.part_laws.proofs.BorderLaws.{of_measures}
use Rattle.bench_core.proofs.mesh_numbers.walked_measures.Goals as goal

pub returns-clause-areas : goal.returns-clause-areas
returns-clause-areas c =
    of_measures c.counted_measures.result (measures_at c.args.store.now c.args.level) (All HasNoArea) (c.parts_without_border.ensures.areas c.args.store.now c.args.level) c.counted_measures.ensures

pub returns-clause-volumes : goal.returns-clause-volumes
returns-clause-volumes c =
    of_measures c.counted_measures.result (measures_at c.args.store.now c.args.level) (All (HasOneVolumeIn c.args.store.now c.args.level))
    (c.parts_without_border.ensures.volumes c.args.store.now c.args.level) c.counted_measures.ensures

pub returns-clause-closed : goal.returns-clause-closed
returns-clause-closed c pad =
    of_measures c.counted_measures.result (measures_at c.args.store.now c.args.level) (All HasNoBorder)
    (c.parts_without_border.ensures.closed c.args.store.now c.args.level c.sizes.ensures.volume pad) c.counted_measures.ensures
