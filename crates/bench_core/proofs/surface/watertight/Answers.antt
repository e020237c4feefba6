use Rattle.bench_core.proofs.Surfaces.{watertight_of}
use Rattle.bench_core.proofs.surface.watertight.Goals as goal

pub returns : goal.returns
returns c = watertight_of c.args.volume.now c.args.level c.sizes.ensures.volume c.requires
