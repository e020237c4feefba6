use Rattle.std.proofs.Common.{sym}
use Rattle.slab_command.proofs.slabs.serve_from.Goals as goal

pub returns : goal.returns
returns g c = c.serve_samples.ensures c.args.volume.now (sym c.sizes.ensures.value) (sym c.requires.samples)
