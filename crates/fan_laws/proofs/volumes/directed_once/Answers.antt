use Rattle.iso_base.specs.Volume.{field}
use Rattle.mesh_laws.proofs.Numbers.{directed_once as once}
use Rattle.fan_laws.proofs.volumes.directed_once.Goals as goal

pub returns : goal.returns
returns c = λ a b. once c.args.volume.now.grid (field c.args.volume.now.samples c.args.level) a b
