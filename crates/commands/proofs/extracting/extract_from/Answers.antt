use Rattle.std.proofs.Common.{refl, sym}
use Rattle.iso_base.specs.Volume.{unpadded}
use Rattle.commands.proofs.extracting.extract_from.Goals as goal

pub returns-clause-text : goal.returns-clause-text
returns-clause-text g c = c.extract_samples.ensures (unpadded c.args.volume.now) (sym c.sizes.ensures.value) refl (sym c.requires.samples)
