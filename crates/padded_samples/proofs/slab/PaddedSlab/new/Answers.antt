use Rattle.padded_samples.proofs.SlabRows.{holds_pad}
use Rattle.padded_samples.proofs.slab.PaddedSlab.new.Goals as goal

pub returns-clause-samples : goal.returns-clause-samples
returns-clause-samples g c = holds_pad _
