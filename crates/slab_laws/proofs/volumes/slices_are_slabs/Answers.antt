use Rattle.slab_laws.proofs.SlabVolumes.{slab_is, padded_slab_is}
use Rattle.slab_laws.proofs.VolumeCuts.{cuts_of_volume, cuts_of_padded}
use Rattle.slab_laws.proofs.volumes.slices_are_slabs.Goals as goal

pub returns : goal.returns
returns c = record {
  unpadded = λ v level t owned all within. slab_is v level t owned all within;
  padded = λ v pad level t owned solid all within ends. padded_slab_is v pad level t owned solid within ends;
  volume = λ v level owned all fits. cuts_of_volume v level owned all fits;
  padded_volume = λ v pad level owned solid all fits. cuts_of_padded v pad level owned solid fits;
}
