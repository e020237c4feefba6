use Rattle.unpadded_volume.proofs.ReadAgain.{saved_is_read}
use Rattle.unpadded_volume.proofs.raw_file.write_volume.Goals as goal

pub returns-clause-read_again : goal.returns-clause-read_again
returns-clause-read_again g c = saved_is_read c.args.store.now c.sizes.ensures.volume
