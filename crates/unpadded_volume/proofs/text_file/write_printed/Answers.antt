use Rattle.unpadded_volume.proofs.ReadAgain.{printed_is_read}
use Rattle.unpadded_volume.proofs.text_file.write_printed.Goals as goal

pub returns-clause-read_again : goal.returns-clause-read_again
returns-clause-read_again g c = printed_is_read c.args.hex c.args.store.now c.sizes.ensures.volume
