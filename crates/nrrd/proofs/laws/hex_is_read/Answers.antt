use Rattle.std.proofs.Common.{true}
use Rattle.nrrd.proofs.RoundTrip.{coded_again}
use Rattle.nrrd.proofs.laws.hex_is_read.Goals as goal

pub returns : goal.returns
returns c = coded_again true
