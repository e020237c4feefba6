use Rattle.std.proofs.Common.{false}
use Rattle.nrrd.proofs.RoundTrip.{coded_again}
use Rattle.nrrd.proofs.laws.text_is_read.Goals as goal

pub returns : goal.returns
returns c = coded_again false
