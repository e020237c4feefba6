use Rattle.join_laws.proofs.GivenFiles.{gives_files}
use Rattle.join_laws.proofs.Joined.{joined_whole}
use Rattle.join_laws.proofs.joined_is_whole.Goals as goal

pub returns : goal.returns
returns c = record {
  whole = λ w bs solid all are. joined_whole w.volume w.level w.pad w.format bs solid all are;
  files = gives_files;
}
