use Rattle.part_laws.proofs.LabelLaws.{joined_one, one_joined, one_root, rooted}
use Rattle.part_laws.proofs.labels.labelling_told.Goals as goal

pub returns-clause-one : goal.returns-clause-one
returns-clause-one c = λ xs ps label h v w e. one_joined xs ps label h v w e

pub returns-clause-joined : goal.returns-clause-joined
returns-clause-joined c = λ xs ps label h v w m n e. joined_one xs ps label h v w m n e

pub returns-clause-rooted : goal.returns-clause-rooted
returns-clause-rooted c = λ xs ps label h long. rooted xs ps label h long

pub returns-clause-roots : goal.returns-clause-roots
returns-clause-roots c = λ xs ps label h a b e. one_root xs ps label h a b e
