use Rattle.part_laws.proofs.NamedParts.{shares_named, summary_named}
use Rattle.part_laws.proofs.labels.parts_by_labels.Goals as goal

pub returns-clause-summary : goal.returns-clause-summary
returns-clause-summary c = λ g s xs ps label thick loops h. summary_named g s thick xs ps label loops h

pub returns-clause-measures : goal.returns-clause-measures
returns-clause-measures c = λ g s xs ps label at thick loops h. shares_named g s thick xs ps label loops h at
