use Rattle.component_labels.proofs.AddedLaws.{row_left}
use Rattle.component_labels.proofs.laws.row_is_left.Goals as goal

pub returns : goal.returns
returns c = λ g row xs label old new h grid count pairs cleared others beyond. row_left g row xs label old new h grid count pairs cleared others beyond
