use Rattle.std.proofs.Common.{◌≤◌, subst}
use Rattle.part_laws.proofs.ClassLaws.{is_in_from}
use Rattle.component_labels.proofs.AddedLaws.{loop_labelled}
use Rattle.component_labels.proofs.laws.loop_is_labelled.Goals as goal

pub returns : goal.returns
returns c = λ g row xs label old new slot n a l h added count at inside long few paired.
    loop_labelled g row xs label old new slot n a l h added count at (λ v i. inside v (is_in_from v l.1 i)) (subst (λ k. 3 ≤ k) count long) few paired
