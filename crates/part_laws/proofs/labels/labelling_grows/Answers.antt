use Rattle.part_laws.proofs.LabelLaws.{more_labelled, none_labelled}
use Rattle.part_laws.proofs.labels.labelling_grows.Goals as goal

pub returns-clause-none : goal.returns-clause-none
returns-clause-none c = none_labelled

pub returns-clause-more : goal.returns-clause-more
returns-clause-more c = λ xs ps qs label l a h next long. more_labelled xs ps qs label l a h next long
