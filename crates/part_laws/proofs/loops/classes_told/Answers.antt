use Rattle.part_laws.proofs.ClassLaws.{class_told, sharing}
use Rattle.part_laws.proofs.loops.classes_told.Goals as goal

pub returns : goal.returns
returns c = λ ls f same low home v. class_told ls f (λ l a b i j k. same a b (sharing ls l a b i j k)) low home v
