use Rattle.part_laws.proofs.ClassLaws.{chained_class, class_chained, class_grows, class_is, least_chained_unique}
use Rattle.part_laws.proofs.loops.classes_by_chains.Goals as goal

pub returns : goal.returns
returns c = record {
  least = λ ls v. class_is ls v;
  unique = λ ls v k h. least_chained_unique ls v k h;
  joined = λ ls v us w h. chained_class ls v us w h;
  chained = λ ls v w e. class_chained ls v w e;
  grows = λ ls ks v w e. class_grows ls ks v w e;
}
