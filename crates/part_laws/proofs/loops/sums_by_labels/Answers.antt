use Rattle.part_laws.proofs.LabelSums.{edge_sums, loop_sums, loop_totals, loops_labelled}
use Rattle.part_laws.proofs.loops.sums_by_labels.Goals as goal

pub returns : goal.returns
returns c = record {
  classes = λ xs root k h. loops_labelled xs root k h;
  sums = λ n xs p f h. loop_sums xs n h p f;
  totals = λ n xs p f h. loop_totals xs n h p f;
  edges = λ n es label p h. edge_sums label n p es h;
}
