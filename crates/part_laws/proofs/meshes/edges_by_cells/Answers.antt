use Rattle.part_laws.proofs.CellOrder.{edges_by_cells as counted, no_earlier, some_earlier}
use Rattle.part_laws.proofs.meshes.edges_by_cells.Goals as goal

pub returns : goal.returns
returns c = record {
  counts = λ g s p thick. counted g s p thick;
  none = λ g q r e x lq cq lr cr he hx same first. no_earlier g q r e x lq cq lr cr he hx same first;
  some = λ g q e l k he h. some_earlier g q e l k he h;
}
