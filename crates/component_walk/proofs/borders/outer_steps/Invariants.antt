use Rattle.std.proofs.Common.{◌≡◌, ℕ, ◌+◌, ◌-◌, ◌<◌, ◌≤◌, get_or, drop}
use Rattle.std.specs.List.{count_by}
use Rattle.iso_defs.specs.Cell.{cell_edge}
use Rattle.iso_defs.specs.Lists.{closing}
use Rattle.iso_defs.specs.Manifold.{share_outer_plane}
use Rattle.component_walk.specs.Sums.{steps_on}
use Rattle.component_walk.proofs.borders.outer_steps.Given as goal

abbrev pub invariant-loop-at : goal.invariant-loop-at
invariant-loop-at l = record {
  least : 1 ≤ l.at;
  few : l.outer < l.at;
  left : l.outer + count_by (λ (p : ℕ × ℕ). share_outer_plane l.sizes (cell_edge l.sizes l.cell.index p.0) (cell_edge l.sizes l.cell.index p.1)) (closing (get_or l.edges 0 0) (get_or l.edges (l.at - 1) 0) (drop l.at l.edges))
      ≡ steps_on l.sizes l.cell.index l.edges;
}
