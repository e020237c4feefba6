use Rattle.std.proofs.Common.{ℕ, ◌≡◌, ◌+◌, ◌-◌, ◌*◌}
use Rattle.component_labels.specs.Fronts.{row_name}
use Rattle.component_labels.specs.Labelling.{Known}
use Rattle.component_walk.specs.Passed.{IsLeft}
use Rattle.component_walk.specs.Rows.{first_point}
use Rattle.component_walk.proofs.RowLaws.{row_of}
use Rattle.component_walk.proofs.rows.leave_row.Given as goal

abbrev pub invariant-loop-x : goal.invariant-loop-x
invariant-loop-x g l =
    let row : ℕ = l.active.y + l.field.grid.ny * l.active.z in
    record {
      tallies : l.walked.tallies.items ≡ l.initial.walked.tallies.items;
      left : (label : ℕ → ℕ) (base : Known) → IsLeft (row_of l.field row label base) (row_name l.field.grid row) l.initial.walked.labels l.initial.walked.edges
          → IsLeft (row_of l.field row label base) (row_name l.field.grid row + 3 * first_point l.field.grid l.x) l.walked.labels l.walked.edges;
    }

abbrev pub decreases-loop-x : goal.decreases-loop-x
decreases-loop-x g l = l.count - l.x
