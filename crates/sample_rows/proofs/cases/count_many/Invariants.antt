use Rattle.std.proofs.Common.{◌≡◌, ℕ, ◌+◌, ◌-◌, ◌<◌, ◌≤◌, min, w64}
use Rattle.std.specs.Int.{bit_at, trailing_zeros}
use Rattle.flat_mesh.specs.Rows.{row_start}
use Rattle.mesh_rows.specs.Counts.{AreCounts}
use Rattle.sample_rows.proofs.cases.count_many.Given as goal

abbrev pub invariant-loop-rest : goal.invariant-loop-rest
invariant-loop-rest g l = record {
  counted : AreCounts (g.H.Heights.leveled l.field) (row_start (g.H.Heights.leveled l.field).grid l.low.y l.low.z
      + min (l.low.x + trailing_zeros w64 l.rest) (g.H.Heights.leveled l.field).grid.nx) l.counts;
  bits : (k : ℕ) → trailing_zeros w64 l.rest ≤ k → k < 64 → bit_at l.rest k ≡ bit_at l.mixed k;
}

abbrev pub decreases-loop-rest : goal.decreases-loop-rest
decreases-loop-rest g l = 64 - trailing_zeros w64 l.rest
