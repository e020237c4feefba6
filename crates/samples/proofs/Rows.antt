-- Rows of a grid in its list of samples.
use Rattle.std.proofs.Common.{ℕ, ◌+◌, ◌-◌, ◌<◌, ◌≤◌, arith, inl, inr}
use Rattle.std.proofs.lemmas.Bool.{cases_lt}
use Rattle.iso_defs.specs.Grid.{Grid, index, point_count}
use Rattle.iso_defs.proofs.Points.{index_in}
use Rattle.iso_base.specs.Points.{IsPoint, index_of}
use Rattle.iso_base.specs.declared.point.Point.{Point}

-- a part of a row lies in the list
pub row_in : (g : Grid) (p : Point) → IsPoint g p → (n : ℕ) → p.x + n ≤ g.nx → index_of g p + n ≤ point_count g
row_in g p at n h = elim (cases_lt 0 n) [
  | inl l ↦ (
      let last : index g (p.x + (n - 1)) p.y p.z < point_count g = index_in g (p.x + (n - 1)) p.y p.z (omega arith) at.y at.z in
      omega arith)
  | inr z ↦ (
      let first : index_of g p < point_count g = index_in g p.x p.y p.z at.x at.y at.z in
      omega arith)
]
