-- The texts of the numbers of the corners of triangles, in their slots.
use Rattle.std.specs.Prelude.{◌≡◌, ℕ, ◌+◌, ◌*◌, ◌<◌, ◌≤◌, List, length, slice_index}
use Rattle.std.specs.List.{sum_by}
use Rattle.iso_base.specs.declared.format.MeshFormat.{MeshFormat}
use Rattle.crossing_edges.specs.Flags.{rank}
use Rattle.flat_mesh.specs.Faces.{centres_of, loops_at}
use Rattle.flat_mesh.specs.Lattice.{Leveled, heights}
use Rattle.mesh_text.specs.declared.number.Number.{Number}
use Rattle.mesh_text.specs.Numbers.{text_at}
use Rattle.mesh_lines.specs.declared.style.Style.{Style}
use Rattle.mesh_lines.specs.Triangles.{corner_text}
use Rattle.mesh_walk.specs.Cells.{cells_start}
use Rattle.mesh_walk.specs.Numbers.{HasNumber}
use Rattle.mesh_walk.specs.declared.cells.RowCells.{RowCells}
use Rattle.mesh_walk.specs.declared.walk.Numbering.{Numbering}

-- what is due to an edge: the text of its number
abbrev pub number_due : Style → Numbering → Leveled → ℕ → List ℕ
number_due style numbers v name = corner_text style.format (numbers.first_edge + rank v.grid (heights v) name)

-- a slot with a text, which can be put into a line
pub record HasText (texts : List Number) (slot : ℕ) : Type 0 where
  pub low : slot < 15390
  pub some : 1 ≤ length (text_at texts slot)
  pub few : length (text_at texts slot) ≤ 12

-- the texts of the numbers of the centres of the cell listed at a place stand in its slots
pub record HasCentres (format : MeshFormat) (numbers : Numbering) (v : Leveled) (cells : RowCells) (texts : List Number) (k : ℕ) : Type 0 where
  pub first : ℕ
  pub number : HasNumber numbers.first_centre v (cells_start v cells + slice_index cells.places k) first
  pub each : (i : ℕ) → i < sum_by centres_of (loops_at v (cells_start v cells + slice_index cells.places k)) →
      text_at texts (12312 + 3 * slice_index cells.places k + i) ≡ corner_text format (first + i)
