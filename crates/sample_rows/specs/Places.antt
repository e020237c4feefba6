-- Where the crossing edges of a volume are crossed, row of points after row of points.
use Rattle.std.specs.Prelude.{◌≡◌, ℕ, ◌*◌, ◌<◌, List, length, slice_index}
use Rattle.iso_defs.specs.Rows.{row_count}
use Rattle.crossing_edges.specs.Flags.{places_in}
use Rattle.flat_mesh.specs.Lattice.{Leveled, heights}
use Rattle.sample_rows.specs.declared.places.CrossingPlaces.{CrossingPlaces}

-- where the crossing edges that begin in the first rows of points are crossed, in order of name
abbrev pub first_places : Leveled → ℕ → List ℕ
first_places v rows = places_in v.grid (heights v) 0 (3 * (v.grid.nx * rows))

-- those of so many rows, and for each of these rows how many places stand before its own
pub record HavePlaces (v : Leveled) (rows : ℕ) (places : CrossingPlaces) : Type 0 where
  pub list : places.list.items ≡ first_places v rows
  pub count : length places.starts.items ≡ rows
  pub starts : (row : ℕ) → row < rows → slice_index places.starts.items row ≡ length (first_places v row)

-- those of all rows
abbrev pub HaveAllPlaces : Leveled → CrossingPlaces → Type 0
HaveAllPlaces v places = HavePlaces v (row_count v.grid) places
