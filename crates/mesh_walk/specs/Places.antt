-- The places of crossing edges in their slots.
use Rattle.std.specs.Prelude.{◌≡◌, ℕ, ◌+◌, ◌*◌, ◌/◌, ◌%◌, ◌≤◌, List, [], ◌∷◌, All, slice_index}
use Rattle.std.specs.List.{sum_by}
use Rattle.cell_loops.specs.Loops.{IsLoop}
use Rattle.case_faces.specs.Fans.{edge_at}
use Rattle.crossing_edges.specs.Flags.{edge_place}
use Rattle.flat_mesh.specs.Centres.{local_mean}
use Rattle.flat_mesh.specs.Lattice.{Leveled, heights}
use Rattle.mesh_walk.specs.Slots.{AreAround, row_slot}

-- what stands in a slot
abbrev pub in_slot : List ℕ → ℕ → List ℕ
in_slot places i = slice_index places i ∷ []

-- and what is due to a crossing edge: its place
abbrev pub due_to : Leveled → ℕ → List ℕ
due_to v name = edge_place v.grid (heights v) name ∷ []

-- the places of the rows of points round a row of cells, and the slots with which these rows begin
pub record AreRowPlaces (v : Leveled) (y z : ℕ) (places rows : List ℕ) : Type 0 where
  pub rows_are : rows ≡ row_slot y z ∷ row_slot (y + 1) z ∷ row_slot y (z + 1) ∷ row_slot (y + 1) (z + 1) ∷ []
  pub around : AreAround (in_slot places) (due_to v) v y z

-- what stands round a cell so far behind the first one, eight numbers for each of the four rows
abbrev pub slot_place : List ℕ → List ℕ → ℕ → ℕ → ℕ
slot_place places rows at i = slice_index places (slice_index rows (i / 8) + at + i % 8)

-- the places on the edges of a loop stand where the edges begin
pub record ArePlaced (place : ℕ → ℕ) (edges : List ℕ) (at : ℕ → ℕ) : Type 0 where
  pub shape : IsLoop edges
  pub each : All (λ e. at (edge_at e) ≡ place e) edges
  pub few : All (λ e. place e ≤ 1000) edges

-- where edges along an axis can begin
abbrev pub along : ℕ → List ℕ
along axis = axis ∷ (axis + 3) ∷ (axis + 8) ∷ (axis + 11) ∷ (axis + 16) ∷ (axis + 19) ∷ (axis + 24) ∷ (axis + 27) ∷ []

-- their sum along an axis by the weights of a loop, and what stands behind the weights
abbrev pub axis_sum : (ℕ → ℕ) → List ℕ → ℕ → ℕ
axis_sum at fan axis = sum_by (λ i. at i * slice_index fan i) (along axis) + slice_index fan (32 + axis)

-- the coordinates of the centre of a loop
pub record IsCentre (place : ℕ → ℕ) (edges at : List ℕ) : Type 0 where
  pub x : slice_index at 0 ≡ local_mean place 0 edges
  pub y : slice_index at 1 ≡ local_mean place 1 edges
  pub z : slice_index at 2 ≡ local_mean place 2 edges
  pub few : All (λ c. c ≤ 1000) at
