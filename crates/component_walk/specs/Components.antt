-- The components of a mesh, and what is added up of their loops.
use Rattle.std.specs.Prelude.{◌≡◌, ℕ, ◌*◌, ◌<◌, ◌==◌, ℤ, List, length, slice_index_or}
use Rattle.std.specs.List.{count_by}
use Rattle.iso_defs.specs.Grid.{IsThick}
use Rattle.iso_defs.specs.Scratch.{crossing_edges, number_of}
use Rattle.flat_mesh.specs.Lattice.{Leveled, heights}
use Rattle.component_labels.specs.Labelling.{Known}
use Rattle.measure_laws.specs.Vectors.{total}
use Rattle.part_laws.specs.Classes.{class_of}
use Rattle.part_laws.specs.Loops.{Loop, mesh_loops, rims}
use Rattle.part_laws.specs.Parts.{class_loops, classes}
use Rattle.component_walk.specs.Walks.{IsWalked}
use Rattle.component_walk.specs.declared.edges_behind.Passed.{Passed}
use Rattle.component_walk.specs.declared.components.Component.{Component}

-- the loops of the mesh of a volume, and its crossing edges
abbrev pub loops_of : Leveled → List Loop
loops_of v = mesh_loops v.grid (heights v)

abbrev pub edges_of : Leveled → List ℕ
edges_of v = crossing_edges v.grid (heights v)

-- All loops of the mesh have labels, and all crossing edges were left behind.
pub record IsWhole {T : Type 0} (value : T → ℕ → ℤ) (fits : ℕ → T → Type 0) (of_loop : Leveled → ℕ → Loop →
    ℤ) (v : Leveled)
    (labels : Known) (tallies : List T) (edges : Passed) : Type 0 where
  pub thick : IsThick v.grid
  pub walked : IsWalked value fits of_loop v (v.grid.ny * v.grid.nz) (loops_of v) labels tallies edges

-- the component of a class, which its first crossing edge names
pub record IsComponent {T : Type 0} (value : T → ℕ → ℤ) (fits : ℕ → T → Type 0) (of_loop : Leveled → ℕ → Loop →
    ℤ) (v : Leveled) (k : ℕ) (c : Component T) : Type 0 where
  pub least : c.least ≡ number_of v.grid (heights v) k
  pub crossings : c.crossings ≡ count_by (λ e. class_of (loops_of v) e == k) (edges_of v)
  pub values : (i : ℕ) → value c.tally i ≡ total (of_loop v i) (class_loops (loops_of v) k)
  pub fit : fits (rims (class_loops (loops_of v) k)) c.tally

-- those of all classes, in order
pub record AreComponents {T : Type 0} (value : T → ℕ → ℤ) (fits : ℕ → T → Type 0) (of_loop : Leveled → ℕ → Loop →
    ℤ) (v : Leveled) (cs : List (Component T)) : Type 0 where
  pub count : length cs ≡ length (classes (edges_of v) (loops_of v))
  pub each : (i : ℕ) (d : Component T) → i < length cs →
      IsComponent value fits of_loop v (slice_index_or (classes (edges_of v) (loops_of v)) i 0) (slice_index_or cs i d)
