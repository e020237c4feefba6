-- What a report says, by loops alone.
use Rattle.std.specs.Prelude.{ℕ, ◌+◌, ◌/◌, ◌==◌, pos, ◌+ℤ◌, ◌-ℤ◌, ℤ, Bool, List, length, map}
use Rattle.std.specs.List.{filter, count_by}
use Rattle.iso_defs.specs.Grid.{Grid}
use Rattle.iso_defs.specs.Scratch.{crossing_edges, number_of}
use Rattle.iso_defs.specs.Manifold.{share_outer_plane}
use Rattle.mesh_report.specs.declared.part.Part.{Part}
use Rattle.mesh_report.specs.Report.{Summary}
use Rattle.part_laws.specs.Loops.{Loop, mesh_loops, rims, rims_where, spokes, faces, centres}
use Rattle.part_laws.specs.Classes.{class_of, is_of_class}

-- the edges of loops: off the border two steps are one edge, on it each step is one, and so is each spoke
abbrev pub edges_round : (ℕ → ℕ → Bool) → List Loop → ℕ
edges_round in_outer_plane ls = (rims ls + rims_where in_outer_plane ls) / 2 + spokes ls

-- the numbers of loops that have so many crossing edges
abbrev pub part_by : (ℕ → ℕ → Bool) → ℕ → ℕ → List Loop → Part
part_by in_outer_plane least crossings ls = record {
  least = least;
  vertices = crossings + centres ls;
  edges = edges_round in_outer_plane ls;
  faces = faces ls;
  border = rims_where in_outer_plane ls;
  euler = (pos (crossings + centres ls) -ℤ pos (edges_round in_outer_plane ls)) +ℤ pos (faces ls);
}

-- the classes, each by its least crossing edge, in the order of the edges
abbrev pub classes : List ℕ → List Loop → List ℕ
classes edges ls = filter (λ e. class_of ls e == e) edges

-- the loops of a class
abbrev pub class_loops : List Loop → ℕ → List Loop
class_loops ls k = filter (is_of_class ls k) ls

-- its numbers
abbrev pub class_part : (ℕ → ℕ) → List ℕ → (ℕ → ℕ → Bool) → List Loop → ℕ → Part
class_part number edges in_outer_plane ls k = part_by in_outer_plane (number k) (count_by (λ e. class_of ls e == k) edges)
    (class_loops ls k)

-- the report on loops whose crossing edges are these, each with a number
abbrev pub loop_summary : (ℕ → ℕ) → List ℕ → (ℕ → ℕ → Bool) → List Loop → Summary
loop_summary number edges in_outer_plane ls = record {
  total = part_by in_outer_plane 0 (length edges) ls;
  parts = map (class_part number edges in_outer_plane ls) (classes edges ls);
}

-- the report on the loops of a field on a grid
abbrev pub mesh_summary : Grid → (ℕ → ℤ) → Summary
mesh_summary g s = loop_summary (number_of g s) (crossing_edges g s) (share_outer_plane g) (mesh_loops g s)
