-- What is counted at vertices.
use Rattle.std.specs.Prelude.{ℕ, Bool, true, List, length, slice_index_or, ◌==◌, ◌+◌, ◌-◌, ◌*◌, ◌/◌, ◌^◌, ◌<◌, ◌≤◌, pos, ◌+ℤ◌, ◌-ℤ◌, if◌then◌else◌}
use Rattle.std.specs.List.{sum_by}
use Rattle.iso_defs.specs.Cell.{Triangle}
use Rattle.iso_defs.specs.Lists.{below}
use Rattle.iso_defs.specs.Manifold.{arcs}
use Rattle.mesh_report.specs.declared.meet.Edges.{Edges}
use Rattle.mesh_report.specs.declared.part.Part.{Part}
use Rattle.mesh_report.specs.declared.tally.VertexTally.{VertexTally}
use Rattle.mesh_report.specs.Named.{named, greater_named}
use Rattle.mesh_report.specs.Report.{component}

-- at one vertex: whether a triangle uses it, the corners there, the edges to greater vertices, and those of them in more than one triangle
abbrev pub used_of : List Triangle → ℕ → ℕ
used_of ts v = if length (arcs ts v) == 0 then 0 else 1

abbrev pub corners_of : List Triangle → ℕ → ℕ
corners_of ts v = length (arcs ts v)

abbrev pub edges_of : ℕ → List Triangle → ℕ → ℕ
edges_of n ts v = greater_named n v (named (arcs ts v)) 0

abbrev pub shared_of : ℕ → List Triangle → ℕ → ℕ
shared_of n ts v = greater_named n v (named (arcs ts v)) 1

-- a sum over the vertices below m that pass a test
abbrev pub sum_where : (ℕ → Bool) → (ℕ → ℕ) → ℕ → ℕ
sum_where T f m = sum_by (λ v. if T v then f v else 0) (below m)

-- what is counted at the vertices below m that pass a test
abbrev pub tally_where : ℕ → List Triangle → ℕ → (ℕ → Bool) → ℕ → VertexTally
tally_where n ts least T m = record {
  least = least;
  vertices = sum_where T (used_of ts) m;
  corners = sum_where T (corners_of ts) m;
  edges = sum_where T (edges_of n ts) m;
  shared = sum_where T (shared_of n ts) m;
}

-- at those of a component
abbrev pub tally_of : ℕ → List Triangle → ℕ → ℕ → VertexTally
tally_of n ts m k = tally_where n ts k (λ v. component n ts v == k) m

-- at all of them
abbrev pub tally_of_all : ℕ → List Triangle → ℕ → VertexTally
tally_of_all n ts m = tally_where n ts 0 (λ v. true) m

-- nothing is counted yet
abbrev pub nothing_of : ℕ → VertexTally
nothing_of least = record { least = least; vertices = 0; corners = 0; edges = 0; shared = 0 }

-- a tally with one vertex more
abbrev pub tally_with : VertexTally → ℕ → Edges → VertexTally
tally_with t corners e = record {
  least = t.least;
  vertices = t.vertices + (if corners == 0 then 0 else 1);
  corners = t.corners + corners;
  edges = t.edges + e.all;
  shared = t.shared + e.shared;
}

-- the counts of one vertex more do not overflow
pub record HasRoom (t : VertexTally) (more : ℕ) (e : Edges) : Type 0 where
  pub vertices : t.vertices + 1 < 2 ^ 32
  pub corners : t.corners + more < 2 ^ 64
  pub edges : t.edges + e.all < 2 ^ 64
  pub shared : t.shared + e.shared < 2 ^ 64

-- the numbers of a part, by what was counted at its vertices
abbrev pub part_with : VertexTally → Part
part_with t = record {
  least = t.least;
  vertices = t.vertices;
  edges = t.edges;
  faces = t.corners / 3;
  border = t.edges - t.shared;
  euler = (pos t.vertices -ℤ pos t.edges) +ℤ pos (t.corners / 3);
}

-- the counts are small
pub record IsSmall (t : VertexTally) : Type 0 where
  pub corners : t.corners < 3 * 2 ^ 31
  pub edges : t.edges < 2 ^ 62
  pub shared : t.shared ≤ t.edges

-- the tally at a place
abbrev pub tally_at : List VertexTally → ℕ → VertexTally
tally_at tallies i = slice_index_or tallies i (nothing_of 0)

-- each has a greater smallest vertex than those before it
abbrev pub IsAscending : List VertexTally → Type 0
IsAscending tallies = (i j : ℕ) → i < j → j < length tallies → (tally_at tallies i).least < (tally_at tallies j).least
