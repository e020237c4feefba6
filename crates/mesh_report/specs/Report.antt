-- What a report says of a mesh: the numbers of all of it, and those of each component.
use Rattle.std.specs.Prelude.{◌≡◌, ◌<◌, ℕ, zero, suc, Bool, false, slice_index, ◌==◌, ◌&&◌, ◌||◌, List, length, map, nat_lt, pos, ◌+ℤ◌, ◌-ℤ◌}
use Rattle.std.specs.List.{filter, flat_map, list_any, count_by}
use Rattle.iso_defs.specs.Lists.{below, least_of}
use Rattle.iso_defs.specs.Cell.{Triangle}
use Rattle.iso_defs.specs.Manifold.{uses}
use Rattle.iso_base.specs.Triangles.{Mesh, triangles_of}
use Rattle.mesh_report.specs.declared.part.Part.{Part}

-- whether both vertices are corners of the triangle
abbrev pub has_both : ℕ → ℕ → Triangle → Bool
has_both a b t = uses a t && uses b t

-- whether an edge lies between the vertices: some triangle has both
abbrev pub are_joined : List Triangle → ℕ → ℕ → Bool
are_joined ts a b = list_any (has_both a b) ts

-- whether the edge lies in exactly one triangle
abbrev pub has_one_side : List Triangle → ℕ × ℕ → Bool
has_one_side ts e = count_by (has_both e.0 e.1) ts == 1

-- whether w is reached from v along at most k edges, over vertices below n
unfoldable pub reaches : ℕ → List Triangle → ℕ → ℕ → ℕ → Bool
reaches n ts zero v w = v == w
reaches n ts (suc k) v w = v == w || list_any (λ u. are_joined ts v u && reaches n ts k u w) (below n)

-- The component of a vertex: the least vertex reached from it along edges. Of n vertices each is reached along n edges if at all,
-- so the bound leaves no way out: the law `component_is_least_reached`.
unfoldable pub component : ℕ → List Triangle → ℕ → ℕ
component n ts v = least_of (filter (reaches n ts n v) (below n))

-- of triangles as the code holds them: the component of each vertex
abbrev pub component_of_each : Mesh → List ℕ
component_of_each m = map (component m.vertex_count (triangles_of m.triangles)) (below m.vertex_count)

-- a vertex that no triangle uses is its own component
abbrev pub IsItselfUnused : List Triangle → List ℕ → Type 0
IsItselfUnused ts ks = (v : ℕ) → v < length ks → list_any (uses v) ts ≡ false → slice_index ks v ≡ v

-- the vertices that a triangle uses, of those below n
abbrev pub used : ℕ → List Triangle → List ℕ
used n ts = filter (λ v. list_any (uses v) ts) (below n)

-- the pairs of different vertices below n, each once, the lesser first
abbrev pub pairs : ℕ → List (ℕ × ℕ)
pairs n = flat_map (λ a. map (λ b. (a, b)) (filter (nat_lt a) (below n))) (below n)

-- the edges
abbrev pub edges : ℕ → List Triangle → List (ℕ × ℕ)
edges n ts = filter (λ (e : ℕ × ℕ). are_joined ts e.0 e.1) (pairs n)

-- the numbers of so many of the vertices, edges and triangles
abbrev pub counted : List Triangle → ℕ → List ℕ → List (ℕ × ℕ) → List Triangle → Part
counted ts least vs es fs = record {
  least = least;
  vertices = length vs;
  edges = length es;
  faces = length fs;
  border = length (filter (has_one_side ts) es);
  euler = (pos (length vs) -ℤ pos (length es)) +ℤ pos (length fs);
}

-- the numbers of all
unfoldable pub total_of : ℕ → List Triangle → Part
total_of n ts = counted ts 0 (used n ts) (edges n ts) ts

-- the numbers of a component
unfoldable pub part_of : ℕ → List Triangle → ℕ → Part
part_of n ts k =
    counted ts k
    (filter (λ v. component n ts v == k) (used n ts))
    (filter (λ (e : ℕ × ℕ). component n ts e.0 == k) (edges n ts))
    (filter (λ (t : Triangle). component n ts t.0 == k) ts)

-- the components, ascending
unfoldable pub components : ℕ → List Triangle → List ℕ
components n ts = filter (λ v. component n ts v == v) (used n ts)

-- the numbers of all, and those of each component
pub record Summary : Type 0 where
  pub total : Part
  pub parts : List Part

-- the report on triangles over n vertices
abbrev pub summary_of : ℕ → List Triangle → Summary
summary_of n ts = record { total = total_of n ts; parts = map (part_of n ts) (components n ts) }
