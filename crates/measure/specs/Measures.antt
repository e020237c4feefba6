-- What is measured of each component of a mesh.
use Rattle.std.specs.Prelude.{ℕ, ◌≤◌, ℤ, pos, List, [], ◌∷◌, slice_index_or, unsigned_abs, ◌≡◌, ◌+ℤ◌, Bool, ◌==◌, map, length, All}
use Rattle.measure_laws.specs.Vectors.{Vector, minus, plus, det, normal, det_of, total, area_of}
use Rattle.std.specs.List.{filter}
use Rattle.iso_defs.specs.Cell.{Triangle}
use Rattle.iso_defs.specs.Manifold.{IsManifold}
use Rattle.iso_base.specs.Triangles.{Mesh, triangles_of}
use Rattle.mesh_report.specs.declared.part.Part.{Part}
use Rattle.mesh_report.specs.Report.{component, components, edges, has_one_side}
use Rattle.measure.specs.declared.share.Share.{Share}

-- the vector of three numbers
abbrev pub vector_of : List ℤ → Vector
vector_of p = (slice_index_or p 0 (pos 0), slice_index_or p 1 (pos 0), slice_index_or p 2 (pos 0))

-- and the three numbers of a vector
abbrev pub coordinates : Vector → List ℤ
coordinates u = u.0 ∷ u.1 ∷ u.2 ∷ []

-- the position of a vertex
abbrev pub position : List (List ℤ) → ℕ → Vector
position at v = vector_of (slice_index_or at v [])

-- no coordinate is greater than the bound
abbrev pub IsWithin : ℕ → Vector → Type 0
IsWithin m u = (unsigned_abs u.0 ≤ m) × (unsigned_abs u.1 ≤ m) × (unsigned_abs u.2 ≤ m)

-- whether a triangle is of a component
abbrev pub is_of : ℕ → List Triangle → ℕ → Triangle → Bool
is_of n ts k t = component n ts t.0 == k

-- the triangles of a component
abbrev pub triangles_in : ℕ → List Triangle → ℕ → List Triangle
triangles_in n ts k = filter (is_of n ts k) ts

-- how many of its edges lie in exactly one triangle
abbrev pub border_in : ℕ → List Triangle → ℕ → ℕ
border_in n ts k = length (filter (has_one_side ts) (filter (λ (e : ℕ × ℕ). component n ts e.0 == k) (edges n ts)))

-- the share of these triangles
abbrev pub share_by : (ℕ → Vector) → ℕ → ℕ → List Triangle → Share
share_by at least border ts = record {
  least = least;
  six = total (det_of at) ts;
  area = coordinates (area_of at ts);
  border = border;
}

-- the share of a component: the sums over its triangles, and its border
unfoldable pub share_of : ℕ → List Triangle → (ℕ → Vector) → ℕ → Share
share_of n ts at k = share_by at k (border_in n ts k) (triangles_in n ts k)

-- the shares of the components, ascending
abbrev pub measures_of : ℕ → List Triangle → (ℕ → Vector) → List Share
measures_of n ts at = map (share_of n ts at) (components n ts)

-- of triangles as the code holds them: the shares of the components before any triangle
abbrev pub begun_in : Mesh → (ℕ → Vector) → List Share
begun_in m at =
    map (λ k. share_by at k (border_in m.vertex_count (triangles_of m.triangles) k) [])
    (components m.vertex_count (triangles_of m.triangles))

-- the share of a part before any of its triangles
abbrev pub unmeasured : Part → Share
unmeasured p = record { least = p.least; six = pos 0; area = pos 0 ∷ pos 0 ∷ pos 0 ∷ []; border = p.border }

-- a share with one triangle more
abbrev pub enlarged : Share → Vector → Vector → Vector → Share
enlarged s a b c = record {
  least = s.least;
  six = s.six +ℤ det a b c;
  area = coordinates (plus (vector_of s.area) (normal a b c));
  border = s.border;
}

-- where the triangles are a manifold, the normals of a part without border have no sum
abbrev pub HasNoArea : Share → Type 0
HasNoArea s = s.border ≡ 0 → s.area ≡ pos 0 ∷ pos 0 ∷ pos 0 ∷ []

abbrev pub AreasCancel : List Triangle → List Share → Type 0
AreasCancel ts shares = IsManifold ts → All HasNoArea shares

-- and the determinants of its triangles have the same sum from every point
abbrev pub HasOneVolume : ℕ → List Triangle → (ℕ → Vector) → Share → Type 0
HasOneVolume n ts at s = s.border ≡ 0 → (o : Vector) →
    total (det_of (λ v. minus (at v) o)) (triangles_in n ts s.least) ≡ s.six

abbrev pub VolumesStay : ℕ → List Triangle → (ℕ → Vector) → List Share → Type 0
VolumesStay n ts at shares = IsManifold ts → All (HasOneVolume n ts at) shares
