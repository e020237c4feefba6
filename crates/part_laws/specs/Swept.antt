-- What is measured of loops, by the positions of their vertices.
use Rattle.std.specs.Prelude.{ℕ, ℤ, Bool, List, map, slice_index, if◌then◌else◌}
use Rattle.iso_defs.specs.Lists.{around}
use Rattle.iso_defs.specs.Grid.{Grid}
use Rattle.iso_defs.specs.Scratch.{crossing_edges, has_centre, number_of}
use Rattle.iso_defs.specs.Manifold.{share_outer_plane}
use Rattle.measure_laws.specs.Vectors.{Vector, cross, dot, total}
use Rattle.measure.specs.declared.share.Share.{Share}
use Rattle.measure.specs.Measures.{coordinates}
use Rattle.part_laws.specs.Loops.{Loop, mesh_loops, rims_where}
use Rattle.part_laws.specs.Parts.{classes, class_loops}

-- the sum of the vector products of each two neighbours: twice the area that a loop spans, whatever point it is spanned from
abbrev pub swept : (ℕ → Vector) → List ℕ → Vector
swept at vs = (
  total (λ (p : ℕ × ℕ). (cross (at p.0) (at p.1)).0) (around vs),
  total (λ (p : ℕ × ℕ). (cross (at p.0) (at p.1)).1) (around vs),
  total (λ (p : ℕ × ℕ). (cross (at p.0) (at p.1)).2) (around vs),
)

-- the point that a loop is spanned from: its centre, or its first vertex
abbrev pub tip : Loop → ℕ
tip l = if has_centre l then l.0 else slice_index l.1 0

-- six times the signed volume between the origin and a loop
abbrev pub six_of : (ℕ → Vector) → Loop → ℤ
six_of at l = dot (at (tip l)) (swept at l.1)

-- twice the area of loops, as a vector
abbrev pub area_round : (ℕ → Vector) → List Loop → Vector
area_round at ls = (
  total (λ (l : Loop). (swept at l.1).0) ls,
  total (λ (l : Loop). (swept at l.1).1) ls,
  total (λ (l : Loop). (swept at l.1).2) ls,
)

-- the share of loops
abbrev pub share_round : (ℕ → ℕ → Bool) → (ℕ → Vector) → ℕ → List Loop → Share
share_round in_outer_plane at least ls = record {
  least = least;
  six = total (six_of at) ls;
  area = coordinates (area_round at ls);
  border = rims_where in_outer_plane ls;
}

-- the shares of the classes of loops whose crossing edges are these, each with a number
abbrev pub loop_measures : (ℕ → ℕ) → List ℕ → (ℕ → ℕ → Bool) → List Loop → (ℕ → Vector) → List Share
loop_measures number edges in_outer_plane ls at = map (λ k. share_round in_outer_plane at (number k) (class_loops ls k))
    (classes edges ls)

-- those of the loops of a field on a grid, with positions by numbers of vertices
abbrev pub mesh_shares : Grid → (ℕ → ℤ) → (ℕ → Vector) → List Share
mesh_shares g s at = loop_measures (number_of g s) (crossing_edges g s) (share_outer_plane g) (mesh_loops g s)
    (λ v. at (number_of g s v))
