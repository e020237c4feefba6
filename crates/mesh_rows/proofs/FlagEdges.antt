-- The flags of the points of a row, and its crossing edges by them.
use Rattle.std.proofs.Common.{◌≡◌, ℕ, ◌+◌, ◌*◌, ◌<◌, List, All, map, take, length, get_or, refl, sym, subst, ◌∙◌, ap, arith}
use Rattle.std.proofs.lemmas.List.{ext_get_or, get_or-take, get_or_default}
use Rattle.std.proofs.lemmas.List.FromFn.{get_or-map-range_with_len}
use Rattle.crossing_edges.specs.Flags.{flags_at, flags_from}
use Rattle.crossing_edges.proofs.Counting.{length-flags_from}
use Rattle.crossing_edges.proofs.OffsetEdges.{names_among}
use Rattle.flat_mesh.specs.Lattice.{Leveled, heights}
use Rattle.flat_mesh.specs.Rows.{row_start}
use Rattle.flat_mesh.proofs.Known.{flags_low}
use Rattle.row_bits.specs.Edges.{edges_among}
use Rattle.mesh_rows.specs.Rows.{AreEdges, AreFlags}

-- flags by index are the list of flags
pub flags_list : (v : Leveled) (y z : ℕ) (flags : List ℕ) → length flags ≡ v.grid.nx → AreFlags v y z flags → flags ≡ flags_from v.grid (heights v) (row_start v.grid y z) v.grid.nx
flags_list v y z flags len each =
    ext_get_or 0 flags (flags_from v.grid (heights v) (row_start v.grid y z) v.grid.nx) (len ∙ sym (length-flags_from v.grid (heights v) (row_start v.grid y z) v.grid.nx))
    (λ i h. each i (omega arith)
    ∙ sym (get_or-map-range_with_len (flags_at v.grid (heights v)) (row_start v.grid y z) v.grid.nx i (row_start v.grid y z + i) 0 (omega arith) refl))

pub flags_small : (v : Leveled) (y z : ℕ) (flags : List ℕ) → length flags ≡ v.grid.nx → AreFlags v y z flags → All (λ f. f < 8) flags
flags_small v y z flags len each k d low =
    let within : k < v.grid.nx = omega arith in
    subst (λ f. f < 8) (sym (get_or_default flags k d 0 low ∙ each k within)) (flags_low v.grid (heights v) (row_start v.grid y z + k))

-- the offsets by the flags of a row are those of its crossing edges
pub edges_are : (v : Leveled) (y z : ℕ) (flags edges : List ℕ) → AreFlags v y z flags → edges ≡ edges_among flags 0 v.grid.nx → AreEdges v y z edges
edges_are v y z flags edges are same =
    let start : ℕ = row_start v.grid y z in
    record { names = ap (map (λ e. 3 * start + e)) same ∙ names_among v.grid (heights v) start flags v.grid.nx (λ x low. are x low) }

-- the flags at the front of a buffer
pub front_flags : (v : Leveled) (y z n : ℕ) (flags front : List ℕ) → n ≡ v.grid.nx → front ≡ take n flags → AreFlags v y z flags → AreFlags v y z front
front_flags v y z n flags front all same are x low = ap (λ l. get_or l x 0) same ∙ (get_or-take n flags x 0 (omega arith) ∙ are x low)

-- the edges that are listed by these flags
pub listed_by : (v : Leveled) (y z n : ℕ) (flags front edges : List ℕ) → n ≡ v.grid.nx → length front ≡ v.grid.nx → front ≡ take n flags → AreFlags v y z flags → edges ≡ edges_among front 0 (length front) → AreEdges v y z edges
listed_by v y z n flags front edges all count same are listed =
    edges_are v y z front edges (front_flags v y z n flags front all same are) (listed ∙ ap (edges_among front 0) count)
