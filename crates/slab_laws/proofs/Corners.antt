-- The numbers in the whole of the corners of triangles.
use Rattle.std.proofs.Common.{◌≡◌, ℕ, ◌+◌, ◌-◌, ◌*◌, ◌/◌, ◌<◌, ◌≤◌, cond, sym, ap, ◌∙◌, subst, inl, inr, arith, ltb, ℤ, length, zero-add}
use Rattle.std.specs.List.{count_by}
use Rattle.std.proofs.lemmas.Bool.{lt-ltb, le-ltb, cases_lt}
use Rattle.iso_defs.specs.Grid.{Grid, name_bound, cells, IsSolid}
use Rattle.iso_defs.specs.Cell.{cell_edge, corner_point, edge_corner}
use Rattle.iso_defs.specs.Scratch.{crossing_edges, number_of, vertex_names, vertex_name}
use Rattle.triangle_laws.proofs.Lists.{In}
use Rattle.mesh_laws.proofs.Names.{edge_in, name_of_edge, name_of_centre}
use Rattle.slab_laws.specs.Slabs.{slices, slice_size, renumbered}
use Rattle.slab_laws.proofs.Parts.{above, keys, lower_solid, group}
use Rattle.slab_laws.proofs.EdgesCut.{own_edges}
use Rattle.slab_laws.proofs.CellsCut.{own_cells}
use Rattle.slab_laws.proofs.Numbers.{number_low, number_high}
use Rattle.slab_laws.proofs.Keys.{number_of_key, own_keys}
use Rattle.slab_laws.proofs.Renumbered.{number_under, own_low, own_in, keys_low, keys_high}

-- renumbering, by whether a number is that of an edge
pub under : (edges first second n : ℕ) → n < edges → renumbered edges first second n ≡ first + n
under edges first second n l = ap (λ b. cond b (first + n) (second + (n - edges))) (lt-ltb n edges l)

pub over : (edges first second c : ℕ) → renumbered edges first second (edges + c) ≡ second + c
over edges first second c =
    ap (λ b. cond b (first + (edges + c)) (second + (edges + c - edges))) (le-ltb (edges + c) edges (omega arith))
    ∙ ap (λ m. second + m) (back edges c)
  where
    back : (a b : ℕ) → a + b - a ≡ b
    back a b = omega arith

module _ (g : Grid) (solid : IsSolid g) (s : ℕ → ℤ) (z : ℕ) (fits : z + 2 ≤ g.nz) where
  -- a corner of an own cell of the lower slab
  pub low_corner : (q v : ℕ) → In q (own_cells g solid z fits) → v < 16
      → In (vertex_name (slices g (z + 2)) q v) (vertex_names (slices g (z + 2)) s)
      → number_of g s (vertex_name g q v)
      ≡ renumbered (length (crossing_edges (slices g (z + 2)) s)) 0 (length (crossing_edges g s))
      (number_of (slices g (z + 2)) s (vertex_name (slices g (z + 2)) q v))
  unfolding own_keys own_cells
  low_corner q v i l vertex =
      elim (cases_lt v 12) [
        | inl a ↦ on_edge a
        | inr a ↦ at_centre a
      ]
    where
      on_edge : v < 12 → number_of g s (vertex_name g q v)
          ≡ renumbered (length (crossing_edges (slices g (z + 2)) s)) 0 (length (crossing_edges g s))
          (number_of (slices g (z + 2)) s (vertex_name (slices g (z + 2)) q v))
      on_edge a =
          let n : ℕ = cell_edge g q v in
          let bound : n < 3 * (slice_size g * (z + 1)) = edge_in (slices g (z + 1)) q v (own_in g solid s z fits q i)
          a in
          let name : vertex_name (slices g (z + 2)) q v ≡ n = name_of_edge (slices g (z + 2)) q v a in
          let here : In n (vertex_names (slices g (z + 2)) s)
          = subst (λ m. In m (vertex_names (slices g (z + 2)) s)) name vertex in
          let small : number_of (slices g (z + 2)) s n < length (crossing_edges (slices g (z + 2)) s)
          = number_under (slices g (z + 2)) s n here (wider (g.nx * g.ny) z n bound) in
          ap (number_of g s) (name_of_edge g q v a)
          ∙ (number_low g solid s z fits n bound
          ∙ (sym (zero-add (number_of (slices g (z + 2)) s n))
          ∙ (sym (under (length (crossing_edges (slices g (z + 2)) s)) 0 (length (crossing_edges g s))
          (number_of (slices g (z + 2)) s n) small)
          ∙ sym (ap (λ m. renumbered (length (crossing_edges (slices g (z + 2)) s)) 0 (length (crossing_edges g s))
          (number_of (slices g (z + 2)) s m)) name))))
        where
          wider : (a z n : ℕ) → n < 3 * (a * (z + 1)) → n < 3 * (a * (z + 2))
          wider a z n l = let e : a * (z + 2) ≡ a * (z + 1) + a = omega arith in omega arith

      at_centre : 12 ≤ v → number_of g s (vertex_name g q v)
          ≡ renumbered (length (crossing_edges (slices g (z + 2)) s)) 0 (length (crossing_edges g s))
          (number_of (slices g (z + 2)) s (vertex_name (slices g (z + 2)) q v))
      at_centre a =
          let x : ℕ = 4 * q + (v - 12) in
          let low : q < slice_size g * z = (own_low g solid s z fits q i).0 in
          let key : x < 4 * (slice_size g * z) = omega arith in
          let there : number_of g s (name_bound g + x) ≡ length (crossing_edges g s) + count_by (λ u. ltb u x)
          (keys g s) = number_of_key g s x in
          let here : number_of (slices g (z + 2)) s (name_bound (slices g (z + 2)) + x)
          ≡ length (crossing_edges (slices g (z + 2)) s) + count_by (λ u. ltb u x) (keys (slices g (z + 2)) s)
          = number_of_key (slices g (z + 2)) s x in
          let same : count_by (λ u. ltb u x) (keys g s) ≡ count_by (λ u. ltb u x) (keys (slices g (z + 2)) s)
          = keys_low g solid s z fits x key ∙ sym (keys_low (slices g (z + 2)) (lower_solid g solid z) s z
          (omega arith) x key) in
          ap (number_of g s) (name_of_centre g q v a)
          ∙ (there ∙ (ap (λ c. length (crossing_edges g s) + c) same
          ∙ (sym (over (length (crossing_edges (slices g (z + 2)) s)) 0 (length (crossing_edges g s))
          (count_by (λ u. ltb u x) (keys (slices g (z + 2)) s)))
          ∙ (sym (ap (renumbered (length (crossing_edges (slices g (z + 2)) s)) 0 (length (crossing_edges g s))) here)
          ∙ sym (ap (λ m. renumbered (length (crossing_edges (slices g (z + 2)) s)) 0 (length (crossing_edges g s))
          (number_of (slices g (z + 2)) s m))
          (name_of_centre (slices g (z + 2)) q v a))))))

  -- a corner of a cell above
  pub high_corner : (q v : ℕ) → In q (cells (slices g (g.nz - z))) → v < 16
      → In (vertex_name (slices g (g.nz - z)) q v) (vertex_names (slices g (g.nz - z)) (above g z s))
      → number_of g s (vertex_name g (q + slice_size g * z) v)
      ≡ renumbered (length (crossing_edges (slices g (g.nz - z)) (above g z s))) (length (own_edges g solid s z fits))
      (length (crossing_edges g s) + length (own_keys g solid s z fits))
      (number_of (slices g (g.nz - z)) (above g z s) (vertex_name (slices g (g.nz - z)) q v))
  high_corner q v i l vertex =
      elim (cases_lt v 12) [
        | inl a ↦ on_edge a
        | inr a ↦ at_centre a
      ]
    where
      on_edge : v < 12 → number_of g s (vertex_name g (q + slice_size g * z) v)
          ≡ renumbered (length (crossing_edges (slices g (g.nz - z)) (above g z s)))
          (length (own_edges g solid s z fits)) (length (crossing_edges g s) + length (own_keys g solid s z fits))
          (number_of (slices g (g.nz - z)) (above g z s) (vertex_name (slices g (g.nz - z)) q v))
      on_edge a =
          let n : ℕ = cell_edge (slices g (g.nz - z)) q v in
          let bound : n < name_bound (slices g (g.nz - z)) = edge_in (slices g (g.nz - z)) q v i a in
          let name : vertex_name (slices g (g.nz - z)) q v ≡ n = name_of_edge (slices g (g.nz - z)) q v a in
          let here : In n (vertex_names (slices g (g.nz - z)) (above g z s))
          = subst (λ m. In m (vertex_names (slices g (g.nz - z)) (above g z s))) name vertex in
          let small : number_of (slices g (g.nz - z)) (above g z s) n < length
          (crossing_edges (slices g (g.nz - z)) (above g z s))
          = number_under (slices g (g.nz - z)) (above g z s) n here bound in
          ap (number_of g s) (name_of_edge g (q + slice_size g * z) v a
          ∙ turn (corner_point g 0 (edge_corner v)) (v / 4) q (slice_size g * z))
          ∙ (number_high g solid s z fits n bound
          ∙ (sym (under (length (crossing_edges (slices g (g.nz - z)) (above g z s)))
          (length (own_edges g solid s z fits))
          (length (crossing_edges g s) + length (own_keys g solid s z fits))
          (number_of (slices g (g.nz - z)) (above g z s) n) small)
          ∙ sym (ap (λ m. renumbered (length (crossing_edges (slices g (g.nz - z)) (above g z s)))
          (length (own_edges g solid s z fits)) (length (crossing_edges g s) + length (own_keys g solid s z fits))
          (number_of (slices g (g.nz - z)) (above g z s) m)) name)))
        where
          turn : (r a q k : ℕ) → cell_edge g (q + slice_size g * z) v
              ≡ cell_edge (slices g (g.nz - z)) q v + 3 * (slice_size g * z)
          turn r a q k = omega arith

      at_centre : 12 ≤ v → number_of g s (vertex_name g (q + slice_size g * z) v)
          ≡ renumbered (length (crossing_edges (slices g (g.nz - z)) (above g z s)))
          (length (own_edges g solid s z fits)) (length (crossing_edges g s) + length (own_keys g solid s z fits))
          (number_of (slices g (g.nz - z)) (above g z s) (vertex_name (slices g (g.nz - z)) q v))
      at_centre a =
          let k : ℕ = slice_size g * z in
          let x : ℕ = 4 * q + (v - 12) in
          let more : 4 * (q + k) + (v - 12) ≡ x + 4 * k = omega arith in
          let there : number_of g s (name_bound g + (x + 4 * k))
          ≡ length (crossing_edges g s) + count_by (λ u. ltb u (x + 4 * k)) (keys g s)
          = number_of_key g s (x + 4 * k) in
          let here : number_of (slices g (g.nz - z)) (above g z s) (name_bound (slices g (g.nz - z)) + x)
          ≡ length (crossing_edges (slices g (g.nz - z)) (above g z s)) + count_by (λ u. ltb u x)
          (keys (slices g (g.nz - z)) (above g z s))
          = number_of_key (slices g (g.nz - z)) (above g z s) x in
          ap (number_of g s) (name_of_centre g (q + k) v a ∙ ap (λ m. name_bound g + m) more)
          ∙ (there ∙ (ap (λ c. length (crossing_edges g s) + c) (keys_high g solid s z fits x)
          ∙ (group (length (crossing_edges g s)) (length (own_keys g solid s z fits))
          (count_by (λ u. ltb u x) (keys (slices g (g.nz - z)) (above g z s)))
          ∙ (sym (over (length (crossing_edges (slices g (g.nz - z)) (above g z s)))
          (length (own_edges g solid s z fits))
          (length (crossing_edges g s) + length (own_keys g solid s z fits))
          (count_by (λ u. ltb u x) (keys (slices g (g.nz - z)) (above g z s))))
          ∙ (sym (ap (renumbered (length (crossing_edges (slices g (g.nz - z)) (above g z s)))
          (length (own_edges g solid s z fits)) (length (crossing_edges g s) + length (own_keys g solid s z fits)))
          here)
          ∙ sym (ap (λ m. renumbered (length (crossing_edges (slices g (g.nz - z)) (above g z s)))
          (length (own_edges g solid s z fits)) (length (crossing_edges g s) + length (own_keys g solid s z fits))
          (number_of (slices g (g.nz - z)) (above g z s) m)) (name_of_centre (slices g (g.nz - z)) q v a)))))))
