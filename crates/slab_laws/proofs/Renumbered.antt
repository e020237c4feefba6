-- The numbers in the whole of the vertices of a lower slab's own cells, and of those above.
use Rattle.std.proofs.Common.{◌≡◌, ℕ, ◌+◌, ◌-◌, ◌*◌, ◌/◌, ◌<◌, ◌≤◌, Bool, true, List, map, sym, ap, ◌∙◌, arith, ltb, ℤ, length, add-zero}
use Rattle.std.specs.List.{filter, flat_map, range_with_len, count_by}
use Rattle.std.proofs.lemmas.Bool.{and_parts, ltb-true}
use Rattle.iso_defs.specs.Lists.{below}
use Rattle.iso_defs.specs.Grid.{Grid, name_bound, point_count, is_cell, cells, IsSolid}
use Rattle.iso_defs.specs.Scratch.{crossing_edges, number_of, vertex_names, cell_loops, has_centre}
use Rattle.case_laws.proofs.Tests.{cell_passes}
use Rattle.case_laws.proofs.Wedges.{centre_test, centre_all}
use Rattle.triangle_laws.proofs.Lists.{In, In-filter, in_filter, In-flat_map, In-map, list_all_at}
use Rattle.triangle_laws.proofs.Counts.{count-append, count_agree, count-map}
use Rattle.mesh_laws.proofs.Cells.{range_at_least, range_in}
use Rattle.mesh_laws.proofs.Numbers.{count_less}
use Rattle.mesh_laws.proofs.Rows.{count_all, count_zero}
use Rattle.slab_laws.specs.Slabs.{slices, slice_size}
use Rattle.slab_laws.proofs.Parts.{above, cell_keys, keys}
use Rattle.slab_laws.proofs.Slices.{same_cell, next_below, height_low}
use Rattle.slab_laws.proofs.CellsCut.{own_cells}
use Rattle.slab_laws.proofs.Keys.{number_of_key, own_keys, keys_cut, ltb_more}

-- a vertex on an edge has a number below that of edges
pub number_under : (g : Grid) (s : ℕ → ℤ) (n : ℕ) → In n (vertex_names g s) → n < name_bound g
    → number_of g s n < length (crossing_edges g s)
number_under g s n i l =
    let m : number_of g s n < number_of g s (name_bound g + 0)
    = count_less (vertex_names g s) n (name_bound g + 0) i (omega arith) in
    let e : number_of g s (name_bound g + 0) ≡ length (crossing_edges g s) + count_by (λ u. ltb u 0) (keys g s)
    = number_of_key g s 0 in
    let none : count_by (λ u. ltb u 0) (keys g s) ≡ 0 = count_zero 0 (keys g s) (λ x _. omega arith) in
    omega (arith, m, e, none)

-- a loop of a cell is one of four
turn_low : (g : Grid) (s : ℕ → ℤ) (q : ℕ) (l : ℕ × List ℕ) → In l (cell_loops g s q) → l.0 < 4
turn_low g s q l i = ltb-true _ _ (and_parts _ _ (list_all_at _ (cell_loops g s q) l
    (cell_passes centre_test centre_all g s q) i)).0

-- so the keys of cells before one are below its own
key_under : (g : Grid) (s : ℕ → ℤ) (k : ℕ) (qs : List ℕ) → ((q : ℕ) → In q qs → q < k) → (x : ℕ)
    → In x (flat_map (cell_keys g s) qs) → x < 4 * k
key_under g s k qs few x i =
    let q : (q : ℕ) × In q qs × In x (cell_keys g s q) = In-flat_map (cell_keys g s) x qs i in
    let l : (l : ℕ × List ℕ) × In l (filter has_centre (cell_loops g s q.0)) × (x ≡ 4 * q.0 + l.0)
    = In-map (λ (l : ℕ × List ℕ). 4 * q.0 + l.0) x (filter has_centre (cell_loops g s q.0)) q.2 in
    let low : q.0 < k = few q.0 q.1 in
    let turn : l.0.0 < 4 = turn_low g s q.0 l.0 (In-filter has_centre l.0 (cell_loops g s q.0) l.1).0 in
    omega (arith, l.2)

module _ (g : Grid) (solid : IsSolid g) (s : ℕ → ℤ) (z : ℕ) (fits : z + 2 ≤ g.nz) where
  pub own_low : (q : ℕ) → In q (own_cells g solid z fits)
      → (q < slice_size g * z) × (is_cell (slices g (z + 2)) q ≡ true)
  unfolding own_cells
  own_low q i =
      let r : In q (range_with_len 0 (slice_size g * z)) × (is_cell (slices g (z + 2)) q ≡ true)
      = In-filter (is_cell (slices g (z + 2))) q _ i in
      let b : (0 ≤ q) × (q < 0 + slice_size g * z) = range_at_least 0 (slice_size g * z) q r.0 in
      (omega arith, r.1)

  -- an own cell is one of the grid with one slice less
  pub own_in : (q : ℕ) → In q (own_cells g solid z fits) → In q (cells (slices g (z + 1)))
  own_in q i =
      let o : (q < slice_size g * z) × (is_cell (slices g (z + 2)) q ≡ true) = own_low q i in
      let slice : q / slice_size g < z = height_low g solid z q (turned (g.nx * g.ny) z q o.0) in
      let a : is_cell (slices g (z + 2)) q ≡ is_cell g (q + slice_size g * 0)
      = same_cell g solid (z + 2) 0 q (omega arith) (wider (g.nx * g.ny) z 2 q o.0)
      (next_below g solid (z + 2) 0 (omega arith) q (wider (g.nx * g.ny) z 2 q o.0) (omega arith)) in
      let b : is_cell (slices g (z + 1)) q ≡ is_cell g (q + slice_size g * 0)
      = same_cell g solid (z + 1) 0 q (omega arith) (wider (g.nx * g.ny) z 1 q o.0)
      (next_below g solid (z + 1) 0 (omega arith) q (wider (g.nx * g.ny) z 1 q o.0) (omega arith)) in
      in_filter (is_cell (slices g (z + 1))) q (below (point_count (slices g (z + 1))))
      (range_in 0 (point_count (slices g (z + 1))) q (omega arith) (bound (g.nx * g.ny) z q o.0)) (b ∙ (sym a ∙ o.1))
    where
      turned : (a r n : ℕ) → n < a * r → n < r * a
      turned a r n l = omega arith

      wider : (a z m n : ℕ) → n < a * z → n < (z + m) * a
      wider a z m n l = let e : (z + m) * a ≡ a * z + m * a = omega arith in omega arith

      bound : (a z n : ℕ) → n < a * z → n < 0 + a * (z + 1)
      bound a z n l = let e : a * (z + 1) ≡ a * z + a = omega arith in omega arith

  -- how many keys are below one of the lower slab's own
  pub keys_low : (x : ℕ) → x < 4 * (slice_size g * z) → count_by (λ u. ltb u x) (keys g s)
      ≡ count_by (λ u. ltb u x) (own_keys g solid s z fits)
  keys_low x l =
      let k : ℕ = slice_size g * z in
      let own : List ℕ = own_keys g solid s z fits in
      let moved : List ℕ = map (λ y. y + 4 * k) (keys (slices g (g.nz - z)) (above g z s)) in
      let none : count_by (λ u. ltb u x) moved ≡ 0 = count_zero x moved (λ y i.
      (let m : (w : ℕ) × In w (keys (slices g (g.nz - z)) (above g z s)) × (y
      ≡ w + 4 * k) = In-map (λ y. y + 4 * k) y _ i in omega (arith, m.2))) in
      ap (count_by (λ u. ltb u x)) (keys_cut g solid s z fits)
      ∙ (count-append (λ u. ltb u x) own moved ∙ (ap (λ a. count_by (λ u. ltb u x) own + a) none
      ∙ add-zero (count_by (λ u. ltb u x) own)))

  -- and below one of what is above
  pub keys_high : (x : ℕ) → count_by (λ u. ltb u (x + 4 * (slice_size g * z))) (keys g s)
      ≡ length (own_keys g solid s z fits) + count_by (λ u. ltb u x) (keys (slices g (g.nz - z)) (above g z s))
  unfolding own_keys
  keys_high x =
      let k : ℕ = slice_size g * z in
      let own : List ℕ = own_keys g solid s z fits in
      let up : List ℕ = keys (slices g (g.nz - z)) (above g z s) in
      let test : ℕ → Bool = λ u. ltb u (x + 4 * k) in
      let all : count_by test own ≡ length own = count_all (x + 4 * k) own (λ y i.
      (let m : y < 4 * k = key_under (slices g (z + 2)) s k (own_cells g solid z fits) (λ q j. (own_low q j).0) y i in
      omega arith)) in
      ap (count_by test) (keys_cut g solid s z fits)
      ∙ (count-append test own (map (λ y. y + 4 * k) up)
      ∙ (ap (λ a. a + count_by test (map (λ y. y + 4 * k) up)) all
      ∙ ap (λ a. length own + a) (count-map test (λ y. y + 4 * k) up
      ∙ count_agree (λ y. ltb (y + 4 * k) (x + 4 * k)) (λ y. ltb y x) up (λ y _. (both y k ∙ ltb_more (4 * k) y x)))))
    where
      both : (y k : ℕ) → ltb (y + 4 * k) (x + 4 * k) ≡ ltb (4 * k + y) (4 * k + x)
      both y k = ap (λ m. ltb m (x + 4 * k)) (turn y k) ∙ ap (ltb (4 * k + y)) (turn x k)
        where
          turn : (a k : ℕ) → a + 4 * k ≡ 4 * k + a
          turn a k = omega arith
