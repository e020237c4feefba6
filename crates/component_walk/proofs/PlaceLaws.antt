-- The printed position of a vertex, by its number, is the stored one, by its name, less a pad's layer.
use Rattle.std.proofs.Common.{◌≡◌, ℕ, suc, ◌+◌, ◌-◌, ◌*◌, ◌/◌, ◌%◌, ◌<◌, ◌≤◌, pos, ◌-ℤ◌, Bool, true, false, cond, List, [], ◌∷◌, map, length, get_or, refl, sym, ◌∙◌, ap, subst, inl, inr, arith, ltb}
use Rattle.std.specs.List.{count_by, enumerate_from, filter, flat_map}
use Rattle.std.proofs.lemmas.Bool.{cases_Bool, le-ltb, lt-ltb, ltb-true}
use Rattle.std.proofs.lemmas.Int.{ints}
use Rattle.std.proofs.lemmas.List.{get_or-map, length-map}
use Rattle.iso_defs.specs.Cell.{case_loops, cell_edge, cell_joined, cell_signs}
use Rattle.iso_defs.specs.Grid.{cells, name_bound, is_crossing}
use Rattle.iso_defs.specs.Lists.{below}
use Rattle.iso_defs.specs.Place.{Position, centre_position, edge_position}
use Rattle.iso_defs.specs.Scratch.{cell_centres, cell_loops, centre_name, crossing_edges, has_centre, number_of, vertices}
use Rattle.triangle_laws.proofs.Counts.{count-cons, count_none}
use Rattle.triangle_laws.proofs.Lists.{In, In-filter, In-flat_map, In-left, In-map, In-right, in_filter, in_flat_map, in_map}
use Rattle.mesh_laws.proofs.Cells.{range_at_least}
use Rattle.mesh_laws.proofs.Oriented.{Ascending, vertices_ascend}
use Rattle.flat_mesh.specs.Faces.{loops_at}
use Rattle.flat_mesh.specs.Lattice.{Leveled, heights}
use Rattle.measure_laws.specs.Vectors.{Vector, minus}
use Rattle.measure.specs.Measures.{position, vector_of}
use Rattle.part_laws.specs.Printed.{printed_position, printed_positions}
use Rattle.part_laws.specs.Loops.{Loop, loops_in, mesh_loops}
use Rattle.part_laws.specs.Swept.{tip}
use Rattle.part_laws.proofs.Joined.{first_in}
use Rattle.part_laws.proofs.LoopLaws.{cell_loop}
use Rattle.part_laws.proofs.MeshParts.{named_long}
use Rattle.part_laws.proofs.Numbered.{loops_cross}
use Rattle.component_walk.specs.Sweep.{centre_at, named_position, vector_at}

abbrev names_of : List (ℕ × Position) → List ℕ
names_of vs = map (λ (v : ℕ × Position). v.0) vs

abbrev rank_in : List (ℕ × Position) → ℕ → ℕ
rank_in vs n = count_by (λ u. ltb u n) (names_of vs)

-- a vertex stands at the number of those with lesser names
found_at : (vs : List (ℕ × Position)) (w d : ℕ × Position) → Ascending (names_of vs) → In w vs → (rank_in vs w.0 < length vs) × (get_or vs (rank_in vs w.0) d ≡ w)
found_at [] w d a i = absurd i
found_at (x ∷ vs) w d a (inl e) =
    let name : w.0 ≡ x.0 = ap (λ (v : ℕ × Position). v.0) e in
    let none : count_by (λ u. ltb u w.0) (names_of vs) ≡ 0
    = count_none (λ u. ltb u w.0) (names_of vs) (λ y j h. (let l : x.0 < y = a.0 y j in let m : y < w.0 = ltb-true y w.0 h in omega (arith, l, m, name))) in
    let here : cond {A = ℕ} (ltb x.0 w.0) 1 0 ≡ 0 = ap (λ b. cond {A = ℕ} b 1 0) (le-ltb x.0 w.0 (omega (arith, name))) in
    let c : rank_in (x ∷ vs) w.0 ≡ cond (ltb x.0 w.0) 1 0 + rank_in vs w.0 = count-cons (λ u. ltb u w.0) x.0 (names_of vs) in
    let z : rank_in (x ∷ vs) w.0 ≡ 0 = omega (arith, c, here, none) in
    (omega (arith, z), ap (λ k. get_or (x ∷ vs) k d) z ∙ sym e)
found_at (x ∷ vs) w d a (inr i) =
    let r = found_at vs w d a.1 i in
    let here : cond {A = ℕ} (ltb x.0 w.0) 1 0 ≡ 1 = ap (λ b. cond {A = ℕ} b 1 0) (lt-ltb x.0 w.0 (a.0 w.0 (in_map (λ (v : ℕ × Position). v.0) w vs i))) in
    let c : rank_in (x ∷ vs) w.0 ≡ cond (ltb x.0 w.0) 1 0 + rank_in vs w.0 = count-cons (λ u. ltb u w.0) x.0 (names_of vs) in
    let z : rank_in (x ∷ vs) w.0 ≡ suc (rank_in vs w.0) = omega (arith, c, here) in
    (omega (arith, z, r.0), ap (λ k. get_or (x ∷ vs) k d) z ∙ r.1)

-- an element of a list stands at its number
numbered_at : (n : ℕ) (ls : List (List ℕ)) (l : ℕ × List ℕ) → In l (enumerate_from n ls) → (n ≤ l.0) × (get_or ls (l.0 - n) [] ≡ l.1)
numbered_at n [] l i = absurd i
numbered_at n (k ∷ ks) l (inl e) =
    let z : l.0 ≡ n = ap (λ (m : ℕ × List ℕ). m.0) e in
    (omega (arith, z), ap (λ m. get_or (k ∷ ks) m []) (let y : l.0 - n ≡ 0 = omega (arith, z) in y) ∙ sym (ap (λ (m : ℕ × List ℕ). m.1) e))
numbered_at n (k ∷ ks) l (inr i) =
    let r = numbered_at (n + 1) ks l i in
    (omega (arith, r.0), ap (λ m. get_or (k ∷ ks) m []) (let y : l.0 - n ≡ suc (l.0 - (n + 1)) = omega (arith, r.0) in y) ∙ r.1)

-- the first point off a pad's layer
abbrev pub corner : Bool → Vector
corner padded = (cond padded (pos 1000) (pos 0), cond padded (pos 1000) (pos 0), cond padded (pos 1000) (pos 0))

printed_less : (padded : Bool) (p : Position) → vector_of (printed_position padded p) ≡ minus (vector_at p) (corner padded)
printed_less true p = refl
printed_less false p =
    let along : (n : ℕ) → pos n ≡ pos n -ℤ pos 0 = λ n. omega (arith, ints) in
    λ i. (along p.0 i, along p.1 i, along p.2 i)

module _ (v : Leveled) (padded : Bool) where
  -- the printed position of the vertex of a name
  abbrev pub placed : ℕ → Vector
  placed n = position (printed_positions padded (vertices v.grid (heights v))) (number_of v.grid (heights v) n)

  -- and the stored one, less the layer
  abbrev pub stored_less : ℕ → Vector
  stored_less n = minus (named_position v n) (corner padded)

  vertex_placed : (w : ℕ × Position) → In w (vertices v.grid (heights v)) → placed w.0 ≡ minus (vector_at w.1) (corner padded)
  vertex_placed w i =
      let vs : List (ℕ × Position) = vertices v.grid (heights v) in
      let r = found_at vs w w (vertices_ascend v.grid (heights v)) i in
      ap vector_of (get_or-map (λ (u : ℕ × Position). printed_position padded u.1) vs (rank_in vs w.0) w [] r.0 ∙ ap (λ (u : ℕ × Position). printed_position padded u.1) r.1)
      ∙ printed_less padded w.1

  edge_placed : (n : ℕ) → In n (crossing_edges v.grid (heights v)) → placed n ≡ stored_less n
  unfolding named_position
  edge_placed n i =
      let w : ℕ × Position = (n, edge_position v.grid (heights v) n) in
      let known : In w (vertices v.grid (heights v))
      = In-left w (map (λ n. (n, edge_position v.grid (heights v) n)) (crossing_edges v.grid (heights v))) (flat_map (cell_centres v.grid (heights v)) (cells v.grid))
      (in_map (λ n. (n, edge_position v.grid (heights v) n)) n (crossing_edges v.grid (heights v)) i) in
      let r : (0 ≤ n) × (n < 0 + name_bound v.grid) = range_at_least 0 (name_bound v.grid) n (In-filter (is_crossing v.grid (heights v)) n (below (name_bound v.grid)) i).0 in
      vertex_placed w known
      ∙ sym (ap (λ b. minus (vector_at (cond b (edge_position v.grid (heights v) n) (centre_at v (n - name_bound v.grid)))) (corner padded)) (lt-ltb n (name_bound v.grid) (omega (arith, r.1))))

  -- the centre of a loop of a cell, by its name
  centre_is : (q : ℕ) (l : ℕ × List ℕ) → In l (cell_loops v.grid (heights v) q) → centre_at v (4 * q + l.0) ≡ centre_position v.grid (heights v) (map (cell_edge v.grid q) l.1)
  unfolding loops_at
  centre_is q l i =
      let low : l.0 < 4 = (cell_loop v.grid (heights v) q l i).turn in
      let ls : ℕ → List (List ℕ) = λ q. case_loops (cell_signs v.grid (heights v) q) (cell_joined v.grid (heights v) q) in
      let at : ℕ → ℕ → Position = λ q t. centre_position v.grid (heights v) (map (cell_edge v.grid q) (get_or (ls q) t [])) in
      let cell : (4 * q + l.0) / 4 ≡ q = omega (arith, low) in
      let turn : (4 * q + l.0) % 4 ≡ l.0 - 0 = omega (arith, low) in
      (λ i. at (cell i) (turn i)) ∙ ap (λ es. centre_position v.grid (heights v) (map (cell_edge v.grid q) es)) (numbered_at 0 (ls q) l i).1

  centre_placed : (q : ℕ) (l : ℕ × List ℕ) → In q (cells v.grid) → In l (cell_loops v.grid (heights v) q) → has_centre l ≡ true
      → placed (centre_name v.grid q l.0) ≡ stored_less (centre_name v.grid q l.0)
  unfolding named_position
  centre_placed q l i j h =
      let n : ℕ = centre_name v.grid q l.0 in
      let place_of : ℕ × List ℕ → ℕ × Position = λ (l : ℕ × List ℕ). (centre_name v.grid q l.0, centre_position v.grid (heights v) (map (cell_edge v.grid q) l.1)) in
      let known : In (place_of l) (vertices v.grid (heights v))
      = In-right (place_of l) (map (λ n. (n, edge_position v.grid (heights v) n)) (crossing_edges v.grid (heights v))) (flat_map (cell_centres v.grid (heights v)) (cells v.grid))
      (in_flat_map (cell_centres v.grid (heights v)) (place_of l) q (cells v.grid) i
      (in_map place_of l (filter has_centre (cell_loops v.grid (heights v) q)) (in_filter has_centre l (cell_loops v.grid (heights v) q) j h))) in
      let here : n - name_bound v.grid ≡ 4 * q + l.0 = omega arith in
      vertex_placed (place_of l) known
      ∙ (ap (λ p. minus (vector_at p) (corner padded)) (sym (centre_is q l j) ∙ ap (centre_at v) (sym here))
      ∙ sym (ap (λ b. minus (vector_at (cond b (edge_position v.grid (heights v) n) (centre_at v (n - name_bound v.grid)))) (corner padded)) (le-ltb n (name_bound v.grid) (omega arith))))

  module _ (l : Loop) (known : In l (mesh_loops v.grid (heights v))) where
    -- the vertices of a loop of the mesh
    pub round_placed : (n : ℕ) → In n l.1 → placed n ≡ stored_less n
    round_placed n i = edge_placed n (loops_cross v.grid (heights v) l n known i)

    -- and the point that it is spanned from
    pub tip_placed : placed (tip l) ≡ stored_less (tip l)
    tip_placed =
        elim (cases_Bool (has_centre l)) [
          | inl e ↦ subst (λ b. P (cond b l.0 (get_or l.1 0 0))) (sym e) (centred e)
          | inr e ↦ subst (λ b. P (cond b l.0 (get_or l.1 0 0))) (sym e) (round_placed (get_or l.1 0 0) (first_in l.1 (named_long v.grid (heights v) l known)))
        ]
      where
        P : ℕ → Type 0
        P n = placed n ≡ stored_less n

        centred : has_centre l ≡ true → P l.0
        centred e =
            let q : (q : ℕ) × In q (cells v.grid) × In l (loops_in v.grid (heights v) q) = In-flat_map (loops_in v.grid (heights v)) l (cells v.grid) known in
            let made : ℕ × List ℕ → Loop = λ (k : ℕ × List ℕ). (centre_name v.grid q.0 k.0, map (cell_edge v.grid q.0) k.1) in
            let k : (k : ℕ × List ℕ) × In k (cell_loops v.grid (heights v) q.0) × (l ≡ made k) = In-map made l (cell_loops v.grid (heights v) q.0) q.2 in
            let size : length l.1 ≡ length k.0.1 = ap (λ (m : Loop). length m.1) k.2 ∙ length-map k.0.1 (cell_edge v.grid q.0) in
            subst P (sym (ap (λ (m : Loop). m.0) k.2)) (centre_placed q.0 k.0 q.1 k.1 (sym (ap (λ n. ltb 3 n) size) ∙ e))
