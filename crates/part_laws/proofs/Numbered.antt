-- The numbers of the vertices of loops: those of lattice edges first, then the centres in the order of their loops.
use Rattle.std.proofs.Common.{◌≡◌, ℕ, ◌+◌, ◌-◌, ◌<◌, ◌≤◌, ◌⊎◌, Bool, true, false, cond, List, [], ◌∷◌, ◌++◌, map, length, refl, sym, ◌∙◌, ap, subst, inl, inr, arith, ltb, nat_lt, ℤ, get_or, slice_index, length-append}
use Rattle.std.specs.List.{filter, flat_map, count_by, range_with_len}
use Rattle.std.proofs.lemmas.Bool.{and_left, and_right, ltb-true, le-ltb, lt-ltb, cases_eq}
use Rattle.std.proofs.lemmas.List.{length-map, map-append}
use Rattle.std.proofs.lemmas.List.Sums.{count_by-le-length}
use Rattle.iso_defs.specs.Lists.{below, around}
use Rattle.iso_defs.specs.Grid.{Grid, cells, name_bound}
use Rattle.iso_defs.specs.Cell.{Triangle, cell_edge, loop_triangles}
use Rattle.iso_defs.specs.Place.{Position, edge_position, centre_position}
use Rattle.iso_defs.specs.Scratch.{cell_centres, cell_loops, cell_triangles, centre_name, crossing_edges, has_centre, named_triangles, number_of, on_corners, vertex_name, vertex_names, vertices}
use Rattle.iso_defs.specs.Manifold.{share_outer_plane}
use Rattle.iso_defs.specs.Verdict.{in_outer_plane}
use Rattle.triangle_laws.proofs.Lists.{In, In-map, In-flat_map, In-filter, In-append, in_map, in_flat_map, in_filter, In-left, In-right}
use Rattle.triangle_laws.proofs.Counts.{count-cons, count-append, count_none}
use Rattle.mesh_laws.proofs.Names.{edge_in, name_of_edge}
use Rattle.mesh_laws.proofs.Directed.{local}
use Rattle.mesh_laws.proofs.Numbers.{Vertices, triangle_vertices}
use Rattle.mesh_laws.proofs.Oriented.{Ascending, vertices_ascend, vertex_at}
use Rattle.part_laws.specs.Loops.{Loop, loops_in, mesh_loops}
use Rattle.part_laws.proofs.Rounds.{map_map, map_flat, flat_agree, filter_flat, filter_of_map, of_three, of_more, three_are, step_at}
use Rattle.part_laws.proofs.LoopLaws.{CellLoop, cell_loop, numbered, numbered_loops}

-- the number of the element at a place of an ascending list is the place
rank_split : (xs : List ℕ) (y : ℕ) (ys : List ℕ) → Ascending (xs ++ y ∷ ys) → count_by (λ u. ltb u y) (xs ++ y ∷ ys) ≡ length xs
rank_split [] y ys a =
    count_none (λ u. ltb u y) (y ∷ ys) (λ z i e. let l : z < y = ltb-true z y e in elim i [
      | inl q ↦ absurd (omega arith)
      | inr j ↦ (let m : y < z = a.0 z j in absurd (omega arith))
    ])
rank_split (x ∷ xs) y ys a =
    let l : x < y = a.0 y (In-right y xs (y ∷ ys) (inl refl)) in
    let r : count_by (λ u. ltb u y) (xs ++ y ∷ ys) ≡ length xs = rank_split xs y ys a.1 in
    let c : count_by (λ u. ltb u y) (x ∷ (xs ++ y ∷ ys)) ≡ cond (ltb x y) 1 0 + count_by (λ u. ltb u y) (xs ++ y ∷ ys) = count-cons (λ u. ltb u y) x (xs ++ y ∷ ys) in
    let h : cond {A = ℕ} (ltb x y) 1 0 ≡ 1 = ap (λ b. cond b 1 0) (lt-ltb x y l) in
    omega arith

-- and those of its end are the last places
ranks : (all xs ys : List ℕ) → all ≡ xs ++ ys → Ascending all → map (λ v. count_by (λ u. ltb u v) all) ys ≡ range_with_len (length xs) (length ys)
ranks all xs [] e a = refl
ranks all xs (y ∷ ys) e a =
    let h : count_by (λ u. ltb u y) all ≡ length xs = subst (λ l. count_by (λ u. ltb u y) l ≡ length xs) (sym e) (rank_split xs y ys (subst Ascending e a)) in
    let n : length (xs ++ y ∷ []) ≡ length xs + 1 = length-append xs (y ∷ []) in
    ap (λ k. k ∷ map (λ v. count_by (λ u. ltb u v) all) ys) h
    ∙ ap (λ l. length xs ∷ l) (ranks all (xs ++ y ∷ []) ys (e ∙ regroup xs) a ∙ ap (λ k. range_with_len k (length ys)) n)
  where
    regroup : (xs : List ℕ) → xs ++ y ∷ ys ≡ (xs ++ y ∷ []) ++ ys
    regroup [] = refl
    regroup (x ∷ xs) = ap (λ l. x ∷ l) (regroup xs)

map_itself : (xs : List ℕ) → map (λ n. n) xs ≡ xs
map_itself [] = refl
map_itself (x ∷ xs) = ap (λ l. x ∷ l) (map_itself xs)

-- the vertices on lattice edges
abbrev pub edge_count : Grid → (ℕ → ℤ) → ℕ
edge_count g s = length (crossing_edges g s)

module _ (g : Grid) (s : ℕ → ℤ) where
  abbrev cell_centre_names : ℕ → List ℕ
  cell_centre_names q = map (λ (l : ℕ × List ℕ). centre_name g q l.0) (filter has_centre (cell_loops g s q))

  abbrev centre_names : List ℕ
  centre_names = flat_map cell_centre_names (cells g)

  names_are : vertex_names g s ≡ crossing_edges g s ++ centre_names
  names_are =
      let first : ℕ × Position → ℕ = λ (v : ℕ × Position). v.0 in
      map-append first (map (λ n. (n, edge_position g s n)) (crossing_edges g s)) (flat_map (cell_centres g s) (cells g))
      ∙ (ap (λ l. l ++ map first (flat_map (cell_centres g s) (cells g))) (map_map first (λ n. (n, edge_position g s n)) (crossing_edges g s) ∙ map_itself (crossing_edges g s))
      ∙ ap (λ l. crossing_edges g s ++ l)
      (map_flat first (cell_centres g s) (cells g)
      ∙ flat_agree (λ q. map first (cell_centres g s q)) cell_centre_names (cells g)
      (λ q i. map_map first (λ (l : ℕ × List ℕ). (centre_name g q l.0, centre_position g s (map (cell_edge g q) l.1))) (filter has_centre (cell_loops g s q)))))

  names_counted : length (vertices g s) ≡ edge_count g s + length centre_names
  names_counted =
      sym (length-map (vertices g s) (λ (v : ℕ × Position). v.0)) ∙ (ap length names_are ∙ length-append (crossing_edges g s) centre_names)

  high : (v : ℕ) → In v centre_names → name_bound g ≤ v
  high v i =
      let q : (q : ℕ) × In q (cells g) × In v (cell_centre_names q) = In-flat_map cell_centre_names v (cells g) i in
      let l : (l : ℕ × List ℕ) × In l (filter has_centre (cell_loops g s q.0)) × (v ≡ centre_name g q.0 l.0) = In-map (λ (l : ℕ × List ℕ). centre_name g q.0 l.0) v (filter has_centre (cell_loops g s q.0)) q.2 in
      omega (arith, l.2)

  -- the number of the vertex of a lattice edge is less than the number of those
  edge_low : (v : ℕ) → In v (vertex_names g s) → v < name_bound g → number_of g s v < edge_count g s
  edge_low v i l =
      let c : count_by (λ u. ltb u v) (crossing_edges g s ++ centre_names) ≡ count_by (λ u. ltb u v) (crossing_edges g s) + count_by (λ u. ltb u v) centre_names
      = count-append (λ u. ltb u v) (crossing_edges g s) centre_names in
      let z : count_by (λ u. ltb u v) centre_names ≡ 0
      = count_none (λ u. ltb u v) centre_names (λ u j e. let m : u < v = ltb-true u v e in let k : name_bound g ≤ u = high u j in absurd (omega arith)) in
      let e : number_of g s v ≡ count_by (λ u. ltb u v) (crossing_edges g s ++ centre_names) = ap (count_by (λ u. ltb u v)) names_are in
      let f : In v (crossing_edges g s)
      = elim (In-append v (crossing_edges g s) centre_names (subst (λ ns. In v ns) names_are i)) [
        | inl j ↦ j
        | inr j ↦ (let k : name_bound g ≤ v = high v j in absurd (omega arith))
      ] in
      let d : count_by (λ u. ltb u v) (crossing_edges g s) < length (crossing_edges g s) = left_out (crossing_edges g s) f in
      omega arith
    where
      left_out : (xs : List ℕ) → In v xs → count_by (λ u. ltb u v) xs < length xs
      left_out [] i = absurd i
      left_out (x ∷ xs) (inl e) =
          let k : count_by (λ u. ltb u v) xs ≤ length xs = count_by-le-length (λ u. ltb u v) xs in
          let z : cond {A = ℕ} (ltb x v) 1 0 ≡ 0 = ap (λ b. cond b 1 0) (le-ltb x v (omega arith)) in
          let c : count_by (λ u. ltb u v) (x ∷ xs) ≡ cond (ltb x v) 1 0 + count_by (λ u. ltb u v) xs = count-cons (λ u. ltb u v) x xs in
          omega arith
      left_out (x ∷ xs) (inr i) =
          let k : count_by (λ u. ltb u v) xs < length xs = left_out xs i in
          let c : count_by (λ u. ltb u v) (x ∷ xs) ≡ cond (ltb x v) 1 0 + count_by (λ u. ltb u v) xs = count-cons (λ u. ltb u v) x xs in
          let o : cond {A = ℕ} (ltb x v) 1 0 ≤ 1 = one (ltb x v) in
          omega arith
        where
          one : (b : Bool) → cond {A = ℕ} b 1 0 ≤ 1
          one true = omega arith
          one false = omega arith

  -- the edges of the loops of a cell are crossing
  edge_crosses : (q : ℕ) (l : ℕ × List ℕ) (e : ℕ) → In q (cells g) → In l (cell_loops g s q) → In e l.1 → In (cell_edge g q e) (vertex_names g s)
  edge_crosses q l e i j k =
      let c : CellLoop l = cell_loop g s q l j in
      let t : (t : Triangle) × In t (loop_triangles l.1 (12 + l.0)) × ((t.0 ≡ e) ⊎ ((t.1 ≡ e) ⊎ (t.2 ≡ e))) = corner_at l.1 (12 + l.0) e k in
      let m : In t.0 (local g s q) = in_flat_map (λ (l : ℕ × List ℕ). loop_triangles l.1 (12 + l.0)) t.0 l (cell_loops g s q) j t.1 in
      let n : In (on_corners (vertex_name g q) t.0) (named_triangles g s)
      = in_flat_map (cell_triangles g s) (on_corners (vertex_name g q) t.0) q (cells g) i (in_map (on_corners (vertex_name g q)) t.0 (local g s q) m) in
      let v : Vertices g s (on_corners (vertex_name g q) t.0) = triangle_vertices g s (on_corners (vertex_name g q) t.0) n in
      let name : vertex_name g q e ≡ cell_edge g q e = name_of_edge g q e (c.edges e k) in
      subst (λ z. In z (vertex_names g s)) name
      (elim t.2 [
        | inl r ↦ subst (λ z. In (vertex_name g q z) (vertex_names g s)) r v.first
        | inr o ↦ elim o [
          | inl r ↦ subst (λ z. In (vertex_name g q z) (vertex_names g s)) r v.second
          | inr r ↦ subst (λ z. In (vertex_name g q z) (vertex_names g s)) r v.third
        ]
      ])
    where
      corner_at : (l : List ℕ) (c e : ℕ) → In e l → (t : Triangle) × In t (loop_triangles l c) × ((t.0 ≡ e) ⊎ ((t.1 ≡ e) ⊎ (t.2 ≡ e)))
      corner_at l c e k =
          elim (cases_eq (length l) 3) [
            | inl h ↦ (
                let t : Triangle = (slice_index l 0, slice_index l 1, slice_index l 2) in
                (t, subst (λ ts. In t ts) (sym (of_three l c h)) (inl refl), which l e (subst (λ vs. In e vs) (three_are l h) k)))
            | inr h ↦ (
                let p : (p : ℕ × ℕ) × In p (around l) × (p.0 ≡ e) = step_at l e k in
                ((p.0.0, p.0.1, c), subst (λ ts. In (p.0.0, p.0.1, c) ts) (sym (of_more l c h)) (in_map (λ (p : ℕ × ℕ). (p.0, p.1, c)) p.0 (around l) p.1), inl p.2))
          ]
        where
          which : (l : List ℕ) (e : ℕ) → In e (slice_index l 0 ∷ slice_index l 1 ∷ slice_index l 2 ∷ []) → (slice_index l 0 ≡ e) ⊎ ((slice_index l 1 ≡ e) ⊎ (slice_index l 2 ≡ e))
          which l e (inl r) = inl (sym r)
          which l e (inr (inl r)) = inr (inl (sym r))
          which l e (inr (inr (inl r))) = inr (inr (sym r))
          which l e (inr (inr (inr z))) = absurd z

  -- a loop of the mesh is one of a cell
  pub found : (m : Loop) → In m (numbered_loops g s) → (q : ℕ) × In q (cells g) × ((l : ℕ × List ℕ) × In l (cell_loops g s q) × (m ≡ numbered g s q l))
  found m i =
      let q : (q : ℕ) × In q (cells g) × In m (map (numbered g s q) (cell_loops g s q)) = In-flat_map (λ q. map (numbered g s q) (cell_loops g s q)) m (cells g) i in
      (q.0, q.1, In-map (numbered g s q.0) m (cell_loops g s q.0) q.2)

  pub loops_long : (m : Loop) → In m (numbered_loops g s) → 3 ≤ length m.1
  loops_long m i =
      let f : (q : ℕ) × In q (cells g) × ((l : ℕ × List ℕ) × In l (cell_loops g s q) × (m ≡ numbered g s q l)) = found m i in
      let c : CellLoop f.2.0 = cell_loop g s f.0 f.2.0 f.2.1 in
      let e : length m.1 ≡ length f.2.0.1 = ap (λ (k : Loop). length k.1) f.2.2 ∙ length-map f.2.0.1 (λ e. number_of g s (cell_edge g f.0 e)) in
      omega (arith, c.long)

  -- the vertices of loops are those of lattice edges
  pub loops_low : (m : Loop) (v : ℕ) → In m (numbered_loops g s) → In v m.1 → v < edge_count g s
  loops_low m v i j =
      let f : (q : ℕ) × In q (cells g) × ((l : ℕ × List ℕ) × In l (cell_loops g s q) × (m ≡ numbered g s q l)) = found m i in
      let k : In v (map (λ e. number_of g s (cell_edge g f.0 e)) f.2.0.1) = subst (λ (k : Loop). In v k.1) f.2.2 j in
      let e : (e : ℕ) × In e f.2.0.1 × (v ≡ number_of g s (cell_edge g f.0 e)) = In-map (λ e. number_of g s (cell_edge g f.0 e)) v f.2.0.1 k in
      let low : e.0 < 12 = (cell_loop g s f.0 f.2.0 f.2.1).edges e.0 e.1 in
      subst (λ z. z < edge_count g s) (sym e.2) (edge_low (cell_edge g f.0 e.0) (edge_crosses f.0 f.2.0 e.0 f.1 f.2.1 e.1) (edge_in g f.0 e.0 f.1 low))

  centred_alike : (q : ℕ) (l : ℕ × List ℕ) → has_centre (numbered g s q l) ≡ has_centre l
  centred_alike q l = ap (λ k. nat_lt 3 k) (length-map l.1 (λ e. number_of g s (cell_edge g q e)))

  -- the centres are numbered in the order of their loops, after the vertices of lattice edges
  pub centres_follow : map (λ (m : Loop). m.0) (filter has_centre (numbered_loops g s)) ≡ range_with_len (edge_count g s) (length (vertices g s) - edge_count g s)
  centres_follow =
      let made : ℕ → List Loop = λ q. map (numbered g s q) (cell_loops g s q) in
      let first : Loop → ℕ = λ (m : Loop). m.0 in
      let n : length centre_names ≡ length (vertices g s) - edge_count g s = omega (arith, names_counted) in
      ap (map first) (filter_flat has_centre made (cells g))
      ∙ (map_flat first (λ q. filter has_centre (made q)) (cells g)
      ∙ (flat_agree (λ q. map first (filter has_centre (made q))) (λ q. map (number_of g s) (cell_centre_names q)) (cells g) (λ q i. one_cell q)
      ∙ (sym (map_flat (number_of g s) cell_centre_names (cells g))
      ∙ (ranks (vertex_names g s) (crossing_edges g s) centre_names names_are (vertices_ascend g s)
      ∙ ap (range_with_len (edge_count g s)) n))))
    where
      one_cell : (q : ℕ) → map (λ (m : Loop). m.0) (filter has_centre (map (numbered g s q) (cell_loops g s q))) ≡ map (number_of g s) (cell_centre_names q)
      one_cell q =
          ap (map (λ (m : Loop). m.0)) (filter_of_map has_centre has_centre (numbered g s q) (centred_alike q) (cell_loops g s q))
          ∙ (map_map (λ (m : Loop). m.0) (numbered g s q) (filter has_centre (cell_loops g s q))
          ∙ sym (map_map (number_of g s) (λ (l : ℕ × List ℕ). centre_name g q l.0) (filter has_centre (cell_loops g s q))))

  pub edges_first : edge_count g s ≤ length (vertices g s)
  edges_first = omega (arith, names_counted)

  -- no edge to a centre is on the border
  pub centres_inside : (m : Loop) (b : ℕ) → In m (filter has_centre (numbered_loops g s)) → (in_outer_plane g s b m.0 ≡ false) × (in_outer_plane g s m.0 b ≡ false)
  centres_inside m b i =
      let j : In m (numbered_loops g s) × (has_centre m ≡ true) = In-filter has_centre m (numbered_loops g s) i in
      let f : (q : ℕ) × In q (cells g) × ((l : ℕ × List ℕ) × In l (cell_loops g s q) × (m ≡ numbered g s q l)) = found m j.0 in
      let l : ℕ × List ℕ = f.2.0 in
      let h : has_centre l ≡ true = sym (centred_alike f.0 l) ∙ (sym (ap has_centre f.2.2) ∙ j.1) in
      let c : ℕ = centre_name g f.0 l.0 in
      let known : In c (vertex_names g s)
      = subst (λ ns. In c ns) (sym names_are)
      (In-right c (crossing_edges g s) centre_names
      (in_flat_map cell_centre_names c f.0 (cells g) f.1 (in_map (λ (l : ℕ × List ℕ). centre_name g f.0 l.0) l (filter has_centre (cell_loops g s f.0)) (in_filter has_centre l (cell_loops g s f.0) f.2.1 h)))) in
      let at : get_or (vertex_names g s) m.0 0 ≡ c = ap (λ (k : Loop). get_or (vertex_names g s) k.0 0) f.2.2 ∙ vertex_at g s c known in
      let out : ltb c (name_bound g) ≡ false = le-ltb c (name_bound g) (omega arith) in
      let x : ℕ = get_or (vertex_names g s) b 0 in (
        ap (share_outer_plane g x) at ∙ and_right (ltb x (name_bound g)) _ (and_left (ltb c (name_bound g)) _ out),
        ap (λ z. share_outer_plane g z x) at ∙ and_left (ltb c (name_bound g)) _ out,
      )

  -- the numbers of the crossing edges are those below their count
  pub edges_numbered : map (number_of g s) (crossing_edges g s) ≡ below (edge_count g s)
  edges_numbered = front (vertex_names g s) [] (crossing_edges g s) centre_names names_are (vertices_ascend g s)
    where
      front : (all xs ys zs : List ℕ) → all ≡ xs ++ (ys ++ zs) → Ascending all → map (λ v. count_by (λ u. ltb u v) all) ys ≡ range_with_len (length xs) (length ys)
      front all xs [] zs e a = refl
      front all xs (y ∷ ys) zs e a =
          let h : count_by (λ u. ltb u y) all ≡ length xs = subst (λ l. count_by (λ u. ltb u y) l ≡ length xs) (sym e) (rank_split xs y (ys ++ zs) (subst Ascending e a)) in
          let n : length (xs ++ y ∷ []) ≡ length xs + 1 = length-append xs (y ∷ []) in
          ap (λ k. k ∷ map (λ v. count_by (λ u. ltb u v) all) ys) h
          ∙ ap (λ l. length xs ∷ l) (front all (xs ++ y ∷ []) ys zs (e ∙ regroup xs) a ∙ ap (λ k. range_with_len k (length ys)) n)
        where
          regroup : (xs : List ℕ) → xs ++ y ∷ (ys ++ zs) ≡ (xs ++ y ∷ []) ++ (ys ++ zs)
          regroup [] = refl
          regroup (x ∷ xs) = ap (λ l. x ∷ l) (regroup xs)

  -- the vertices of loops by names are crossing edges
  pub loops_cross : (m : Loop) (v : ℕ) → In m (mesh_loops g s) → In v m.1 → In v (crossing_edges g s)
  loops_cross m v i j =
      let q : (q : ℕ) × In q (cells g) × In m (loops_in g s q) = In-flat_map (loops_in g s) m (cells g) i in
      let l : (l : ℕ × List ℕ) × In l (cell_loops g s q.0) × (m ≡ (centre_name g q.0 l.0, map (cell_edge g q.0) l.1))
      = In-map (λ (l : ℕ × List ℕ). (centre_name g q.0 l.0, map (cell_edge g q.0) l.1)) m (cell_loops g s q.0) q.2 in
      let e : (e : ℕ) × In e l.0.1 × (v ≡ cell_edge g q.0 e) = In-map (cell_edge g q.0) v l.0.1 (subst (λ (k : Loop). In v k.1) l.2 j) in
      let low : e.0 < 12 = (cell_loop g s q.0 l.0 l.1).edges e.0 e.1 in
      let known : In (cell_edge g q.0 e.0) (vertex_names g s) = edge_crosses q.0 l.0 e.0 q.1 l.1 e.1 in
      subst (λ z. In z (crossing_edges g s)) (sym e.2)
      (elim (In-append (cell_edge g q.0 e.0) (crossing_edges g s) centre_names (subst (λ ns. In (cell_edge g q.0 e.0) ns) names_are known)) [
        | inl k ↦ k
        | inr k ↦ (let a : name_bound g ≤ cell_edge g q.0 e.0 = high (cell_edge g q.0 e.0) k in let b : cell_edge g q.0 e.0 < name_bound g = edge_in g q.0 e.0 q.1 low in absurd (omega arith))
      ])

  pub crossing_known : (v : ℕ) → In v (crossing_edges g s) → In v (vertex_names g s)
  crossing_known v i = subst (λ ns. In v ns) (sym names_are) (In-left v (crossing_edges g s) centre_names i)

  -- and whether two of them lie in one border plane is told by their numbers
  pub borders_alike : (a b : ℕ) → In a (crossing_edges g s) → In b (crossing_edges g s) → in_outer_plane g s (number_of g s a) (number_of g s b) ≡ share_outer_plane g a b
  borders_alike a b i j =
      ap (λ z. share_outer_plane g z (get_or (vertex_names g s) (number_of g s b) 0)) (vertex_at g s a (crossing_known a i)) ∙ ap (share_outer_plane g a) (vertex_at g s b (crossing_known b j))
