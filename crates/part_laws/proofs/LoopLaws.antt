-- The mesh is the triangles of its loops.
use Rattle.std.proofs.Common.{◌≡◌, ℕ, ◌+◌, ◌-◌, ◌<◌, ◌≤◌, Bool, true, ◌&&◌, List, map, length, sym, ◌∙◌, ap, arith, ltb, leb, ℤ}
use Rattle.std.specs.List.{flat_map, list_all}
use Rattle.std.proofs.lemmas.Bool.{and_parts, ltb-true, leb-true}
use Rattle.iso_defs.specs.Lists.{around}
use Rattle.iso_defs.specs.Grid.{Grid, cells}
use Rattle.iso_defs.specs.Cell.{Triangle, cell_edge, loop_triangles}
use Rattle.iso_defs.specs.Scratch.{cell_loops, cell_triangles, centre_name, has_centre, named_triangles, number_of, on_corners, triangles, vertex_name}
use Rattle.iso_defs.specs.Manifold.{arcs}
use Rattle.case_laws.proofs.Wedges.{centre_test, centre_all, distinct_test, same_pairs}
use Rattle.case_laws.proofs.EdgePairs.{implies}
use Rattle.case_laws.proofs.Tests.{cell_passes}
use Rattle.triangle_laws.proofs.Lists.{In, list_all_at}
use Rattle.mesh_laws.proofs.Directed.{local}
use Rattle.mesh_laws.proofs.Names.{name_of_edge, name_of_centre}
use Rattle.part_laws.specs.Loops.{Loop, renamed, loops_in, mesh_loops, triangles_round}
use Rattle.part_laws.proofs.Rounds.{map_map, map_agree, map_flat, flat_agree, flat_of_map, flat_flat, loop_moves}

-- a loop of a cell by the numbers of its vertices, and all loops so
abbrev pub numbered : Grid → (ℕ → ℤ) → ℕ → ℕ × List ℕ → Loop
numbered g s q l = (number_of g s (centre_name g q l.0), map (λ e. number_of g s (cell_edge g q e)) l.1)

abbrev pub numbered_loops : Grid → (ℕ → ℤ) → List Loop
numbered_loops g s = flat_map (λ q. map (numbered g s q) (cell_loops g s q)) (cells g)

-- a loop of a cell
pub record CellLoop (l : ℕ × List ℕ) : Type 0 where
  pub turn : l.0 < 4
  pub edges : (e : ℕ) → In e l.1 → e < 12
  pub long : 3 ≤ length l.1
  pub apart : distinct_test l.1 ≡ true

pub cell_loop : (g : Grid) (s : ℕ → ℤ) (q : ℕ) (l : ℕ × List ℕ) → In l (cell_loops g s q) → CellLoop l
cell_loop g s q l i =
    let each : ℕ × List ℕ → Bool = λ (l : ℕ × List ℕ). ltb l.0 4 && (list_all (λ e. ltb e 12) l.1 && (distinct_test l.1
    && (leb 3 (length l.1) && implies (has_centre l) (same_pairs (arcs (local g s q) (12 + l.0)) (around l.1))))) in
    let t : each l ≡ true = list_all_at each (cell_loops g s q) l (cell_passes centre_test centre_all g s q) i in
    let t1 : (ltb l.0 4 ≡ true) × ((list_all (λ e. ltb e 12) l.1 && (distinct_test l.1
    && (leb 3 (length l.1) && implies (has_centre l) (same_pairs (arcs (local g s q) (12 + l.0)) (around l.1))))) ≡ true) = and_parts _ _ t in
    let t2 : (list_all (λ e. ltb e 12) l.1 ≡ true) × ((distinct_test l.1
    && (leb 3 (length l.1) && implies (has_centre l) (same_pairs (arcs (local g s q) (12 + l.0)) (around l.1)))) ≡ true) = and_parts _ _ t1.1 in
    let t3 : (distinct_test l.1 ≡ true) × ((leb 3 (length l.1) && implies (has_centre l) (same_pairs (arcs (local g s q) (12 + l.0)) (around l.1))) ≡ true) = and_parts _ _ t2.1 in
    let t4 : (leb 3 (length l.1) ≡ true) × (implies (has_centre l) (same_pairs (arcs (local g s q) (12 + l.0)) (around l.1)) ≡ true) = and_parts _ _ t3.1 in
    record {
      turn = ltb-true l.0 4 t1.0;
      edges = λ e j. ltb-true e 12 (list_all_at (λ e. ltb e 12) l.1 e t2.0 j);
      long = leb-true 3 (length l.1) t4.0;
      apart = t3.0;
    }

module _ (g : Grid) (s : ℕ → ℤ) where
  abbrev number_in : ℕ → ℕ → ℕ
  number_in q v = number_of g s (vertex_name g q v)

  less : (n : ℕ) → 12 + n - 12 ≡ n
  less n = omega arith

  -- the vertices of a loop of a cell, from its edges to their numbers
  edges_move : (q : ℕ) (l : ℕ × List ℕ) → In l (cell_loops g s q) → map (number_in q) l.1 ≡ (numbered g s q l).1
  edges_move q l i =
      map_agree (number_in q) (λ e. number_of g s (cell_edge g q e)) l.1 (λ e j. ap (number_of g s) (name_of_edge g q e ((cell_loop g s q l i).edges e j)))

  centre_moves : (q : ℕ) (l : ℕ × List ℕ) → number_in q (12 + l.0) ≡ (numbered g s q l).0
  centre_moves q l = ap (number_of g s) (name_of_centre g q (12 + l.0) (omega arith) ∙ ap (centre_name g q) (less l.0))

  one_loop : (q : ℕ) (l : ℕ × List ℕ) → In l (cell_loops g s q) → map (on_corners (number_of g s)) (map (on_corners (vertex_name g q)) (loop_triangles l.1 (12 + l.0))) ≡ triangles_round (numbered g s q l)
  one_loop q l i =
      map_map (on_corners (number_of g s)) (on_corners (vertex_name g q)) (loop_triangles l.1 (12 + l.0))
      ∙ (loop_moves (number_in q) l.1 (12 + l.0)
      ∙ (ap (λ vs. loop_triangles vs (number_in q (12 + l.0))) (edges_move q l i) ∙ ap (loop_triangles (numbered g s q l).1) (centre_moves q l)))

  one_cell : (q : ℕ) → map (on_corners (number_of g s)) (cell_triangles g s q) ≡ flat_map triangles_round (map (numbered g s q) (cell_loops g s q))
  one_cell q =
      let made : ℕ × List ℕ → List Triangle = λ (l : ℕ × List ℕ). loop_triangles l.1 (12 + l.0) in
      ap (map (on_corners (number_of g s))) (map_flat (on_corners (vertex_name g q)) made (cell_loops g s q))
      ∙ (map_flat (on_corners (number_of g s)) (λ l. map (on_corners (vertex_name g q)) (made l)) (cell_loops g s q)
      ∙ (flat_agree (λ l. map (on_corners (number_of g s)) (map (on_corners (vertex_name g q)) (made l))) (λ l. triangles_round (numbered g s q l)) (cell_loops g s q)
      (λ l i. one_loop q l i)
      ∙ sym (flat_of_map triangles_round (numbered g s q) (cell_loops g s q))))

  -- the triangles of a mesh are those of its loops, loop by loop
  pub triangles_are : triangles g s ≡ flat_map triangles_round (numbered_loops g s)
  triangles_are =
      map_flat (on_corners (number_of g s)) (cell_triangles g s) (cells g)
      ∙ (flat_agree (λ q. map (on_corners (number_of g s)) (cell_triangles g s q)) (λ q. flat_map triangles_round (map (numbered g s q) (cell_loops g s q))) (cells g) (λ q i. one_cell q)
      ∙ sym (flat_flat triangles_round (λ q. map (numbered g s q) (cell_loops g s q)) (cells g)))

  named_loop : (q : ℕ) (l : ℕ × List ℕ) → In l (cell_loops g s q) → map (on_corners (vertex_name g q)) (loop_triangles l.1 (12 + l.0)) ≡ triangles_round (centre_name g q l.0, map (cell_edge g q) l.1)
  named_loop q l i =
      loop_moves (vertex_name g q) l.1 (12 + l.0)
      ∙ (ap (λ vs. loop_triangles vs (vertex_name g q (12 + l.0))) (map_agree (vertex_name g q) (cell_edge g q) l.1 (λ e j. name_of_edge g q e ((cell_loop g s q l i).edges e j)))
      ∙ ap (loop_triangles (map (cell_edge g q) l.1)) (name_of_centre g q (12 + l.0) (omega arith) ∙ ap (centre_name g q) (less l.0)))

  -- and by names
  pub named_triangles_are : named_triangles g s ≡ flat_map triangles_round (mesh_loops g s)
  named_triangles_are =
      flat_agree (cell_triangles g s) (λ q. flat_map triangles_round (loops_in g s q)) (cells g) (λ q i. one q)
      ∙ sym (flat_flat triangles_round (loops_in g s) (cells g))
    where
      one : (q : ℕ) → cell_triangles g s q ≡ flat_map triangles_round (loops_in g s q)
      one q =
          let made : ℕ × List ℕ → List Triangle = λ (l : ℕ × List ℕ). loop_triangles l.1 (12 + l.0) in
          let named : ℕ × List ℕ → Loop = λ (l : ℕ × List ℕ). (centre_name g q l.0, map (cell_edge g q) l.1) in
          map_flat (on_corners (vertex_name g q)) made (cell_loops g s q)
          ∙ (flat_agree (λ l. map (on_corners (vertex_name g q)) (made l)) (λ l. triangles_round (named l)) (cell_loops g s q) (λ l i. named_loop q l i)
          ∙ sym (flat_of_map triangles_round named (cell_loops g s q)))

  -- the loops by numbers are the renamed loops by names
  pub renamed_are : numbered_loops g s ≡ map (renamed (number_of g s)) (mesh_loops g s)
  renamed_are =
      sym (map_flat (renamed (number_of g s)) (loops_in g s) (cells g)
      ∙ flat_agree (λ q. map (renamed (number_of g s)) (loops_in g s q)) (λ q. map (numbered g s q) (cell_loops g s q)) (cells g) (λ q i. one q))
    where
      one : (q : ℕ) → map (renamed (number_of g s)) (loops_in g s q) ≡ map (numbered g s q) (cell_loops g s q)
      one q =
          let named : ℕ × List ℕ → Loop = λ (l : ℕ × List ℕ). (centre_name g q l.0, map (cell_edge g q) l.1) in
          map_map (renamed (number_of g s)) named (cell_loops g s q)
          ∙ map_agree (λ l. renamed (number_of g s) (named l)) (numbered g s q) (cell_loops g s q)
          (λ l i. ap (λ vs. (number_of g s (centre_name g q l.0), vs)) (map_map (number_of g s) (cell_edge g q) l.1))
