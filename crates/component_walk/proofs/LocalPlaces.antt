-- Where the vertices of a loop of a cell are: the cell's lowest point, moved by where they are from there.
use Rattle.std.proofs.Common.{◌≡◌, ◌∙◌, ℕ, zero, suc, ◌+◌, ◌-◌, ◌*◌, ◌/◌, ◌%◌, ◌<◌, ℤ, pos, ◌-ℤ◌, Bool, true, false, All, List, [], ◌∷◌, map, length, get_or, refl, sym, subst, ap, arith, nat_lt, slice_index, slice_index_or, if◌then◌else◌}
use Rattle.std.specs.List.{count_by}
use Rattle.std.proofs.lemmas.Bool.{le-ltb, lt-ltb}
use Rattle.std.proofs.lemmas.Int.{ints}
use Rattle.std.proofs.lemmas.List.{get_or-map, length-map}
use Rattle.iso_defs.specs.Grid.{Grid, edge_axis, edge_lower, name_bound, stride}
use Rattle.iso_defs.specs.Cell.{cell_edge, cell_values, corner_point, edge_corner}
use Rattle.iso_defs.specs.Lists.{around}
use Rattle.iso_defs.specs.Place.{Position, centre_position, edge_coordinate, edge_position, mean, place}
use Rattle.iso_defs.specs.Scratch.{centre_name}
use Rattle.triangle_laws.proofs.Lists.{In}
use Rattle.measure_laws.specs.Vectors.{Vector, cross, dot, minus, total}
use Rattle.measure.specs.Measures.{vector_of}
use Rattle.iso_defs.specs.Manifold.{share_outer_plane}
use Rattle.measure_laws.proofs.Totals.{total-map}
use Rattle.mesh_laws.proofs.AllFans.{around_map}
use Rattle.mesh_laws.proofs.Apart.{by_twelve}
use Rattle.mesh_laws.proofs.Arcs.{on_pair}
use Rattle.mesh_laws.proofs.Names.{edge_in}
use Rattle.edge_points.specs.Points.{local_coordinate}
use Rattle.flat_mesh.specs.Centres.{IsCellAt, cell_place, local_mean}
use Rattle.flat_mesh.specs.Faces.{loops_at}
use Rattle.flat_mesh.specs.Lattice.{Leveled, heights}
use Rattle.flat_mesh.specs.declared.centres.Cell.{Cell}
use Rattle.flat_mesh.specs.declared.centres.LoopCentre.{LoopCentre}
use Rattle.flat_mesh.proofs.CellPlaces.{cell_placed}
use Rattle.flat_mesh.proofs.CentrePlaces.{centre_is}
use Rattle.flat_mesh.proofs.Loops.{few_loops}
use Rattle.cell_loops.specs.Loops.{IsLoop}
use Rattle.part_laws.specs.Loops.{Loop}
use Rattle.part_laws.specs.Swept.{six_of, swept, tip}
use Rattle.part_laws.proofs.Measured.{total_in}
use Rattle.part_laws.proofs.Moves.{swept_moved}
use Rattle.part_laws.proofs.Rounds.{map_agree, step_ends}
use Rattle.component_walk.specs.Local.{local_place, local_tip, local_vertex, moved}
use Rattle.component_walk.specs.Sums.{IsLoopIn, steps_on}
use Rattle.component_walk.specs.Sweep.{centre_at, measure_at, measured_of, named_position, vector_at}
use Rattle.component_walk.specs.declared.sweep.Swept.{Swept}
use Rattle.component_walk.proofs.BorderSteps.{in_all, steps_named}

-- what a loop spans depends on the positions of its vertices alone
swept_agree : (f h : ℕ → Vector) (vs : List ℕ) → ((v : ℕ) → In v vs → f v ≡ h v) → swept f vs ≡ swept h vs
swept_agree f h vs e =
    let one : (p : ℕ × ℕ) → In p (around vs) → cross (f p.0) (f p.1) ≡ cross (h p.0) (h p.1)
    = λ p i. let ends : In p.0 vs × In p.1 vs = step_ends vs p i in ap (λ u. cross u (f p.1)) (e p.0 ends.0) ∙ ap (cross (h p.0)) (e p.1 ends.1) in
    let x = total_in (λ (p : ℕ × ℕ). (cross (f p.0) (f p.1)).0) (λ (p : ℕ × ℕ). (cross (h p.0) (h p.1)).0) (around vs) (λ p i. ap (λ (u : Vector). u.0) (one p i)) in
    let y = total_in (λ (p : ℕ × ℕ). (cross (f p.0) (f p.1)).1) (λ (p : ℕ × ℕ). (cross (h p.0) (h p.1)).1) (around vs) (λ p i. ap (λ (u : Vector). u.1) (one p i)) in
    let z = total_in (λ (p : ℕ × ℕ). (cross (f p.0) (f p.1)).2) (λ (p : ℕ × ℕ). (cross (h p.0) (h p.1)).2) (around vs) (λ p i. ap (λ (u : Vector). u.2) (one p i)) in
    λ i. (x i, y i, z i)

-- and may be told of other names of them
swept_renamed : (at : ℕ → Vector) (f : ℕ → ℕ) (vs : List ℕ) → swept at (map f vs) ≡ swept (λ v. at (f v)) vs
swept_renamed at f vs =
    let all : around (map f vs) ≡ map (on_pair f) (around vs) = sym (around_map f vs) in
    let x = ap (total (λ (p : ℕ × ℕ). (cross (at p.0) (at p.1)).0)) all ∙ total-map (λ (p : ℕ × ℕ). (cross (at p.0) (at p.1)).0) (on_pair f) (around vs) in
    let y = ap (total (λ (p : ℕ × ℕ). (cross (at p.0) (at p.1)).1)) all ∙ total-map (λ (p : ℕ × ℕ). (cross (at p.0) (at p.1)).1) (on_pair f) (around vs) in
    let z = ap (total (λ (p : ℕ × ℕ). (cross (at p.0) (at p.1)).2)) all ∙ total-map (λ (p : ℕ × ℕ). (cross (at p.0) (at p.1)).2) (on_pair f) (around vs) in
    λ i. (x i, y i, z i)

moved_back : (p q : Position) → vector_at q ≡ minus (vector_at (moved p q)) (vector_at p)
moved_back p q =
    let one : (a b : ℕ) → pos b ≡ pos (a + b) -ℤ pos a = λ a b. omega (arith, ints) in
    let x = one p.0 q.0 in
    let y = one p.1 q.1 in
    let z = one p.2 q.2 in
    λ i. (x i, y i, z i)

module _ (v : Leveled) (cell : Cell) (h : IsCellAt v.grid cell) where
  abbrev q : ℕ
  q = cell.index

  abbrev values : List ℤ
  values = cell_values v.grid (heights v) q

  abbrev corner : Position
  corner = (1000 * cell.low.x, 1000 * cell.low.y, 1000 * cell.low.z)

  -- the places on the edges
  place_is : (e : ℕ) → e < 12 → local_place values e ≡ cell_place v q e
  place_is e low =
      let p : ℕ = corner_point v.grid q (edge_corner e) in
      let ends : local_place values e ≡ place (heights v p) (heights v (p + stride v.grid (e / 4)))
      = by_twelve (λ e. local_place values e ≡ place (heights v (corner_point v.grid q (edge_corner e))) (heights v (corner_point v.grid q (edge_corner e) + stride v.grid (e / 4))))
      (ap (λ p. place (heights v (corner_point v.grid q 0)) (heights v p)) (omega arith))
      (ap (λ p. place (heights v (corner_point v.grid q 2)) (heights v p)) (omega arith))
      (ap (λ p. place (heights v (corner_point v.grid q 4)) (heights v p)) (omega arith))
      (ap (λ p. place (heights v (corner_point v.grid q 6)) (heights v p)) (omega arith))
      (ap (λ p. place (heights v (corner_point v.grid q 0)) (heights v p)) (omega arith))
      (ap (λ p. place (heights v (corner_point v.grid q 1)) (heights v p)) (omega arith))
      (ap (λ p. place (heights v (corner_point v.grid q 4)) (heights v p)) (omega arith))
      (ap (λ p. place (heights v (corner_point v.grid q 5)) (heights v p)) (omega arith))
      (ap (λ p. place (heights v (corner_point v.grid q 0)) (heights v p)) (omega arith))
      (ap (λ p. place (heights v (corner_point v.grid q 1)) (heights v p)) (omega arith))
      (ap (λ p. place (heights v (corner_point v.grid q 2)) (heights v p)) (omega arith))
      (ap (λ p. place (heights v (corner_point v.grid q 3)) (heights v p)) (omega arith)) e low in
      let lower : edge_lower (cell_edge v.grid q e) ≡ p = omega arith in
      let axis : edge_axis (cell_edge v.grid q e) ≡ e / 4 = omega arith in
      ends ∙ sym (ap (λ r. place (heights v r) (heights v (r + stride v.grid (edge_axis (cell_edge v.grid q e))))) lower ∙ ap (λ a. place (heights v p) (heights v (p + stride v.grid a))) axis)

  -- the centre of a loop
  centre_at_is : (es : List ℕ) → 0 < length es → All (λ e. e < 12) es → (p : Position)
      → (p.0 ≡ local_mean (cell_place v q) 0 es) → (p.1 ≡ local_mean (cell_place v q) 1 es) → (p.2 ≡ local_mean (cell_place v q) 2 es)
      → centre_position v.grid (heights v) (map (cell_edge v.grid q) es) ≡ moved corner p
  centre_at_is es some low p x y z =
      let same = centre_is v cell h 0 (centre_name v.grid q 0) p.0 p.1 p.2 es some low refl x y z in
      let a = ap (λ (c : LoopCentre). slice_index c.at 0) same in
      let b = ap (λ (c : LoopCentre). slice_index c.at 1) same in
      let c = ap (λ (c : LoopCentre). slice_index c.at 2) same in
      sym (λ i. (a i, b i, c i))

  mean_agree : (axis : ℕ) (es : List ℕ) → All (λ e. e < 12) es → mean (map (local_coordinate (local_place values) axis) es) ≡ local_mean (cell_place v q) axis es
  mean_agree axis es low =
      ap mean (map_agree (local_coordinate (local_place values) axis) (local_coordinate (cell_place v q) axis) es
      (λ e i. ap (λ d. local_coordinate (λ _. d) axis e) (place_is e (in_all (λ e. e < 12) es low e i))))

  -- the vertex on an edge, which is the centre of itself alone
  vertex_is : (e : ℕ) → e < 12 → named_position v (cell_edge v.grid q e) ≡ vector_at (moved corner (local_vertex values e))
  unfolding named_position local_vertex
  vertex_is e low =
      let g : Grid = v.grid in
      let n : ℕ = cell_edge g q e in
      let one : All (λ e. e < 12) (e ∷ []) = λ k d below. let zero : k ≡ 0 = omega arith in subst (λ k. get_or (e ∷ []) k d < 12) (sym zero) low in
      let alone : (x : ℕ) → mean (x ∷ []) ≡ x = λ x. omega arith in
      let local : ℕ → ℕ = λ axis. local_coordinate (local_place values) axis e in
      let here : (axis : ℕ) → local axis ≡ local_mean (cell_place v q) axis (e ∷ []) = λ axis. sym (alone (local axis)) ∙ mean_agree axis (e ∷ []) one in
      let all : centre_position g (heights v) (n ∷ []) ≡ moved corner (local 0, local 1, local 2) = centre_at_is (e ∷ []) (omega arith) one (local 0, local 1, local 2) (here 0) (here 1) (here 2) in
      let x : edge_coordinate g (heights v) n 0 ≡ (moved corner (local 0, local 1, local 2)).0 = sym (alone (edge_coordinate g (heights v) n 0)) ∙ ap (λ (p : Position). p.0) all in
      let y : edge_coordinate g (heights v) n 1 ≡ (moved corner (local 0, local 1, local 2)).1 = sym (alone (edge_coordinate g (heights v) n 1)) ∙ ap (λ (p : Position). p.1) all in
      let z : edge_coordinate g (heights v) n 2 ≡ (moved corner (local 0, local 1, local 2)).2 = sym (alone (edge_coordinate g (heights v) n 2)) ∙ ap (λ (p : Position). p.2) all in
      let known : nat_lt n (name_bound g) ≡ true = lt-ltb n (name_bound g) (edge_in g q e (cell_placed g cell h).known low) in
      ap (λ b. vector_at (if b then edge_position g (heights v) n else centre_at v (n - name_bound g))) known ∙ (λ i. (pos (x i), pos (y i), pos (z i)))

  module _ (es : List ℕ) (loop : IsLoop es) (l : Loop) (is : IsLoopIn v q es l) where
    abbrev local : ℕ → Vector
    local e = vector_at (local_vertex values e)

    low_in : (e : ℕ) → In e es → e < 12
    low_in e i = in_all (λ e. e < 12) es loop.low e i

    pub swept_is : swept (named_position v) l.1 ≡ swept local es
    swept_is =
        let named : ℕ → Vector = λ e. named_position v (cell_edge v.grid q e) in
        let back : ℕ → Vector = λ e. minus (named e) (vector_at corner) in
        let alike : swept local es ≡ swept back es
        = swept_agree local back es (λ e i. moved_back corner (local_vertex values e) ∙ ap (λ u. minus u (vector_at corner)) (sym (vertex_is e (low_in e i)))) in
        ap (λ (k : Loop). swept (named_position v) k.1) is.is
        ∙ (swept_renamed (named_position v) (cell_edge v.grid q) es ∙ (sym (swept_moved named (vector_at corner) es) ∙ sym alike))

    centre_is_at : named_position v (centre_name v.grid q is.turn) ≡ vector_at (centre_position v.grid (heights v) (map (cell_edge v.grid q) es))
    unfolding named_position
    centre_is_at =
        let g : Grid = v.grid in
        let n : ℕ = centre_name g q is.turn in
        let few : is.turn < 4 = omega (arith, is.known, few_loops v q) in
        let above : nat_lt n (name_bound g) ≡ false = le-ltb n (name_bound g) (omega arith) in
        let cell_is : (n - name_bound g) / 4 ≡ q = omega arith in
        let turn_is : (n - name_bound g) % 4 ≡ is.turn = omega arith in
        let at : ℕ → ℕ → Vector = λ a b. vector_at (centre_position g (heights v) (map (cell_edge g a) (slice_index_or (loops_at v a) b []))) in
        ap (λ b. vector_at (if b then edge_position g (heights v) n else centre_at v (n - name_bound g))) above
        ∙ (ap (λ a. at a ((n - name_bound g) % 4)) cell_is ∙ (ap (at q) turn_is ∙ ap (λ k. vector_at (centre_position g (heights v) (map (cell_edge g q) k))) is.edges_are))

    means_are : centre_position v.grid (heights v) (map (cell_edge v.grid q) es)
        ≡ moved corner (mean (map (λ e. (local_vertex values e).0) es), mean (map (λ e. (local_vertex values e).1) es), mean (map (λ e. (local_vertex values e).2) es))
    unfolding local_vertex
    means_are =
        centre_at_is es (omega (arith, loop.least)) loop.low
        (mean (map (λ e. (local_vertex values e).0) es), mean (map (λ e. (local_vertex values e).1) es), mean (map (λ e. (local_vertex values e).2) es))
        (mean_agree 0 es loop.low) (mean_agree 1 es loop.low) (mean_agree 2 es loop.low)

    tip_is : named_position v (tip l) ≡ vector_at (moved corner (local_tip (local_vertex values) es))
    tip_is =
        let names : List ℕ = map (cell_edge v.grid q) es in
        let long : length names ≡ length es = length-map es (cell_edge v.grid q) in
        let some : 0 < length es = omega (arith, loop.least) in
        let first : slice_index names 0 ≡ cell_edge v.grid q (slice_index es 0) = get_or-map (cell_edge v.grid q) es 0 0 0 some in
        let centred : ℕ = centre_name v.grid q is.turn in
        ap (λ (k : Loop). named_position v (tip k)) is.is
        ∙ (ap (λ n. named_position v (if nat_lt 3 n then centred else slice_index names 0)) long
        ∙ (ap (λ n. named_position v (if nat_lt 3 (length es) then centred else n)) first
        ∙ choose (nat_lt 3 (length es)) _ (local_vertex values (slice_index es 0)) centred (cell_edge v.grid q (slice_index es 0)) (centre_is_at ∙ ap vector_at means_are)
        (vertex_is (slice_index es 0) (loop.low 0 0 some))))
      where
        choose : (b : Bool) (p r : Position) (m n : ℕ) → named_position v m ≡ vector_at (moved corner p) → named_position v n ≡ vector_at (moved corner r)
            → named_position v (if b then m else n) ≡ vector_at (moved corner (if b then p else r))
        choose true p r m n e f = e
        choose false p r m n e f = f

    pub six_is : six_of (named_position v) l ≡ dot (vector_at (moved corner (local_tip (local_vertex values) es))) (swept local es)
    six_is = ap (λ u. dot u (swept (named_position v) l.1)) tip_is ∙ ap (dot (vector_at (moved corner (local_tip (local_vertex values) es)))) swept_is

    -- what is measured of the loop
    pub measured_is : (s : Swept) → s.six ≡ six_of (named_position v) l → vector_of s.area ≡ swept (named_position v) l.1 → s.border ≡ steps_on v.grid q es
        → (i : ℕ) → measure_at s i ≡ measured_of v i l
    measured_is s six area border zero = six
    measured_is s six area border (suc zero) = ap (λ (u : Vector). u.0) area
    measured_is s six area border (suc (suc zero)) = ap (λ (u : Vector). u.1) area
    measured_is s six area border (suc (suc (suc zero))) = ap (λ (u : Vector). u.2) area
    measured_is s six area border (suc (suc (suc (suc zero)))) =
        ap pos (border ∙ (steps_named v.grid q es ∙ ap (λ (k : Loop). count_by (λ (p : ℕ × ℕ). share_outer_plane v.grid p.0 p.1) (around k.1)) (sym is.is)))
    measured_is s six area border (suc (suc (suc (suc (suc i))))) = refl
