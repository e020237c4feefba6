-- A row of points is left behind when the loops of the cells that begin in it have their labels.
use Rattle.std.proofs.Common.{◌≡◌, ℕ, zero, suc, ◌+◌, ◌-◌, ◌*◌, ◌/◌, ◌%◌, ◌<◌, ◌≤◌, ℤ, Bool, true, false, cond, not, List, [], ◌++◌, map, take, drop, length, refl, sym, ◌∙◌, ap, subst, inl, inr, arith, eqb}
use Rattle.std.specs.List.{filter, flat_map}
use Rattle.std.proofs.lemmas.Bool.{both_ways, cases_Bool, cases_lt, eq-eqb, le-ltb, lt-ltb, ne_eqb}
use Rattle.std.proofs.lemmas.List.{drop_all, take_all}
use Rattle.std.proofs.Math.Nat.{mul-add, mul-le-mul_left}
use Rattle.iso_base.specs.Volume.{IsGrid}
use Rattle.iso_base.proofs.VolumeLaws.{grid_is_thick}
use Rattle.iso_defs.specs.Bricks.{bricks_along}
use Rattle.iso_defs.specs.Cell.{cell_edge}
use Rattle.iso_defs.specs.Grid.{Grid, cells, coordinate, index, is_cell, name_bound, point_count, is_crossing}
use Rattle.iso_defs.specs.Lists.{below}
use Rattle.iso_defs.specs.Scratch.{cell_loops, centre_name, crossing_edges}
use Rattle.iso_defs.proofs.Points.{index_of_point, x_index, y_index, z_index}
use Rattle.triangle_laws.proofs.Lists.{In, In-filter, In-flat_map, In-map, in_filter, in_flat_map, in_map}
use Rattle.mesh_laws.proofs.Cells.{cell_in, range_at_least, range_in}
use Rattle.mesh_laws.proofs.Mixed.{Low, low_is}
use Rattle.crossing_edges.specs.Flags.{flags_at, rank}
use Rattle.flat_mesh.specs.Faces.{loops_at}
use Rattle.flat_mesh.specs.Rows.{row_start}
use Rattle.flat_mesh.specs.Centres.{IsCellAt}
use Rattle.flat_mesh.specs.Lattice.{Leveled, heights}
use Rattle.flat_mesh.specs.declared.centres.Cell.{Cell}
use Rattle.component_labels.specs.Fronts.{none, room, row_name}
use Rattle.component_labels.specs.Labelling.{Known}
use Rattle.component_labels.proofs.AddedLaws.{row_left}
use Rattle.brick_rows.specs.Rows.{AreStill}
use Rattle.part_laws.specs.Loops.{Loop, loops_in, mesh_loops}
use Rattle.part_laws.specs.Meets.{is_met}
use Rattle.part_laws.proofs.FirstMet.{edge_looped}
use Rattle.part_laws.proofs.LabelLaws.{in_met, met_in}
use Rattle.part_laws.proofs.LoopLaws.{cell_loop}
use Rattle.part_laws.proofs.Numbered.{loops_cross}
use Rattle.component_walk.specs.declared.edges_behind.Passed.{Passed}
use Rattle.component_walk.specs.Passed.{AreEdges, IsLeft, Leaving, edges_before, row_end}
use Rattle.component_walk.specs.Components.{IsWhole}
use Rattle.component_walk.specs.Rows.{IsAt, first_point}
use Rattle.component_walk.specs.declared.rows.RowWalk.{RowWalk}
use Rattle.component_walk.specs.Walks.{AreTallies, IsWalked, loops_before}
use Rattle.component_walk.proofs.CellLaws.{before_quiets}
use Rattle.component_walk.proofs.WalkLaws.{edge_within, none_behind}
use Rattle.component_walk.proofs.LeftLaws.{left_quiet, next_place}

-- a row that is left behind
abbrev pub row_of : Leveled → ℕ → (ℕ → ℕ) → Known → Leaving
row_of v row label base = record { volume = v; row = row; label = label; base = base }

-- a vertex of a loop of a cell is an edge of the cell
record Found (v : Leveled) (l : Loop) (w n : ℕ) : Type 0 where
  pub cell : ℕ
  pub low : cell < n
  pub known : In cell (cells v.grid)
  pub edge : ℕ
  pub edge_low : edge < 12
  pub is : w ≡ cell_edge v.grid cell edge
  pub loop : In l (loops_in v.grid (heights v) cell)

module _ (v : Leveled) where
  edge_of : (q : ℕ) (l : Loop) (w : ℕ) → In l (loops_in v.grid (heights v) q) → In w l.1 → (e : ℕ) × (e < 12) × (w ≡ cell_edge v.grid q e)
  edge_of q l w i j =
      let k : (k : ℕ × List ℕ) × In k (cell_loops v.grid (heights v) q) × (l ≡ (centre_name v.grid q k.0, map (cell_edge v.grid q) k.1))
      = In-map (λ (k : ℕ × List ℕ). (centre_name v.grid q k.0, map (cell_edge v.grid q) k.1)) l (cell_loops v.grid (heights v) q) i in
      let e : (e : ℕ) × In e k.0.1 × (w ≡ cell_edge v.grid q e) = In-map (cell_edge v.grid q) w k.0.1 (subst (λ (m : Loop). In w m.1) k.2 j) in
      (e.0, (cell_loop v.grid (heights v) q k.0 k.1).edges e.0 e.1, e.2)

  -- of the loops of the cells before a point
  found : (n : ℕ) (l : Loop) (w : ℕ) → n ≤ point_count v.grid → In l (loops_before v n) → In w l.1 → Found v l w n
  unfolding loops_before
  found n l w le i j =
      let q : (q : ℕ) × In q (filter (is_cell v.grid) (below n)) × In l (loops_in v.grid (heights v) q) = In-flat_map (loops_in v.grid (heights v)) l (filter (is_cell v.grid) (below n)) i in
      let k : In q.0 (below n) × (is_cell v.grid q.0 ≡ true) = In-filter (is_cell v.grid) q.0 (below n) q.1 in
      let r : (0 ≤ q.0) × (q.0 < 0 + n) = range_at_least 0 n q.0 k.0 in
      let e : (e : ℕ) × (e < 12) × (w ≡ cell_edge v.grid q.0 e) = edge_of q.0 l w q.2 j in
      record {
        cell = q.0;
        low = omega (arith, r.1);
        known = in_filter (is_cell v.grid) q.0 (below (point_count v.grid)) (range_in 0 (point_count v.grid) q.0 (omega arith) (omega (arith, r.1, le))) k.1;
        edge = e.0;
        edge_low = e.1;
        is = e.2;
        loop = q.2;
      }

  pub of_mesh : (n : ℕ) (l : Loop) (w : ℕ) → n ≤ point_count v.grid → In l (loops_before v n) → In w l.1 → In l (mesh_loops v.grid (heights v))
  of_mesh n l w le i j = let f = found n l w le i j in in_flat_map (loops_in v.grid (heights v)) l f.cell (cells v.grid) f.known f.loop

  -- each loop of the mesh that has an edge before is one of them
  pub in_before : (n : ℕ) (l : Loop) (w : ℕ) → In l (mesh_loops v.grid (heights v)) → In w l.1 → w < 3 * n → In l (loops_before v n)
  unfolding loops_before
  in_before n l w i j low =
      let q : (q : ℕ) × In q (cells v.grid) × In l (loops_in v.grid (heights v) q) = In-flat_map (loops_in v.grid (heights v)) l (cells v.grid) i in
      let e : (e : ℕ) × (e < 12) × (w ≡ cell_edge v.grid q.0 e) = edge_of q.0 l w q.2 j in
      let h : q.0 < n = omega (arith, low, e.2) in
      in_flat_map (loops_in v.grid (heights v)) l q.0 (filter (is_cell v.grid) (below n)) (in_filter (is_cell v.grid) q.0 (below n) (range_in 0 n q.0 (omega arith) (omega (arith, h))) (cell_in v.grid q.0 q.1).0) q.2

  -- where a vertex of them may lie
  vertex_low : (row : ℕ) (l : Loop) (w : ℕ) → IsGrid v.grid → v.grid.nx * (row + 1) ≤ point_count v.grid → In l (loops_before v (v.grid.nx * (row + 1))) → In w l.1 → w < row_name v.grid row + room v.grid
  vertex_low row l w is le i j =
      let f = found (v.grid.nx * (row + 1)) l w le i j in
      let c = cell_in v.grid f.cell f.known in
      let low : Low v.grid f.cell = low_is v.grid f.cell c.0 in
      let X : ℕ = coordinate v.grid 0 f.cell in
      let Y : ℕ = coordinate v.grid 1 f.cell in
      let Z : ℕ = coordinate v.grid 2 f.cell in
      let cell : Cell = record { index = f.cell; low = record { x = X; y = Y; z = Z } } in
      let at : IsCellAt v.grid cell = record { index = sym (index_of_point v.grid f.cell c.1); x = low.x; y = low.y; z = low.z } in
      let b = edge_within v.grid cell at f.edge f.edge_low in
      let here : X + v.grid.nx * (Y + v.grid.ny * Z) ≡ f.cell = index_of_point v.grid f.cell c.1 in
      let up : Y + v.grid.ny * Z ≤ row
      = elim (cases_lt row (Y + v.grid.ny * Z)) [
        | inl g ↦ (let m : v.grid.nx * (row + 1) ≤ v.grid.nx * (Y + v.grid.ny * Z) = mul-le-mul_left v.grid.nx (omega (arith, g)) in absurd (omega (arith, m, here, f.low)))
        | inr g ↦ g
      ] in
      let m : v.grid.nx * (Y + v.grid.ny * Z) ≤ v.grid.nx * row = mul-le-mul_left v.grid.nx up in
      omega (arith, f.is, b.1, m)

  module _ {T : Type 0} (value : T → ℕ → ℤ) (fits : ℕ → T → Type 0) (of_loop : Leveled → ℕ → Loop → ℤ) (row : ℕ) (labels : Known) (ts : List T) (edges : Passed) (is : IsGrid v.grid) (low : row < v.grid.ny * v.grid.nz)
      (h : IsWalked value fits of_loop v row (loops_before v (v.grid.nx * (row + 1))) labels ts edges) where
    abbrev n : ℕ
    n = v.grid.nx * (row + 1)

    next_row : row_name v.grid (row + 1) ≡ row_name v.grid row + 3 * v.grid.nx
    next_row = (let e : v.grid.nx * (row + 1) ≡ v.grid.nx * row + v.grid.nx * 1 = mul-add v.grid.nx row 1 in omega (arith, e))

    inside : n ≤ point_count v.grid
    inside = let m : v.grid.nx * (row + 1) ≤ v.grid.nx * (v.grid.ny * v.grid.nz) = mul-le-mul_left v.grid.nx (omega (arith, low)) in omega (arith, m)

    abbrev pub leaving : Leaving
    leaving = row_of v row h.label labels

    -- a loop that has the vertex
    met_loop : (w : ℕ) → is_met h.xs w ≡ true → (l : Loop) × In l (loops_before v n) × In w l.1
    met_loop w m =
        let x : (x : ℕ × Loop) × In x h.xs × In w x.1.1 = in_met h.xs w m in
        (x.0.1, subst (λ ls. In x.0.1 ls) h.loops_are (in_map (λ (x : ℕ × Loop). x.1) x.0 h.xs x.1), x.2)

    loop_met : (l : Loop) (w : ℕ) → In l (loops_before v n) → In w l.1 → is_met h.xs w ≡ true
    loop_met l w i j =
        let x : (x : ℕ × Loop) × In x h.xs × (l ≡ x.1) = In-map (λ (x : ℕ × Loop). x.1) l h.xs (subst (λ ls. In l ls) (sym h.loops_are) i) in
        met_in h.xs x.0 w x.1 (subst (λ (k : Loop). In w k.1) x.2 j)

    -- an edge of the row has a label where it is crossing
    told : (m : ℕ) → m < row_name v.grid (row + 1) → is_crossing v.grid (heights v) m ≡ not (eqb (h.label m) none)
    told m below_end =
        elim (cases_Bool (is_met h.xs m)) [
          | inl t ↦ (
              let l = met_loop m t in
              let crosses : In m (crossing_edges v.grid (heights v)) = loops_cross v.grid (heights v) l.0 m (of_mesh n l.0 m inside l.1 l.2) l.2 in
              let known : h.label m < labels.count = h.labelled_are.met m t in
              (In-filter (is_crossing v.grid (heights v)) m (below (name_bound v.grid)) crosses).1 ∙ sym (ap not (ne_eqb (h.label m) none (λ e. absurd (omega (arith, e, known, h.labelled_are.few))))))
          | inr f ↦ (
              elim (cases_Bool (is_crossing v.grid (heights v) m)) [
                | inl c ↦ (
                    let crosses : In m (crossing_edges v.grid (heights v))
                    = in_filter (is_crossing v.grid (heights v)) m (below (name_bound v.grid)) (range_in 0 (name_bound v.grid) m (omega arith) (omega (arith, below_end, inside))) c in
                    let l = edge_looped v.grid (heights v) m (grid_is_thick is) crosses in
                    absurd (both_ways (is_met h.xs m) f (loop_met l.0 m (in_before n l.0 m l.1 l.2 (omega (arith, below_end))) l.2)))
                | inr c ↦ c ∙ sym (ap not (eq-eqb (h.label m) none (h.labelled_are.unmet m f)))
              ])
        ]

    pub leave_start : IsLeft leaving (row_name v.grid row) labels edges
    leave_start = record {
      least = omega arith;
      low = omega (arith, next_row, inside, is.count);
      grid = h.labelled_are.grid;
      count = refl;
      pairs = refl;
      gone = λ m l b. absurd (omega (arith, l, b));
      still = λ m l b. h.labelled_are.standing.each m l b;
      told = λ m l b. told m (omega (arith, b, next_row));
      size = h.size;
      edges_are = h.edges_are;
      passed = h.passed;
    }

    pub leave_end : (labels' : Known) (edges' : Passed) → IsLeft leaving (row_end leaving) labels' edges' → IsWalked value fits of_loop v (row + 1) (loops_before v n) labels' ts edges'
    leave_end labels' edges' left = record {
      xs = h.xs;
      label = h.label;
      loops_are = h.loops_are;
      labelled_are = row_left v.grid row h.xs h.label labels labels' h.labelled_are (left.grid ∙ sym h.labelled_are.grid) left.count left.pairs
          (λ k l. left.gone (row_name v.grid row + k) (omega arith) (omega (arith, l)))
          (λ m l b. left.still m (omega (arith, l, next_row)) b ∙ sym (h.labelled_are.standing.each m (omega (arith, l, next_row)) b))
          (λ m l. elim (cases_Bool (is_met h.xs m)) [
            | inl t ↦ (let k = met_loop m t in let w : m < row_name v.grid row + room v.grid = vertex_low row k.0 m is inside k.1 k.2 in absurd (omega (arith, w, l)))
            | inr f ↦ f
          ]);
      size = left.size;
      tallies_are = subst (λ c. AreTallies value fits (of_loop v) h.xs c ts) (sym left.count) h.tallies_are;
      edges_are = subst (λ m. AreEdges h.label (rank v.grid (heights v)) (edges_before v m) edges'.crossings.items edges'.order.items) (sym next_row) left.edges_are;
      passed = left.passed ∙ ap (rank v.grid (heights v)) (sym next_row);
    }

    some : 0 < room v.grid
    some = (let w : v.grid.nx * 2 ≤ v.grid.nx * v.grid.ny = mul-le-mul_left v.grid.nx is.y.least in omega (arith, w, is.x.least))

    -- a row without crossing edges
    pub quiet_row : ((m : ℕ) → row_name v.grid row ≤ m → m < row_name v.grid (row + 1) → is_crossing v.grid (heights v) m ≡ false) → IsWalked value fits of_loop v (row + 1) (loops_before v n) labels ts edges
    quiet_row still =
        leave_end labels edges
        (left_quiet leaving (row_name v.grid row) labels edges (3 * v.grid.nx) leave_start (omega arith) some (λ m least low. still m least (omega (arith, low, next_row))))

-- a row of a grid
pub row_low : (g : Grid) (y z : ℕ) → y < g.ny → z < g.nz → y + g.ny * z < g.ny * g.nz
row_low g y z hy hz =
    let m : g.ny * (z + 1) ≤ g.ny * g.nz = mul-le-mul_left g.ny (omega (arith, hz)) in
    let e : g.ny * (z + 1) ≡ g.ny * z + g.ny * 1 = mul-add g.ny z 1 in
    omega (arith, m, e, hy)

-- where the points of a row begin that a brick holds
module _ (g : Grid) where
  pub begin_in : (x : ℕ) → x < bricks_along g 0 → first_point g x ≡ 8 * x
  begin_in x low = ap (λ b. cond b (8 * x) g.nx) (lt-ltb x (bricks_along g 0) low)

  pub begin_behind : (x : ℕ) → bricks_along g 0 ≤ x → first_point g x ≡ g.nx
  begin_behind x high = ap (λ b. cond b (8 * x) g.nx) (le-ltb x (bricks_along g 0) high)

  pub begin_low : (x : ℕ) → first_point g x ≤ g.nx
  begin_low x =
      elim (cases_lt x (bricks_along g 0)) [
        | inl low ↦ (let e = begin_in x low in omega (arith, e, low))
        | inr high ↦ (let e = begin_behind x high in omega (arith, e))
      ]

  pub begin_grows : (from next : ℕ) → from ≤ next → first_point g from ≤ first_point g next
  begin_grows from next least =
      let most = begin_low from in
      elim (cases_lt next (bricks_along g 0)) [
        | inl here ↦ (let f = begin_in next here in let e = begin_in from (omega (arith, here, least)) in omega (arith, e, f, least))
        | inr behind ↦ (let f = begin_behind next behind in omega (arith, f, most))
      ]

  pub brick_some : (x : ℕ) → x < bricks_along g 0 → 8 * x ≤ first_point g (x + 1)
  brick_some x low = let e = begin_in x low in let m = begin_grows x (x + 1) (omega arith) in omega (arith, e, m)

  -- the place of the first edge of a brick
  pub brick_place : (row place x : ℕ) → place ≡ row_name g row % room g → place + 3 * g.nx ≤ room g → x < bricks_along g 0 → place + 24 * x ≡ (row_name g row + 3 * first_point g x) % room g
  brick_place row place x at fits low =
      let e = begin_in x low in
      (let s : place + 24 * x ≡ place + 3 * first_point g x = omega (arith, e) in s) ∙ next_place (room g) (row_name g row) place (3 * first_point g x) at (omega (arith, e, fits, low))

-- cells of a row that have no loops
module _ (v : Leveled) (y z : ℕ) (hy : y < v.grid.ny) (hz : z < v.grid.nz) where
  pub quiet_to : (from to : ℕ) → from ≤ to → to ≤ v.grid.nx
      → ((x : ℕ) → x + 1 < v.grid.nx → from ≤ x → x < to → y + 1 < v.grid.ny → z + 1 < v.grid.nz → loops_at v (index v.grid x y z) ≡ [])
      → loops_before v (row_start v.grid y z + to) ≡ loops_before v (row_start v.grid y z + from)
  quiet_to from to le most h =
      ap (loops_before v) (let e : row_start v.grid y z + to ≡ row_start v.grid y z + from + (to - from) = omega (arith, le) in e)
      ∙ before_quiets v (row_start v.grid y z + from) (to - from) (λ k l is.
      (let x : ℕ = from + k in
      let hx : x < v.grid.nx = omega (arith, l, most, le) in
      let at : row_start v.grid y z + from + k ≡ index v.grid x y z = omega arith in
      let low : Low v.grid (index v.grid x y z) = low_is v.grid (index v.grid x y z) (subst (λ q. is_cell v.grid q ≡ true) at is) in
      let ex : coordinate v.grid 0 (index v.grid x y z) ≡ x = x_index v.grid x y z hx hy hz in
      let ey : coordinate v.grid 1 (index v.grid x y z) ≡ y = y_index v.grid x y z hx hy hz in
      let ez : coordinate v.grid 2 (index v.grid x y z) ≡ z = z_index v.grid x y z hx hy hz in
      subst (λ q. loops_at v q ≡ []) (sym at) (h x (omega (arith, low.x, ex)) (omega arith) (omega (arith, l, le)) (omega (arith, low.y, ey)) (omega (arith, low.z, ez)))))

  -- points at which no crossing edge begins
  pub no_crossing : (from to : ℕ) → ((x : ℕ) → from ≤ x → x < to → flags_at v.grid (heights v) (row_start v.grid y z + x) ≡ 0)
      → (m : ℕ) → row_name v.grid (y + v.grid.ny * z) + 3 * from ≤ m → m < row_name v.grid (y + v.grid.ny * z) + 3 * to → is_crossing v.grid (heights v) m ≡ false
  no_crossing from to h m l b =
      let start : ℕ = row_start v.grid y z in
      let x : ℕ = m / 3 - start in
      let p : m / 3 ≡ start + x = omega (arith, l) in
      let f : flags_at v.grid (heights v) (start + x) ≡ 0 = h x (omega (arith, l)) (omega (arith, l, b)) in
      by_axis (start + x) f (m % 3) m (omega arith) (omega (arith, p))
    where
      low : (a b c : Bool) → cond {A = ℕ} a 1 0 + (2 * cond {A = ℕ} b 1 0 + 4 * cond {A = ℕ} c 1 0) ≡ 0 → (a ≡ false) × (b ≡ false) × (c ≡ false)
      low false false false e = (refl, refl, refl)
      low true b c e = absurd (omega (arith, e))
      low false true c e = absurd (omega (arith, e))
      low false false true e = absurd (omega (arith, e))

      by_axis : (p : ℕ) → flags_at v.grid (heights v) p ≡ 0 → (axis m : ℕ) → axis < 3 → m ≡ 3 * p + axis → is_crossing v.grid (heights v) m ≡ false
      by_axis p f zero m a e =
          ap (is_crossing v.grid (heights v)) (let z : m ≡ 3 * p = omega (arith, e) in z) ∙ (low (is_crossing v.grid (heights v) (3 * p)) (is_crossing v.grid (heights v) (3 * p + 1)) (is_crossing v.grid (heights v) (3 * p + 2)) f).0
      by_axis p f (suc zero) m a e =
          ap (is_crossing v.grid (heights v)) (let z : m ≡ 3 * p + 1 = omega (arith, e) in z) ∙ (low (is_crossing v.grid (heights v) (3 * p)) (is_crossing v.grid (heights v) (3 * p + 1)) (is_crossing v.grid (heights v) (3 * p + 2)) f).1
      by_axis p f (suc (suc zero)) m a e =
          ap (is_crossing v.grid (heights v)) (let z : m ≡ 3 * p + 2 = omega (arith, e) in z) ∙ (low (is_crossing v.grid (heights v) (3 * p)) (is_crossing v.grid (heights v) (3 * p + 1)) (is_crossing v.grid (heights v) (3 * p + 2)) f).2
      by_axis p f (suc (suc (suc axis))) m a e = absurd (omega arith)

  -- no crossing edge begins at the points of bricks between two active ones
  pub quiet_between : (from next : ℕ) → 2 ≤ v.grid.nx → AreStill v y z from next → (x : ℕ) → first_point v.grid from ≤ x → x < first_point v.grid next → flags_at v.grid (heights v) (row_start v.grid y z + x) ≡ 0
  quiet_between from next wide still x least low =
      let most = begin_low v.grid next in
      elim (cases_lt from (bricks_along v.grid 0)) [
        | inr high ↦ (let e = begin_behind v.grid from high in absurd (omega (arith, e, least, low, most)))
        | inl known ↦ (
            let e = begin_in v.grid from known in
            still.points x (omega (arith, low, most)) (omega (arith, e, least, known))
            (elim (cases_lt next (bricks_along v.grid 0)) [
              | inl here ↦ (let f = begin_in v.grid next here in omega (arith, f, low))
              | inr behind ↦ omega (arith, behind, wide)
            ]))
      ]

  -- so they are left behind
  pub left_between : (label : ℕ → ℕ) (base : Known) (from next : ℕ) (labels : Known) (edges : Passed) → IsGrid v.grid → AreStill v y z from next
      → IsLeft (row_of v (y + v.grid.ny * z) label base) (row_name v.grid (y + v.grid.ny * z) + 3 * first_point v.grid from) labels edges
      → IsLeft (row_of v (y + v.grid.ny * z) label base) (row_name v.grid (y + v.grid.ny * z) + 3 * first_point v.grid next) labels edges
  left_between label base from next labels edges is still h =
      let start : ℕ = row_name v.grid (y + v.grid.ny * z) in
      let a : ℕ = first_point v.grid from in
      let b : ℕ = first_point v.grid next in
      let grows : a ≤ b = begin_grows v.grid from next still.least in
      let most : b ≤ v.grid.nx = begin_low v.grid next in
      let deep : v.grid.nx * 2 ≤ v.grid.nx * v.grid.ny = mul-le-mul_left v.grid.nx is.y.least in
      subst (λ n. IsLeft (row_of v (y + v.grid.ny * z) label base) n labels edges) (let e : start + 3 * a + 3 * (b - a) ≡ start + 3 * b = omega (arith, grows) in e)
      (left_quiet (row_of v (y + v.grid.ny * z) label base) (start + 3 * a) labels edges (3 * (b - a)) h (omega (arith, grows, most)) (omega (arith, deep, is.x.least))
      (λ m least low. no_crossing a b (quiet_between from next is.x.least still) m least (omega (arith, low, grows))))

  pub start_next : row_start v.grid y z + v.grid.nx ≡ v.grid.nx * (y + v.grid.ny * z + 1)
  start_next = (let e : v.grid.nx * (y + v.grid.ny * z + 1) ≡ v.grid.nx * (y + v.grid.ny * z) + v.grid.nx * 1 = mul-add v.grid.nx (y + v.grid.ny * z) 1 in omega (arith, e))

  module _ {T : Type 0} (value : T → ℕ → ℤ) (fits : ℕ → T → Type 0) (of_loop : Leveled → ℕ → Loop → ℤ) (labels : Known) (ts : List T) (edges : Passed) (is : IsGrid v.grid)
      (h : IsWalked value fits of_loop v (y + v.grid.ny * z) (loops_before v (row_start v.grid y z + v.grid.nx)) labels ts edges) where
    abbrev row : ℕ
    row = y + v.grid.ny * z

    pub by_row : IsWalked value fits of_loop v row (loops_before v (v.grid.nx * (row + 1))) labels ts edges
    by_row = subst (λ q. IsWalked value fits of_loop v row (loops_before v q) labels ts edges) start_next h

    -- before the edges of the row are left behind
    abbrev pub row_here : Leaving
    row_here = leaving v value fits of_loop row labels ts edges is (row_low v.grid y z hy hz) by_row

    pub row_begun : IsLeft row_here (row_name v.grid row) labels edges
    row_begun = leave_start v value fits of_loop row labels ts edges is (row_low v.grid y z hy hz) by_row

    -- and behind them
    pub row_ended : (labels' : Known) (edges' : Passed) → IsLeft row_here (row_end row_here) labels' edges' → IsWalked value fits of_loop v (row + 1) (loops_before v (row_start v.grid y z + v.grid.nx)) labels' ts edges'
    row_ended labels' edges' left =
        subst (λ q. IsWalked value fits of_loop v (row + 1) (loops_before v q) labels' ts edges') (sym start_next)
        (leave_end v value fits of_loop row labels ts edges is (row_low v.grid y z hy hz) by_row labels' edges' left)

-- the same row and the same point, by other numbers
pub moved : {T : Type 0} (value : T → ℕ → ℤ) (fits : ℕ → T → Type 0) (of_loop : Leveled → ℕ → Loop → ℤ) (v : Leveled) (r r' q q' : ℕ) (labels : Known) (ts : List T) (edges : Passed) → r ≡ r' → q ≡ q'
    → IsWalked value fits of_loop v r (loops_before v q) labels ts edges → IsWalked value fits of_loop v r' (loops_before v q') labels ts edges
moved value fits of_loop v r r' q q' labels ts edges er eq h =
    subst (λ n. IsWalked value fits of_loop v n (loops_before v q') labels ts edges) er (subst (λ n. IsWalked value fits of_loop v r (loops_before v n) labels ts edges) eq h)

-- behind the last row are the loops of all cells
pub all_before : (v : Leveled) → loops_before v (row_start v.grid 0 v.grid.nz) ≡ mesh_loops v.grid (heights v)
unfolding loops_before
all_before v =
    ap (λ n. flat_map (loops_in v.grid (heights v)) (filter (is_cell v.grid) (below n)))
    (let e : row_start v.grid 0 v.grid.nz ≡ point_count v.grid = omega arith in e)

pub whole_of : {T : Type 0} (value : T → ℕ → ℤ) (fits : ℕ → T → Type 0) (of_loop : Leveled → ℕ → Loop → ℤ) (v : Leveled) (labels : Known) (ts : List T) (edges : Passed) → IsGrid v.grid
    → IsWalked value fits of_loop v (v.grid.ny * v.grid.nz) (loops_before v (row_start v.grid 0 v.grid.nz)) labels ts edges → IsWhole value fits of_loop v labels ts edges
whole_of value fits of_loop v labels ts edges is h =
    record { thick = grid_is_thick is; walked = subst (λ ls. IsWalked value fits of_loop v (v.grid.ny * v.grid.nz) ls labels ts edges) (all_before v) h }

pub at_moved : {T : Type 0} (value : T → ℕ → ℤ) (fits : ℕ → T → Type 0) (of_loop : Leveled → ℕ → Loop → ℤ) (v : Leveled) (r r' q q' : ℕ) (w : RowWalk T) → r ≡ r' → q ≡ q' → IsAt value fits of_loop v r q w → IsAt value fits of_loop v r' q' w
at_moved value fits of_loop v r r' q q' w er eq h = subst (λ n. IsAt value fits of_loop v n q' w) er (subst (λ n. IsAt value fits of_loop v r n w) eq h)

-- a list of which all elements were written
pub all_written : {A : Type 0} (n : ℕ) (old new : List A) → n ≡ length old → length new ≡ length old → take n (new ++ drop (length new) old) ≡ new
all_written n old new e l =
    ap (λ ys. take n (new ++ ys)) (drop_all (length new) old (omega (arith, l))) ∙ (ap (take n) (none_behind new) ∙ take_all n new (omega (arith, e, l)))
