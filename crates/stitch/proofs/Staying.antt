-- Lists that are right for a volume are right for one with the same values off a box, but for rows that rest on points of the box.
use Rattle.std.proofs.Common.{◌≡◌, ℕ, zero, suc, ◌+◌, ◌-◌, ◌*◌, ◌/◌, ◌%◌, ◌<◌, ◌≤◌, ◌&&◌, ℤ, Bool, true, false, cond, List, ◌∷◌, map, drop, take, length, leb, refl, sym, ◌∙◌, ap, ap₂, subst, arith, inl, inr}
use Rattle.std.specs.List.{filter, range_with_len}
use Rattle.std.proofs.lemmas.Bool.{and_parts, cases_Bool, leb-true, ltb-true}
use Rattle.std.proofs.lemmas.Nat.{div-add-mod', div_below}
use Rattle.iso_defs.specs.Grid.{Grid, coordinate, differ, has_next, index, is_above, is_crossing, stride}
use Rattle.iso_defs.specs.Cell.{case_loops, cell_values, corner_point, joined_of, signs_of}
use Rattle.iso_defs.specs.Place.{place}
use Rattle.iso_defs.specs.Rows.{row_count}
use Rattle.iso_defs.proofs.Points.{index_in, x_index, y_index, z_index}
use Rattle.voxel_list.specs.Areas.{Area, is_in_area}
use Rattle.crossing_edges.specs.Flags.{edge_place, names_in, places_in}
use Rattle.crossing_edges.proofs.NextPoints.{crossing_at, ends, place_at}
use Rattle.flat_mesh.specs.Lattice.{Leveled, heights}
use Rattle.flat_mesh.specs.Faces.{loops_at}
use Rattle.flat_mesh.specs.Rows.{row_start}
use Rattle.mesh_rows.specs.Rows.{AreEdges, row_names, row_places}
use Rattle.brick_rows.proofs.Corners.{corner_at}
use Rattle.stitch.specs.declared.recent.RecentLists.{RecentLists}
use Rattle.stitch.specs.Cells.{AreListed}
use Rattle.stitch.specs.Recent.{AreRecent}
use Rattle.stitch.specs.Rooms.{SameOutside}
use Rattle.stitch.proofs.Forgetting.{AreWithoutRows}

-- ---- numbers of a range where two functions agree

behind : (b c d : Bool) → (b ≡ true → c ≡ d) → (b && c) ≡ (b && d)
behind true c d same = same refl
behind false c d same = refl

map_same : (f h : ℕ → ℤ) (a n : ℕ) → ((x : ℕ) → a ≤ x → x < a + n → f x ≡ h x) → map f (range_with_len a n) ≡ map h (range_with_len a n)
map_same f h a zero same = refl
map_same f h a (suc n) same =
    ap₂ (λ y l. y ∷ l) (same a (omega arith) (omega arith)) (map_same f h (a + 1) n (λ x from to. same x (omega arith) (omega arith)))

passed_same : (p q : ℕ → Bool) (a n : ℕ) → ((x : ℕ) → a ≤ x → x < a + n → p x ≡ q x) → filter p (range_with_len a n) ≡ filter q (range_with_len a n)
passed_same p q a zero same = refl
passed_same p q a (suc n) same =
    ap₂ (λ b l. cond {A = List ℕ} b (a ∷ l) l) (same a (omega arith) (omega arith)) (passed_same p q (a + 1) n (λ x from to. same x (omega arith) (omega arith)))

made_same : (p : ℕ → Bool) (f h : ℕ → ℕ) (a n : ℕ) → ((x : ℕ) → a ≤ x → x < a + n → p x ≡ true → f x ≡ h x)
    → map f (filter p (range_with_len a n)) ≡ map h (filter p (range_with_len a n))
made_same p f h a zero same = refl
made_same p f h a (suc n) same = either (p a) refl (made_same p f h (a + 1) n (λ x from to. same x (omega arith) (omega arith)))
  where
    rest : List ℕ
    rest = filter p (range_with_len (a + 1) n)

    either : (b : Bool) → p a ≡ b → map f rest ≡ map h rest → map f (cond {A = List ℕ} b (a ∷ rest) rest) ≡ map h (cond {A = List ℕ} b (a ∷ rest) rest)
    either true e on = ap₂ (λ y l. y ∷ l) (same a (omega arith) (omega arith) e) on
    either false e on = on

-- ---- a row that rests on no point of a box

-- the values of another volume in the same grid
abbrev in_grid : Leveled → Grid → Leveled
in_grid w g = record { grid = g; samples = w.samples; level = w.level }

module _ (a : Area) (v w : Leveled) (are : SameOutside a v w) (y z : ℕ) (hy : y < v.grid.ny) (hz : z < v.grid.nz)
    (away : a.low.y ≤ y + 1 → y ≤ a.high.y → a.low.z ≤ z + 1 → z ≤ a.high.z → ⊥) where
  abbrev g : Grid
  g = v.grid

  -- the points of a row and of the next ones along y and z have the same values
  same_at : (x y' z' : ℕ) → x < g.nx → y' < g.ny → z' < g.nz → y ≤ y' → y' ≤ y + 1 → z ≤ z' → z' ≤ z + 1
      → heights v (index g x y' z') ≡ heights w (index g x y' z')
  same_at x y' z' lx ly lz from_y to_y from_z to_z = are.others q (index_in g x y' z' lx ly lz) (elim (cases_Bool (is_in_area g a q)) [
    | inl e ↦ absurd (within e)
    | inr e ↦ e
  ])
    where
      q : ℕ
      q = index g x y' z'

      within : is_in_area g a q ≡ true → ⊥
      within e =
          let first = and_parts (leb a.low.x (coordinate g 0 q) && leb (coordinate g 0 q) a.high.x) _ e in
          let second = and_parts (leb a.low.y (coordinate g 1 q) && leb (coordinate g 1 q) a.high.y) _ first.1 in
          let along_y = and_parts (leb a.low.y (coordinate g 1 q)) _ second.0 in
          let along_z = and_parts (leb a.low.z (coordinate g 2 q)) _ second.1 in
          let y_is : coordinate g 1 q ≡ y' = y_index g x y' z' lx ly lz in
          let z_is : coordinate g 2 q ≡ z' = z_index g x y' z' lx ly lz in
          let low_y = leb-true _ _ along_y.0 in
          let high_y = leb-true _ _ along_y.1 in
          let low_z = leb-true _ _ along_z.0 in
          let high_z = leb-true _ _ along_z.1 in
          away (omega (arith, y_is, low_y)) (omega (arith, y_is, high_y)) (omega (arith, z_is, low_z)) (omega (arith, z_is, high_z))

  -- and so has the other end of an edge
  same_next : (x axis : ℕ) → x < g.nx → axis < 3 → has_next g axis (index g x y z) ≡ true
      → heights v (index g x y z + stride g axis) ≡ heights w (index g x y z + stride g axis)
  same_next x zero lx few next =
      let more : x + 1 < g.nx = let l = ltb-true _ _ next in omega (arith, l, x_index g x y z lx hy hz) in
      let there : index g (x + 1) y z ≡ index g x y z + 1 = omega arith in
      subst (λ q. heights v q ≡ heights w q) there (same_at (x + 1) y z more hy hz (omega arith) (omega arith) (omega arith) (omega arith))
  same_next x (suc zero) lx few next =
      let more : y + 1 < g.ny = let l = ltb-true _ _ next in omega (arith, l, y_index g x y z lx hy hz) in
      let there : index g x (y + 1) z ≡ index g x y z + g.nx = omega arith in
      subst (λ q. heights v q ≡ heights w q) there (same_at x (y + 1) z lx more hz (omega arith) (omega arith) (omega arith) (omega arith))
  same_next x (suc (suc zero)) lx few next =
      let more : z + 1 < g.nz = let l = ltb-true _ _ next in omega (arith, l, z_index g x y z lx hy hz) in
      let there : index g x y (z + 1) ≡ index g x y z + g.nx * g.ny = omega arith in
      subst (λ q. heights v q ≡ heights w q) there (same_at x y (z + 1) lx hy more (omega arith) (omega arith) (omega arith) (omega arith))
  same_next x (suc (suc (suc n))) lx few next = absurd (omega (arith, few))

  abbrev same_low : (x : ℕ) → x < g.nx → heights v (index g x y z) ≡ heights w (index g x y z)
  same_low x lx = same_at x y z lx hy hz (omega arith) (omega arith) (omega arith) (omega arith)

  same_crossing : (e : ℕ) → e < 3 * g.nx → is_crossing g (heights v) (3 * row_start g y z + e) ≡ is_crossing g (heights w) (3 * row_start g y z + e)
  same_crossing e low =
      let x : ℕ = e / 3 in
      let axis : ℕ = e % 3 in
      let p : ℕ = index g x y z in
      let lx : x < g.nx = omega (arith, low) in
      let few : axis < 3 = omega arith in
      let name : 3 * row_start g y z + e ≡ 3 * p + axis = omega arith in
      ap (is_crossing g (heights v)) name ∙ (crossing_at g (heights v) p axis few
      ∙ (behind (has_next g axis p) _ _ (λ next. ap₂ (λ s t. differ (is_above s) (is_above t)) (same_low x lx) (same_next x axis lx few next))
      ∙ sym (ap (is_crossing g (heights w)) name ∙ crossing_at g (heights w) p axis few)))

  same_place : (e : ℕ) → e < 3 * g.nx → is_crossing g (heights v) (3 * row_start g y z + e) ≡ true
      → edge_place g (heights v) (3 * row_start g y z + e) ≡ edge_place g (heights w) (3 * row_start g y z + e)
  same_place e low crosses =
      let x : ℕ = e / 3 in
      let axis : ℕ = e % 3 in
      let p : ℕ = index g x y z in
      let lx : x < g.nx = omega (arith, low) in
      let few : axis < 3 = omega arith in
      let name : 3 * row_start g y z + e ≡ 3 * p + axis = omega arith in
      let there = (ends g (heights v) p axis few (sym (ap (is_crossing g (heights v)) name) ∙ crosses)).next in
      ap (edge_place g (heights v)) name ∙ (place_at g (heights v) p axis few
      ∙ (ap₂ place (same_low x lx) (same_next x axis lx few there)
      ∙ sym (ap (edge_place g (heights w)) name ∙ place_at g (heights w) p axis few)))

  abbrev start : ℕ
  start = 3 * row_start g y z

  same_names : row_names v y z ≡ row_names (in_grid w g) y z
  unfolding names_in
  same_names = passed_same (is_crossing g (heights v)) (is_crossing g (heights w)) start (3 * g.nx) (λ n from to.
      let at : start + (n - start) ≡ n = omega (arith, from) in
      subst (λ n. is_crossing g (heights v) n ≡ is_crossing g (heights w) n) at (same_crossing (n - start) (omega (arith, from, to))))

  same_places : row_places v y z ≡ row_places (in_grid w g) y z
  unfolding places_in names_in
  same_places =
      made_same (is_crossing g (heights v)) (edge_place g (heights v)) (edge_place g (heights w)) start (3 * g.nx) (λ n from to crosses.
      let at : start + (n - start) ≡ n = omega (arith, from) in
      subst (λ n. is_crossing g (heights v) n ≡ true → edge_place g (heights v) n ≡ edge_place g (heights w) n) at
      (same_place (n - start) (omega (arith, from, to))) crosses)
      ∙ ap (map (edge_place g (heights w))) same_names

  edges_stay : (list : List ℕ) → AreEdges v y z list → AreEdges (in_grid w g) y z list
  edges_stay list are = record { names = are.names ∙ same_names }

  places_stay : (list : List ℕ) → list ≡ row_places v y z → list ≡ row_places (in_grid w g) y z
  places_stay list are = are ∙ same_places

  -- the cells between a row and the next ones
  module _ (in_y : y + 1 < g.ny) (in_z : z + 1 < g.nz) where
    same_corner : (x c : ℕ) → x + 1 < g.nx → c < 8 → heights v (corner_point g (index g x y z) c) ≡ heights w (corner_point g (index g x y z) c)
    same_corner x c lx few =
        let i : ℕ = c % 2 in
        let j : ℕ = c / 2 % 2 in
        let k : ℕ = c / 4 in
        let at : i + 2 * j + 4 * k ≡ c = omega arith in
        let corner : corner_point g (index g x y z) c ≡ index g (x + i) (y + j) (z + k)
        = ap (corner_point g (index g x y z)) (sym at) ∙ corner_at g x y z i j k (omega arith) (omega arith) (omega (arith, few)) in
        subst (λ q. heights v q ≡ heights w q) (sym corner)
        (same_at (x + i) (y + j) (z + k) (omega (arith, lx)) (omega (arith, in_y)) (omega (arith, in_z, few)) (omega arith) (omega arith) (omega arith) (omega (arith, few)))

    same_loops : (x : ℕ) → x + 1 < g.nx → loops_at v (index g x y z) ≡ loops_at (in_grid w g) (index g x y z)
    unfolding loops_at
    same_loops x lx =
        let q : ℕ = index g x y z in
        let values : cell_values g (heights v) q ≡ cell_values g (heights w) q
        = map_same (λ c. heights v (corner_point g q c)) (λ c. heights w (corner_point g q c)) 0 8 (λ c from to. same_corner x c lx (omega (arith, to))) in
        ap (λ l. case_loops (signs_of l) (joined_of l)) values

    cells_stay : (places cases : List ℕ) → AreListed v y z places cases → AreListed (in_grid w g) y z places cases
    cells_stay places cases are = record {
      all_are = λ x within low. let case = are.all_are x within low in record { small = case.small; loops = case.loops ∙ same_loops x within };
      places_are = are.places_are;
      cases_are = are.cases_are;
    }

-- ---- lists of rows, but for those that rest on points of a box

-- where a row lies
record IsRow (g : Grid) (r : ℕ) : Type 0 where
  y_in : r % g.ny < g.ny
  z_in : r / g.ny < g.nz
  number : r % g.ny + g.ny * (r / g.ny) ≡ r

row_at : (g : Grid) (r : ℕ) → r < row_count g → IsRow g r
row_at g r low =
    let some : 0 < g.ny = first g.ny g.nz r low in
    record {
      y_in = omega (arith, some);
      z_in = div_below r g.ny g.nz some (omega (arith, low));
      number = omega (arith, div-add-mod' r g.ny);
    }
  where
    first : (n m r : ℕ) → r < n * m → 0 < n
    first zero m r h = absurd (let e : 0 * m ≡ 0 = omega arith in omega (arith, h, e))
    first (suc n) m r h = omega arith

pub lists_stay : (a : Area) (v w : Leveled) (old new : RecentLists) → SameOutside a v w
    → AreWithoutRows (a.low.y - 1) (a.high.y + 1) (a.low.z - 1) (a.high.z + 1) v.grid.ny old new → AreRecent v old → AreRecent w new
lists_stay a v w old new same gone are = subst (λ (g : Grid). AreRecent (in_grid w g) new) same.same_grid record {
  within = gone.within are.within;
  edges = λ r list low kept.
      let row = row_at v.grid r low in
      edges_stay a v w same (r % v.grid.ny) (r / v.grid.ny) row.y_in row.z_in
      (λ y0 y1 z0 z1. gone.none (r % v.grid.ny) (r / v.grid.ny) (3 * r) list (omega (arith, y0)) (omega (arith, y1)) (omega (arith, z0)) (omega (arith, z1)) (omega (arith, row.number)) (omega (arith, row.number)) kept)
      list (are.edges r list low (gone.kept (3 * r) list kept));
  places = λ r list low kept.
      let row = row_at v.grid r low in
      places_stay a v w same (r % v.grid.ny) (r / v.grid.ny) row.y_in row.z_in
      (λ y0 y1 z0 z1. gone.none (r % v.grid.ny) (r / v.grid.ny) (3 * r + 1) list (omega (arith, y0)) (omega (arith, y1)) (omega (arith, z0)) (omega (arith, z1)) (omega (arith, row.number)) (omega (arith, row.number)) kept)
      list (are.places r list low (gone.kept (3 * r + 1) list kept));
  cells = λ r list low in_y in_z kept.
      let row = row_at v.grid r low in
      cells_stay a v w same (r % v.grid.ny) (r / v.grid.ny) row.y_in row.z_in
      (λ y0 y1 z0 z1. gone.none (r % v.grid.ny) (r / v.grid.ny) (3 * r + 2) list (omega (arith, y0)) (omega (arith, y1)) (omega (arith, z0)) (omega (arith, z1)) (omega (arith, row.number)) (omega (arith, row.number)) kept)
      in_y in_z (take (length list / 2) list) (drop (length list / 2) list) (are.cells r list low in_y in_z (gone.kept (3 * r + 2) list kept));
}
