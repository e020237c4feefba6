-- Where the crossing edges of a row of points are crossed, from the samples at their ends.
use Rattle.std.proofs.Common.{◌≡◌, ℕ, ◌+◌, ◌*◌, ◌/◌, ◌%◌, ◌<◌, ◌==◌, true, ℤ, List, length, get_or, set, sym, ◌∙◌, ap, ap₂, subst, arith, inl, inr, w64, to_z, of_z}
use Rattle.std.specs.Int.{from_bool}
use Rattle.std.proofs.lemmas.Bool.{and_parts, cases_lt, ltb-true}
use Rattle.std.proofs.lemmas.Int.{ints}
use Rattle.iso_defs.specs.Grid.{edge_axis, edge_lower, edge_upper, has_next, index, is_edge, stride, differ, is_above, is_crossing}
use Rattle.iso_defs.proofs.Points.{x_index, y_index, z_index}
use Rattle.iso_base.specs.Volume.{IsSample, shifted, sample}
use Rattle.crossing_edges.specs.Flags.{edge_place}
use Rattle.crossing_edges.proofs.OffsetEdges.{offset_at, place_more as one_place_more, places_are as each_place}
use Rattle.flat_mesh.specs.Lattice.{IsLeveled, Leveled, heights}
use Rattle.flat_mesh.specs.Rows.{row_start}
use Rattle.mesh_rows.specs.Rows.{AreEdges, row_places}
use Rattle.sample_rows.specs.Ends.{HaveEnds}
use Rattle.sample_rows.proofs.Corners.{sample_is}

-- the place of an end among the samples, and its shifted value
pub record IsEnd (v : Leveled) (ends : List ℤ) (place point : ℕ) : Type 0 where
  pub low : place < length ends
  pub value : sample ends place ≡ sample v.samples point

module _ (v : Leveled) (y z edge : ℕ) (ends : List ℤ) (have : HaveEnds v y z ends) (hy : y < v.grid.ny) (hz : z < v.grid.nz) (low : edge < 3 * v.grid.nx) where
  abbrev name : ℕ
  name = 3 * row_start v.grid y z + edge

  lower_is : edge_lower name ≡ row_start v.grid y z + edge / 3
  lower_is = third (row_start v.grid y z) edge
    where
      third : (a e : ℕ) → (3 * a + e) / 3 ≡ a + e / 3
      third a e = omega arith

  axis_is : edge_axis name ≡ edge % 3
  axis_is = rest (row_start v.grid y z) edge
    where
      rest : (a e : ℕ) → (3 * a + e) % 3 ≡ e % 3
      rest a e = omega arith

  at_index : row_start v.grid y z + edge / 3 ≡ index v.grid (edge / 3) y z
  at_index = omega arith

  in_row : edge / 3 < v.grid.nx
  in_row = omega arith

  pub lower_end : (x : ℕ) → x ≡ edge / 3 → IsEnd v ends x (edge_lower name)
  lower_end x e = subst (λ x. IsEnd v ends x (edge_lower name)) (sym e) (record {
    low = omega (arith, have.count, in_row);
    value = have.here (edge / 3) in_row ∙ ap (sample v.samples) (sym (lower_is ∙ at_index));
  })

  -- the next points
  next : (axis : ℕ) → edge % 3 ≡ axis → is_edge v.grid name ≡ true → has_next v.grid axis (index v.grid (edge / 3) y z) ≡ true
  next axis e is = ap (λ a. has_next v.grid a (index v.grid (edge / 3) y z)) (sym (axis_is ∙ e)) ∙ (ap (has_next v.grid (edge_axis name)) (sym (lower_is ∙ at_index)) ∙ is)

  upper_is : (axis : ℕ) → edge % 3 ≡ axis → edge_upper v.grid name ≡ index v.grid (edge / 3) y z + stride v.grid axis
  upper_is axis e = ap (λ p. p + stride v.grid (edge_axis name)) (lower_is ∙ at_index) ∙ ap (λ a. index v.grid (edge / 3) y z + stride v.grid a) (axis_is ∙ e)

  -- how far the sample of the next point stands behind that of the point
  abbrev step_along : ℕ → ℕ
  step_along axis = v.grid.nx * axis + from_bool (axis == 0)

  -- each next point has its sample
  x_end : edge % 3 ≡ 0 → is_edge v.grid name ≡ true → IsEnd v ends (edge / 3 + step_along 0) (edge_upper v.grid name)
  x_end e is =
      let x : ℕ = edge / 3 in
      let more : x + 1 < v.grid.nx = omega (arith, ltb-true _ _ (next 0 e is), x_index v.grid x y z in_row hy hz) in
      let at : x + step_along 0 ≡ x + 1 = omega arith in
      let to : index v.grid (x + 1) y z ≡ edge_upper v.grid name = omega arith ∙ sym (upper_is 0 e) in
      record { low = omega (arith, have.count, at); value = ap (sample ends) at ∙ (have.here (x + 1) more ∙ ap (sample v.samples) to) }

  y_end : edge % 3 ≡ 1 → is_edge v.grid name ≡ true → IsEnd v ends (edge / 3 + step_along 1) (edge_upper v.grid name)
  y_end e is =
      let x : ℕ = edge / 3 in
      let more : y + 1 < v.grid.ny = omega (arith, ltb-true _ _ (next 1 e is), y_index v.grid x y z in_row hy hz) in
      let at : x + step_along 1 ≡ v.grid.nx + x = omega arith in
      let to : index v.grid x (y + 1) z ≡ edge_upper v.grid name = omega arith ∙ sym (upper_is 1 e) in
      record { low = omega (arith, have.count, at, in_row); value = ap (sample ends) at ∙ (have.up x in_row more ∙ ap (sample v.samples) to) }

  z_end : edge % 3 ≡ 2 → is_edge v.grid name ≡ true → IsEnd v ends (edge / 3 + step_along 2) (edge_upper v.grid name)
  z_end e is =
      let x : ℕ = edge / 3 in
      let more : z + 1 < v.grid.nz = omega (arith, ltb-true _ _ (next 2 e is), z_index v.grid x y z in_row hy hz) in
      let at : x + step_along 2 ≡ 2 * v.grid.nx + x = omega arith in
      let to : index v.grid x y (z + 1) ≡ edge_upper v.grid name = omega arith ∙ sym (upper_is 2 e) in
      record { low = omega (arith, have.count, at, in_row); value = ap (sample ends) at ∙ (have.far x in_row more ∙ ap (sample v.samples) to) }

  pub upper_end : (x step : ℕ) → x ≡ edge / 3 → step ≡ step_along (edge % 3) → is_edge v.grid name ≡ true → IsEnd v ends (x + step) (edge_upper v.grid name)
  upper_end x step there made is =
      let along : (axis : ℕ) → edge % 3 ≡ axis → IsEnd v ends (edge / 3 + step_along axis) (edge_upper v.grid name) → IsEnd v ends (x + step) (edge_upper v.grid name)
      = λ (axis : ℕ) (e : edge % 3 ≡ axis) (end : IsEnd v ends (edge / 3 + step_along axis) (edge_upper v.grid name)).
      subst (λ p. IsEnd v ends p (edge_upper v.grid name)) (sym (ap₂ ◌+◌ there (made ∙ ap step_along e))) end in
      elim (cases_lt (edge % 3) 1) [
        | inl first ↦ (let e : edge % 3 ≡ 0 = omega arith in along 0 e (x_end e is))
        | inr later ↦ elim (cases_lt (edge % 3) 2) [
          | inl second ↦ (let e : edge % 3 ≡ 1 = omega arith in along 1 e (y_end e is))
          | inr third ↦ (let e : edge % 3 ≡ 2 = omega arith in along 2 e (z_end e is))
        ]
      ]

-- both ends of a crossing edge
pub record AreEnds (v : Leveled) (ends : List ℤ) (name x step : ℕ) : Type 0 where
  pub lower : IsEnd v ends x (edge_lower name)
  pub upper : IsEnd v ends (x + step) (edge_upper v.grid name)
  pub apart : differ (is_above (heights v (edge_lower name))) (is_above (heights v (edge_upper v.grid name))) ≡ true

pub ends_of : (v w : Leveled) (y z edge : ℕ) (ends : List ℤ) → w ≡ v → HaveEnds v y z ends → y < v.grid.ny → z < v.grid.nz → edge < 3 * v.grid.nx
    → is_crossing v.grid (heights v) (3 * row_start v.grid y z + edge) ≡ true
    → (x nx axis one : ℕ) → x ≡ edge / 3 → nx ≡ w.grid.nx → axis ≡ edge % 3 → one ≡ from_bool (axis == 0)
    → AreEnds v ends (3 * row_start v.grid y z + edge) x (nx * axis + one)
ends_of v w y z edge ends same have hy hz low crossing x nx axis one ex en ea eo =
    let parts = and_parts _ _ crossing in
    let step : nx * axis + one ≡ v.grid.nx * (edge % 3) + from_bool (edge % 3 == 0)
    = ap₂ (λ a b. a * b + one) (en ∙ ap (λ (v : Leveled). v.grid.nx) same) ea ∙ ap (λ n. v.grid.nx * (edge % 3) + n) (eo ∙ ap (λ a. from_bool (a == 0)) ea) in
    record { lower = lower_end v y z edge ends have hy hz low x ex; upper = upper_end v y z edge ends have hy hz low x _ ex step parts.0; apart = parts.1 }

-- a sample fits
pub whole : (z : ℤ) → IsSample z → to_z w64 (of_z w64 z) ≡ z
whole z is = let low = is.low in let high = is.high in omega (arith, ints)

-- the sample there is one, and its shifted value is the volume's
module _ (v : Leveled) (leveled : IsLeveled v) (ends : List ℤ) (place point : ℕ) (is : IsEnd v ends place point) where
  pub end_kept : to_z w64 (of_z w64 (sample ends place)) ≡ sample v.samples point
  end_kept = whole (sample ends place) (subst IsSample (sym is.value) (sample_is v leveled point)) ∙ is.value

  pub end_sample : IsSample (to_z w64 (of_z w64 (sample ends place)))
  end_sample = subst IsSample (sym end_kept) (sample_is v leveled point)

  pub end_height : (w : Leveled) (value : ℤ) → w ≡ v → value ≡ shifted (to_z w64 (of_z w64 (sample ends place))) w.level → value ≡ heights v point
  end_height w value same shifts = shifts ∙ ap₂ shifted end_kept (ap (λ (v : Leveled). v.level) same)

-- the edges of a row begin there, and are crossing
pub record IsRowEdge (v : Leveled) (y z edge : ℕ) : Type 0 where
  pub low : edge < 3 * v.grid.nx
  pub crossing : is_crossing v.grid (heights v) (3 * row_start v.grid y z + edge) ≡ true

module _ (v : Leveled) (y z : ℕ) (edges : List ℕ) (are : AreEdges v y z edges) where
  abbrev start : ℕ
  start = row_start v.grid y z

  pub row_edge : (i : ℕ) → i < length edges → IsRowEdge v y z (get_or edges i 0)
  row_edge i low =
      let at = offset_at v.grid (heights v) start v.grid.nx edges are.names i low in
      record { low = at.low; crossing = at.crossing }

  -- one place for each of them
  pub places_are : (places : List ℕ) → length places ≡ length edges → ((i : ℕ) → i < length edges → get_or places i 0 ≡ edge_place v.grid (heights v) (3 * start + get_or edges i 0))
      → places ≡ row_places v y z
  places_are places count each = each_place v.grid (heights v) start v.grid.nx edges are.names places count each

  -- one place more
  pub place_more : (places : List ℕ) (i place : ℕ) → i < length places → place ≡ edge_place v.grid (heights v) (3 * start + get_or edges i 0)
      → ((k : ℕ) → k < i → get_or places k 0 ≡ edge_place v.grid (heights v) (3 * start + get_or edges k 0))
      → (k : ℕ) → k < i + 1 → get_or (set places i place) k 0 ≡ edge_place v.grid (heights v) (3 * start + get_or edges k 0)
  place_more places i place there here before = one_place_more v.grid (heights v) start v.grid.nx edges are.names places i place there here before
