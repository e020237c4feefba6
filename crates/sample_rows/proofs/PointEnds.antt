-- The two points at the ends of a crossing edge of a row.
use Rattle.std.proofs.Common.{◌≡◌, ℕ, ◌+◌, ◌*◌, ◌/◌, ◌%◌, ◌<◌, ◌==◌, true, ℤ, sym, ◌∙◌, ap, ap₂, subst, arith, inl, inr, w64, to_z, of_z}
use Rattle.std.specs.Int.{from_bool}
use Rattle.std.proofs.lemmas.Bool.{and_parts, cases_lt, ltb-true}
use Rattle.iso_defs.specs.Grid.{edge_axis, edge_lower, edge_upper, has_next, index, is_edge, stride, differ, is_above, is_crossing}
use Rattle.iso_defs.proofs.Points.{x_index, y_index, z_index}
use Rattle.iso_base.specs.Points.{IsPoint, index_of}
use Rattle.iso_base.specs.declared.point.Point.{Point}
use Rattle.iso_base.specs.Volume.{shifted, sample}
use Rattle.flat_mesh.specs.Lattice.{IsLeveled, Leveled, heights}
use Rattle.flat_mesh.specs.Rows.{row_start}
use Rattle.sample_rows.proofs.Corners.{sample_is}
use Rattle.sample_rows.proofs.Ends.{whole}

-- a point, which is that of an index
pub record IsAt (v : Leveled) (p : Point) (q : ℕ) : Type 0 where
  pub there : IsPoint v.grid p
  pub index : index_of v.grid p ≡ q

-- its sample as it is read there, and the shifted value of that
module _ (v w : Leveled) (same : w ≡ v) (p : Point) (q : ℕ) (at : IsAt v p q) where
  pub end_there : IsPoint w.grid p
  end_there = subst (λ (u : Leveled). IsPoint u.grid p) (sym same) at.there

  module _ (leveled : IsLeveled v) (value : ℤ) (reads : value ≡ sample w.samples (index_of w.grid p)) where
    read_is : value ≡ sample v.samples q
    read_is = reads ∙ (ap (λ (u : Leveled). sample u.samples (index_of u.grid p)) same ∙ ap (sample v.samples) at.index)

    read_kept : to_z w64 (of_z w64 value) ≡ sample v.samples q
    read_kept = ap (λ (s : ℤ). to_z w64 (of_z w64 s)) read_is ∙ whole (sample v.samples q) (sample_is v leveled q)

    pub read_height : shifted (to_z w64 (of_z w64 value)) w.level ≡ heights v q
    read_height = ap₂ shifted read_kept (ap (λ (u : Leveled). u.level) same)

module _ (v : Leveled) (y z edge : ℕ) (hy : y < v.grid.ny) (hz : z < v.grid.nz) (low : edge < 3 * v.grid.nx)
    (crossing : is_crossing v.grid (heights v) (3 * row_start v.grid y z + edge) ≡ true) where
  abbrev name : ℕ
  name = 3 * row_start v.grid y z + edge

  is : is_edge v.grid name ≡ true
  is = (and_parts _ _ crossing).0

  pub apart : differ (is_above (heights v (edge_lower name))) (is_above (heights v (edge_upper v.grid name))) ≡ true
  apart = (and_parts _ _ crossing).1

  lower_is : edge_lower name ≡ row_start v.grid y z + edge / 3
  lower_is = third (row_start v.grid y z) edge
    where
      third : (a e : ℕ) → (3 * a + e) / 3 ≡ a + e / 3
      third a e = omega arith

  axis_is : edge_axis name ≡ edge % 3
  axis_is = rest (row_start v.grid y z) edge
    where
      rest : (a e : ℕ) → (3 * a + e) % 3 ≡ e % 3
      rest a e = omega arith

  at_index : row_start v.grid y z + edge / 3 ≡ index v.grid (edge / 3) y z
  at_index = omega arith

  in_row : edge / 3 < v.grid.nx
  in_row = omega arith

  pub lower_at : (p : Point) → p.x ≡ edge / 3 → p.y ≡ y → p.z ≡ z → IsAt v p (edge_lower name)
  lower_at p ex ey ez = record {
    there = record { x = omega (arith, in_row, ex); y = omega (arith, ey); z = omega (arith, ez) };
    index = rw (ex, ey, ez) (sym (lower_is ∙ at_index));
  }

  -- the next point
  next : (axis : ℕ) → edge % 3 ≡ axis → has_next v.grid axis (index v.grid (edge / 3) y z) ≡ true
  next axis e = ap (λ a. has_next v.grid a (index v.grid (edge / 3) y z)) (sym (axis_is ∙ e)) ∙ (ap (has_next v.grid (edge_axis name)) (sym (lower_is ∙ at_index)) ∙ is)

  upper_is : (axis : ℕ) → edge % 3 ≡ axis → edge_upper v.grid name ≡ index v.grid (edge / 3) y z + stride v.grid axis
  upper_is axis e = ap (λ p. p + stride v.grid (edge_axis name)) (lower_is ∙ at_index) ∙ ap (λ a. index v.grid (edge / 3) y z + stride v.grid a) (axis_is ∙ e)

  pub upper_at : (p : Point) → p.x ≡ edge / 3 + from_bool (edge % 3 == 0) → p.y ≡ y + from_bool (edge % 3 == 1) → p.z ≡ z + from_bool (edge % 3 == 2)
      → IsAt v p (edge_upper v.grid name)
  upper_at p ex ey ez = elim (cases_lt (edge % 3) 1) [
    | inl first ↦ (
        let e : edge % 3 ≡ 0 = omega arith in
        let px : p.x ≡ edge / 3 + 1 = ex ∙ ap (λ a. edge / 3 + from_bool (a == 0)) e in
        let py : p.y ≡ y = ey ∙ (ap (λ a. y + from_bool (a == 1)) e ∙ omega arith) in
        let pz : p.z ≡ z = ez ∙ (ap (λ a. z + from_bool (a == 2)) e ∙ omega arith) in
        let more : edge / 3 + 1 < v.grid.nx = omega (arith, ltb-true _ _ (next 0 e), x_index v.grid (edge / 3) y z in_row hy hz) in
        let to : index v.grid (edge / 3 + 1) y z ≡ edge_upper v.grid name = omega arith ∙ sym (upper_is 0 e) in
        record {
          there = record { x = omega (arith, px, more); y = omega (arith, py); z = omega (arith, pz) };
          index = rw (px, py, pz) to;
        })
    | inr later ↦ elim (cases_lt (edge % 3) 2) [
      | inl second ↦ (
          let e : edge % 3 ≡ 1 = omega arith in
          let px : p.x ≡ edge / 3 = ex ∙ (ap (λ a. edge / 3 + from_bool (a == 0)) e ∙ omega arith) in
          let py : p.y ≡ y + 1 = ey ∙ ap (λ a. y + from_bool (a == 1)) e in
          let pz : p.z ≡ z = ez ∙ (ap (λ a. z + from_bool (a == 2)) e ∙ omega arith) in
          let more : y + 1 < v.grid.ny = omega (arith, ltb-true _ _ (next 1 e), y_index v.grid (edge / 3) y z in_row hy hz) in
          let to : index v.grid (edge / 3) (y + 1) z ≡ edge_upper v.grid name = omega arith ∙ sym (upper_is 1 e) in
          record {
            there = record { x = omega (arith, px, in_row); y = omega (arith, py, more); z = omega (arith, pz) };
            index = rw (px, py, pz) to;
          })
      | inr third ↦ (
          let e : edge % 3 ≡ 2 = omega arith in
          let px : p.x ≡ edge / 3 = ex ∙ (ap (λ a. edge / 3 + from_bool (a == 0)) e ∙ omega arith) in
          let py : p.y ≡ y = ey ∙ (ap (λ a. y + from_bool (a == 1)) e ∙ omega arith) in
          let pz : p.z ≡ z + 1 = ez ∙ ap (λ a. z + from_bool (a == 2)) e in
          let more : z + 1 < v.grid.nz = omega (arith, ltb-true _ _ (next 2 e), z_index v.grid (edge / 3) y z in_row hy hz) in
          let to : index v.grid (edge / 3) y (z + 1) ≡ edge_upper v.grid name = omega arith ∙ sym (upper_is 2 e) in
          record {
            there = record { x = omega (arith, px, in_row); y = omega (arith, py); z = omega (arith, pz, more) };
            index = rw (px, py, pz) to;
          })
    ]
  ]
