-- The lines of vertices on crossing edges.
use Rattle.std.proofs.Common.{◌≡◌, ℕ, ◌+◌, ◌*◌, ◌/◌, ◌%◌, ◌<◌, Bool, true, false, [], refl, sym, ◌∙◌, ap, arith, eqb, if◌then◌else◌}
use Rattle.iso_defs.specs.Grid.{coordinate, edge_axis, edge_lower, is_crossing}
use Rattle.iso_defs.specs.Place.{Position, edge_coordinate}
use Rattle.iso_defs.proofs.Points.{x_index, y_index, z_index}
use Rattle.iso_base.specs.Points.{IsPoint, index_of}
use Rattle.iso_base.specs.declared.point.Point.{Point}
use Rattle.crossing_edges.specs.Flags.{edge_place, rank}
use Rattle.flat_mesh.specs.Lattice.{Leveled, heights}
use Rattle.flat_mesh.specs.Rows.{row_start}
use Rattle.flat_mesh.proofs.Quiet.{rank_between}
use Rattle.mesh_lines.specs.Lines.{vertex_line}
use Rattle.mesh_lines.specs.RowLines.{RowPlace, edge_at}
use Rattle.mesh_lines.specs.declared.style.Style.{Style}
use Rattle.mesh_walk.specs.Spans.{edge_line, edges_text}
use Rattle.mesh_walk.proofs.AnyName.{any_name}
use Rattle.mesh_rows.proofs.SpanLaws.{span_quiet}

module _ (v : Leveled) (point : Point) (h : IsPoint v.grid point) where
  abbrev p : ℕ
  p = index_of v.grid point

  x_is : coordinate v.grid 0 p ≡ point.x
  x_is = x_index v.grid point.x point.y point.z h.x h.y h.z

  y_is : coordinate v.grid 1 p ≡ point.y
  y_is = y_index v.grid point.x point.y point.z h.x h.y h.z

  z_is : coordinate v.grid 2 p ≡ point.z
  z_is = z_index v.grid point.x point.y point.z h.x h.y h.z

  -- the line of the vertex at its place
  line_is : (style : Style) (axis d : ℕ) → axis < 3 → d ≡ edge_place v.grid (heights v) (3 * p + axis)
      → vertex_line style (3 * p + axis, (1000 * point.x + (if eqb 0 axis then d else 0), 1000 * point.y + (if eqb 1 axis then d else 0), 1000 * point.z + (if eqb 2 axis then d else 0)))
      ≡ edge_line style v (3 * p + axis)
  line_is style axis d a e =
      let n : ℕ = 3 * p + axis in
      let lower : edge_lower n ≡ p = omega arith in
      let along : edge_axis n ≡ axis = omega arith in
      let coordinate_is : (k x : ℕ) → coordinate v.grid k p ≡ x → 1000 * x + (if eqb k axis then d else 0) ≡ edge_coordinate v.grid (heights v) n k
      = λ k x same. ap (λ x. 1000 * x + (if eqb k axis then d else 0)) (sym same ∙ ap (coordinate v.grid k) (sym lower))
      ∙ (ap (λ b. 1000 * coordinate v.grid k (edge_lower n) + (if eqb k b then d else 0)) (sym along)
      ∙ ap (λ d. 1000 * coordinate v.grid k (edge_lower n) + (if eqb k (edge_axis n) then d else 0)) e) in
      ap (λ (q : Position). vertex_line style (n, q)) (three _ _ _ _ _ _ (coordinate_is 0 point.x x_is) (coordinate_is 1 point.y y_is) (coordinate_is 2 point.z z_is))
    where
      three : (a b c d e f : ℕ) → a ≡ d → b ≡ e → c ≡ f → ◌≡◌ {A = Position} (a, b, c) (d, e, f)
      three a b c d e f p q r = rw (p, q, r) refl

-- the same by the offset of the edge in its row
pub row_line : (v : Leveled) (row : RowPlace) (e d : ℕ) → row.y < v.grid.ny → row.z < v.grid.nz → e < 3 * v.grid.nx → d ≡ edge_place v.grid (heights v) (3 * row_start v.grid row.y row.z + e)
    → vertex_line row.style (0, edge_at row e d) ≡ edge_line row.style v (3 * row_start v.grid row.y row.z + e)
row_line v row e d hy hz he place =
    let point : Point = record { x = e / 3; y = row.y; z = row.z } in
    let here : IsPoint v.grid point = record { x = omega arith; y = hy; z = hz } in
    let name : 3 * index_of v.grid point + e % 3 ≡ 3 * row_start v.grid row.y row.z + e = omega arith in
    any_name row.style 0 (3 * index_of v.grid point + e % 3) (edge_at row e d)
    ∙ (line_is v point here row.style (e % 3) d (omega arith) (place ∙ ap (edge_place v.grid (heights v)) (sym name)) ∙ ap (edge_line row.style v) name)

-- names between equal ranks give none
pub edges_quiet : (style : Style) (v : Leveled) (a n : ℕ) → rank v.grid (heights v) a ≡ rank v.grid (heights v) (a + n) → edges_text style v a n ≡ []
edges_quiet style v a n same = span_quiet (edge_line style v) (is_crossing v.grid (heights v)) a n (λ q least most passes. clash (is_crossing v.grid (heights v) q) passes (rank_between v.grid (heights v) a n q same least most))
  where
    clash : {A : Type 0} (b : Bool) → b ≡ true → b ≡ false → A
    clash true e f = absurd (cc)
    clash false e f = absurd (cc)
