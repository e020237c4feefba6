-- The vertices on the edges of a row.
use Rattle.std.proofs.Common.{◌≡◌, ℕ, suc, ◌+◌, ◌*◌, ◌/◌, ◌%◌, ◌<◌, ℤ, List, [], ◌∷◌, ◌++◌, map, length, get_or, refl, sym, ◌∙◌, ap, ap₂, arith, if◌then◌else◌, eqb, false}
use Rattle.std.specs.List.{flat_map}
use Rattle.iso_defs.specs.Grid.{Grid, coordinate, edge_axis, edge_lower, index}
use Rattle.iso_defs.specs.Place.{Position, edge_position}
use Rattle.iso_defs.specs.Texts.{line, position_text}
use Rattle.iso_defs.proofs.Points.{x_index, y_index, z_index}
use Rattle.crossing_edges.specs.Flags.{edge_place, names_in, placed, places_in}
use Rattle.mesh_lines.specs.Lines.{vertex_line}
use Rattle.mesh_lines.specs.RowLines.{RowPlace, edge_at}
use Rattle.mesh_lines.specs.declared.style.Origin.TheVariants.{Volume}
use Rattle.mesh_lines.specs.declared.style.Style.{Style}
use Rattle.iso_base.specs.declared.format.MeshFormat.TheVariants.{Ply}
use Rattle.point_command.specs.Edges.{lines_in, row_line, row_lines}

three : (a b c d e f : ℕ) → a ≡ d → b ≡ e → c ≡ f → ◌≡◌ {A = Position} (a, b, c) (d, e, f)
three a b c d e f p q r = rw (p, q, r) refl

-- where the vertex on an edge of a row is, by the edge's offset and by its name
position_is : (g : Grid) (row : RowPlace) (e d : ℕ) → row.y < g.ny → row.z < g.nz → e < 3 * g.nx
    → ◌≡◌ {A = Position} (edge_at row e d) (placed g (3 * index g 0 row.y row.z + e) d 0, placed g (3 * index g 0 row.y row.z + e) d 1, placed g (3 * index g 0 row.y row.z + e) d 2)
position_is g row e d hy hz he =
    let n : ℕ = 3 * index g 0 row.y row.z + e in
    let p : ℕ = index g (e / 3) row.y row.z in
    let x : e / 3 < g.nx = omega arith in
    let lower : p ≡ edge_lower n = omega arith in
    let along : e % 3 ≡ edge_axis n = omega arith in
    let same : (k c : ℕ) → coordinate g k p ≡ c → 1000 * c + (if eqb k (e % 3) then d else 0) ≡ placed g n d k
    = λ k c at. ap (λ x. 1000 * x + (if eqb k (e % 3) then d else 0)) (sym at ∙ ap (coordinate g k) lower)
    ∙ ap (λ b. 1000 * coordinate g k (edge_lower n) + (if eqb k b then d else 0)) along in
    three _ _ _ _ _ _ (same 0 (e / 3) (x_index g (e / 3) row.y row.z x hy hz)) (same 1 row.y (y_index g (e / 3) row.y row.z x hy hz)) (same 2 row.z (z_index g (e / 3) row.y row.z x hy hz))

-- and its line
line_is : (g : Grid) (s : ℕ → ℤ) (row : RowPlace) (e n : ℕ) → row.style ≡ record { format = Ply; origin = Volume } → row.y < g.ny → row.z < g.nz → e < 3 * g.nx → 3 * index g 0 row.y row.z + e ≡ n
    → row_line row e (edge_place g s n) ≡ line (position_text false (edge_position g s n))
unfolding vertex_line
line_is g s row e n style hy hz he at =
    ap (λ (to : Style). vertex_line to (0, edge_at row e (edge_place g s n))) style
    ∙ (ap (λ (p : Position). vertex_line (record { format = Ply; origin = Volume }) (0, p)) (position_is g row e (edge_place g s n) hy hz he)
    ∙ ap (λ m. line (position_text false (placed g m (edge_place g s n) 0, placed g m (edge_place g s n) 1, placed g m (edge_place g s n) 2))) at)

-- the lines of all its crossing edges
module _ (g : Grid) (s : ℕ → ℤ) (row : RowPlace) (start : ℕ) (style : row.style ≡ record { format = Ply; origin = Volume }) (hy : row.y < g.ny) (hz : row.z < g.nz) (at : index g 0 row.y row.z ≡ start) where
  lines_of : (edges : List ℕ) → ((i : ℕ) → i < length edges → get_or edges i 0 < 3 * g.nx)
      → row_lines row edges (map (edge_place g s) (map (λ e. 3 * start + e) edges)) ≡ flat_map (λ n. line (position_text false (edge_position g s n))) (map (λ e. 3 * start + e) edges)
  lines_of [] low = refl
  lines_of (e ∷ edges) low =
      ap₂ (λ a b. a ++ b) (line_is g s row e (3 * start + e) style hy hz (low 0 (omega arith)) (omega (arith, at)))
      (lines_of edges (λ i h. low (suc i) (omega (arith, h))))

  pub lines_are : (edges places : List ℕ) → map (λ e. 3 * start + e) edges ≡ names_in g s (3 * start) (3 * g.nx) → places ≡ places_in g s (3 * start) (3 * g.nx)
      → ((i : ℕ) → i < length edges → get_or edges i 0 < 3 * g.nx) → row_lines row edges places ≡ lines_in g s (3 * start) (3 * g.nx)
  unfolding lines_in places_in
  lines_are edges places named put low =
      ap (row_lines row edges) (put ∙ ap (map (edge_place g s)) (sym named))
      ∙ (lines_of edges low ∙ ap (flat_map (λ n. line (position_text false (edge_position g s n)))) named)
