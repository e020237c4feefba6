-- What is measured of loops.
use Rattle.std.specs.Prelude.{ℕ, zero, suc, ◌-◌, ◌*◌, ◌/◌, ◌%◌, ◌^◌, ◌≤◌, ℤ, pos, [], map, nat_lt, slice_index_or, unsigned_abs, if◌then◌else◌}
use Rattle.std.specs.List.{count_by}
use Rattle.iso_defs.specs.Cell.{cell_edge}
use Rattle.iso_defs.specs.Grid.{name_bound}
use Rattle.iso_defs.specs.Lists.{around}
use Rattle.iso_defs.specs.Place.{Position, centre_position, edge_position}
use Rattle.iso_defs.specs.Manifold.{share_outer_plane}
use Rattle.flat_mesh.specs.Faces.{loops_at}
use Rattle.flat_mesh.specs.Lattice.{Leveled, heights}
use Rattle.measure_laws.specs.Vectors.{Vector}
use Rattle.part_laws.specs.Loops.{Loop}
use Rattle.part_laws.specs.Swept.{six_of, swept}
use Rattle.component_walk.specs.declared.sweep.Swept.{Swept}

-- a position as a vector
abbrev pub vector_at : Position → Vector
vector_at p = (pos p.0, pos p.1, pos p.2)

-- the centre of the loop of a name that is so much above those of the lattice edges
abbrev pub centre_at : Leveled → ℕ → Position
centre_at v n = centre_position v.grid (heights v)
    (map (cell_edge v.grid (n / 4)) (slice_index_or (loops_at v (n / 4)) (n % 4) []))

-- where a vertex is, by its name
unfoldable pub named_position : Leveled → ℕ → Vector
named_position v n = vector_at (if nat_lt n (name_bound v.grid) then edge_position v.grid (heights v) n
    else centre_at v (n - name_bound v.grid))

-- the numbers, in order
abbrev pub measure_at : Swept → ℕ → ℤ
measure_at s zero = s.six
measure_at s (suc zero) = slice_index_or s.area 0 (pos 0)
measure_at s (suc (suc zero)) = slice_index_or s.area 1 (pos 0)
measure_at s (suc (suc (suc zero))) = slice_index_or s.area 2 (pos 0)
measure_at s (suc (suc (suc (suc zero)))) = pos s.border
measure_at s (suc (suc (suc (suc (suc _))))) = pos 0

-- what each is of a loop
abbrev pub measured_of : Leveled → ℕ → Loop → ℤ
measured_of v zero l = six_of (named_position v) l
measured_of v (suc zero) l = (swept (named_position v) l.1).0
measured_of v (suc (suc zero)) l = (swept (named_position v) l.1).1
measured_of v (suc (suc (suc zero))) l = (swept (named_position v) l.1).2
measured_of v (suc (suc (suc (suc zero)))) l = pos (count_by (λ (p : ℕ × ℕ). share_outer_plane v.grid p.0 p.1) (around l.1))
measured_of v (suc (suc (suc (suc (suc _))))) l = pos 0

-- those of loops with so many steps are small
pub record AreSmall (n : ℕ) (s : Swept) : Type 0 where
  pub six : unsigned_abs s.six ≤ 2 ^ 60 * n
  pub x : unsigned_abs (slice_index_or s.area 0 (pos 0)) ≤ 2 ^ 24 * n
  pub y : unsigned_abs (slice_index_or s.area 1 (pos 0)) ≤ 2 ^ 24 * n
  pub z : unsigned_abs (slice_index_or s.area 2 (pos 0)) ≤ 2 ^ 24 * n
  pub border : s.border ≤ n
