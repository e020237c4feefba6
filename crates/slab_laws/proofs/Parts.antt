-- What is above a cut, what centres add to names and places, and arithmetic that several files use.
use Rattle.std.proofs.Common.{◌≡◌, ℕ, ◌+◌, ◌*◌, ◌/◌, ◌<◌, ℤ, List, map, arith}
use Rattle.std.specs.List.{filter, flat_map}
use Rattle.iso_defs.specs.Grid.{Grid, cells, IsSolid}
use Rattle.iso_defs.specs.Cell.{cell_edge}
use Rattle.iso_defs.specs.Place.{Position, centre_position}
use Rattle.iso_defs.specs.Scratch.{cell_loops, has_centre}
use Rattle.slab_laws.specs.Slabs.{slices, slice_size}

-- the field from slice z on
abbrev pub above : Grid → ℕ → (ℕ → ℤ) → ℕ → ℤ
above g z s p = s (p + slice_size g * z)

-- what the names of a cell's centres have beyond the names of edges
abbrev pub cell_keys : Grid → (ℕ → ℤ) → ℕ → List ℕ
cell_keys g s q = map (λ (l : ℕ × List ℕ). 4 * q + l.0) (filter has_centre (cell_loops g s q))

-- and those of all centres
abbrev pub keys : Grid → (ℕ → ℤ) → List ℕ
keys g s = flat_map (cell_keys g s) (cells g)

-- where the centres of a cell are
abbrev pub cell_places : Grid → (ℕ → ℤ) → ℕ → List Position
cell_places g s q =
    map (λ (l : ℕ × List ℕ). centre_position g s (map (cell_edge g q) l.1)) (filter has_centre (cell_loops g s q))

-- a lower slab has a point
pub lower_solid : (g : Grid) → IsSolid g → (z : ℕ) → IsSolid (slices g (z + 2))
lower_solid g solid z = record { x = solid.x; y = solid.y; z = omega arith }

-- the lower point of an edge is in the slices that the edge is in
pub third : (a r n : ℕ) → n < 3 * (a * r) → n / 3 < r * a
third a r n l = omega arith

-- what is moved by no slice stays
pub stays : (a p : ℕ) → p ≡ p + a * 0
stays a p = omega arith

pub group : (a b c : ℕ) → a + (b + c) ≡ a + b + c
group a b c = omega arith
