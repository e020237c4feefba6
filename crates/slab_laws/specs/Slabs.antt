-- Slabs: whole slices of a grid, each slab meshed by itself, and what each owns of the whole mesh.
use Rattle.std.specs.Prelude.{◌≡◌, ℕ, ◌+◌, ◌-◌, ◌*◌, ◌<◌, ◌≤◌, ℤ, List, [], ◌∷◌, map, length, nat_lt, if◌then◌else◌}
use Rattle.std.specs.List.{filter, flat_map}
use Rattle.iso_defs.specs.Lists.{below}
use Rattle.iso_defs.specs.Grid.{Grid, point_count, is_cell, is_crossing}
use Rattle.iso_defs.specs.Cell.{Triangle}
use Rattle.iso_defs.specs.Place.{Position, edge_position}
use Rattle.iso_defs.specs.Scratch.{crossing_edges, cell_centres, cell_triangles, number_of, on_corners}

-- so many slices of a grid
abbrev pub slices : Grid → ℕ → Grid
slices g n = record { nx = g.nx; ny = g.ny; nz = n }

-- how many points a slice has
abbrev pub slice_size : Grid → ℕ
slice_size g = g.nx * g.ny

-- a slab: a grid and a field of its own, the slice of the whole that is its lowest, and how many of its slices it owns
pub record Slab : Type 0 where
  pub grid : Grid
  pub field : ℕ → ℤ
  pub height : ℕ
  pub owned : ℕ

-- it has whole slices of a grid, and the values of its field there
pub record IsSlab (g : Grid) (s : ℕ → ℤ) (b : Slab) : Type 0 where
  pub grid : b.grid ≡ slices g b.grid.nz
  pub fits : b.height + b.grid.nz ≤ g.nz
  pub values : (p : ℕ) → p < point_count b.grid → b.field p ≡ s (p + slice_size g * b.height)

-- the slabs of a grid from slice z on, the lowest first: each has two slices more than it owns, and the next begins
-- behind those it owns; the last has and owns all that are left
abbrev pub AreSlabs : Grid → (ℕ → ℤ) → ℕ → List Slab → Type 0
AreSlabs g s z [] = ⊥
AreSlabs g s z (b ∷ []) = IsSlab g s b × (b.height ≡ z) × (b.owned ≡ b.grid.nz) × (z + b.owned ≡ g.nz)
AreSlabs g s z (b ∷ c ∷ bs) =
    IsSlab g s b × (b.height ≡ z) × (b.owned + 2 ≡ b.grid.nz) × AreSlabs g s (z + b.owned) (c ∷ bs)

-- n slices of a grid from slice z on, of which it owns some
abbrev pub slab_at : Grid → (ℕ → ℤ) → ℕ → ℕ → ℕ → Slab
slab_at g s z n owned =
    record { grid = slices g n; field = λ p. s (p + slice_size g * z); height = z; owned = owned }

-- the slabs from slice z on of which all but the last own these numbers of slices
abbrev pub slabs_of : Grid → (ℕ → ℤ) → ℕ → List ℕ → List Slab
slabs_of g s z [] = slab_at g s z (g.nz - z) (g.nz - z) ∷ []
slabs_of g s z (n ∷ ns) = slab_at g s z (n + 2) n ∷ slabs_of g s (z + n) ns

-- the crossing edges that a slab owns: those that begin in its owned slices
abbrev pub owned_edges : Slab → List ℕ
owned_edges b = filter (is_crossing b.grid b.field) (below (3 * (slice_size b.grid * b.owned)))

-- and the cells: those whose lowest point is there
abbrev pub owned_cells : Slab → List ℕ
owned_cells b = filter (is_cell b.grid) (below (slice_size b.grid * b.owned))

-- a position so many slices further up
abbrev pub lifted : ℕ → Position → Position
lifted z p = (p.0, p.1, 1000 * z + p.2)

-- where the vertices on its owned edges are in the whole
abbrev pub edge_places : Slab → List Position
edge_places b = map (λ n. lifted b.height (edge_position b.grid b.field n)) (owned_edges b)

-- and the centres of its owned cells
abbrev pub centre_places : Slab → List Position
centre_places b =
    map (λ (v : ℕ × Position). lifted b.height v.1) (flat_map (cell_centres b.grid b.field) (owned_cells b))

-- how many vertices it owns of each kind
abbrev pub edge_count : Slab → ℕ
edge_count b = length (edge_places b)

abbrev pub centre_count : Slab → ℕ
centre_count b = length (centre_places b)

-- the triangles of its owned cells, by the numbers that vertices have in the slab
abbrev pub owned_triangles : Slab → List Triangle
owned_triangles b =
    map (on_corners (number_of b.grid b.field)) (flat_map (cell_triangles b.grid b.field) (owned_cells b))

abbrev pub triangle_count : Slab → ℕ
triangle_count b = length (owned_triangles b)

-- the number in the whole of vertex n of a slab, where so many of the slab's vertices lie on edges: these are counted
-- from one number on, the centres behind them from another
abbrev pub renumbered : ℕ → ℕ → ℕ → ℕ → ℕ
renumbered edges first_edge first_centre n =
    if nat_lt n edges then first_edge + n else first_centre + (n - edges)

-- its triangles by numbers in the whole, where its first vertex on an edge and its first centre have these
abbrev pub slab_triangles : ℕ → ℕ → Slab → List Triangle
slab_triangles first_edge first_centre b =
    map (on_corners (renumbered (length (crossing_edges b.grid b.field)) first_edge first_centre)) (owned_triangles b)
