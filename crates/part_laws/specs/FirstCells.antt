-- Which cell is the first, in order, of those that have a lattice edge.
use Rattle.std.specs.Prelude.{ℕ, ◌/◌, ◌%◌, ◌==◌, ◌||◌, ℤ, Bool, List, map, if◌then◌else◌}
use Rattle.std.specs.List.{filter, flat_map, list_all}
use Rattle.iso_defs.specs.Lists.{below}
use Rattle.iso_defs.specs.Grid.{Grid, coordinate}
use Rattle.iso_defs.specs.Cell.{cell_edge, edge_corner}
use Rattle.iso_defs.specs.Scratch.{cell_loops}

-- how far along an axis the lower corner of an edge of a cell lies
abbrev pub offset : ℕ → ℕ → ℕ
offset axis e = if axis == 0 then edge_corner e % 2
    else (if axis == 1 then edge_corner e / 2 % 2 else edge_corner e / 4)

-- whether no cell before has the edge: along each axis but its own it lies on the far side of the cell, or the cell on the near side of the grid
abbrev pub is_first_at : Grid → ℕ → ℕ → Bool
is_first_at g q e = list_all (λ axis. e / 4 == axis || (offset axis e == 1 || coordinate g axis q == 0)) (below 3)

-- the vertices of the loops of a cell on edges that no cell before has
abbrev pub first_edges : Grid → (ℕ → ℤ) → ℕ → List ℕ
first_edges g s q = map (cell_edge g q) (filter (is_first_at g q)
    (flat_map (λ (l : ℕ × List ℕ). l.1) (cell_loops g s q)))
