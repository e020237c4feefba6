-- Loops as numbers, by which their centres are found from the places on the edges round a cell.
use Rattle.std.specs.Prelude.{ℕ, ◌+◌, ◌*◌, ◌/◌, ◌==◌, ◌&&◌, Bool, true, false, List, [], ◌∷◌, ◌++◌, map, length, slice_index_or, if◌then◌else◌}
use Rattle.std.specs.List.{count_by, enumerate_from, filter, flat_map, list_any, sum_by}
use Rattle.iso_defs.specs.Lists.{below}
use Rattle.iso_defs.specs.Cell.{case_loops, edge_corner}
use Rattle.iso_defs.specs.Scratch.{has_centre}
use Rattle.case_table.specs.Cases.{cases}
use Rattle.edge_points.specs.Points.{corner_offset}

-- where an edge of a cell begins: in one of the four rows of points round the cell, eight numbers for each, and there at the first or the
-- second point, three numbers for each, one for an axis
abbrev pub edge_at : ℕ → ℕ
edge_at e = 8 * (corner_offset (edge_corner e) 1 + 2 * corner_offset (edge_corner e) 2)
    + (3 * corner_offset (edge_corner e) 0 + e / 4)

-- how many of the edges are there
abbrev pub weight : List ℕ → ℕ → ℕ
weight edges i = count_by (λ e. edge_at e == i) edges

-- where the edges begin along an axis in all, in thousandths from the cell's lowest point
abbrev pub begins : List ℕ → ℕ → ℕ
begins edges axis = sum_by (λ e. 1000 * corner_offset (edge_corner e) axis) edges

-- a loop as numbers
unfoldable pub fan_of : List ℕ → List ℕ
fan_of edges = map (weight edges) (below 32)
    ++ (begins edges 0 ∷ begins edges 1 ∷ begins edges 2 ∷ 0 ∷ 0 ∷ 0 ∷ 0 ∷ length edges ∷ [])

-- whether two lists are the same
abbrev pub same : List ℕ → List ℕ → Bool
same [] [] = true
same [] (y ∷ ys) = false
same (x ∷ xs) [] = false
same (x ∷ xs) (y ∷ ys) = x == y && same xs ys

-- some lists, and those of others that are not among them yet, each once
abbrev pub each_once : List (List ℕ) → List (List ℕ) → List (List ℕ)
each_once seen [] = seen
each_once seen (x ∷ xs) = each_once (if list_any (same x) seen then seen else seen ++ x ∷ []) xs

-- the loops with a centre of all cases as numbers, each list of numbers once, in the order of the cases
unfoldable pub all_fans : List (List ℕ)
all_fans = each_once []
    (flat_map (λ (c : List Bool × List Bool). map (λ (l : ℕ × List ℕ). fan_of l.1)
    (filter has_centre (enumerate_from 0 (case_loops c.0 c.1)))) cases)

-- those at a place
unfoldable pub fan_numbers : ℕ → List ℕ
fan_numbers fan = slice_index_or all_fans fan []
