-- The loops of the cells of a grid, and what is counted of loops.
use Rattle.std.specs.Prelude.{ℕ, ◌≤◌, ℤ, Bool, not, List, [], ◌∷◌, ◌++◌, map, length, if◌then◌else◌}
use Rattle.std.specs.List.{filter, flat_map, list_any, sum_by, count_by, AllByRecursion}
use Rattle.iso_defs.specs.Lists.{around, is_in}
use Rattle.iso_defs.specs.Grid.{Grid, cells}
use Rattle.iso_defs.specs.Cell.{Triangle, cell_edge, loop_triangles}
use Rattle.iso_defs.specs.Scratch.{cell_loops, centre_name, has_centre}

-- a loop: its centre, if it has one, and its vertices in order
abbrev pub Loop : Type 0
Loop = ℕ × List ℕ

-- the loop of the images of its vertices
abbrev pub renamed : (ℕ → ℕ) → Loop → Loop
renamed f l = (f l.0, map f l.1)

-- the loops of a cell, by names of vertices
abbrev pub loops_in : Grid → (ℕ → ℤ) → ℕ → List Loop
loops_in g s q = map (λ (l : ℕ × List ℕ). (centre_name g q l.0, map (cell_edge g q) l.1)) (cell_loops g s q)

-- the loops of all cells
abbrev pub mesh_loops : Grid → (ℕ → ℤ) → List Loop
mesh_loops g s = flat_map (loops_in g s) (cells g)

-- each has three vertices at least
abbrev pub AreLong : List Loop → Type 0
AreLong ls = AllByRecursion (λ (l : Loop). 3 ≤ length l.1) ls

-- the vertices that loops meet, in order and each once, but for those of earlier loops
abbrev pub met_after : List Loop → List Loop → List ℕ
met_after earlier [] = []
met_after earlier (l ∷ ls) = filter (λ v. not (list_any (λ (k : Loop). is_in v k.1) earlier)) l.1
    ++ met_after (l ∷ earlier) ls

-- the triangles of a loop
abbrev pub triangles_round : Loop → List Triangle
triangles_round l = loop_triangles l.1 l.0

-- the steps round loops: each is a side of one triangle
abbrev pub rims : List Loop → ℕ
rims ls = sum_by (λ (l : Loop). length l.1) ls

-- those of them that pass a test
abbrev pub rims_where : (ℕ → ℕ → Bool) → List Loop → ℕ
rims_where test ls = sum_by (λ (l : Loop). count_by (λ (p : ℕ × ℕ). test p.0 p.1) (around l.1)) ls

-- the edges from centres to the vertices of their loops
abbrev pub spokes : List Loop → ℕ
spokes ls = sum_by (λ (l : Loop). if has_centre l then length l.1 else 0) ls

-- the triangles: one of a loop of three vertices, else one at each step
abbrev pub faces : List Loop → ℕ
faces ls = sum_by (λ (l : Loop). if has_centre l then length l.1 else 1) ls

-- the centres
abbrev pub centres : List Loop → ℕ
centres ls = count_by has_centre ls
