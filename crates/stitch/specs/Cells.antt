-- Active cells with their cases, and the cases of all cells by them.
use Rattle.std.specs.Prelude.{◌≡◌, ℕ, ◌-◌, ◌==◌, List, [], ◌∷◌, if◌then◌else◌, map, slice_index}
use Rattle.std.specs.List.{range_with_len}
use Rattle.flat_mesh.specs.Lattice.{Leveled}
use Rattle.mesh_rows.specs.Rows.{AreCases}
use Rattle.row_bits.specs.Active.{active_among}

-- the case of a cell, where the cells in some places have some cases and others have the first one
abbrev pub case_at : List ℕ → List ℕ → ℕ → ℕ
case_at [] cases x = 0
case_at (p ∷ ps) [] x = 0
case_at (p ∷ ps) (c ∷ cs) x = if p == x then c else case_at ps cs x

-- those of n cells
abbrev pub spread : ℕ → List ℕ → List ℕ → List ℕ
spread n places cases = map (case_at places cases) (range_with_len 0 n)

-- these are the active cells of a row with their cases
pub record AreListed (v : Leveled) (y z : ℕ) (places cases : List ℕ) : Type 0 where
  pub all_are : AreCases v y z (spread (v.grid.nx - 1) places cases)
  pub places_are : places ≡ active_among (spread (v.grid.nx - 1) places cases) 0 (v.grid.nx - 1)
  pub cases_are : cases ≡ map (slice_index (spread (v.grid.nx - 1) places cases)) places
