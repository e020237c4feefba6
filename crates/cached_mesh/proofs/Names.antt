-- The rows name cases that have the loops of those of the cells.
use Rattle.std.proofs.Common.{◌≡◌, ℕ, ◌⊎◌, Bool, true, false, cond, refl, inl, inr}
use Rattle.iso_defs.specs.Cell.{cell_signs}
use Rattle.iso_defs.specs.Bricks.{cell_case, is_mixed, row_cases}
use Rattle.iso_base.specs.Volume.{field}
use Rattle.flat_mesh.specs.Lattice.{Leveled, heights}
use Rattle.mesh_cache.specs.Economy.{is_fresh}
use Rattle.brick_rows.specs.Named.{HaveLoops, NamesCases}
use Rattle.brick_rows.proofs.LoopCases.{own_loops, row_has_loops}
use Rattle.cached_mesh.specs.Kept.{Kept, looped_case, looped_cases, named_by}

module _ (v : Leveled) where
  looped_is : (q : ℕ) → (looped_case v.grid (heights v) q ≡ cell_case v.grid (heights v) q) ⊎ ((looped_case v.grid (heights v) q ≡ 0) × (is_mixed (cell_signs v.grid (heights v) q) ≡ false))
  unfolding looped_case
  looped_is q = by_test (is_mixed (cell_signs v.grid (heights v) q)) refl
    where
      by_test : (t : Bool) → is_mixed (cell_signs v.grid (heights v) q) ≡ t
          → (cond t (cell_case v.grid (heights v) q) 0 ≡ cell_case v.grid (heights v) q) ⊎ ((cond t (cell_case v.grid (heights v) q) 0 ≡ 0) × (is_mixed (cell_signs v.grid (heights v) q) ≡ false))
      by_test true e = inl refl
      by_test false e = inr (refl, e)

  either : (t : Bool) (brick y z : ℕ) → HaveLoops (cond t (looped_cases v.grid (heights v) brick y z) (row_cases v.grid (heights v) brick y z)) (row_cases v.grid (heights v) brick y z)
  either true brick y z = row_has_loops v (looped_case v.grid (heights v)) looped_is brick y z
  either false brick y z = own_loops v brick y z

pub names_cases : (k : Kept) → NamesCases (named_by k) k.volume.grid (field k.volume.samples k.level)
names_cases k = record {
  grid = refl;
  each = λ brick y z active row. either (record { grid = k.volume.grid; samples = k.volume.samples; level = k.level }) (is_fresh brick k.level k.cache.items) brick y z;
  counts = λ brick active. refl;
}
