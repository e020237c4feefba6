-- What is kept, one row more.
use Rattle.std.proofs.Common.{◌≡◌, ℕ, ◌+◌, ◌*◌, ◌<◌, sym, subst, arith}
use Rattle.flat_mesh.specs.Lattice.{Leveled}
use Rattle.flat_mesh.specs.Rows.{row_start}
use Rattle.mesh_rows.specs.Counts.{AreCounts}
use Rattle.sample_rows.specs.declared.row_storage.StoredRows.{StoredRows}
use Rattle.sample_rows.specs.Cases.{HasNoLoops}
use Rattle.sample_rows.specs.Kept.{AreKept}
use Rattle.sample_rows.specs.Parts.{HaveRows}
use Rattle.sample_rows.specs.Places.{HavePlaces}
use Rattle.sample_rows.proofs.Counted.{none_counted, quiet_counted}

module _ (v : Leveled) (y z : ℕ) (new : StoredRows) (rows : HaveRows v (y + v.grid.ny * z + 1) new.rows) (places : HavePlaces v (y + v.grid.ny * z + 1) new.places) where
  pub row_kept : AreCounts v (row_start v.grid (y + 1) z) new.counts → AreKept v (y + v.grid.ny * z + 1) new
  row_kept counted =
      let next : row_start v.grid (y + 1) z ≡ v.grid.nx * (y + v.grid.ny * z + 1) = omega arith in
      record { rows_are = rows; counted = subst (λ q. AreCounts v q new.counts) next counted; places = places }

  pub still_kept : (old : StoredRows) → y < v.grid.ny → z < v.grid.nz → AreKept v (y + v.grid.ny * z) old → new.counts ≡ old.counts → HasNoLoops v y z → AreKept v (y + v.grid.ny * z + 1) new
  still_kept old hy hz before same quiet =
      row_kept (quiet_counted v y z new.counts quiet hy hz (subst (AreCounts v (row_start v.grid y z)) (sym same) before.counted))

-- nothing of no rows
pub nothing_kept : (v : Leveled) (kept : StoredRows) → HaveRows v 0 kept.rows → kept.counts.centres ≡ 0 → kept.counts.faces ≡ 0 → HavePlaces v 0 kept.places → AreKept v 0 kept
nothing_kept v kept rows centres faces places =
    let none : 0 ≡ v.grid.nx * 0 = omega arith in
    record { rows_are = rows; counted = subst (λ q. AreCounts v q kept.counts) none (none_counted v kept.counts centres faces); places = places }
