-- The corners of a cell of a brick among the brick's copies.
use Rattle.std.proofs.Common.{◌≡◌, ◌∙◌, ℕ, ◌+◌, ◌*◌, ◌/◌, ◌%◌, ◌<◌, ℤ, List, refl, sym, ap, subst, arith, true}
use Rattle.iso_defs.specs.Bricks.{brick_cell, brick_count, brick_point, in_brick}
use Rattle.iso_defs.specs.Cell.{cell_values, corner_point}
use Rattle.iso_base.specs.Volume.{IsSample, shifted, Volume, IsVolume, sample}
use Rattle.iso_base.proofs.VolumeLaws.{sample_in_range}
use Rattle.brick_store.specs.Copies.{AreCopiesOf}
use Rattle.brick_store.proofs.Standing.{brick_point_in}
use Rattle.brick_mesh.specs.Block.{IsCell, block_of, corner_place, corner_values, heights}
use Rattle.brick_mesh.proofs.Spans.{Offsets, cell_offsets, inside}
use Rattle.brick_mesh.proofs.Values.{same_list}

module _ (v : Volume) (brick : ℕ) (level : ℤ) (copies : List ℤ) (cell : ℕ) (is : IsVolume v) (low : brick < brick_count v.grid)
    (are : AreCopiesOf v.grid v.samples brick copies) (there : IsCell (block_of v brick level) cell) where
  abbrev lowest : ℕ
  lowest = cell % 8 + 9 * (cell / 8 % 8 + 9 * (cell / 64))

  corner_in : (c : ℕ) → c < 8 → in_brick v.grid brick (cell % 8 + c % 2) (cell / 8 % 8 + c / 2 % 2) (cell / 64 + c / 4) ≡ true
  corner_in c h =
      let o : Offsets v.grid brick (cell % 8 + 1) (cell / 8 % 8 + 1) (cell / 64 + 1) = cell_offsets (block_of v brick level) cell there in
      let few : cell < 512 = there.local in
      inside v.grid brick (cell % 8 + c % 2) (cell / 8 % 8 + c / 2 % 2) (cell / 64 + c / 4)
      (record { x-in = omega (arith, o.x-in); y-in = omega (arith, o.y-in); z-in = omega (arith, o.z-in) }) (omega arith) (omega arith) (omega arith)

  -- the copy of a corner is the sample of its point
  corner_is : (c : ℕ) → c < 8 → sample copies (lowest + corner_place c) ≡ sample v.samples (brick_point v.grid brick (cell % 8 + c % 2) (cell / 8 % 8 + c / 2 % 2) (cell / 64 + c / 4))
  corner_is c h =
      let few : cell < 512 = there.local in
      ap (sample copies) (omega arith)
      ∙ are.each (cell % 8 + c % 2) (cell / 8 % 8 + c / 2 % 2) (cell / 64 + c / 4) (omega arith) (omega arith) (omega arith) (corner_in c h)

  pub corner_sample : (c : ℕ) → c < 8 → IsSample (sample copies (lowest + corner_place c))
  corner_sample c h =
      subst IsSample (sym (corner_is c h))
      (sample_in_range v (brick_point v.grid brick (cell % 8 + c % 2) (cell / 8 % 8 + c / 2 % 2) (cell / 64 + c / 4)) is
      (brick_point_in v.grid brick (cell % 8 + c % 2) (cell / 8 % 8 + c / 2 % 2) (cell / 64 + c / 4) (corner_in c h)))

  value_is : (c : ℕ) → c < 8 → brick_point v.grid brick (cell % 8 + c % 2) (cell / 8 % 8 + c / 2 % 2) (cell / 64 + c / 4) ≡ corner_point v.grid (brick_cell v.grid brick cell) c
      → shifted (sample copies (lowest + corner_place c)) level ≡ heights (block_of v brick level) (corner_point v.grid (brick_cell v.grid brick cell) c)
  value_is c h at = ap (λ s. shifted s level) (corner_is c h ∙ ap (sample v.samples) at)

  pub corners_are : corner_values level copies lowest ≡ cell_values v.grid (heights (block_of v brick level)) (brick_cell v.grid brick cell)
  corners_are =
      same_list (corner_values level copies lowest) (cell_values v.grid (heights (block_of v brick level)) (brick_cell v.grid brick cell)) refl (
        value_is 0 (omega arith) (omega arith),
        (
          value_is 1 (omega arith) (omega arith),
          (
            value_is 2 (omega arith) (omega arith),
            (
              value_is 3 (omega arith) (omega arith),
              (
                value_is 4 (omega arith) (omega arith),
                (
                  value_is 5 (omega arith) (omega arith),
                  (
                    value_is 6 (omega arith) (omega arith),
                    (value_is 7 (omega arith) (omega arith), tt),
                  ),
                ),
              ),
            ),
          ),
        ),
      )
