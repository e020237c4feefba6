-- The cells of a row of a brick, and the runs of entries up to its end.
use Rattle.std.proofs.Common.{ℕ, ◌+◌, ◌-◌, ◌*◌, ◌/◌, ◌%◌, ◌<◌, arith}
use Rattle.brick_mesh.specs.Block.{BrickAt, HasPoint, IsCell}
use Rattle.brick_store.specs.Holding.{points_along}
use Rattle.brick_mesh.proofs.Spans.{inside, offsets}

-- the cell at a place of a row that is there
pub cell_there : (b : BrickAt) (row x : ℕ) → row < 64 → x < 8 → HasPoint b 0 (row % 8 + 1) (row / 8 + 1) → x + 1 < points_along b.grid b.brick 0 → IsCell b (8 * row + x)
cell_there b row x low few there room =
    let cell : ℕ = 8 * row + x in
    let row_offsets = offsets b.grid b.brick 0 (row % 8 + 1) (row / 8 + 1) (omega arith) (omega arith) (omega arith) there in
    record {
      local = omega arith;
      there = inside b.grid b.brick (cell % 8 + 1) (cell / 8 % 8 + 1) (cell / 64 + 1)
          (record { x-in = omega (arith, room); y-in = omega (arith, row_offsets.y-in); z-in = omega (arith, row_offsets.z-in) })
          (omega arith) (omega arith) (omega arith);
    }
