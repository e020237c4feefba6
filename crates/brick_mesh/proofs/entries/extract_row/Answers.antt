use Rattle.std.proofs.Common.{◌≡◌, ◌∙◌, ◌+◌, ◌<◌, ℕ, ℤ, true, ap, arith}
use Rattle.iso_base.specs.Volume.{Volume}
use Rattle.brick_mesh.specs.Block.{block_of}
use Rattle.iso_defs.specs.Bricks.{in_brick, row_cases}
use Rattle.brick_mesh.specs.Block.{BrickAt, IsCellRow, heights}
use Rattle.brick_mesh.proofs.Spans.{inside, offsets}
use Rattle.brick_mesh.proofs.entries.extract_row.Goals as goal

row_there : (v : Volume) (brick y z : ℕ) (level : ℤ) → y < 8 → z < 8 → in_brick v.grid brick 1 (y + 1) (z + 1) ≡ true → IsCellRow (block_of v brick level) y z
row_there v brick y z level y_low z_low there =
    let o = offsets v.grid brick 1 (y + 1) (z + 1) (omega arith) (omega arith) (omega arith) there in
    let last : in_brick v.grid brick 0 (y + 1) (z + 1) ≡ true
    = inside v.grid brick 0 (y + 1) (z + 1) (record { x-in = omega (arith, o.x-in); y-in = o.y-in; z-in = o.z-in }) (omega arith) (omega arith) (omega arith) in
    record { y_low = y_low; z_low = z_low; last = last }

pub fill_cases-requires : goal.fill_cases-requires
fill_cases-requires g c = record { row = rw c.of-block.ensures (row_there c.args.store.now c.args.brick.0 c.args.y c.args.z c.args.level c.requires.y c.requires.z c.requires.there) }

pub returns-clause-cases : goal.returns-clause-cases
returns-clause-cases g c = c.fill_cases.ensures.cases ∙ ap (λ (b : BrickAt). row_cases b.grid (heights b) b.brick c.args.y c.args.z) c.of-block.ensures
