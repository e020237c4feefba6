use Rattle.std.proofs.Common.{◌∙◌, ◌+◌, ◌*◌, ◌/◌, ◌%◌, ℕ, ap, arith}
use Rattle.iso_defs.specs.Bricks.{bits_of}
use Rattle.brick_mesh.proofs.Mixed.{cell_bits}
use Rattle.brick_mesh.proofs.entries.bytes_of_row.Goals as goal

pub sign_bytes-requires-clause-near : goal.sign_bytes-requires-clause-near
sign_bytes-requires-clause-near c = (c.requires.rows (c.args.row % 8 + 9 * (c.args.row / 8)) (omega arith)).bits

pub sign_bytes-requires-clause-up : goal.sign_bytes-requires-clause-up
sign_bytes-requires-clause-up c = (c.requires.rows (c.args.row % 8 + 9 * (c.args.row / 8) + 1) (omega arith)).bits

pub sign_bytes-requires-clause-far : goal.sign_bytes-requires-clause-far
sign_bytes-requires-clause-far c = (c.requires.rows (c.args.row % 8 + 9 * (c.args.row / 8) + 9) (omega arith)).bits

pub sign_bytes-requires-clause-both : goal.sign_bytes-requires-clause-both
sign_bytes-requires-clause-both c = (c.requires.rows (c.args.row % 8 + 9 * (c.args.row / 8) + 10) (omega arith)).bits

pub returns : goal.returns
returns c = λ x low is.
    (let row : ℕ = c.args.row in
    ap (bits_of 8) (c.sign_bytes.ensures x low)
    ∙ cell_bits c.args.block.now c.args.rows.now (8 * row + x) x (row % 8 + 9 * (row / 8)) c.requires.rows is (omega arith) (omega arith))
