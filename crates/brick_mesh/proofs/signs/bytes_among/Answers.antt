use Rattle.std.proofs.Common.{◌∙◌, ◌+◌, ◌*◌, ap, arith}
use Rattle.iso_defs.specs.Bricks.{bits_of}
use Rattle.brick_mesh.proofs.Mixed.{byte_bits}
use Rattle.brick_mesh.proofs.signs.bytes_among.Goals as goal

pub returns : goal.returns
returns g c = λ x low is.
    ap (bits_of 8) (c.sign_bytes.ensures x low)
    ∙ byte_bits c.args.block.now (8 * (c.args.y + 8 * c.args.z) + x) x c.args.y c.args.z _ _ _ _ is low c.requires.y c.requires.z (omega arith)
    c.pairs_of_two.ensures.first c.pairs_of_two.ensures.second c.pairs_of_two-2.ensures.first c.pairs_of_two-2.ensures.second
