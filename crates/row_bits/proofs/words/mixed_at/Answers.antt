use Rattle.std.proofs.Common.{◌+◌, arith}
use Rattle.row_bits.proofs.MixedBytes.{bits_of_many}
use Rattle.row_bits.proofs.words.mixed_at.Goals as goal

pub returns-clause-bits : goal.returns-clause-bits
returns-clause-bits c k low = bits_of_many c.args.bytes.now c.args.from k c.requires low (omega (arith, c.type_inv.bytes (c.args.from + k)))

pub returns-clause-small : goal.returns-clause-small
returns-clause-small c k low = omega (arith, c.type_inv.bytes (c.args.from + k))
