use Rattle.std.proofs.Common.{◌+◌, ◌*◌, arith}
use Rattle.brick_mesh.proofs.RowSigns.{signs_low, two_paired}
use Rattle.brick_mesh.proofs.signs.pairs_of_two.Goals as goal

pub pairs_at-requires-clause-signs : goal.pairs_at-requires-clause-signs
pairs_at-requires-clause-signs g c = signs_low _ _ _ (c.fill_signs.ensures c.args.block.now.level c.requires.bound)

pub pairs_at-requires-2-clause-signs : goal.pairs_at-requires-2-clause-signs
pairs_at-requires-2-clause-signs g c = signs_low _ _ _ (c.fill_signs.ensures c.args.block.now.level c.requires.bound)

pub returns-clause-first : goal.returns-clause-first
returns-clause-first g c =
    (two_paired c.args.block.now g.T.Packed.value c.args.copies.now c.fill_signs.new.into (9 * (c.from.result + 9 * c.from-2.result)) _
    c.args.y c.args.z c.pairs_at.result c.pairs_at-2.result c.requires.copies (omega arith) (omega arith) c.requires.y c.requires.z
    (c.fill_signs.ensures c.args.block.now.level c.requires.bound) c.pairs_at.ensures c.pairs_at-2.ensures).0

pub returns-clause-second : goal.returns-clause-second
returns-clause-second g c =
    (two_paired c.args.block.now g.T.Packed.value c.args.copies.now c.fill_signs.new.into (9 * (c.from.result + 9 * c.from-2.result)) _
    c.args.y c.args.z c.pairs_at.result c.pairs_at-2.result c.requires.copies (omega arith) (omega arith) c.requires.y c.requires.z
    (c.fill_signs.ensures c.args.block.now.level c.requires.bound) c.pairs_at.ensures c.pairs_at-2.ensures).1
