use Rattle.std.proofs.Common.{eqb, refl, w8}
use Rattle.row_bits.proofs.Lanes.{apart_by}
use Rattle.brick_rows.proofs.EightLanes.{chosen}
use Rattle.brick_rows.proofs.lanes.where_apart.Goals as goal

pub returns : goal.returns
returns c = chosen w8 eqb c.args.a c.args.b 0 c.args.number (apart_by c.args.number c.args.a c.args.b) c.requires.a c.requires.b (λ i low. refl)
