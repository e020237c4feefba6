use Rattle.std.proofs.Common.{arith, pos, replicate}
use Rattle.std.proofs.lemmas.List.{map-append}
use Rattle.std.proofs.lemmas.Grind.{common_steps}
use Rattle.packed_samples.proofs.PackedLists.{map-zeros}
use Rattle.packed_samples.proofs.list.VecPackedList.add_zeros.Goals as goal

pub returns : goal.returns
returns g c =
    let before = c.args.self.now.items in
    let b = map-append g.T.Packed.value before (replicate c.args.count c.zero.result) in
    let z = map-zeros g.T.Packed.value c.zero.result c.zero.ensures c.args.count in
    grind (arith, common_steps)
