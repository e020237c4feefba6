use Rattle.std.proofs.Common.{arith, rules, ◌≡◌, ◌∙◌, to_z, of_z, w64}
use Rattle.std.proofs.lemmas.Int.{to_z-of_z}
use Rattle.padded_samples.proofs.SlabRows.{at_lifted}
use Rattle.padded_samples.proofs.slab.PaddedSlab.get_here.Goals as goal

pub overflow_add-z : goal.overflow_add-z
overflow_add-z g c = omega (arith, c.requires.z, c.sizes.ensures.valid.grid.z.most, c.lift.ensures)

pub returns : goal.returns
returns g c =
    let s = c.args.self.now in
    let back : to_z w64 (of_z w64 c.get.result) ≡ c.get.result = search (rules, to_z-of_z) in
    back ∙ (c.get.ensures ∙ at_lifted s c.lift.result c.lift.ensures c.args.point.x c.args.point.y c.args.point.z)
