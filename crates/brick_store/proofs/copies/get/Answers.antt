use Rattle.std.proofs.Common.{◌≡◌, ◌∙◌, ap, rules, w64, to_z, of_z}
use Rattle.std.proofs.lemmas.Int.{to_z-of_z}
use Rattle.iso_defs.proofs.Points.{index_in}
use Rattle.iso_base.specs.Volume.{sample}
use Rattle.brick_store.proofs.Standing.{sample_at}
use Rattle.brick_store.proofs.copies.get.Goals as goal

pub returns : goal.returns
returns g c =
    let list = g.C.PackedList.list c.args.copies.now in
    let p = c.args.p in
    let at = c.requires.point in
    let number : to_z w64 (of_z w64 c.at.result) ≡ c.at.result = search (rules, to_z-of_z) in
    number ∙ (c.at.ensures ∙ (ap (sample list) c.first_copy_place.ensures.value
    ∙ sample_at c.args.sizes.now list p at (index_in c.args.sizes.now p.x p.y p.z at.x at.y at.z)))
