use Rattle.std.proofs.Common.{rules, ◌≡◌, ◌∙◌, ℤ, List, ap, to_z, of_z, w64}
use Rattle.std.proofs.lemmas.Int.{to_z-of_z}
use Rattle.iso_base.specs.Volume.{sample}
use Rattle.padded_samples.proofs.SlabRows.{same_list}
use Rattle.padded_samples.proofs.pad.PaddedSamples.at.Goals as goal

pub returns : goal.returns
returns g c =
    let back : to_z w64 (of_z w64 c.at.result) ≡ c.at.result = search (rules, to_z-of_z) in
    back ∙ c.at.ensures ∙ ap (λ (l : List ℤ). sample l c.args.index) (same_list c.self.inside.slab c.args.self.now c.self.view_is c.self.invariant)
