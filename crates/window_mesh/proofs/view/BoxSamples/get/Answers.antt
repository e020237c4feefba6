use Rattle.std.proofs.Common.{◌≡◌, ◌∙◌, ap, rules, sym, to_z, of_z, w64}
use Rattle.std.proofs.lemmas.Int.{to_z-of_z}
use Rattle.iso_base.specs.Points.{index_of}
use Rattle.iso_base.specs.Volume.{sample}
use Rattle.iso_base.specs.declared.point.Point.{Point}
use Rattle.window_mesh.specs.Views.{InBox}
use Rattle.window_mesh.proofs.Viewing.{at_whole}
use Rattle.window_mesh.proofs.view.BoxSamples.get.Goals as goal

pub returns : goal.returns
returns c =
    let b : InBox = c.args.self.now in
    let back : to_z w64 (of_z w64 c.get.result) ≡ c.get.result = search (rules, to_z-of_z) in
    back ∙ c.get.ensures.value ∙ ap (λ (b : InBox). sample b.volume.samples (index_of b.volume.grid c.whole.result)) c.self.view_is
    ∙ ap (λ (p : Point). sample b.volume.samples (index_of b.volume.grid p)) c.whole.ensures.value
    ∙ ap (sample b.volume.samples) (sym (at_whole b.volume.grid b.window c.args.point c.requires))
