use Rattle.std.proofs.Common.{◌≡◌, ◌<◌, ◌∙◌, rules, ℕ, sym, subst, to_z, of_z, w64}
use Rattle.std.proofs.lemmas.Int.{to_z-of_z}
use Rattle.padded_samples.proofs.SlabRows.{listed, slab_length}
use Rattle.padded_samples.proofs.slab.PaddedSlabSamples.at.Goals as goal

pub sample-requires : goal.sample-requires
sample-requires g c = subst (λ (n : ℕ). c.args.index < n) (slab_length c.args.self.now) c.requires

pub returns : goal.returns
returns g c =
    let low = subst (λ (n : ℕ). c.args.index < n) (slab_length c.args.self.now) c.requires in
    let e : to_z w64 (of_z w64 c.sample.result) ≡ c.sample.result = search (rules, to_z-of_z) in
    e ∙ c.sample.ensures ∙ sym (listed c.args.self.now c.args.index low)
