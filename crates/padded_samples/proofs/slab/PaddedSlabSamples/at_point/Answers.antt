use Rattle.std.proofs.Common.{arith, rules, ◌≡◌, ◌∙◌, ◌<◌, sym, ap, to_z, of_z, w64}
use Rattle.std.proofs.lemmas.Int.{to_z-of_z}
use Rattle.iso_defs.specs.Grid.{Grid, point_count}
use Rattle.iso_defs.proofs.Points.{index_in}
use Rattle.iso_base.specs.Points.{index_of}
use Rattle.padded_samples.specs.PaddedSlabs.{SlabInPad, ringed, slab_at}
use Rattle.padded_samples.proofs.SlabRows.{listed, slab_length}
use Rattle.padded_samples.proofs.slab.PaddedSlabSamples.at_point.Goals as goal

pub sample-requires : goal.sample-requires
sample-requires g c = omega (arith, c.index.ensures.bound, c.requires.count, slab_length c.args.self.now)

pub returns-then-are_same : goal.returns-then-are_same
returns-then-are_same g c =
    let p = c.args.self.now in
    let q = c.args.point in
    let same : c.args.sizes.now ≡ ringed p.ends p.grid = c.are_same.ensures c.if-are_same.true ∙ c.self.invariant.1 ∙ ap (λ (r : SlabInPad). ringed r.ends r.grid) c.self.view_is in
    let back : to_z w64 (of_z w64 c.get_here.result) ≡ c.get_here.result = search (rules, to_z-of_z) in
    let inside : index_of c.args.sizes.now q < point_count c.args.sizes.now = index_in c.args.sizes.now q.x q.y q.z c.requires.point.x c.requires.point.y c.requires.point.z in
    back ∙ c.get_here.ensures ∙ ap (λ (h : Grid). slab_at p (index_of h q)) (sym same)
    ∙ sym (listed p (index_of c.args.sizes.now q) (omega (arith, inside, c.requires.count, slab_length p)))

pub returns-else-are_same : goal.returns-else-are_same
returns-else-are_same g c =
    let p = c.args.self.now in
    let back : to_z w64 (of_z w64 c.sample.result) ≡ c.sample.result = search (rules, to_z-of_z) in
    let inside : c.index.result < point_count (ringed p.ends p.grid) = omega (arith, c.index.ensures.bound, c.requires.count, slab_length p) in
    back ∙ c.sample.ensures ∙ ap (slab_at p) c.index.ensures.value
    ∙ sym (listed p (index_of c.args.sizes.now c.args.point) (omega (arith, inside, c.index.ensures.value)))
