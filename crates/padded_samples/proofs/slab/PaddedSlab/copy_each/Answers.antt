use Rattle.std.proofs.Common.{arith, rules, ◌≡◌, ◌∙◌, ◌+◌, sym, subst, to_z, of_z, w64}
use Rattle.std.proofs.lemmas.Int.{to_z-of_z}
use Rattle.padded_samples.specs.PaddedSlabs.{slab_at}
use Rattle.padded_samples.proofs.Parts.{more_numbers}
use Rattle.padded_samples.proofs.slab.PaddedSlab.copy_each.Goals as goal

pub overflow_cast-k : goal.overflow_cast-k
overflow_cast-k g c = omega (arith, c.requires.room, c.sizes.ensures.valid.grid.count, c.loop-k-test.true)

pub overflow_add-start : goal.overflow_add-start
overflow_add-start g c = omega (arith, c.requires.room, c.sizes.ensures.valid.grid.count, c.loop-k-test.true)

pub sample-requires : goal.sample-requires
sample-requires g c = omega (arith, c.requires.room, c.loop-k-test.true)

pub of-requires : goal.of-requires
of-requires g c =
    let e : to_z w64 (of_z w64 c.sample.result) ≡ c.sample.result = search (rules, to_z-of_z) in
    subst g.T.Packed.Fits (sym c.sample.ensures ∙ sym e) (c.requires.fits c.loop-k.k c.loop-k-test.true)

pub loop-k-preserved : goal.loop-k-preserved
loop-k-preserved g c =
    let e : to_z w64 (of_z w64 c.sample.result) ≡ c.sample.result = search (rules, to_z-of_z) in
    more_numbers g.T.Packed.value c.loop-k.into (λ j. slab_at c.args.self.now (c.args.start + j)) 0 c.loop-k.k c.of.result (omega (arith, c.loop-k-test.true, c.loop-k.auto.into))
    (c.of.ensures ∙ e ∙ c.sample.ensures) c.loop-k.invariant

pub returns : goal.returns
returns g c = λ i low. c.loop-k.invariant i (omega arith) (omega (arith, low, c.loop-k.auto.into, c.loop-k-test.false))
