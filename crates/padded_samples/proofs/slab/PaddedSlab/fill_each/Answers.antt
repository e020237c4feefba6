use Rattle.std.proofs.Common.{arith, rules, ◌≡◌, ◌∙◌, ◌+◌, ◌<◌, ℕ, ap, get_or, length, set, to_z, of_z, w64}
use Rattle.std.proofs.lemmas.Int.{to_z-of_z}
use Rattle.std.proofs.lemmas.List.Edits.{fill_by_more}
use Rattle.padded_samples.specs.PaddedSlabs.{slab_at}
use Rattle.samples.specs.Signs.{sign_of}
use Rattle.padded_samples.proofs.slab.PaddedSlab.fill_each.Goals as goal

pub loop-k-preserved : goal.loop-k-preserved
loop-k-preserved g c =
    let f : ℕ → ℕ = λ i. sign_of c.args.level (slab_at c.args.self.now (c.args.start + i)) in
    let back : to_z w64 (of_z w64 c.sample.result) ≡ c.sample.result = search (rules, to_z-of_z) in
    let e : c.sample_sign.result ≡ f c.loop-k.k = c.sample_sign.ensures ∙ ap (sign_of c.args.level) (back ∙ c.sample.ensures) in
    let here : c.loop-k.k < length c.loop-k.into = omega (arith, c.loop-k-test.true, c.loop-k.auto.into) in
    λ i low. ap (λ (v : ℕ). get_or (set c.loop-k.into c.loop-k.k v) i 0) e ∙ fill_by_more f c.loop-k.into c.loop-k.k 0 here c.loop-k.invariant i low
