use Rattle.std.proofs.Common.{ℕ, ◌+◌, ◌<◌, ◌∙◌, sym, subst, arith, length, map, pos, ℤ}
use Rattle.std.proofs.lemmas.List.{length-map}
use Rattle.std.proofs.lemmas.List.FromFn.{fill_by_all, length-map-range_with_len}
use Rattle.iso_base.specs.SampleBytes.{sample_of}
use Rattle.raw_samples.proofs.ReadRuns.{one_more, one_of}
use Rattle.raw_samples.proofs.in_bytes.read_each.Goals as goal

pub convert-requires : goal.convert-requires
convert-requires g c =
    let f : ℕ → ℤ = λ k. sample_of g.K.SampleFormat.kind g.K.SampleFormat.big_endian c.args.bytes.now (c.args.start + k) in
    let n = length c.args.into.now in
    let low : c.loop-k.k < n = omega (arith, c.loop-k-test.true, c.loop-k.auto.into) in
    subst g.T.Packed.Fits (one_of f n c.loop-k.k low ∙ sym c.read.ensures) (c.requires.fits c.loop-k.k (pos 0) (omega (arith, low, length-map-range_with_len f 0 n)))

pub loop-k-preserved : goal.loop-k-preserved
loop-k-preserved g c =
    let f : ℕ → ℤ = λ k. sample_of g.K.SampleFormat.kind g.K.SampleFormat.big_endian c.args.bytes.now (c.args.start + k) in
    one_more g.T.Packed.value f c.loop-k.into c.loop-k.k c.convert.result (omega (arith, c.loop-k-test.true)) (c.convert.ensures ∙ c.read.ensures) c.loop-k.invariant

pub returns : goal.returns
returns g c =
    let f : ℕ → ℤ = λ k. sample_of g.K.SampleFormat.kind g.K.SampleFormat.big_endian c.args.bytes.now (c.args.start + k) in
    fill_by_all f (map g.T.Packed.value c.loop-k.into) (length c.args.into.now) (pos 0) (length-map c.loop-k.into g.T.Packed.value ∙ c.loop-k.auto.into)
    (λ j low. c.loop-k.invariant j (omega (arith, low, c.loop-k.auto.into, c.loop-k-test.false)))
