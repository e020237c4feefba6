use Rattle.std.proofs.Common.{◌≡◌, ◌+◌, ◌∙◌, ap, arith, cond, get_or, int_le, length, set, ℕ, ℤ}
use Rattle.std.proofs.lemmas.List.Edits.{fill_by_more}
use Rattle.std.proofs.lemmas.List.FromFn.{fill_by_all}
use Rattle.iso_base.specs.SampleBytes.{sample_of}
use Rattle.raw_samples.proofs.in_bytes.fill_by_bound.Goals as goal

pub loop-k-preserved : goal.loop-k-preserved
loop-k-preserved g c = λ least bound j low.
    let from : ℤ → ℕ = λ sample. cond (int_le least sample) 1 0 in
    let f : ℕ → ℕ = λ k. from (sample_of g.K.SampleFormat.kind g.K.SampleFormat.big_endian c.args.bytes.now (c.args.start + k)) in
    let e : c.sign.result ≡ f c.loop-k.k = c.sign.ensures least bound ∙ ap from c.read.ensures in
    ap (λ v. get_or (set c.loop-k.into c.loop-k.k v) j 0) e
    ∙ fill_by_more f c.loop-k.into c.loop-k.k 0 (omega (arith, c.loop-k-test.true, c.loop-k.auto.into)) (c.loop-k.invariant least bound) j low

pub returns : goal.returns
returns g c = λ least bound.
    fill_by_all (λ k. cond (int_le least (sample_of g.K.SampleFormat.kind g.K.SampleFormat.big_endian c.args.bytes.now (c.args.start + k))) 1 0) c.loop-k.into (length c.args.into.now) 0 c.loop-k.auto.into
    (λ j low. c.loop-k.invariant least bound j (omega (arith, low, c.loop-k.auto.into, c.loop-k-test.false)))
