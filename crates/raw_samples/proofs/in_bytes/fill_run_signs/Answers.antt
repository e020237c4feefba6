use Rattle.std.proofs.Common.{◌≡◌, ◌+◌, ◌∙◌, ap, int_le, length, of_z, rules, to_z, w64, ℕ, ℤ}
use Rattle.std.specs.List.{range_with_len}
use Rattle.std.proofs.lemmas.Int.{to_z-of_z}
use Rattle.samples.proofs.LeastAbove.{by_least}
use Rattle.iso_base.specs.SampleBytes.{sample_of}
use Rattle.raw_samples.proofs.in_bytes.fill_run_signs.Goals as goal

pub returns-in-Some : goal.returns-in-Some
returns-in-Some g c =
    let f : ℕ → ℤ = λ k. sample_of g.K.SampleFormat.kind g.K.SampleFormat.big_endian c.args.bytes.now (c.args.start + k) in
    let least : to_z w64 (of_z w64 c.least_above.result) ≡ c.least_above.result = search (rules, to_z-of_z) in
    c.fill_by_bound.ensures (to_z w64 (of_z w64 c.least_above.result)) c.in-Some.ensures
    ∙ by_least f c.args.level _ (λ s. ap (λ n. int_le n s) least ∙ c.least_above.ensures s) (range_with_len 0 (length c.args.into.now))

pub returns-in-None : goal.returns-in-None
returns-in-None g c =
    let f : ℕ → ℤ = λ k. sample_of g.K.SampleFormat.kind g.K.SampleFormat.big_endian c.args.bytes.now (c.args.start + k) in
    let least : to_z w64 (of_z w64 c.least_above.result) ≡ c.least_above.result = search (rules, to_z-of_z) in
    c.fill_by_bound-in-None.ensures (to_z w64 (of_z w64 c.least_above.result)) c.in-None.ensures
    ∙ by_least f c.args.level _ (λ s. ap (λ n. int_le n s) least ∙ c.least_above.ensures s) (range_with_len 0 (length c.args.into.now))
