use Rattle.std.proofs.Common.{◌≡◌, ◌+◌, ◌∙◌, ℕ, ℤ, length, arith, ap, sym, map, take, drop}
use Rattle.std.specs.List.{range_with_len}
use Rattle.std.proofs.lemmas.Simd.{map-map}
use Rattle.iso_base.specs.Volume.{width_of}
use Rattle.iso_base.specs.SampleBytes.{sample_of}
use Rattle.samples.specs.Signs.{sign_of}
use Rattle.raw_samples.proofs.SampleLaws.{length_samples}
use Rattle.raw_samples.proofs.Parts.{room_for, run_at}
use Rattle.raw_samples.proofs.in_bytes.InBytesSamples.fill_signs.Goals as goal

pub fill_run_signs-requires-clause-room : goal.fill_run_signs-requires-clause-room
fill_run_signs-requires-clause-room g c =
    let r = c.self.inside in
    let all : length c.args.self.now ≡ r.count = sym (ap length c.self.view_is) ∙ length_samples g.K.SampleFormat.kind g.K.SampleFormat.big_endian r.bytes.now r.count in
    room_for (width_of g.K.SampleFormat.kind) (c.args.start + length c.args.into.now) r.count (length r.bytes.now) (omega (arith, all, c.requires)) c.self.invariant.room

pub fill_run_signs-requires-clause-few : goal.fill_run_signs-requires-clause-few
fill_run_signs-requires-clause-few g c =
    let r = c.self.inside in
    let all : length c.args.self.now ≡ r.count = sym (ap length c.self.view_is) ∙ length_samples g.K.SampleFormat.kind g.K.SampleFormat.big_endian r.bytes.now r.count in
    omega (arith, all, c.requires, c.self.invariant.few)

pub returns : goal.returns
returns g c =
    let r = c.self.inside in
    let n = length c.args.into.now in
    let f : ℕ → ℤ = λ k. sample_of g.K.SampleFormat.kind g.K.SampleFormat.big_endian r.bytes.now (c.args.start + k) in
    let all : length c.args.self.now ≡ r.count = sym (ap length c.self.view_is) ∙ length_samples g.K.SampleFormat.kind g.K.SampleFormat.big_endian r.bytes.now r.count in
    c.fill_run_signs.ensures ∙ sym (map-map (sign_of c.args.level) f (range_with_len 0 n))
    ∙ ap (map (sign_of c.args.level)) (run_at g.K.SampleFormat.kind g.K.SampleFormat.big_endian r.bytes.now r.count c.args.start n (omega (arith, all, c.requires)) ∙ ap (λ l. take n (drop c.args.start l)) c.self.view_is)
