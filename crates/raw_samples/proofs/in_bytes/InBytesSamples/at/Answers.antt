use Rattle.std.proofs.Common.{◌≡◌, ◌+◌, ◌∙◌, length, arith, ap, sym, rules, to_z, of_z, w64}
use Rattle.std.proofs.lemmas.Int.{to_z-of_z}
use Rattle.iso_base.specs.Volume.{width_of, sample}
use Rattle.raw_samples.proofs.SampleLaws.{length_samples}
use Rattle.raw_samples.proofs.Parts.{one_sample, room_for}
use Rattle.raw_samples.proofs.in_bytes.InBytesSamples.at.Goals as goal

pub read-requires : goal.read-requires
read-requires g c =
    let r = c.self.inside in
    let n : length c.args.self.now ≡ r.count = sym (ap length c.self.view_is) ∙ length_samples g.K.SampleFormat.kind g.K.SampleFormat.big_endian r.bytes.now r.count in
    room_for (width_of g.K.SampleFormat.kind) (c.args.index + 1) r.count (length r.bytes.now) (omega (arith, n, c.requires)) c.self.invariant.room

pub returns : goal.returns
returns g c =
    let r = c.self.inside in
    let n : length c.args.self.now ≡ r.count = sym (ap length c.self.view_is) ∙ length_samples g.K.SampleFormat.kind g.K.SampleFormat.big_endian r.bytes.now r.count in
    let e : to_z w64 (of_z w64 c.sample.result) ≡ c.sample.result = search (rules, to_z-of_z) in
    e ∙ c.sample.ensures.value ∙ c.read.ensures
    ∙ sym (sym (ap (λ l. sample l c.args.index) c.self.view_is) ∙ one_sample g.K.SampleFormat.kind g.K.SampleFormat.big_endian r.bytes.now r.count c.args.index (omega (arith, n, c.requires)))
