use Rattle.std.proofs.Common.{◌≡◌, ℕ, ◌+◌, ◌-◌, ◌*◌, ◌<◌, ◌≤◌, ◌∙◌, All, List, ap, sym, subst, arith, drop, get_or, length, map, of_z, pos, rules, set, to_z, w64, ℤ}
use Rattle.std.specs.List.{range_with_len}
use Rattle.std.proofs.lemmas.Int.{to_z-of_z}
use Rattle.std.proofs.lemmas.List.{length-drop, length-set, map-id}
use Rattle.std.proofs.lemmas.List.Edits.{fill_by_more}
use Rattle.std.proofs.lemmas.List.FromFn.{fill_by_all}
use Rattle.iso_base.specs.Volume.{width_of}
use Rattle.iso_base.specs.SampleBytes.{sample_of}
use Rattle.raw_samples.proofs.Parts.{behind, room_for}
use Rattle.raw_samples.proofs.in_bytes.read_known.Goals as goal

pub split_at-requires : goal.split_at-requires
split_at-requires g c =
    let w = width_of g.K.SampleFormat.kind in
    let room : w * c.args.start ≤ length c.args.bytes.now = room_for w c.args.start (c.args.start + length c.args.into.now) (length c.args.bytes.now) (omega arith) c.requires.room in
    subst (λ n. n * c.args.start ≤ length c.args.bytes.now) (sym c.width.ensures) room

pub read-requires : goal.read-requires
read-requires g c =
    let w = width_of g.K.SampleFormat.kind in
    let size : length c.split_at.result.1.now ≡ length c.args.bytes.now - w * c.args.start
    = ap length c.split_at.ensures.back ∙ length-drop (c.width.result * c.args.start) c.args.bytes.now ∙ ap (λ n. length c.args.bytes.now - n * c.args.start) c.width.ensures in
    let part : w * (c.args.start + (c.loop-k.k + 1)) ≤ length c.args.bytes.now
    = room_for w (c.args.start + (c.loop-k.k + 1)) (c.args.start + length c.args.into.now) (length c.args.bytes.now) (omega (arith, c.loop-k-test.true, c.requires.known)) c.requires.room in
    omega (arith, size, part)

pub loop-k-preserved : goal.loop-k-preserved
loop-k-preserved g c =
    let f : ℕ → ℤ = λ k. sample_of g.K.SampleFormat.kind g.K.SampleFormat.big_endian c.args.bytes.now (c.args.start + k) in
    let w = width_of g.K.SampleFormat.kind in
    let run : c.split_at.result.1.now ≡ drop (w * c.args.start) c.args.bytes.now = c.split_at.ensures.back ∙ ap (λ n. drop (n * c.args.start) c.args.bytes.now) c.width.ensures in
    let at : sample_of g.K.SampleFormat.kind g.K.SampleFormat.big_endian c.split_at.result.1.now c.loop-k.k ≡ f c.loop-k.k
    = ap (λ l. sample_of g.K.SampleFormat.kind g.K.SampleFormat.big_endian l c.loop-k.k) run ∙ sym (behind g.K.SampleFormat.kind g.K.SampleFormat.big_endian c.args.bytes.now c.args.start c.loop-k.k) in
    let e : to_z w64 (of_z w64 c.sample.result) ≡ f c.loop-k.k = search (rules, to_z-of_z) ∙ c.sample.ensures.value ∙ c.read.ensures ∙ at in
    let here : c.loop-k.k < length c.loop-k.known = omega (arith, c.loop-k-test.true, c.loop-k.invariant.0) in (
      length-set c.loop-k.known c.loop-k.k (to_z w64 (of_z w64 c.sample.result)) ∙ c.loop-k.invariant.0,
      λ j low. ap (λ v. get_or (set c.loop-k.known c.loop-k.k v) j (pos 0)) e ∙ fill_by_more f c.loop-k.known c.loop-k.k (pos 0) here c.loop-k.invariant.1 j low,
    )

pub copy_all-requires-clause-fits : goal.copy_all-requires-clause-fits
copy_all-requires-clause-fits g c =
    let f : ℕ → ℤ = λ k. sample_of g.K.SampleFormat.kind g.K.SampleFormat.big_endian c.args.bytes.now (c.args.start + k) in
    let n = length c.args.into.now in
    let P : List ℤ → Type 0 = All g.T.Packed.Fits in
    let read : c.loop-k.known ≡ map f (range_with_len 0 n)
    = fill_by_all f c.loop-k.known n (pos 0) (c.loop-k.invariant.0 ∙ sym c.requires.known) (λ j low. c.loop-k.invariant.1 j (omega (arith, low, c.requires.known, c.loop-k-test.false))) in
    subst P (sym read ∙ sym (map-id c.loop-k.known)) c.requires.fits

pub returns : goal.returns
returns g c =
    let f : ℕ → ℤ = λ k. sample_of g.K.SampleFormat.kind g.K.SampleFormat.big_endian c.args.bytes.now (c.args.start + k) in
    c.copy_all.ensures ∙ map-id c.loop-k.known
    ∙ fill_by_all f c.loop-k.known (length c.args.into.now) (pos 0) (c.loop-k.invariant.0 ∙ sym c.requires.known) (λ j low. c.loop-k.invariant.1 j (omega (arith, low, c.requires.known, c.loop-k-test.false)))
