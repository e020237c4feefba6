use Rattle.std.proofs.Common.{◌≡◌, ◌+◌, ◌≤◌, ◌∙◌, All, List, ℤ, ℕ, length, arith, ap, sym, subst, take, drop}
use Rattle.iso_defs.specs.Grid.{point_count}
use Rattle.iso_base.specs.Points.{index_of}
use Rattle.iso_base.specs.Volume.{width_of}
use Rattle.samples.proofs.Rows.{row_in}
use Rattle.raw_samples.proofs.SampleLaws.{length_samples}
use Rattle.raw_samples.proofs.Parts.{room_for, run_at}
use Rattle.raw_samples.proofs.in_bytes.InBytesSamples.copy_row.Goals as goal

pub read_run-requires-clause-room : goal.read_run-requires-clause-room
read_run-requires-clause-room g c =
    let r = c.self.inside in
    let n = length c.args.into.now in
    let all : length c.args.self.now ≡ r.count = sym (ap length c.self.view_is) ∙ length_samples g.K.SampleFormat.kind g.K.SampleFormat.big_endian r.bytes.now r.count in
    let row : index_of c.args.sizes.now c.args.point + n ≤ point_count c.args.sizes.now = row_in c.args.sizes.now c.args.point c.requires.point n c.requires.row in
    room_for (width_of g.K.SampleFormat.kind) (c.index.result + n) r.count (length r.bytes.now) (omega (arith, all, row, c.requires.count, c.index.ensures.value)) c.self.invariant.room

pub read_run-requires-clause-few : goal.read_run-requires-clause-few
read_run-requires-clause-few g c =
    let row = row_in c.args.sizes.now c.args.point c.requires.point (length c.args.into.now) c.requires.row in
    omega (arith, row, c.index.ensures.value, c.index.ensures.grid.count)

pub read_run-requires-clause-fits : goal.read_run-requires-clause-fits
read_run-requires-clause-fits g c =
    let r = c.self.inside in
    let n = length c.args.into.now in
    let i = c.index.result in
    let all : length c.args.self.now ≡ r.count = sym (ap length c.self.view_is) ∙ length_samples g.K.SampleFormat.kind g.K.SampleFormat.big_endian r.bytes.now r.count in
    let row : index_of c.args.sizes.now c.args.point + n ≤ point_count c.args.sizes.now = row_in c.args.sizes.now c.args.point c.requires.point n c.requires.row in
    let P : List ℤ → Type 0 = All g.T.Packed.Fits in
    subst P (sym (run_at g.K.SampleFormat.kind g.K.SampleFormat.big_endian r.bytes.now r.count i n (omega (arith, all, row, c.requires.count, c.index.ensures.value))
    ∙ ap (λ l. take n (drop i l)) c.self.view_is ∙ ap (λ (i : ℕ). take n (drop i c.args.self.now)) c.index.ensures.value)) c.requires.fits

pub returns : goal.returns
returns g c =
    let r = c.self.inside in
    let n = length c.args.into.now in
    let i = c.index.result in
    let all : length c.args.self.now ≡ r.count = sym (ap length c.self.view_is) ∙ length_samples g.K.SampleFormat.kind g.K.SampleFormat.big_endian r.bytes.now r.count in
    let row : index_of c.args.sizes.now c.args.point + n ≤ point_count c.args.sizes.now = row_in c.args.sizes.now c.args.point c.requires.point n c.requires.row in
    c.read_run.ensures ∙ run_at g.K.SampleFormat.kind g.K.SampleFormat.big_endian r.bytes.now r.count i n (omega (arith, all, row, c.requires.count, c.index.ensures.value))
    ∙ ap (λ l. take n (drop i l)) c.self.view_is ∙ ap (λ (i : ℕ). take n (drop i c.args.self.now)) c.index.ensures.value
