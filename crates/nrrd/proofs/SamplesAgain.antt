-- Written samples are read again.
use Rattle.std.proofs.Common.{◌≡◌, ℕ, ◌+◌, ◌-◌, ◌*◌, false, ltb, List, ◌++◌, length, Ok, refl, sym, ap, ◌∙◌, arith}
use Rattle.std.proofs.lemmas.Bool.{le-ltb}
use Rattle.std.proofs.lemmas.List.{length-append}
use Rattle.iso_defs.specs.Grid.{point_count}
use Rattle.iso_base.specs.Volume.{width_of, Voxels, IsVoxels}
use Rattle.iso_base.specs.SampleBytes.{samples_in}
use Rattle.nrrd.specs.Writing.{samples_text}
use Rattle.nrrd_read.specs.Nrrd.{raw_samples}
use Rattle.text_samples.proofs.BytesAgain.{length_samples, samples_again}

pub raw_again : (v : Voxels) (rest : List ℕ) → IsVoxels v → raw_samples v.kind false (point_count v.grid) (samples_text v.kind v.samples ++ rest) ≡ Ok (v.samples, length rest)
raw_again v rest h =
    let n : length (samples_text v.kind v.samples) ≡ width_of v.kind * point_count v.grid = length_samples v.kind v.samples ∙ ap (λ (k : ℕ). width_of v.kind * k) h.count in
    let all : length (samples_text v.kind v.samples ++ rest) ≡ width_of v.kind * point_count v.grid + length rest = omega (arith, n, length-append (samples_text v.kind v.samples) rest) in
    let enough : ltb (length (samples_text v.kind v.samples ++ rest)) (width_of v.kind * point_count v.grid) ≡ false = le-ltb _ _ (omega (arith, all)) in
    let left : length (samples_text v.kind v.samples ++ rest) - width_of v.kind * point_count v.grid ≡ length rest = omega (arith, all) in
    let samples : samples_in v.kind false (samples_text v.kind v.samples ++ rest) (point_count v.grid) ≡ v.samples = ap (samples_in v.kind false (samples_text v.kind v.samples ++ rest)) (sym h.count) ∙ samples_again v.kind v.samples rest h.each in
    rw (enough, left, samples) refl
