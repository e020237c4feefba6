-- Samples as they are packed.
use Rattle.std.specs.Prelude.{ℕ, ◌+◌, ℤ, List, ◌++◌, drop, length, map, pos, take}
use Rattle.packed_samples.specs.declared.run.PackedRun.{PackedRun}
use Rattle.packed_samples.specs.declared.run.PackedRun.TheVariants.{U8, I16, U16, I32, I64}
use Rattle.packed_samples.specs.declared.width.Width.{Width}
use Rattle.packed_samples.specs.declared.width.Width.TheVariants as widths

-- the samples of a run
abbrev pub samples_in : PackedRun → List ℤ
samples_in (U8 run) = map pos run.now
samples_in (I16 run) = run.now
samples_in (U16 run) = map pos run.now
samples_in (I32 run) = run.now
samples_in (I64 run) = run.now

-- the width that they lie in
abbrev pub run_width : PackedRun → Width
run_width (U8 _) = widths.U8
run_width (I16 _) = widths.I16
run_width (U16 _) = widths.U16
run_width (I32 _) = widths.I32
run_width (I64 _) = widths.I64

-- the samples with those from a place on replaced by these
abbrev pub row_set : ℕ → List ℤ → List ℤ → List ℤ
row_set i values samples = take i samples ++ (values ++ drop (i + length values) samples)
