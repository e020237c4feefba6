-- What samples are read into, as the code holds it. No public definition rests on it.
use Rattle.std.specs.Prelude.{◌≡◌, ℕ, ℤ, List, length, All, Result, Ok}
use Rattle.iso_base.specs.Volume.{IsOfKind}
use Rattle.iso_base.specs.declared.kind.SampleKind.{SampleKind}
use Rattle.text_samples.specs.declared.fault.SampleFault.{SampleFault}

-- what is held is what was read: so many samples of a kind, and the number of bytes after them
pub record IsReadInto (holds : List ℤ → Type 0) (kind : SampleKind) (count : ℕ)
    (read : Result (List ℤ × ℕ) SampleFault) (left : ℕ) : Type 0 where
  pub samples : List ℤ
  pub read_is : read ≡ Ok (samples, left)
  pub held : holds samples
  pub each : All (IsOfKind kind) samples
  pub number : length samples ≡ count
