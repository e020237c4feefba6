-- The samples of a volume in bytes, of any kind and byte order.
use Rattle.std.specs.Prelude.{ℤ, List}
use Rattle.raw_samples.specs.declared.kinds.RawSamples.{RawSamples}
use Rattle.raw_samples.specs.declared.kinds.RawSamples.TheVariants.{Unsigned8, Signed8, Unsigned16Little, Unsigned16Big, Signed16Little, Signed16Big, Unsigned32Little, Unsigned32Big, Signed32Little, Signed32Big}

abbrev pub raw_list : RawSamples → List ℤ
raw_list (Unsigned8 samples) = samples
raw_list (Signed8 samples) = samples
raw_list (Unsigned16Little samples) = samples
raw_list (Unsigned16Big samples) = samples
raw_list (Signed16Little samples) = samples
raw_list (Signed16Big samples) = samples
raw_list (Unsigned32Little samples) = samples
raw_list (Unsigned32Big samples) = samples
raw_list (Signed32Little samples) = samples
raw_list (Signed32Big samples) = samples
