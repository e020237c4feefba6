-- What the readers of samples answer: a value, or the first refusal.
use Rattle.std.specs.Prelude.{Bool, true, false, Result}
use Rattle.text_lines.specs.Lines.{FailsBut}
use Rattle.text_samples.specs.declared.fault.SampleFault.{SampleFault}
use Rattle.text_samples.specs.declared.fault.SampleFault.TheVariants.{Memory}

-- whether memory was wanting
abbrev pub is_memory : SampleFault → Bool
is_memory Memory = true
is_memory _ = false

-- a refusal is the one that is read; want of memory says nothing
abbrev pub Fails : {A : Type 0} → SampleFault → Result A SampleFault → Type 0
Fails fault read = FailsBut is_memory fault read
