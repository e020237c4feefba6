-- What `gen` gives.
use Rattle.std.specs.Prelude.{◌≡◌, ℕ, List}
use Rattle.iso_defs.specs.Grid.{Grid}
use Rattle.nrrd.specs.Writing.{save_text}
use Rattle.volume_gen.specs.Generated.{generated_volume}
use Rattle.command_terms.specs.Outcome.{NothingWritten, Streams, Writes, WritesFront}
use Rattle.program.specs.declared.answer.Answer.{Answer}
use Rattle.program.specs.declared.answer.Answer.TheVariants as answers

-- the file of the generated volume of a seed and sizes
abbrev pub generated_text : ℕ → Grid → List ℕ
generated_text seed sizes = save_text (generated_volume seed sizes)

-- it is written, by this answer
abbrev pub WritesGenerated : ℕ → Grid → Streams → Answer → Type 0
WritesGenerated seed sizes call answers.Done = Writes call (generated_text seed sizes)
WritesGenerated seed sizes call answers.OutputFault = WritesFront call (generated_text seed sizes)
WritesGenerated seed sizes call answers.Memory = NothingWritten call
WritesGenerated seed sizes call answer = ⊥

-- and nothing is read
abbrev pub Generates : ℕ → Grid → Streams → Answer → Type 0
Generates seed sizes call answer = WritesGenerated seed sizes call answer × (call.input_after ≡ call.input)
