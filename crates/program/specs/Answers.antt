-- What is answered where the bytes of a command were not read.
use Rattle.byte_streams.specs.declared.source.ReadFault.{ReadFault}
use Rattle.byte_streams.specs.declared.source.ReadFault.TheVariants as reads
use Rattle.refusals.specs.declared.shelf.ShelfError.{ShelfError}
use Rattle.refusals.specs.declared.shelf.ShelfError.TheVariants as shelves
use Rattle.program.specs.declared.answer.Answer.{Answer}
use Rattle.program.specs.declared.answer.Answer.TheVariants.{InputFault, InputTooLong, Memory, ShelfFault}

-- those of the input
abbrev pub input_answer : ReadFault → Answer
input_answer reads.Failed = InputFault
input_answer reads.TooLong = InputTooLong
input_answer reads.Memory = Memory

-- those of a file of the shelf
abbrev pub shelf_answer : ShelfError → Answer
shelf_answer shelves.Failed = ShelfFault
shelf_answer (shelves.TooLong limit) = InputTooLong
shelf_answer shelves.Memory = Memory
