-- How the program ends, and what it says of that.
use Rattle.std.specs.Prelude.{ℕ, List, codes}
use Rattle.iso_defs.specs.Texts.{counted}
use Rattle.program.specs.Notes.{note_by, note_line}
use Rattle.program.specs.Status.{status_of}
use Rattle.program.specs.declared.answer.Status.{Status}
use Rattle.program.specs.declared.answer.Status.TheVariants as statuses
use Rattle.slab_command.specs.declared.answer.SlabAnswer.{SlabAnswer}
use Rattle.slab_command.specs.declared.answer.SlabAnswer.TheVariants.{Common, Thin, Numbers}

-- the status of an answer
abbrev pub slab_status : SlabAnswer → Status
slab_status (Common answer) = status_of answer
slab_status (Thin slices) = statuses.BadVolume
slab_status (Numbers largest) = statuses.BadVolume

-- the name that notes begin with
abbrev pub name : List ℕ
name = codes "isoslab"

-- its note: a line, or nothing where it is done
unfoldable pub slab_note : SlabAnswer → List ℕ
slab_note (Common answer) = note_by name answer
slab_note (Thin slices) = note_line name (counted (codes "slab thin ") slices)
slab_note (Numbers largest) = note_line name (counted (codes "slab numbers ") largest)
