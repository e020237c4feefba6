-- The volume that a command works on: in its pad, in the input, and in a file of the shelf.
use Rattle.std.specs.Prelude.{◌≡◌, ◌⊎◌, ℕ, ◌<◌, ◌≤◌, List, length, Option, Some, Err, IfSome, ℤ}
use Rattle.std.specs.FinMap.{get}
use Rattle.iso_base.specs.Volume.{Volume}
use Rattle.byte_streams.specs.Causes.{Rose}
use Rattle.iso_io.specs.Shelves.{Store, Lacks, content}
use Rattle.command_terms.specs.Volumes.{volume_limit, volume_of, with_pad}
use Rattle.command_terms.specs.declared.reasons.NoVolume.{NoVolume}
use Rattle.command_terms.specs.declared.reasons.NoVolume.TheVariants as reasons
use Rattle.program.specs.declared.answer.Answer.{Answer}
use Rattle.program.specs.declared.answer.Answer.TheVariants as answers

-- why a volume that was read is not taken, in its pad if it is to have one; out of memory says nothing
abbrev pub IsNotTaken : Option ℤ → ℤ → Volume → NoVolume → Type 0
IsNotTaken pad level v (reasons.Refused fault) = with_pad pad level v ≡ Err fault
IsNotTaken pad level v reasons.Memory = Unit {0}

-- told files have one of this name, of at most so many bytes, of which this is true
abbrev pub FileIs : Store → List ℕ → (List ℕ → Type 0) → Type 0
FileIs store name P = IfSome store.files (λ files. (bytes : List ℕ) × (get files name ≡ Some bytes)
    × (length bytes ≤ volume_limit) × P bytes)

-- why there is no volume in the file of a name
abbrev pub LacksVolume : Option ℤ → ℤ → List ℕ → Store → Store → Answer → Type 0
LacksVolume pad level name old new answers.ShelfFault = Rose old.faults new.faults ⊎ Lacks name old.files
LacksVolume pad level name old new answers.InputTooLong = IfSome old.files (λ files. volume_limit
    < length (content files name))
LacksVolume pad level name old new (answers.BadVolume fault) = FileIs old name (λ bytes. volume_of pad level bytes
    ≡ Err fault)
LacksVolume pad level name old new answers.Memory = Unit {0}
LacksVolume pad level name old new answer = ⊥
