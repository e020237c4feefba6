-- How a program ends, by the arguments that it was given.
use Rattle.std.specs.Prelude.{◌≡◌, ◌⊎◌, ℕ, List, [], drop, map, Result, Ok, Err, string_bytes}
use Rattle.std.specs.IoError.{error_kind}
use Rattle.std.specs.Process.{exit_status}
use Rattle.std.specs.Vec.Iter.{into_iter_items}
use Rattle.std.specs.declared.alloc.Global.{Global}
use Rattle.std.specs.declared.io.Error.{Error}
use Rattle.std.specs.declared.io.ErrorKind.TheVariants.{OutOfMemory}
use Rattle.std.specs.declared.process.ExitCode.{ExitCode}
use Rattle.std.specs.declared.string.String.{String}
use Rattle.std.specs.declared.vec.IntoIter.{IntoIter}
use Rattle.program.specs.Status.{number_of}
use Rattle.program.specs.declared.answer.Status.{Status}
use Rattle.program.specs.declared.answer.Status.TheVariants as statuses

-- what the system gave of the arguments, the program's name first, or why it gave none
abbrev pub Given : Type 0
Given = Result (IntoIter (String Global) Global) Error

-- the arguments but the first
abbrev pub words_of : IntoIter (String Global) Global → List (List ℕ)
words_of arguments = map string_bytes (drop 1 (into_iter_items arguments))

-- The statuses of a program, where these are those that it may end by on some words. It is run on the arguments but the first,
-- and on no words where the arguments are no text. Memory may be wanting for them.
abbrev pub MayEnd : (List (List ℕ) → Status → Type 0) → Given → Status → Type 0
MayEnd ends (Ok arguments) status = (status ≡ statuses.Memory) ⊎ ends (words_of arguments) status
MayEnd ends (Err error) status = (error_kind error ≡ OutOfMemory → status ≡ statuses.Memory)
    × ((error_kind error ≡ OutOfMemory → ⊥) → ends [] status)

-- the exit status is the number of one of these statuses
abbrev pub ExitsBy : (Status → Type 0) → ExitCode → Type 0
ExitsBy may_end exit = (status : Status) × may_end status × (exit_status exit ≡ number_of status)
