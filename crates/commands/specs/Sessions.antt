-- A session, from its volume's file on.
use Rattle.std.specs.Prelude.{◌≡◌, ◌⊎◌, List, ℕ, Option, Some, None, Ok, ℤ}
use Rattle.iso_base.specs.Volume.{Volume}
use Rattle.mesh_cache.specs.Cache.{Limits}
use Rattle.bench_core.specs.Keeping.{Workbench, first_bench}
use Rattle.bench_core.specs.Machine.{IsState}
use Rattle.session.specs.Worlds.{World, world}
use Rattle.session.specs.Sessions.{Course, EndsAfter}
use Rattle.session.specs.declared.ending.Ending.{Ending}
use Rattle.session.specs.declared.ending.Ending.TheVariants as endings
use Rattle.commands.specs.Outcome.{Call}
use Rattle.command_terms.specs.Volumes.{volume_of}
use Rattle.commands.specs.Volumes.{FileIs, LacksVolume}
use Rattle.program.specs.declared.answer.Answer.{Answer}
use Rattle.program.specs.declared.answer.Answer.TheVariants as answers

-- what an ending is answered
abbrev pub answer_of : Ending → Answer
answer_of endings.Done = answers.Done
answer_of endings.InputFault = answers.InputFault
answer_of endings.InputTooLong = answers.InputTooLong
answer_of endings.OutputFault = answers.OutputFault

-- what is asked for: the level in thousandths, the pad, the name of the volume's file, and how much may be kept
pub record Asked : Type 0 where
  pub level : ℤ
  pub pad : Option ℤ
  pub name : List ℕ
  pub limits : Limits

-- the file of the name holds this volume, in its pad
abbrev pub HoldsFile : Asked → Call → Volume → Type 0
HoldsFile asked call volume = FileIs call.store asked.name (λ bytes. volume_of asked.pad asked.level bytes ≡ Ok volume)

-- what a session changes, before it and after it
abbrev pub world_before : Asked → Call → Volume → World
world_before asked call volume = world (first_bench volume asked.level asked.limits) call.steps call.store
    call.streams.output

abbrev pub world_after : Call → Workbench → World
world_after call last = world last call.steps_after call.store_after call.streams.output_after

-- and its script
abbrev pub session_between : Asked → Call → Volume → Workbench → Course
session_between asked call volume last = record {
  input = call.streams.input;
  input_after = call.streams.input_after;
  world = world_before asked call volume;
  world_after = world_after call last;
}

-- The session was not opened: no byte of the script was read, there is no reply, no file is changed, and no cell was
-- classified.
pub record StaysShut (asked : Asked) (call : Call) (answer : Answer) : Type 0 where
  pub cause : LacksVolume asked.pad asked.level asked.name call.store call.store_after answer
  pub nothing_read : call.streams.input_after ≡ call.streams.input
  pub nothing_written : call.streams.output_after ≡ call.streams.output
  pub same_files : call.store_after.files ≡ call.store.files
  pub nothing_left : call.left ≡ None
  pub steps : call.steps_after ≡ call.steps

-- The session was opened on the volume of the file, with nothing kept of its mesh, and ended after some lines with the
-- bench that is left.
pub record Opens (asked : Asked) (call : Call) (answer : Answer) : Type 0 where
  pub volume : Volume
  pub holds : HoldsFile asked call volume
  pub sound : IsState (first_bench volume asked.level asked.limits).state
  pub last : Workbench
  pub left_is : call.left ≡ Some last
  pub ending : Ending
  pub answer_is : answer ≡ answer_of ending
  pub lines : List (List ℕ)
  pub ends : EndsAfter (session_between asked call volume last) ending lines

abbrev pub RunsSession : Asked → Call → Answer → Type 0
RunsSession asked call answer = StaysShut asked call answer ⊎ Opens asked call answer
