-- Replies where the shelf does not fail.
use Rattle.std.specs.Prelude.{ℕ, List, IfSome}
use Rattle.iso_base.specs.Volume.{Volume}
use Rattle.byte_streams.specs.Causes.{Rose}
use Rattle.bench_core.specs.Keeping.{Workbench, first_bench}
use Rattle.session.specs.Following.{SurelyFollowed}
use Rattle.session.specs.Sessions.{EndsAfter}
use Rattle.session.specs.declared.ending.Ending.{Ending}
use Rattle.commands.specs.Outcome.{Call}
use Rattle.commands.specs.SessionMeshes.{WritesReplies}
use Rattle.commands.specs.Sessions.{Asked, HoldsFile, answer_of, session_between}
use Rattle.program.specs.Status.{status_of}
use Rattle.commands.specs.Soaking.{SoakLedTo, soak_level, soak_limits, soak_volume}
use Rattle.program.specs.declared.answer.Status.{Status}

-- Lines of the script were run on the volume of the file, and their replies written. Each reply is the machine's, or says that
-- memory was wanting, at a line that may ask for it.
pub record RepliesSurely (asked : Asked) (call : Call) (last : Workbench) : Type 0 where
  pub volume : Volume
  pub holds : HoldsFile asked call volume
  pub ending : Ending
  pub lines : List (List ℕ)
  pub ends : EndsAfter (session_between asked call volume last) ending lines
  pub replies : List (List ℕ)
  pub written : WritesReplies (status_of (answer_of ending)) call.streams.output call.streams.output_after replies
  pub sure : SurelyFollowed (first_bench volume asked.level asked.limits).state call.store.files lines replies
      last.state call.store_after.files

-- so it is in a session that was opened, where the shelf's count did not rise
abbrev pub HasSureReplies : Asked → Call → Type 0
HasSureReplies asked call = (Rose call.store.faults call.store_after.faults → ⊥) →
    IfSome call.left (RepliesSurely asked call)

-- the same of the lines of a soak that were run, none of whose replies says that memory was wanting
pub record SoaksSurely (seed : ℕ) (call : Call) (status : Status) (last : Workbench) : Type 0 where
  pub led : SoakLedTo seed call status last
  pub sure : SurelyFollowed (first_bench (soak_volume seed) soak_level soak_limits).state call.store.files led.lines
      led.replies last.state call.store_after.files

abbrev pub HasSureSoak : ℕ → Call → Status → Type 0
HasSureSoak seed call status = (Rose call.store.faults call.store_after.faults → ⊥) →
    IfSome call.left (SoaksSurely seed call status)
