-- What a session leaves of the mesh, and how many cells it classifies.
use Rattle.std.specs.Prelude.{◌≡◌, ℕ, List, MatchOption}
use Rattle.iso_base.specs.Volume.{Volume}
use Rattle.bench_core.specs.Keeping.{Workbench}
use Rattle.session.specs.Kept.{Kept}
use Rattle.session.specs.Sessions.{EndsAfter}
use Rattle.session.specs.Worlds.{scene_of}
use Rattle.session.specs.declared.ending.Ending.{Ending}
use Rattle.commands.specs.Outcome.{Call}
use Rattle.commands.specs.SessionMeshes.{WritesReplies}
use Rattle.commands.specs.Sessions.{Asked, HoldsFile, answer_of, session_between, world_after, world_before}
use Rattle.program.specs.Status.{status_of}

-- The lines that were run, with the replies that were written, led to the bench that is left, from one that was opened on the
-- volume of the file and had kept nothing of its mesh.
pub record LedTo (asked : Asked) (call : Call) (last : Workbench) : Type 0 where
  pub volume : Volume
  pub holds : HoldsFile asked call volume
  pub ending : Ending
  pub lines : List (List ℕ)
  pub ends : EndsAfter (session_between asked call volume last) ending lines
  pub replies : List (List ℕ)
  pub written : WritesReplies (status_of (answer_of ending)) call.streams.output call.streams.output_after replies
  pub kept : Kept (scene_of (world_before asked call volume)) lines replies (scene_of (world_after call last))

-- so it is where a bench is left; where none is, no cell was classified
abbrev pub LeavesBench : Asked → Call → Type 0
LeavesBench asked call = MatchOption call.left (call.steps_after ≡ call.steps) (LedTo asked call)
