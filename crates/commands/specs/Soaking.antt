-- What `soak` does: the soak script of a seed, run on the volume that it generates.
use Rattle.std.specs.Prelude.{◌≡◌, ◌⊎◌, ℕ, ◌≤◌, Bool, true, false, if◌then◌else◌, List, [], ◌∷◌, ◌++◌, Some, None, Ok, MatchOption, ℤ, pos}
use Rattle.std.specs.Io.KnownBytes.{Appends}
use Rattle.iso_defs.specs.Grid.{Grid}
use Rattle.iso_base.specs.Volume.{Volume, unpadded}
use Rattle.byte_streams.specs.Causes.{Rose}
use Rattle.byte_streams.specs.Seen.{Tape}
use Rattle.mesh_cache.specs.Cache.{Limits}
use Rattle.bench_core.specs.Keeping.{Workbench, first_bench}
use Rattle.bench_core.specs.Machine.{IsState}
use Rattle.volume_gen.specs.Generated.{generated_volume}
use Rattle.volume_gen.specs.Soak.{soak_lines}
use Rattle.script.specs.Commands.{read_of}
use Rattle.script.specs.declared.command.Command.TheVariants.{Ply}
use Rattle.session.specs.Kept.{Kept}
use Rattle.session.specs.Lines.{LineMeaning}
use Rattle.session.specs.Worlds.{CountsBy, World, replies_text, scene_of, world}
use Rattle.command_terms.specs.Outcome.{NothingWritten}
use Rattle.commands.specs.Outcome.{Call, LeavesShelf}
use Rattle.commands.specs.SessionMeshes.{MeshTurns, is_fill, is_want, opened}
use Rattle.commands.specs.Sessions.{world_after}
use Rattle.program.specs.Status.{status_of}
use Rattle.program.specs.declared.answer.Answer.{Answer}
use Rattle.program.specs.declared.answer.Answer.TheVariants as answers
use Rattle.program.specs.declared.answer.Status.{Status}

-- ---- what it runs on

-- 64 samples along each axis
abbrev pub soak_sizes : Grid
soak_sizes = record { nx = 64; ny = 64; nz = 64 }

-- the volume that a seed generates, without a pad
abbrev pub soak_volume : ℕ → Volume
soak_volume seed = unpadded (generated_volume seed soak_sizes)

-- the level 128, in thousandths
abbrev pub soak_level : ℤ
soak_level = pos 128000

-- as much is kept of the mesh as in a session that does not say
abbrev pub soak_limits : Limits
soak_limits = record { bricks = 4096; pages = 65536 }

-- all that the script changes, before it
abbrev pub soak_world : ℕ → Call → World
soak_world seed call = world (first_bench (soak_volume seed) soak_level soak_limits) call.steps call.store
    call.streams.output

-- ---- lines and their replies

-- whether a line asks for the mesh as PLY
abbrev pub is_ply : LineMeaning → Bool
is_ply (Ok (Some (Ply name))) = true
is_ply says = false

-- the replies that are shown, those to the lines that ask for the mesh as PLY; a blank line and a comment have no reply
abbrev pub shown_by : LineMeaning → List (List ℕ) → (List (List ℕ) → List (List ℕ)) → List (List ℕ)
shown_by (Ok None) replies later = later replies
shown_by says [] later = []
shown_by says (reply ∷ replies) later = if is_ply says then reply ∷ later replies else later replies

abbrev pub shown : List (List ℕ) → List (List ℕ) → List (List ℕ)
shown [] replies = []
shown (line ∷ lines) replies = shown_by (read_of line) replies (shown lines)

-- no reply says so
abbrev pub HasNoWant : List (List ℕ) → Type 0
HasNoWant [] = Unit {0}
HasNoWant (reply ∷ replies) = (is_want reply ≡ false) × HasNoWant replies

-- Lines were run with these replies: none says that memory was wanting, and no more say that the shelf failed than its count
-- rose by.
pub record RanQuietly (w v : World) (lines replies : List (List ℕ)) : Type 0 where
  pub kept : Kept (scene_of w) lines replies (scene_of v)
  pub no_want : HasNoWant replies
  pub beside : v.tape.beside ≡ w.tape.beside
  pub shelf_later : w.store.faults ≤ v.store.faults
  pub counted : CountsBy w.store.faults v.store.faults replies

-- lines were run, and the replies that are shown were written
pub record Soaks (w v : World) (lines : List (List ℕ)) : Type 0 where
  pub replies : List (List ℕ)
  pub ran : RanQuietly w v lines replies
  pub written : Appends w.tape.taken v.tape.taken (replies_text (shown lines replies))
  pub later : w.tape.faults ≤ v.tape.faults

-- lines were run, the last of which asks for the mesh as PLY, and of the reply to that one only a front was written
pub record SoakBreaks (w v : World) (lines : List (List ℕ)) : Type 0 where
  pub before : List (List ℕ)
  pub line : List ℕ
  pub parts : lines ≡ before ++ line ∷ []
  pub ply : is_ply (read_of line) ≡ true
  pub replies : List (List ℕ)
  pub reply : List ℕ
  pub ran : RanQuietly w v lines (replies ++ reply ∷ [])
  pub front : List ℕ
  pub back : List ℕ
  pub cut : reply ≡ front ++ back
  pub written : Appends w.tape.taken v.tape.taken (replies_text (shown before replies) ++ front)
  pub cause : Rose w.tape.faults v.tape.faults

-- ---- how it ends

-- All lines of the script were run; or all before a `fill`, for which memory was wanting; or all up to and with a `ply`,
-- whose reply could not be written whole.
abbrev pub RunsLines : List (List ℕ) → World → World → Answer → Type 0
RunsLines script w v answers.Done = Soaks w v script
RunsLines script w v answers.Memory = (lines : List (List ℕ)) × (wanting : List ℕ) × (more : List (List ℕ))
    × (script ≡ lines ++ wanting ∷ more) × (is_fill (read_of wanting) ≡ true) × Soaks w v lines
RunsLines script w v answers.OutputFault = (lines : List (List ℕ)) × (more : List (List ℕ))
    × (script ≡ lines ++ more) × SoakBreaks w v lines
RunsLines script w v answer = ⊥

-- memory was wanting before the first line
pub record StaysIdle (call : Call) (answer : Answer) : Type 0 where
  pub answer_is : answer ≡ answers.Memory
  pub nothing_written : NothingWritten call.streams
  pub shelf : LeavesShelf call

-- lines of the script were run on the generated volume, from a bench that had kept nothing of its mesh to the one that is left
pub record RunsSoak (seed : ℕ) (call : Call) (answer : Answer) : Type 0 where
  pub sound : IsState (first_bench (soak_volume seed) soak_level soak_limits).state
  pub last : Workbench
  pub left_is : call.left ≡ Some last
  pub runs : RunsLines (soak_lines seed) (soak_world seed call) (world_after call last) answer

-- and nothing is read
abbrev pub DoesSoak : ℕ → Call → Answer → Type 0
DoesSoak seed call answer = (call.streams.input_after ≡ call.streams.input)
    × (StaysIdle call answer ⊎ RunsSoak seed call answer)

-- ---- what it leaves of the mesh

-- the replies that are shown were written
abbrev pub WritesShown : Tape → Tape → List (List ℕ) → List (List ℕ) → Type 0
WritesShown old new lines replies = Appends old.taken new.taken (replies_text (shown lines replies))

-- so it is but for the last line, which asks for the mesh as PLY, and of its reply only a prefix was written
pub record CutsShown (old new : Tape) (lines replies : List (List ℕ)) : Type 0 where
  pub before : List (List ℕ)
  pub line : List ℕ
  pub parts : lines ≡ before ++ line ∷ []
  pub ply : is_ply (read_of line) ≡ true
  pub told : List (List ℕ)
  pub reply : List ℕ
  pub replies_are : replies ≡ told ++ reply ∷ []
  pub front : List ℕ
  pub back : List ℕ
  pub cut : reply ≡ front ++ back
  pub written : Appends old.taken new.taken (replies_text (shown before told) ++ front)
  pub cause : Rose old.faults new.faults

-- These lines of the script were run, and so much was written of their replies, by how the soak ended: all lines; or those
-- before a `fill`, for which memory was wanting; or those up to and with a `ply`, whose reply could not be written whole.
abbrev pub SoakEndsAfter : List (List ℕ) → Tape → Tape → Answer → List (List ℕ) → List (List ℕ) → Type 0
SoakEndsAfter script old new answers.Done lines replies = (lines ≡ script) × WritesShown old new lines replies
SoakEndsAfter script old new answers.Memory lines replies = (wanting : List ℕ) × (more : List (List ℕ))
    × (script ≡ lines ++ wanting ∷ more) × (is_fill (read_of wanting) ≡ true) × WritesShown old new lines replies
SoakEndsAfter script old new answers.OutputFault lines replies = (more : List (List ℕ))
    × (script ≡ lines ++ more) × CutsShown old new lines replies
SoakEndsAfter script old new answer lines replies = ⊥

-- The lines that were run, with their replies, of which the shown ones were written, led to the bench that is left.
pub record SoakLedTo (seed : ℕ) (call : Call) (status : Status) (last : Workbench) : Type 0 where
  pub answer : Answer
  pub status_is : status ≡ status_of answer
  pub lines : List (List ℕ)
  pub replies : List (List ℕ)
  pub ends : SoakEndsAfter (soak_lines seed) call.streams.output call.streams.output_after answer lines replies
  pub ran : RanQuietly (soak_world seed call) (world_after call last) lines replies

-- so it is where a bench is left; where none is, no cell was classified
abbrev pub SoakLeaves : ℕ → Call → Status → Type 0
SoakLeaves seed call status = MatchOption call.left (call.steps_after ≡ call.steps) (SoakLedTo seed call status)

-- ---- its meshes

-- and each of these lines that asked for a mesh wrote it
pub record SoakMeshes (seed : ℕ) (call : Call) (status : Status) (last : Workbench) : Type 0 where
  pub led : SoakLedTo seed call status last
  pub meshes : MeshTurns (opened (soak_volume seed) soak_level) last.state call.store_after.files led.lines led.replies
