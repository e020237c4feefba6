-- The headline, in a session: the meshes of its states that its lines write.
use Rattle.std.specs.Prelude.{◌≡◌, ◌⊎◌, ℕ, Bool, true, false, List, [], ◌∷◌, ◌++◌, length, bytes_eq, codes, Option, Some, None, Result, Ok, Err, IfSome, ℤ}
use Rattle.std.specs.FinMap.{get}
use Rattle.std.specs.Io.KnownBytes.{Appends}
use Rattle.std.specs.List.{AllByRecursion}
use Rattle.iso_defs.specs.Scratch.{vertices}
use Rattle.iso_defs.specs.Texts.{line}
use Rattle.iso_base.specs.Volume.{Volume, field}
use Rattle.iso_base.specs.declared.fault.BenchFault.{BenchFault}
use Rattle.byte_streams.specs.Causes.{Rose}
use Rattle.byte_streams.specs.Seen.{AppendsFront, Feed, Files, Tape}
use Rattle.bench_core.specs.Keeping.{Workbench}
use Rattle.bench_core.specs.Machine.{State, fill_step, level_step, redo_step, set_step, three_from, undo_step}
use Rattle.bench_core.specs.Surface.{IsWatertight, mesh_triangles}
use Rattle.mesh_text.specs.declared.format.TwoWayFormat.{TwoWayFormat}
use Rattle.mesh_text.specs.declared.format.TwoWayFormat.TheVariants as formats
use Rattle.script.specs.Commands.{read_of}
use Rattle.script.specs.Replies.{written_text}
use Rattle.script.specs.declared.command.Command.{Command}
use Rattle.script.specs.declared.command.Command.TheVariants.{Fill, Level, Obj, Ply, Redo, Save, SaveHex, SaveText, Set, Undo, Window}
use Rattle.session.specs.Lines.{LineMeaning, has_no_quit}
use Rattle.session.specs.Worlds.{CountsBy, is_shelf_error, replies_text}
use Rattle.session.specs.Sessions.{IsBroken, IsCutOff, IsDone, IsTooLong}
use Rattle.commands.specs.Headline.{text_of_volume}
use Rattle.commands.specs.Outcome.{Call}
use Rattle.commands.specs.Sessions.{Asked, HoldsFile}
use Rattle.program.specs.declared.answer.Status.{Status}
use Rattle.program.specs.declared.answer.Status.TheVariants as statuses

-- ---- the states

-- the first state
abbrev pub opened : Volume → ℤ → State
opened volume level = record { volume = volume; level = level; past = []; future = [] }

-- the next state, or the same where the step is refused
abbrev pub unless_refused : State → Result State BenchFault → State
unless_refused s (Ok next) = next
unless_refused s (Err fault) = s

-- the state after a line
abbrev pub state_after : State → LineMeaning → State
state_after s (Ok (Some (Set at value))) = unless_refused s (set_step s (three_from at 0) value)
state_after s (Ok (Some (Fill corners value))) = unless_refused s
    (fill_step s (three_from corners 0) (three_from corners 3) value)
state_after s (Ok (Some (Level value))) = unless_refused s (level_step s value)
state_after s (Ok (Some Undo)) = unless_refused s (undo_step s)
state_after s (Ok (Some Redo)) = unless_refused s (redo_step s)
state_after s says = s

-- whether a line fills a box
abbrev pub is_fill : LineMeaning → Bool
is_fill (Ok (Some (Fill corners value))) = true
is_fill says = false

-- whether a reply says that memory was wanting
abbrev pub is_want : List ℕ → Bool
is_want reply = bytes_eq reply (codes "error 1 memory\n")

-- A line has one reply, a blank line and a comment none. A `fill` changes nothing where memory was wanting for it.
abbrev pub LineLeads : State → LineMeaning → List (List ℕ) → State → Type 0
LineLeads s (Ok None) replies next = (replies ≡ []) × (next ≡ s)
LineLeads s says replies next = (reply : List ℕ) × (replies ≡ reply ∷ [])
    × ((next ≡ state_after s says) ⊎ ((is_fill says ≡ true) × (is_want reply ≡ true) × (next ≡ s)))

-- from a state, these lines with these replies lead to the last one
abbrev pub Leads : State → List (List ℕ) → List (List ℕ) → State → Type 0
Leads s [] replies last = (replies ≡ []) × (last ≡ s)
Leads s (line ∷ lines) replies last =
    (first : List (List ℕ)) × (more : List (List ℕ)) × (next : State)
    × (replies ≡ first ++ more) × LineLeads s (read_of line) first next × Leads next lines more last

-- ---- the meshes

-- the command that writes the mesh in a format to the file of a name
abbrev pub writes_mesh : TwoWayFormat → List ℕ → Command
writes_mesh formats.Ply name = Ply name
writes_mesh formats.Obj name = Obj name

-- the file that a line writes
abbrev pub file_of : LineMeaning → Option (List ℕ)
file_of (Ok (Some (Ply name))) = Some name
file_of (Ok (Some (Obj name))) = Some name
file_of (Ok (Some (Save name))) = Some name
file_of (Ok (Some (SaveText name))) = Some name
file_of (Ok (Some (SaveHex name))) = Some name
file_of (Ok (Some (Window corners format name))) = Some name
file_of says = None

-- none of these lines writes the file of this name
abbrev pub Spares : List ℕ → List (List ℕ) → Type 0
Spares name lines = AllByRecursion (λ line. file_of (read_of line) ≡ Some name → ⊥) lines

-- told files have one of this name, which is this text
abbrev pub HoldsText : List ℕ → List ℕ → Option Files → Type 0
HoldsText name text told = IfSome told (λ files. get files name ≡ Some text)

-- the reply that tells how many vertices and triangles a mesh has, and how many bytes its text has
abbrev pub mesh_reply : Volume → ℤ → List ℕ → List ℕ
mesh_reply v level text = line (written_text (record {
  vertices = length (vertices v.grid (field v.samples level));
  faces = length (mesh_triangles v level);
  bytes = length text;
}))

-- The mesh of a volume at a level was written: the reply tells its numbers, at the end the file of the name is its text unless
-- a later line writes that file, and it is watertight.
pub record WroteMesh (v : Volume) (level : ℤ) (format : TwoWayFormat) (name reply : List ℕ) (later : List (List ℕ))
    (files : Option Files) : Type 0 where
  pub told : reply ≡ mesh_reply v level (text_of_volume format level v)
  pub file : Spares name later → HoldsText name (text_of_volume format level v) files
  pub watertight : IsWatertight v level

-- A line among those that were run asked for a mesh. The lines before it, with their replies, led to a state; it wrote the
-- mesh of that state, or was answered that the shelf failed; and the lines after it went on from there.
pub record MeshTurn (first last : State) (files : Option Files) (before later replies : List (List ℕ))
    (format : TwoWayFormat) (name : List ℕ) : Type 0 where
  pub told : List (List ℕ)
  pub reply : List ℕ
  pub rest : List (List ℕ)
  pub parts : replies ≡ told ++ reply ∷ rest
  pub state : State
  pub led : Leads first before told state
  pub wrote : WroteMesh state.volume state.level format name reply later files ⊎ (is_shelf_error reply ≡ true)
  pub leads : Leads state later rest last

-- so it is at each line that asked for a mesh, among lines that were run with these replies
abbrev pub MeshTurns : State → State → Option Files → List (List ℕ) → List (List ℕ) → Type 0
MeshTurns first last files lines replies =
    (before : List (List ℕ)) (asked : List ℕ) (later : List (List ℕ)) (format : TwoWayFormat) (name : List ℕ)
    → lines ≡ before ++ asked ∷ later → read_of asked ≡ Ok (Some (writes_mesh format name)) →
    MeshTurn first last files before later replies format name

-- ---- the session

-- what was written of the replies to the lines of a session, by its status: all of it, or a prefix where the output failed
abbrev pub WritesReplies : Status → Tape → Tape → List (List ℕ) → Type 0
WritesReplies statuses.OutputFault old new replies = AppendsFront old.taken new.taken (replies_text replies)
WritesReplies status old new replies = Appends old.taken new.taken (replies_text replies)

-- which lines of a script were run, where it is told, by the status of a session that was opened
abbrev pub WereRun : Status → Feed → Feed → List (List ℕ) → Type 0
WereRun statuses.Done input after lines = IfSome input.left (λ script. IsDone input after script lines)
WereRun statuses.InputFault input after lines = (has_no_quit lines ≡ true)
    × IfSome input.left (λ script. IsCutOff input after lines) × Rose input.faults after.faults
WereRun statuses.InputTooLong input after lines = (has_no_quit lines ≡ true)
    × IfSome input.left (λ script. IsTooLong input after script lines)
WereRun statuses.OutputFault input after lines = IfSome input.left (λ script. IsBroken input after script lines)
WereRun status input after lines = ⊥

-- A session was run on the volume of the file: which lines, their replies, of which no more say that the shelf failed than its
-- count rose by, and the meshes that they wrote.
pub record SessionMeshes (asked : Asked) (call : Call) (status : Status) (last : Workbench) : Type 0 where
  pub volume : Volume
  pub holds : HoldsFile asked call volume
  pub lines : List (List ℕ)
  pub run : WereRun status call.streams.input call.streams.input_after lines
  pub replies : List (List ℕ)
  pub written : WritesReplies status call.streams.output call.streams.output_after replies
  pub counted : CountsBy call.store.faults call.store_after.faults replies
  pub meshes : MeshTurns (opened volume asked.level) last.state call.store_after.files lines replies
