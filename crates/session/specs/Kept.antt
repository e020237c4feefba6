-- What becomes of the kept mesh at each line, and how many cells are classified.
use Rattle.std.specs.Prelude.{◌≡◌, ℕ, Bool, if◌then◌else◌, List, [], ◌∷◌, ◌++◌, take, bytes_eq, codes, Option, Some, None, Ok, Err}
use Rattle.iso_defs.specs.Texts.{line}
use Rattle.byte_streams.specs.Seen.{Files}
use Rattle.voxel_list.specs.Areas.{Area}
use Rattle.mesh_cache.specs.Cache.{Cache}
use Rattle.bench_core.specs.Keeping.{Refreshes, Workbench, fill_area, first_area, set_area, turn_steps, waiting_bricks, without_points, write_steps}
use Rattle.bench_core.specs.Machine.{State, three_from}
use Rattle.script.specs.Commands.{read_of}
use Rattle.script.specs.declared.command.Command.{Command}
use Rattle.script.specs.declared.command.Command.TheVariants.{Set, Fill, Level, Undo, Redo, Work, Ply, Obj, Save, SaveText, SaveHex, Window, Contour, Report, Measure, Quit}
use Rattle.session.specs.Following.{LineTurn}
use Rattle.session.specs.Lines.{LineMeaning}

-- what lines act on: a bench, the files of a shelf, and the counter of classified cells
pub record Scene : Type 0 where
  pub bench : Workbench
  pub files : Option Files
  pub steps : ℕ

-- the points that a command changes, where it is done
abbrev pub area_of : State → Command → Option Area
area_of s (Set at value) = set_area s (three_from at 0)
area_of s (Fill corners value) = fill_area s (three_from corners 0) (three_from corners 3)
area_of s Undo = first_area s.past
area_of s Redo = first_area s.future
area_of s (Level value) = None
area_of s (Work n) = None
area_of s (Ply name) = None
area_of s (Obj name) = None
area_of s (Save name) = None
area_of s (SaveText name) = None
area_of s (SaveHex name) = None
area_of s (Window corners format name) = None
area_of s (Contour k) = None
area_of s Report = None
area_of s Measure = None
area_of s Quit = None

-- whether a change was done, by its reply
abbrev pub is_done : List ℕ → Bool
is_done reply = bytes_eq reply (line (codes "ok"))

-- the cache after a command that offers no brick
abbrev pub cache_after : Workbench → Command → List ℕ → Cache
cache_after b command reply = if is_done reply
    then without_points b.state.volume.grid (area_of b.state command) b.cache else b.cache

-- a command that offers no brick, and classifies no cell
abbrev pub CacheFollows : Scene → Command → List ℕ → Scene → Type 0
CacheFollows w command reply v = (v.bench.cache ≡ cache_after w.bench command reply) × (v.steps ≡ w.steps)

-- A command and its reply. A refresh turn and the writing of a mesh offer bricks, whatever the reply, and they alone
-- classify cells.
abbrev pub CommandKeeps : Scene → Command → List ℕ → Scene → Type 0
CommandKeeps w (Work n) reply v = Refreshes w.bench v.bench (take n (waiting_bricks w.bench)) turn_steps w.steps v.steps
CommandKeeps w (Ply name) reply v = Refreshes w.bench v.bench (waiting_bricks w.bench) write_steps w.steps v.steps
CommandKeeps w (Obj name) reply v = Refreshes w.bench v.bench (waiting_bricks w.bench) write_steps w.steps v.steps
CommandKeeps w (Set at value) reply v = CacheFollows w (Set at value) reply v
CommandKeeps w (Fill corners value) reply v = CacheFollows w (Fill corners value) reply v
CommandKeeps w (Level value) reply v = CacheFollows w (Level value) reply v
CommandKeeps w Undo reply v = CacheFollows w Undo reply v
CommandKeeps w Redo reply v = CacheFollows w Redo reply v
CommandKeeps w (Save name) reply v = CacheFollows w (Save name) reply v
CommandKeeps w (SaveText name) reply v = CacheFollows w (SaveText name) reply v
CommandKeeps w (SaveHex name) reply v = CacheFollows w (SaveHex name) reply v
CommandKeeps w (Window corners format name) reply v = CacheFollows w (Window corners format name) reply v
CommandKeeps w (Contour k) reply v = CacheFollows w (Contour k) reply v
CommandKeeps w Report reply v = CacheFollows w Report reply v
CommandKeeps w Measure reply v = CacheFollows w Measure reply v
CommandKeeps w Quit reply v = CacheFollows w Quit reply v

-- What a line says and its replies. Cache and counter stay where it is no command.
abbrev pub LineKeeps : Scene → LineMeaning → List (List ℕ) → Scene → Type 0
LineKeeps w (Ok None) replies v = (v.bench.cache ≡ w.bench.cache) × (v.steps ≡ w.steps)
LineKeeps w (Ok (Some command)) replies v = (reply : List ℕ) × (replies ≡ reply ∷ []) × CommandKeeps w command reply v
LineKeeps w (Err fault) replies v = (v.bench.cache ≡ w.bench.cache) × (v.steps ≡ w.steps)

-- one line: the machine's turn, and what it does to the cache and the counter
pub record KeptLine (w : Scene) (says : LineMeaning) (replies : List (List ℕ)) (v : Scene) : Type 0 where
  pub turn : LineTurn w.bench.state w.files says replies v.bench.state v.files
  pub keeps : LineKeeps w says replies v

-- From a scene these lines with these replies lead to that one. So they are followed on the states and files.
abbrev pub Kept : Scene → List (List ℕ) → List (List ℕ) → Scene → Type 0
Kept w [] replies v = (replies ≡ []) × (v ≡ w)
Kept w (line ∷ lines) replies v =
    (first : List (List ℕ)) × (more : List (List ℕ)) × (mid : Scene)
    × (replies ≡ first ++ more) × KeptLine w (read_of line) first mid × Kept mid lines more v
