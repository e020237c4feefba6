-- The commands of a script on the machine's state.
use Rattle.std.specs.Prelude.{◌≡◌, ◌⊎◌, ℕ, Bool, true, false, List, ◌++◌, length, codes, is_some, Option, Some, None, Result, Ok, Err, MatchResult}
use Rattle.iso_base.specs.declared.fault.BenchFault.{BenchFault}
use Rattle.iso_base.specs.declared.fault.BenchFault.TheVariants as faults
use Rattle.byte_streams.specs.Seen.{Files}
use Rattle.iso_io.specs.Shelves.{with_file, FilesCut}
use Rattle.bench_core.specs.Machine.{State, set_step, fill_step, level_step, undo_step, redo_step, contour_step, three_from}
use Rattle.bench_core.specs.Texts.{ply_text, ply_written, obj_text, obj_written, raw_save, text_save, hex_save, contour_of, report_of, measure_of}
use Rattle.bench_core.specs.Windows.{window_area, window_step, window_text, window_written}
use Rattle.plane_contour.specs.Texts.{DrawnLine, contours_text}
use Rattle.mesh_report.specs.Report.{Summary}
use Rattle.measure.specs.declared.share.Share.{Share}
use Rattle.script.specs.declared.command.Command.{Command}
use Rattle.script.specs.declared.command.Command.TheVariants.{Set, Fill, Level, Undo, Redo, Work, Ply, Obj, Save, SaveText, SaveHex, Window, Contour, Report, Measure, Quit}
use Rattle.iso_base.specs.declared.fault.Written.{Written}
use Rattle.script.specs.declared.reply.Reply.{Reply}
use Rattle.script.specs.declared.reply.Reply.TheVariants.{Done, Meshed, Saved, Refused}
use Rattle.iso_defs.specs.Texts.{line}
use Rattle.script.specs.Replies.{fault_text, written_text, saved_text, report_text, measures_text}

-- the new state, or the first refusal
abbrev pub step_of : State → Command → Result State BenchFault
step_of s (Set at value) = set_step s (three_from at 0) value
step_of s (Fill corners value) = fill_step s (three_from corners 0) (three_from corners 3) value
step_of s (Level value) = level_step s value
step_of s Undo = undo_step s
step_of s Redo = redo_step s
step_of s (Contour k) = contour_step s k
step_of s (Window corners format name) = window_step s corners
step_of s (Work n) = Ok s
step_of s (Ply name) = Ok s
step_of s (Obj name) = Ok s
step_of s (Save name) = Ok s
step_of s (SaveText name) = Ok s
step_of s (SaveHex name) = Ok s
step_of s Report = Ok s
step_of s Measure = Ok s
step_of s Quit = Ok s

-- the file that a command writes, and its text
abbrev pub writes_of : State → Command → Option (List ℕ × List ℕ)
writes_of s (Ply name) = Some (name, ply_text s)
writes_of s (Obj name) = Some (name, obj_text s)
writes_of s (Save name) = Some (name, raw_save s)
writes_of s (SaveText name) = Some (name, text_save s)
writes_of s (SaveHex name) = Some (name, hex_save s)
writes_of s (Window corners format name) = Some (
  name,
  window_text s.volume s.level (window_area s.volume corners) format,
)
writes_of s (Set at value) = None
writes_of s (Fill corners value) = None
writes_of s (Level value) = None
writes_of s Undo = None
writes_of s Redo = None
writes_of s (Work n) = None
writes_of s (Contour k) = None
writes_of s Report = None
writes_of s Measure = None
writes_of s Quit = None

-- contour lines, and then `ok`
abbrev pub contour_reply : Bool → List DrawnLine → List ℕ
contour_reply padded lines = contours_text padded lines ++ line (codes "ok")

-- the lines of a report, and then `ok`
abbrev pub report_reply : Summary → List ℕ
report_reply report = report_text report.total report.parts ++ line (codes "ok")

-- the lines of measures, and then `ok`
abbrev pub measures_reply : List Share → List ℕ
measures_reply shares = measures_text shares ++ line (codes "ok")

-- the reply to a command that is not refused
abbrev pub says_of : State → Command → List ℕ
says_of s (Ply name) = line (written_text (ply_written s))
says_of s (Obj name) = line (written_text (obj_written s))
says_of s (Save name) = line (saved_text (length (raw_save s)))
says_of s (SaveText name) = line (saved_text (length (text_save s)))
says_of s (SaveHex name) = line (saved_text (length (hex_save s)))
says_of s (Window corners format name) = line
    (written_text (window_written s.volume s.level (window_area s.volume corners) format))
says_of s (Contour k) = contour_reply (is_some s.volume.pad) (contour_of s k)
says_of s Report = report_reply (report_of s)
says_of s Measure = measures_reply (measure_of s)
says_of s (Set at value) = line (codes "ok")
says_of s (Fill corners value) = line (codes "ok")
says_of s (Level value) = line (codes "ok")
says_of s Undo = line (codes "ok")
says_of s Redo = line (codes "ok")
says_of s (Work n) = line (codes "ok")
says_of s Quit = line (codes "ok")

-- the asking lines: those that may be answered that memory is wanting
abbrev pub may_want_memory : Command → Bool
may_want_memory (Fill corners value) = true
may_want_memory (Contour k) = true
may_want_memory Report = true
may_want_memory Measure = true
may_want_memory (Window corners format name) = true
may_want_memory (Set at value) = false
may_want_memory (Level value) = false
may_want_memory Undo = false
may_want_memory Redo = false
may_want_memory (Work n) = false
may_want_memory (Ply name) = false
may_want_memory (Obj name) = false
may_want_memory (Save name) = false
may_want_memory (SaveText name) = false
may_want_memory (SaveHex name) = false
may_want_memory Quit = false

-- the files after a command
abbrev pub after_writing : Option (List ℕ × List ℕ) → Option Files → Option Files
after_writing None files = files
after_writing (Some file) files = with_file file.0 file.1 files

-- the machine's step
abbrev pub TakesStep : State → Option Files → Command → List ℕ → State → Option Files → Type 0
TakesStep s files command reply s' files' = MatchResult (step_of s command)
    (λ next. (s' ≡ next) × (reply ≡ says_of s command) × (files' ≡ after_writing (writes_of s command) files))
    (λ fault. (s' ≡ s) × (reply ≡ line (fault_text fault)) × (files' ≡ files))

-- the step is not refused, but memory is wanted
pub record WantsMemory (s : State) (files : Option Files) (command : Command) (reply : List ℕ) (s' : State)
    (files' : Option Files) : Type 0 where
  pub may : may_want_memory command ≡ true
  pub next : State
  pub step : step_of s command ≡ Ok next
  pub reply_is : reply ≡ line (fault_text faults.Memory)
  pub same_state : s' ≡ s
  pub same_files : files' ≡ files

-- the step is not refused, but the shelf fails while a file is written, which is then as before or a front of its text
pub record FailsToStore (s : State) (files : Option Files) (command : Command) (reply : List ℕ) (s' : State)
    (files' : Option Files) : Type 0 where
  pub name : List ℕ
  pub text : List ℕ
  pub writes : writes_of s command ≡ Some (name, text)
  pub step : step_of s command ≡ Ok s
  pub reply_is : reply ≡ line (fault_text faults.ShelfFailed)
  pub same_state : s' ≡ s
  pub cut : FilesCut name text files files'

-- one command and its reply
abbrev pub Turn : State → Option Files → Command → List ℕ → State → Option Files → Type 0
Turn s files command reply s' files' =
    TakesStep s files command reply s' files' ⊎ WantsMemory s files command reply s' files'
    ⊎ FailsToStore s files command reply s' files'

-- what is answered to a change, to a written mesh, and to a saved volume
abbrev pub reply_to_change : Result (Unit {0}) BenchFault → Reply
reply_to_change (Ok done) = Done
reply_to_change (Err fault) = Refused fault

abbrev pub reply_to_mesh : Result Written BenchFault → Reply
reply_to_mesh (Ok written) = Meshed written
reply_to_mesh (Err fault) = Refused fault

abbrev pub reply_to_save : Result ℕ BenchFault → Reply
reply_to_save (Ok bytes) = Saved bytes
reply_to_save (Err fault) = Refused fault
