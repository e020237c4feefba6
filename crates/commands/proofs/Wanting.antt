-- What is known of a line for which memory was wanting.
use Rattle.std.proofs.Common.{◌≡◌, inl, inr, ℕ, Bool, true, false, List, [], ◌∷◌, Result, Ok, Err, MatchResult, refl, sym, ap, ◌∙◌, codes}
use Rattle.std.specs.Prelude.{Option, Some, None, is_some, not, if◌then◌else◌, ℤ}
use Rattle.std.proofs.lemmas.Slice.Eq.{bytes_eq-Decides}
use Rattle.iso_base.specs.declared.fault.BenchFault.{BenchFault}
use Rattle.iso_base.specs.declared.fault.BenchFault.TheVariants as faults
use Rattle.iso_defs.specs.Texts.{line}
use Rattle.iso_defs.specs.Grid.{Grid}
use Rattle.iso_base.specs.declared.point.Point.{Point}
use Rattle.byte_streams.specs.Seen.{Files}
use Rattle.mesh_cache.specs.Cache.{Cache}
use Rattle.voxel_list.specs.Areas.{Area}
use Rattle.bench_core.specs.Keeping.{without_points}
use Rattle.bench_core.specs.Machine.{Entry, State, checked_level, level_by, pad_fault, redo_by, set_at, undo_by, level_unless, value_fault}
use Rattle.bench_core.specs.Texts.{contour_of}
use Rattle.unpadded_volume.specs.Unpadded.{place_of}
use Rattle.script.specs.declared.command.Command.{Command}
use Rattle.script.specs.declared.command.Command.TheVariants.{Set, Fill, Level, Undo, Redo, Contour, Report, Measure, Window}
use Rattle.script.specs.declared.command.LineFault.{LineFault}
use Rattle.script.specs.declared.command.LineFault.TheVariants.{Syntax, LineTooLong}
use Rattle.script.specs.declared.reply.Reply.TheVariants.{Done, Meshed, Saved, Refused, Line}
use Rattle.script.specs.Replies.{fault_text, line_fault_text, saved_text, written_text}
use Rattle.session.specs.Kept.{CommandKeeps, Scene, is_done}
use Rattle.session.specs.Responses.{response_text}
use Rattle.session.specs.Table.{Turn, after_writing, may_want_memory, says_of, step_of, writes_of}
use Rattle.session.specs.declared.response.Response.{Response}
use Rattle.session.specs.declared.response.Response.TheVariants as responses
use Rattle.session.proofs.Running.{contours_apart}
use Rattle.commands.specs.SoakLoop.{is_want_response}
use Rattle.commands.specs.SessionMeshes.{is_want}

-- ---- which texts say that memory was wanting

is_memory : BenchFault → Bool
is_memory faults.Memory = true
is_memory fault = false

want_by_fault : (fault : BenchFault) → is_want (line (fault_text fault)) ≡ is_memory fault
unfolding is_memory fault_text
want_by_fault faults.Memory = refl
want_by_fault fault = refl

pub line_fault_no_want : (fault : LineFault) → is_want (line (line_fault_text fault)) ≡ false
unfolding line_fault_text
line_fault_no_want Syntax = refl
line_fault_no_want (LineTooLong n) = refl

says_no_want : (s : State) (c : Command) → is_want (says_of s c) ≡ false
unfolding written_text saved_text
says_no_want s (Contour k) = contours_apart (is_some s.volume.pad) (contour_of s k) (codes "rror 1 memory\n")
says_no_want s command = refl

refused_want : (fault : BenchFault) → is_want (line (fault_text fault)) ≡ is_want_response (responses.Line (Refused fault))
unfolding fault_text
refused_want faults.Memory = refl
refused_want fault = refl

pub want_by_response : (r : Response) → is_want (response_text r) ≡ is_want_response r
unfolding written_text saved_text
want_by_response (responses.Line Done) = refl
want_by_response (responses.Line (Meshed w)) = refl
want_by_response (responses.Line (Saved n)) = refl
want_by_response (responses.Line (Refused fault)) = refused_want fault
want_by_response (responses.Line (Line fault)) = line_fault_no_want fault
want_by_response (responses.Contours lines padded) = contours_apart padded lines (codes "rror 1 memory\n")
want_by_response response = refl

-- ---- no step is refused for want of memory

is_clean : Result State BenchFault → Bool
is_clean (Ok next) = true
is_clean (Err fault) = not (is_memory fault)

clean_if : (b : Bool) (next : State) (fault : BenchFault) → is_memory fault ≡ false → is_clean (if b then Ok next else Err fault) ≡ true
unfolding is_clean
clean_if true next fault e = refl
clean_if false next fault e = ap not e

clean_set : (s : State) (v : ℤ) (p : Option Point) → is_clean (set_at s v p) ≡ true
unfolding is_clean is_memory
clean_set s v None = refl
clean_set s v (Some p) = clean_if _ _ (value_fault s) refl

clean_checked : (s : State) (v : ℤ) (fault : Option BenchFault) → Type 0
clean_checked s v fault = is_clean (level_by s (level_unless fault v)) ≡ true

clean_pad : (s : State) (v : ℤ) (pad : Option ℤ) → clean_checked s v (pad_fault pad v)
unfolding is_clean is_memory clean_checked
clean_pad s v None = refl
clean_pad s v (Some p) = go _
  where
    go : (b : Bool) → is_clean (level_by s (level_unless (if b then None else Some (faults.LevelNotAbovePad v p)) v)) ≡ true
    go true = refl
    go false = refl

clean_level : (s : State) (v : ℤ) → is_clean (level_by s (checked_level s.volume.pad v)) ≡ true
unfolding is_clean is_memory clean_checked
clean_level s v = go _
  where
    go : (b : Bool) → is_clean (level_by s (if b then level_unless (pad_fault s.volume.pad v) v else Err faults.LevelOutside)) ≡ true
    go true = clean_pad s v s.volume.pad
    go false = refl

clean_undo : (s : State) (past : List Entry) → is_clean (undo_by s past) ≡ true
unfolding is_clean is_memory
clean_undo s [] = refl
clean_undo s (e ∷ past) = refl

clean_redo : (s : State) (future : List Entry) → is_clean (redo_by s future) ≡ true
unfolding is_clean is_memory
clean_redo s [] = refl
clean_redo s (e ∷ future) = refl

clean_step : (s : State) (c : Command) → may_want_memory c ≡ false → is_clean (step_of s c) ≡ true
unfolding is_clean
clean_step s (Set at value) e = clean_set s value (place_of s.volume _)
clean_step s (Level value) e = clean_level s value
clean_step s Undo e = clean_undo s s.past
clean_step s Redo e = clean_redo s s.future
clean_step s (Fill corners value) e = absurd cc
clean_step s (Contour k) e = absurd cc
clean_step s (Window corners format name) e = absurd cc
clean_step s command e = refl

not_clean : (fault : BenchFault) → is_memory fault ≡ true → is_clean (Err fault) ≡ true → ⊥
unfolding is_clean
not_clean fault e h = let t : not true ≡ true = sym (ap not e) ∙ h in absurd cc

-- ---- so such a line changed nothing

-- memory may be wanting for the command, and the state and the files are as they were
pub record IsStill (s s' : State) (files files' : Option Files) (c : Command) : Type 0 where
  pub may : may_want_memory c ≡ true
  pub state : s' ≡ s
  pub files_are : files' ≡ files

never : {A : Type 0} → true ≡ false → A
never e = absurd cc

may_by : (s : State) (c : Command) (b : Bool) (fault : BenchFault) → may_want_memory c ≡ b → step_of s c ≡ Err fault → is_memory fault ≡ true → may_want_memory c ≡ true
may_by s c true fault e step m = e
may_by s c false fault e step m = absurd (not_clean fault m (ap is_clean (sym step) ∙ clean_step s c e))

by_step : (s s' : State) (files files' : Option Files) (c : Command) (reply : List ℕ) (step : Result State BenchFault) → step_of s c ≡ step
    → MatchResult step (λ next. (s' ≡ next) × (reply ≡ says_of s c) × (files' ≡ after_writing (writes_of s c) files)) (λ fault. (s' ≡ s) × (reply ≡ line (fault_text fault)) × (files' ≡ files))
    → is_want reply ≡ true → IsStill s s' files files' c
by_step s s' files files' c reply (Ok next) e h w = never (sym w ∙ ap is_want h.1 ∙ says_no_want s c)
by_step s s' files files' c reply (Err fault) e h w =
    record { may = may_by s c (may_want_memory c) fault refl e (sym (want_by_fault fault) ∙ ap is_want (sym h.1) ∙ w); state = h.0; files_are = h.2 }

shelf_no_want : is_want (line (fault_text faults.ShelfFailed)) ≡ false
unfolding fault_text
shelf_no_want = refl

pub still_by : (s s' : State) (files files' : Option Files) (c : Command) (reply : List ℕ) → Turn s files c reply s' files' → is_want reply ≡ true → IsStill s s' files files' c
still_by s s' files files' c reply (inl h) w = by_step s s' files files' c reply (step_of s c) refl h w
still_by s s' files files' c reply (inr (inl h)) w = record { may = h.may; state = h.same_state; files_are = h.same_files }
still_by s s' files files' c reply (inr (inr h)) w = never (sym w ∙ ap is_want h.reply_is ∙ shelf_no_want)

want_text : (reply : List ℕ) → is_want reply ≡ true → reply ≡ codes "error 1 memory\n"
want_text reply e = (bytes_eq-Decides reply (codes "error 1 memory\n")).0 e

want_not_done : (reply : List ℕ) → is_want reply ≡ true → is_done reply ≡ false
want_not_done reply e = ap is_done (want_text reply e)

kept_cache : (g : Grid) (area : Option Area) (cache after : Cache) (b : Bool) → b ≡ false → after ≡ (if b then without_points g area cache else cache) → after ≡ cache
kept_cache g area cache after true e h = never e
kept_cache g area cache after false e h = h

-- the cache and the counter are as they were
pub kept_still : (w v : Scene) (c : Command) (reply : List ℕ) → CommandKeeps w c reply v → may_want_memory c ≡ true → is_want reply ≡ true → (v.bench.cache ≡ w.bench.cache) × (v.steps ≡ w.steps)
kept_still w v (Fill corners value) reply h may e = (kept_cache w.bench.state.volume.grid _ w.bench.cache v.bench.cache (is_done reply) (want_not_done reply e) h.0, h.1)
kept_still w v (Contour k) reply h may e = (kept_cache w.bench.state.volume.grid None w.bench.cache v.bench.cache (is_done reply) (want_not_done reply e) h.0, h.1)
kept_still w v Report reply h may e = (kept_cache w.bench.state.volume.grid None w.bench.cache v.bench.cache (is_done reply) (want_not_done reply e) h.0, h.1)
kept_still w v Measure reply h may e = (kept_cache w.bench.state.volume.grid None w.bench.cache v.bench.cache (is_done reply) (want_not_done reply e) h.0, h.1)
kept_still w v (Window corners format name) reply h may e = (kept_cache w.bench.state.volume.grid None w.bench.cache v.bench.cache (is_done reply) (want_not_done reply e) h.0, h.1)
kept_still w v command reply h may e = absurd cc

pub same_scene : (w v : Scene) → v.bench.state ≡ w.bench.state → v.bench.cache ≡ w.bench.cache → v.files ≡ w.files → v.steps ≡ w.steps → v ≡ w
same_scene w v s c f n = λ i. record { bench = record { state = s i; cache = c i }; files = f i; steps = n i }
