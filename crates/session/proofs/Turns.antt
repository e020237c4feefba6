-- The turns of single commands.
use Rattle.std.proofs.Common.{◌≡◌, ◌⊎◌, inl, inr, ℕ, ◌≤◌, Bool, true, false, List, [], ◌∷◌, Result, Ok, Err, MatchResult, refl, ap, sym, subst, ◌∙◌, codes, length, take, arith}
use Rattle.std.specs.Prelude.{Option, None, Some, IfOk, is_some, if◌then◌else◌, ℤ}
use Rattle.iso_defs.specs.Grid.{Grid}
use Rattle.iso_defs.specs.Texts.{line}
use Rattle.voxel_list.specs.Areas.{Area}
use Rattle.byte_streams.specs.Seen.{Files}
use Rattle.iso_io.specs.Shelves.{Store}
use Rattle.iso_base.specs.declared.fault.BenchFault.{BenchFault}
use Rattle.iso_base.specs.declared.fault.BenchFault.TheVariants as faults
use Rattle.iso_base.specs.declared.fault.Written.{Written}
use Rattle.iso_base.specs.declared.format.MeshFormat.{MeshFormat}
use Rattle.plane_contour.specs.Texts.{DrawnLine}
use Rattle.measure.specs.declared.share.Share.{Share}
use Rattle.mesh_report.specs.Report.{Summary}
use Rattle.bench_core.specs.Keeping.{Keeps, Refreshes, Workbench, turn_steps, waiting_bricks, write_steps}
use Rattle.bench_core.specs.Machine.{State, IsStep, IsSureStep}
use Rattle.bench_core.specs.Texts.{ply_text, ply_written, obj_text, obj_written, raw_save, text_save, hex_save, contour_of, report_of, measure_of, WritesFile, FailsToWrite}
use Rattle.bench_core.specs.Windows.{FailsAsWindow, WritesWindow, stays_unless, thin_fault, window_area, window_fault, window_text, window_written}
use Rattle.script.specs.Replies.{reply_text, fault_text, written_text, saved_text}
use Rattle.script.specs.declared.command.Command.{Command}
use Rattle.script.specs.declared.command.Command.TheVariants.{Ply, Obj, Save, SaveText, SaveHex, Window, Contour, Report, Measure, Work}
use Rattle.script.specs.declared.reply.Reply.TheVariants.{Done}
use Rattle.session.specs.declared.response.Response.{Response}
use Rattle.session.specs.declared.response.Response.TheVariants.{Line}
use Rattle.session.specs.Responses.{response_text}
use Rattle.session.specs.Table.{Turn, contour_reply, measures_reply, report_reply, reply_to_change, reply_to_mesh, reply_to_save, step_of, says_of, writes_of, may_want_memory, after_writing}
use Rattle.session.specs.Kept.{CommandKeeps, area_of, cache_after, is_done}
use Rattle.session.specs.Worlds.{CountsBy, TakesTurn, scene, shelf_errors}
use Rattle.session.proofs.Running.{written_no_error, saved_no_error, contours_no_error, measures_no_error, report_no_error, fault_no_error, one_error}

-- what is answered, by whether a call did what was asked
abbrev pub reply_by : {T : Type 0} → (T → List ℕ) → Result T BenchFault → List ℕ
reply_by says (Ok x) = says x
reply_by says (Err fault) = line (fault_text fault)

-- a turn of the machine, in which the shelf's count rose by at least the errors that it is told by
pub record Turned (s : State) (old : Store) (command : Command) (reply : List ℕ) (s' : State) (new : Store) : Type 0 where
  pub turn : Turn s old.files command reply s' new.files
  pub later : old.faults ≤ new.faults
  pub errors : CountsBy old.faults new.faults (reply ∷ [])

-- ---- commands that touch no file

accepted : (s s' : State) (f : Option Files) (c : Command) (reply : List ℕ) → step_of s c ≡ Ok s' → reply ≡ says_of s c → writes_of s c ≡ None → Turn s f c reply s' f
accepted s s' f c reply step says none = inl (subst (λ (step : Result State BenchFault). MatchResult step
    (λ next. (s' ≡ next) × (reply ≡ says_of s c) × (f ≡ after_writing (writes_of s c) f))
    (λ x. (s' ≡ s) × (reply ≡ line (fault_text x)) × (f ≡ f))) (sym step) (refl, says, ap (λ (w : Option (List ℕ × List ℕ)). after_writing w f) (sym none)))

refused : (s s' : State) (f : Option Files) (c : Command) (fault : BenchFault) → s' ≡ s → step_of s c ≡ Err fault → Turn s f c (line (fault_text fault)) s' f
refused s s' f c fault same e = inl (subst (λ (step : Result State BenchFault). MatchResult step
    (λ next. (s' ≡ next) × (line (fault_text fault) ≡ says_of s c) × (f ≡ after_writing (writes_of s c) f))
    (λ x. (s' ≡ s) × (line (fault_text fault) ≡ line (fault_text x)) × (f ≡ f))) (sym e) (same, refl, refl))

refused_or_wanted : (s s' : State) (f : Option Files) (c : Command) (fault : BenchFault) → s' ≡ s → (step_of s c ≡ Err fault) ⊎ ((fault ≡ faults.Memory) × ((next : State) × (step_of s c ≡ Ok next))) → may_want_memory c ≡ true
    → Turn s f c (line (fault_text fault)) s' f
refused_or_wanted s s' f c fault same (inl e) may = refused s s' f c fault same e
refused_or_wanted s s' f c fault same (inr h) may = inr (inl (record { may = may; next = h.1.0; step = h.1.1; reply_is = ap (λ (x : BenchFault). line (fault_text x)) h.0; same_state = same; same_files = refl }))

-- a step that was done
did : {T : Type 0} (s s' : State) (store : Store) (c : Command) (says : T → List ℕ) (x : T) → step_of s c ≡ Ok s' → writes_of s c ≡ None → says x ≡ says_of s c
    → shelf_errors (says x ∷ []) ≡ 0 → Turned s store c (says x) s' store
did s s' store c says x step writes told none = record { turn = accepted s s' store.files c (says x) step told writes; later = omega arith; errors = λ _. omega (arith, none) }

-- a refusal, which is not the shelf's
did_not : (s s' : State) (store : Store) (c : Command) (fault : BenchFault) → Turn s store.files c (line (fault_text fault)) s' store.files → (fault ≡ faults.ShelfFailed → ⊥)
    → Turned s store c (line (fault_text fault)) s' store
did_not s s' store c fault turn shelf = record { turn = turn; later = omega arith; errors = λ _. omega (arith, fault_no_error fault shelf) }

-- a step of the machine, or a refusal, or memory is wanted
stepped : {T : Type 0} (s s' : State) (store : Store) (c : Command) (says : T → List ℕ) (made : Result T BenchFault) → IsStep s s' made (step_of s c) → (made ≡ Err faults.ShelfFailed → ⊥)
    → may_want_memory c ≡ true → writes_of s c ≡ None → IfOk made (λ x. says x ≡ says_of s c) → ((x : T) → shelf_errors (says x ∷ []) ≡ 0) → Turned s store c (reply_by says made) s' store
stepped s s' store c says (Ok x) h shelf may writes told none = did s s' store c says x h.done writes told (none x)
stepped s s' store c says (Err fault) h shelf may writes told none =
    did_not s s' store c fault (refused_or_wanted s s' store.files c fault h.refused.0 h.refused.1 may) (λ e. shelf (λ i. Err (e i)))

-- a change: a step of the machine, or a refusal
changed : (s s' : State) (store : Store) (c : Command) (made : Result (Unit {0}) BenchFault) → IsSureStep s s' made (step_of s c) → (made ≡ Err faults.ShelfFailed → ⊥)
    → writes_of s c ≡ None → says_of s c ≡ line (codes "ok") → Turned s store c (reply_by (λ _. line (codes "ok")) made) s' store
changed s s' store c (Ok x) h shelf writes says = did s s' store c (λ _. line (codes "ok")) x h.done writes (sym says) refl
changed s s' store c (Err fault) h shelf writes says = did_not s s' store c fault (refused s s' store.files c fault h.refused.0 h.refused.1) (λ e. shelf (λ i. Err (e i)))

change_reply : (made : Result (Unit {0}) BenchFault) → reply_by (λ _. line (codes "ok")) made ≡ reply_text (reply_to_change made)
change_reply (Ok u) = refl
change_reply (Err fault) = refl

change_told : (told : List ℕ) (made : Result (Unit {0}) BenchFault) → told ≡ line (codes "ok") → IfOk made (λ _. line (codes "ok") ≡ told)
change_told told (Ok u) e = sym e
change_told told (Err fault) e = record {}

told_by : {T : Type 0} (says : T → List ℕ) (made : Result T BenchFault) (value : T) → IfOk made (λ x. x ≡ value) → IfOk made (λ x. says x ≡ says value)
told_by says (Ok x) value e = ap says e
told_by says (Err fault) value e = record {}

-- contour lines, or none of them
contour_turn : (s : State) (store : Store) (k : ℤ) (made : Result (List DrawnLine) BenchFault) → IsStep s s made (step_of s (Contour k)) → IfOk made (λ ls. ls ≡ contour_of s k) → (made ≡ Err faults.ShelfFailed → ⊥)
    → Turned s store (Contour k) (reply_by (contour_reply (is_some s.volume.pad)) made) s store
contour_turn s store k made h ls shelf =
    stepped s s store (Contour k) (contour_reply (is_some s.volume.pad)) made h shelf refl refl (told_by (contour_reply (is_some s.volume.pad)) made (contour_of s k) ls) (contours_no_error (is_some s.volume.pad))

-- a report, or none
report_turn : (s : State) (store : Store) (made : Result Summary BenchFault) → IsStep s s made (step_of s Report) → IfOk made (λ r. r ≡ report_of s) → (made ≡ Err faults.ShelfFailed → ⊥)
    → Turned s store Report (reply_by report_reply made) s store
report_turn s store made h r shelf = stepped s s store Report report_reply made h shelf refl refl (told_by report_reply made (report_of s) r) report_no_error

-- measures, or none
measure_turn : (s : State) (store : Store) (made : Result (List Share) BenchFault) → IsStep s s made (step_of s Measure) → IfOk made (λ m. m ≡ measure_of s) → (made ≡ Err faults.ShelfFailed → ⊥)
    → Turned s store Measure (reply_by measures_reply made) s store
measure_turn s store made h m shelf = stepped s s store Measure measures_reply made h shelf refl refl (told_by measures_reply made (measure_of s) m) measures_no_error

-- ---- commands that write a file

apart : faults.Memory ≡ faults.ShelfFailed → ⊥
apart e = cc

not_written : (s : State) (old new : Store) (c : Command) (name text : List ℕ) (fault : BenchFault) → step_of s c ≡ Ok s → writes_of s c ≡ Some (name, text) → (fault ≡ faults.Memory → may_want_memory c ≡ true)
    → FailsToWrite old new fault name text → old.faults ≤ new.faults → Turned s old c (line (fault_text fault)) s new
not_written s old new c name text fault step writes may (inl h) l = record {
  turn = inr (inl (record { may = may h.0; next = s; step = step; reply_is = ap (λ (x : BenchFault). line (fault_text x)) h.0; same_state = refl; same_files = ap (λ (x : Store). x.files) h.1 }));
  later = l;
  errors = λ _. omega (arith, l, fault_no_error fault (λ e. apart (sym h.0 ∙ e)));
}
not_written s old new c name text fault step writes may (inr h) l = record {
  turn = inr (inr (record { name = name; text = text; writes = writes; step = step; reply_is = ap (λ (x : BenchFault). line (fault_text x)) h.0; same_state = refl; cut = h.1 }));
  later = l;
  errors = λ lt. omega (arith, lt, l, h.2, one_error (line (fault_text fault)));
}

-- a file that was written, and one that could not be written
wrote : {T : Type 0} (s : State) (old new : Store) (c : Command) (name text : List ℕ) (value : T) (says : T → List ℕ) (made : Result T BenchFault)
    → step_of s c ≡ Ok s → writes_of s c ≡ Some (name, text) → says value ≡ says_of s c → (made ≡ Err faults.Memory → may_want_memory c ≡ true) → ((x : T) → shelf_errors (says x ∷ []) ≡ 0)
    → WritesFile old new made name text value → Turned s old c (reply_by says made) s new
wrote s old new c name text value says (Ok x) step writes told may none h = record {
  turn = inl (subst (λ (step : Result State BenchFault). MatchResult step
      (λ next. (s ≡ next) × (says x ≡ says_of s c) × (new.files ≡ after_writing (writes_of s c) old.files))
      (λ fault. (s ≡ s) × (says x ≡ line (fault_text fault)) × (new.files ≡ old.files))) (sym step)
      (refl, ap says h.numbers ∙ told, h.file ∙ ap (λ (w : Option (List ℕ × List ℕ)). after_writing w old.files) (sym writes)));
  later = h.later;
  errors = λ _. omega (arith, h.later, none x);
}
wrote s old new c name text value says (Err fault) step writes told may none h =
    not_written s old new c name text fault step writes (λ e. may (λ i. Err (e i))) h.fault h.later

mesh_reply : (made : Result Written BenchFault) → reply_by (λ (w : Written). line (written_text w)) made ≡ reply_text (reply_to_mesh made)
mesh_reply (Ok w) = refl
mesh_reply (Err fault) = refl

save_reply : (made : Result ℕ BenchFault) → reply_by (λ (n : ℕ). line (saved_text n)) made ≡ reply_text (reply_to_save made)
save_reply (Ok n) = refl
save_reply (Err fault) = refl

-- ---- what becomes of the cache

fault_not_done : (fault : BenchFault) → is_done (line (fault_text fault)) ≡ false
unfolding fault_text
fault_not_done faults.Memory = refl
fault_not_done fault = refl

-- the cache after a change, by its reply
change_keeps : (old new : Workbench) (c : Command) (made : Result (Unit {0}) BenchFault) → Keeps old new made (area_of old.state c) → new.cache ≡ cache_after old c (reply_text (reply_to_change made))
change_keeps old new c (Ok done) kept = kept
change_keeps old new c (Err fault) kept = rw (fault_not_done fault) kept

pub stays_keeps : (old new : Workbench) (made : Result (Unit {0}) BenchFault) → new.cache ≡ old.cache → Keeps old new made None
stays_keeps old new (Ok done) kept = kept
stays_keeps old new (Err fault) kept = kept

either_way : {T : Type 0} (b : Bool) (x : T) → x ≡ (if b then x else x)
either_way true x = refl
either_way false x = refl

pub no_area_keeps : (b : Workbench) (c : Command) (reply : List ℕ) → area_of b.state c ≡ None → b.cache ≡ cache_after b c reply
no_area_keeps b c reply none = rw none (either_way (is_done reply) b.cache)

-- ---- whole turns

pub with_keeps : (old new : Workbench) (n m : ℕ) (shelf after : Store) (c : Command) (reply : List ℕ) → Turned old.state shelf c reply new.state after
    → CommandKeeps (scene old n shelf) c reply (scene new m after) → TakesTurn old n shelf c reply new m after
with_keeps old new n m shelf after c reply t k = record { turn = t.turn; keeps = k; later = t.later; errors = t.errors }

-- the same of a command and a response that are known by equations
pub turn_by : (old new : Workbench) (n m : ℕ) (shelf after : Store) (c d : Command) (reply : List ℕ) → c ≡ d → TakesTurn old n shelf d reply new m after → TakesTurn old n shelf c reply new m after
turn_by old new n m shelf after c d reply e turn = subst (λ (x : Command). TakesTurn old n shelf x reply new m after) (sym e) turn

said_by : (old new : Workbench) (n m : ℕ) (shelf after : Store) (c : Command) (reply text : List ℕ) → reply ≡ text → TakesTurn old n shelf c reply new m after → TakesTurn old n shelf c text new m after
said_by old new n m shelf after c reply text e turn = subst (λ (x : List ℕ). TakesTurn old n shelf c x new m after) e turn

-- a change: `keeps` says what it means for this command that the cache is the one after it
changed_by : (old new : Workbench) (n : ℕ) (store : Store) (c d : Command) (made : Result (Unit {0}) BenchFault) (response : Response) → c ≡ d → response ≡ Line (reply_to_change made)
    → Turned old.state store d (reply_by (λ _. line (codes "ok")) made) new.state store
    → ((reply : List ℕ) → new.cache ≡ cache_after old d reply → CommandKeeps (scene old n store) d reply (scene new n store)) → Keeps old new made (area_of old.state d)
    → TakesTurn old n store c (response_text response) new n store
changed_by old new n store c d made response e a turned keeps kept =
    turn_by old new n n store store c d (response_text response) e
    (said_by old new n n store store d (reply_text (reply_to_change made)) (response_text response) (ap response_text (sym a))
    (with_keeps old new n n store store d (reply_text (reply_to_change made))
    (subst (λ (x : List ℕ). Turned old.state store d x new.state store) (change_reply made) turned)
    (keeps (reply_text (reply_to_change made)) (change_keeps old new d made kept))))

-- one that takes memory
pub fill_by : (old new : Workbench) (n : ℕ) (store : Store) (c d : Command) (made : Result (Unit {0}) BenchFault) (response : Response) → c ≡ d → response ≡ Line (reply_to_change made)
    → IsStep old.state new.state made (step_of old.state d) → (made ≡ Err faults.ShelfFailed → ⊥) → may_want_memory d ≡ true → writes_of old.state d ≡ None → says_of old.state d ≡ line (codes "ok")
    → ((reply : List ℕ) → new.cache ≡ cache_after old d reply → CommandKeeps (scene old n store) d reply (scene new n store)) → Keeps old new made (area_of old.state d)
    → TakesTurn old n store c (response_text response) new n store
fill_by old new n store c d made response e a step shelf may writes says keeps kept =
    changed_by old new n store c d made response e a
    (stepped old.state new.state store d (λ _. line (codes "ok")) made step shelf may writes (change_told (says_of old.state d) made says) (λ _. refl)) keeps kept

-- one that takes none
pub change_by : (old new : Workbench) (n : ℕ) (store : Store) (c d : Command) (made : Result (Unit {0}) BenchFault) (response : Response) → c ≡ d → response ≡ Line (reply_to_change made)
    → IsSureStep old.state new.state made (step_of old.state d) → (made ≡ Err faults.ShelfFailed → ⊥) → writes_of old.state d ≡ None → says_of old.state d ≡ line (codes "ok")
    → ((reply : List ℕ) → new.cache ≡ cache_after old d reply → CommandKeeps (scene old n store) d reply (scene new n store)) → Keeps old new made (area_of old.state d)
    → TakesTurn old n store c (response_text response) new n store
change_by old new n store c d made response e a step shelf writes says keeps kept =
    changed_by old new n store c d made response e a (changed old.state new.state store d made step shelf writes says) keeps kept

-- contour lines, reports and measures
pub contour_by : (b : Workbench) (n : ℕ) (store : Store) (k : ℤ) (made : Result (List DrawnLine) BenchFault) → IsStep b.state b.state made (step_of b.state (Contour k)) → IfOk made (λ ls. ls ≡ contour_of b.state k) → (made ≡ Err faults.ShelfFailed → ⊥)
    → TakesTurn b n store (Contour k) (reply_by (contour_reply (is_some b.state.volume.pad)) made) b n store
contour_by b n store k made h ls shelf = with_keeps b b n n store store (Contour k) _ (contour_turn b.state store k made h ls shelf) (no_area_keeps b (Contour k) (reply_by (contour_reply (is_some b.state.volume.pad)) made) refl, refl)

pub report_by : (b : Workbench) (n : ℕ) (store : Store) (made : Result Summary BenchFault) → IsStep b.state b.state made (step_of b.state Report) → IfOk made (λ r. r ≡ report_of b.state) → (made ≡ Err faults.ShelfFailed → ⊥)
    → TakesTurn b n store Report (reply_by report_reply made) b n store
report_by b n store made h r shelf = with_keeps b b n n store store Report _ (report_turn b.state store made h r shelf) (no_area_keeps b Report (reply_by report_reply made) refl, refl)

pub measure_by : (b : Workbench) (n : ℕ) (store : Store) (made : Result (List Share) BenchFault) → IsStep b.state b.state made (step_of b.state Measure) → IfOk made (λ m. m ≡ measure_of b.state) → (made ≡ Err faults.ShelfFailed → ⊥)
    → TakesTurn b n store Measure (reply_by measures_reply made) b n store
measure_by b n store made h m shelf = with_keeps b b n n store store Measure _ (measure_turn b.state store made h m shelf) (no_area_keeps b Measure (reply_by measures_reply made) refl, refl)

-- a refresh turn
pub work_by : (old new : Workbench) (n m : ℕ) (store : Store) (c : Command) (count : ℕ) → c ≡ Work count → Refreshes old new (take count (waiting_bricks old)) turn_steps n m
    → TakesTurn old n store c (reply_text Done) new m store
work_by old new n m store c count e refreshed = turn_by old new n m store store c (Work count) (reply_text Done) e (record {
  turn = inl (refreshed.state, refl, refl);
  keeps = refreshed;
  later = omega arith;
  errors = λ _. omega arith;
})

-- meshes and volumes that are written
moved : (s s' : State) (old new : Store) (c : Command) (reply : List ℕ) → s' ≡ s → Turned s old c reply s new → Turned s old c reply s' new
moved s s' old new c reply same turned = subst (λ (x : State). Turned s old c reply x new) (sym same) turned

pub ply_by : (old new : Workbench) (n m : ℕ) (shelf after : Store) (name : List ℕ) (made : Result Written BenchFault) (response : Response) → response ≡ Line (reply_to_mesh made)
    → (made ≡ Err faults.Memory → ⊥) → Refreshes old new (waiting_bricks old) write_steps n m → WritesFile shelf after made name (ply_text old.state) (ply_written old.state)
    → TakesTurn old n shelf (Ply name) (response_text response) new m after
ply_by old new n m shelf after name made response a never refreshed file =
    said_by old new n m shelf after (Ply name) _ (response_text response) (mesh_reply made ∙ ap response_text (sym a))
    (with_keeps old new n m shelf after (Ply name) _
    (moved old.state new.state shelf after (Ply name) _ refreshed.state
    (wrote old.state shelf after (Ply name) name (ply_text old.state) (ply_written old.state) (λ (w : Written). line (written_text w)) made refl refl refl (λ e. absurd (never e)) written_no_error file))
    refreshed)

pub obj_by : (old new : Workbench) (n m : ℕ) (shelf after : Store) (name : List ℕ) (made : Result Written BenchFault) (response : Response) → response ≡ Line (reply_to_mesh made)
    → (made ≡ Err faults.Memory → ⊥) → Refreshes old new (waiting_bricks old) write_steps n m → WritesFile shelf after made name (obj_text old.state) (obj_written old.state)
    → TakesTurn old n shelf (Obj name) (response_text response) new m after
obj_by old new n m shelf after name made response a never refreshed file =
    said_by old new n m shelf after (Obj name) _ (response_text response) (mesh_reply made ∙ ap response_text (sym a))
    (with_keeps old new n m shelf after (Obj name) _
    (moved old.state new.state shelf after (Obj name) _ refreshed.state
    (wrote old.state shelf after (Obj name) name (obj_text old.state) (obj_written old.state) (λ (w : Written). line (written_text w)) made refl refl refl (λ e. absurd (never e)) written_no_error file))
    refreshed)

-- a volume is written in one of its texts: `keeps` says what it means for this command that nothing becomes of the cache
saved_by : (b : Workbench) (n : ℕ) (shelf after : Store) (c : Command) (name text : List ℕ) (made : Result ℕ BenchFault) (response : Response) → response ≡ Line (reply_to_save made) → (made ≡ Err faults.Memory → ⊥)
    → WritesFile shelf after made name text (length text) → step_of b.state c ≡ Ok b.state → writes_of b.state c ≡ Some (name, text) → line (saved_text (length text)) ≡ says_of b.state c → area_of b.state c ≡ None
    → ((reply : List ℕ) → b.cache ≡ cache_after b c reply → CommandKeeps (scene b n shelf) c reply (scene b n after)) → TakesTurn b n shelf c (response_text response) b n after
saved_by b n shelf after c name text made response a never file step writes says none keeps =
    said_by b b n n shelf after c _ (response_text response) (save_reply made ∙ ap response_text (sym a))
    (with_keeps b b n n shelf after c _
    (wrote b.state shelf after c name text (length text) (λ (k : ℕ). line (saved_text k)) made step writes says (λ e. absurd (never e)) saved_no_error file)
    (keeps _ (no_area_keeps b c (reply_by (λ (k : ℕ). line (saved_text k)) made) none)))

pub save_by : (b : Workbench) (n : ℕ) (shelf after : Store) (name : List ℕ) (made : Result ℕ BenchFault) (response : Response) → response ≡ Line (reply_to_save made) → (made ≡ Err faults.Memory → ⊥)
    → WritesFile shelf after made name (raw_save b.state) (length (raw_save b.state)) → TakesTurn b n shelf (Save name) (response_text response) b n after
save_by b n shelf after name made response a never file =
    saved_by b n shelf after (Save name) name (raw_save b.state) made response a never file refl refl refl refl (λ reply same. (same, refl))

pub savetext_by : (b : Workbench) (n : ℕ) (shelf after : Store) (name : List ℕ) (made : Result ℕ BenchFault) (response : Response) → response ≡ Line (reply_to_save made) → (made ≡ Err faults.Memory → ⊥)
    → WritesFile shelf after made name (text_save b.state) (length (text_save b.state)) → TakesTurn b n shelf (SaveText name) (response_text response) b n after
savetext_by b n shelf after name made response a never file =
    saved_by b n shelf after (SaveText name) name (text_save b.state) made response a never file refl refl refl refl (λ reply same. (same, refl))

pub savehex_by : (b : Workbench) (n : ℕ) (shelf after : Store) (name : List ℕ) (made : Result ℕ BenchFault) (response : Response) → response ≡ Line (reply_to_save made) → (made ≡ Err faults.Memory → ⊥)
    → WritesFile shelf after made name (hex_save b.state) (length (hex_save b.state)) → TakesTurn b n shelf (SaveHex name) (response_text response) b n after
savehex_by b n shelf after name made response a never file =
    saved_by b n shelf after (SaveHex name) name (hex_save b.state) made response a never file refl refl refl refl (λ reply same. (same, refl))

-- no window is refused by the shelf
thin_apart : (g : Grid) (axis : Option ℕ) (fault : BenchFault) → thin_fault g axis ≡ Some fault → fault ≡ faults.ShelfFailed → ⊥
thin_apart g None fault e shelf = absurd cc
thin_apart g (Some axis) fault e shelf = absurd cc

window_apart : (box : Option Area) (fault : BenchFault) → window_fault box ≡ Some fault → fault ≡ faults.ShelfFailed → ⊥
window_apart None fault e shelf = absurd cc
window_apart (Some a) fault e shelf = thin_apart _ _ fault e shelf

module _ (s : State) (old new : Store) (corners : List ℤ) (format : MeshFormat) (name : List ℕ) where
  -- a window, by the box of its corners
  window_wrote : (made : Result Written BenchFault) → window_fault (window_area s.volume corners) ≡ None
      → WritesFile old new made name (window_text s.volume s.level (window_area s.volume corners) format) (window_written s.volume s.level (window_area s.volume corners) format)
      → Turned s old (Window corners format name) (reply_by (λ (w : Written). line (written_text w)) made) s new
  window_wrote made e file = wrote s old new (Window corners format name) name _ _ (λ (w : Written). line (written_text w)) made (ap (stays_unless s) e) refl refl (λ _. refl) written_no_error file

  window_not : (fault : BenchFault) → FailsAsWindow (window_area s.volume corners) (window_text s.volume s.level (window_area s.volume corners) format) old new fault name → old.faults ≤ new.faults
      → Turned s old (Window corners format name) (line (fault_text fault)) s new
  window_not fault (inl h) later =
      subst (λ (store : Store). Turned s old (Window corners format name) (line (fault_text fault)) s store) (sym h.1)
      (did_not s s old (Window corners format name) fault (refused s s old.files (Window corners format name) fault refl (ap (stays_unless s) h.0)) (window_apart (window_area s.volume corners) fault h.0))
  window_not fault (inr h) later = window_wrote (Err fault) h.0 (record { numbers = record {}; file = record {}; fault = h.1; later = later })

  window_turn : (made : Result Written BenchFault) → WritesWindow s.volume s.level (window_area s.volume corners) format old new made name
      → Turned s old (Window corners format name) (reply_by (λ (w : Written). line (written_text w)) made) s new
  window_turn (Ok w) h = window_wrote (Ok w) h.window (record { numbers = h.numbers; file = h.file; fault = record {}; later = h.later })
  window_turn (Err fault) h = window_not fault h.fault h.later

pub window_by : (b : Workbench) (n : ℕ) (shelf after : Store) (corners : List ℤ) (format : MeshFormat) (name : List ℕ) (made : Result Written BenchFault) (response : Response) → response ≡ Line (reply_to_mesh made)
    → WritesWindow b.state.volume b.state.level (window_area b.state.volume corners) format shelf after made name → TakesTurn b n shelf (Window corners format name) (response_text response) b n after
window_by b n shelf after corners format name made response a h =
    said_by b b n n shelf after (Window corners format name) _ (response_text response) (mesh_reply made ∙ ap response_text (sym a))
    (with_keeps b b n n shelf after (Window corners format name) _ (window_turn b.state shelf after corners format name made h)
    (no_area_keeps b (Window corners format name) (reply_by (λ (w : Written). line (written_text w)) made) refl, refl))
