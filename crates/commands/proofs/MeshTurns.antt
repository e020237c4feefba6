-- What each line that asked for a mesh did, among lines that were run.
use Rattle.std.proofs.Common.{◌≡◌, ◌⊎◌, ℕ, Bool, List, [], ◌∷◌, ◌++◌, true, false, cond, MatchResult, Ok, Err, Some, None, refl, sym, ap, ◌∙◌, subst, inl, inr, append_assoc, ℤ}
use Rattle.std.specs.Prelude.{Option, Result}
use Rattle.std.specs.Option.{option_map}
use Rattle.std.specs.Cmp.Lexicographic.{nat_list_cmp_total, slice_cmp}
use Rattle.std.specs.FinMap.{get, get-insert}
use Rattle.std.specs.Ordering.{eq_by_cmp, nat_cmp}
use Rattle.text_lines.proofs.Places.{decide}
use Rattle.byte_streams.specs.Seen.{Files}
use Rattle.iso_io.proofs.Shelving.{get_own, same_name}
use Rattle.iso_io.specs.Shelves.{FilesCut, with_file}
use Rattle.bench_core.specs.Machine.{IsState, State, contour_by}
use Rattle.bench_core.specs.Surface.{IsWatertight}
use Rattle.bench_core.specs.Texts.{obj_text, obj_written, ply_text, ply_written}
use Rattle.bench_core.specs.Windows.{stays_unless, window_area, window_fault}
use Rattle.unpadded_volume.specs.Unpadded.{plane_of}
use Rattle.session.proofs.Running.{kept_followed}
use Rattle.session.proofs.Surfaces.{followed_mesh}
use Rattle.mesh_text.specs.declared.format.TwoWayFormat.{TwoWayFormat}
use Rattle.mesh_text.specs.declared.format.TwoWayFormat.TheVariants as formats
use Rattle.script.specs.Commands.{read_of}
use Rattle.script.specs.Replies.{fault_text, line_fault_text}
use Rattle.script.specs.declared.command.Command.{Command}
use Rattle.script.specs.declared.command.Command.TheVariants.{Contour, Fill, Level, Obj, Ply, Redo, Save, SaveHex, SaveText, Set, Undo, Window}
use Rattle.session.specs.Following.{Followed, LineTurn}
use Rattle.session.specs.Kept.{Kept}
use Rattle.session.specs.Worlds.{World, is_shelf_error, scene_of}
use Rattle.session.specs.Lines.{LineMeaning}
use Rattle.session.specs.Table.{TakesStep, Turn, after_writing, says_of, step_of, writes_of}
use Rattle.iso_base.specs.declared.fault.BenchFault.{BenchFault}
use Rattle.iso_base.specs.declared.fault.BenchFault.TheVariants as faults
use Rattle.iso_defs.specs.Texts.{line}
use Rattle.commands.specs.Headline.{text_of_volume}
use Rattle.commands.specs.SessionMeshes.{HoldsText, Leads, LineLeads, MeshTurn, MeshTurns, Spares, WroteMesh, file_of, is_fill, is_want, mesh_reply, state_after, unless_refused, writes_mesh}

-- a line of those that were run: what led to it, its turn, and what it led to
pub record Between (s s' : State) (f f' : Option Files) (before : List (List ℕ)) (asked : List ℕ) (later replies : List (List ℕ)) : Type 0 where
  pub told : List (List ℕ)
  pub answered : List (List ℕ)
  pub rest : List (List ℕ)
  pub parts : replies ≡ told ++ (answered ++ rest)
  pub state : State
  pub files : Option Files
  pub led : Followed s f before told state files
  pub next : State
  pub after : Option Files
  pub turn : LineTurn state files (read_of asked) answered next after
  pub leads : Followed next after later rest s' f'

split : (before : List (List ℕ)) (asked : List ℕ) (later : List (List ℕ)) (s s' : State) (f f' : Option Files) (replies : List (List ℕ))
    → Followed s f (before ++ asked ∷ later) replies s' f' → Between s s' f f' before asked later replies
split [] asked later s s' f f' replies h = record {
  told = [];
  answered = h.0;
  rest = h.1;
  parts = h.4;
  state = s;
  files = f;
  led = (refl, refl, refl);
  next = h.2;
  after = h.3;
  turn = h.5;
  leads = h.6;
}
split (l ∷ before) asked later s s' f f' replies h =
    let b = split before asked later h.2 s' h.3 f' h.1 h.6 in
    record {
      told = h.0 ++ b.told;
      answered = b.answered;
      rest = b.rest;
      parts = h.4 ∙ ap (λ (x : List (List ℕ)). h.0 ++ x) b.parts ∙ sym (append_assoc h.0 b.told (b.answered ++ b.rest));
      state = b.state;
      files = b.files;
      led = (h.0, b.told, h.2, h.3, refl, h.5, b.led);
      next = b.next;
      after = b.after;
      turn = b.turn;
      leads = b.leads;
    }

no_want : false ≡ true → ⊥
no_want e = absurd cc

no_file : (file : List ℕ × List ℕ) → None ≡ Some file → ⊥
no_file file e = absurd cc

-- ---- a line leads from a state to the next

next_of : (s s' : State) (f f' : Option Files) (c : Command) (reply : List ℕ) (step : Result State BenchFault)
    → MatchResult step (λ next. (s' ≡ next) × (reply ≡ says_of s c) × (f' ≡ after_writing (writes_of s c) f)) (λ fault. (s' ≡ s) × (reply ≡ line (fault_text fault)) × (f' ≡ f)) → s' ≡ unless_refused s step
next_of s s' f f' c reply (Ok next) h = h.0
next_of s s' f f' c reply (Err fault) h = h.0

contour_stays : (s : State) (k : ℤ) (plane : Option ℕ) → unless_refused s (contour_by s k plane) ≡ s
contour_stays s k None = refl
contour_stays s k (Some plane) = refl

window_stays : (s : State) (fault : Option BenchFault) → unless_refused s (stays_unless s fault) ≡ s
window_stays s None = refl
window_stays s (Some fault) = refl

-- the machine's step leads to the next state
step_leads : (s s' : State) (f f' : Option Files) (c : Command) (reply : List ℕ) → TakesStep s f c reply s' f' → s' ≡ state_after s (Ok (Some c))
step_leads s s' f f' (Set at value) reply h = next_of s s' f f' (Set at value) reply (step_of s (Set at value)) h
step_leads s s' f f' (Fill corners value) reply h = next_of s s' f f' (Fill corners value) reply (step_of s (Fill corners value)) h
step_leads s s' f f' (Level value) reply h = next_of s s' f f' (Level value) reply (step_of s (Level value)) h
step_leads s s' f f' Undo reply h = next_of s s' f f' Undo reply (step_of s Undo) h
step_leads s s' f f' Redo reply h = next_of s s' f f' Redo reply (step_of s Redo) h
step_leads s s' f f' (Contour k) reply h = next_of s s' f f' (Contour k) reply (step_of s (Contour k)) h ∙ contour_stays s k (plane_of s.volume k)
step_leads s s' f f' (Window corners format name) reply h =
    next_of s s' f f' (Window corners format name) reply (step_of s (Window corners format name)) h ∙ window_stays s (window_fault (window_area s.volume corners))
step_leads s s' f f' c reply h = h.0

want_told : is_want (line (fault_text faults.Memory)) ≡ true
unfolding fault_text
want_told = refl

abbrev CommandLeads : State → Command → List ℕ → State → Type 0
CommandLeads s c reply s' = (s' ≡ state_after s (Ok (Some c))) ⊎ ((is_fill (Ok (Some c)) ≡ true) × (is_want reply ≡ true) × (s' ≡ s))

turn_leads : (s s' : State) (f f' : Option Files) (c : Command) (reply : List ℕ) → Turn s f c reply s' f' → CommandLeads s c reply s'
turn_leads s s' f f' c reply (inl h) = inl (step_leads s s' f f' c reply h)
turn_leads s s' f f' (Fill corners value) reply (inr (inl h)) = inr (refl, ap is_want h.reply_is ∙ want_told, h.same_state)
turn_leads s s' f f' (Set at value) reply (inr (inl h)) = absurd (no_want h.may)
turn_leads s s' f f' (Level value) reply (inr (inl h)) = absurd (no_want h.may)
turn_leads s s' f f' Undo reply (inr (inl h)) = absurd (no_want h.may)
turn_leads s s' f f' Redo reply (inr (inl h)) = absurd (no_want h.may)
turn_leads s s' f f' c reply (inr (inl h)) = inl h.same_state
turn_leads s s' f f' (Set at value) reply (inr (inr h)) = absurd (no_file (h.name, h.text) h.writes)
turn_leads s s' f f' (Fill corners value) reply (inr (inr h)) = absurd (no_file (h.name, h.text) h.writes)
turn_leads s s' f f' (Level value) reply (inr (inr h)) = absurd (no_file (h.name, h.text) h.writes)
turn_leads s s' f f' Undo reply (inr (inr h)) = absurd (no_file (h.name, h.text) h.writes)
turn_leads s s' f f' Redo reply (inr (inr h)) = absurd (no_file (h.name, h.text) h.writes)
turn_leads s s' f f' c reply (inr (inr h)) = inl h.same_state

line_leads : (s s' : State) (f f' : Option Files) (says : LineMeaning) (replies : List (List ℕ)) → LineTurn s f says replies s' f' → LineLeads s says replies s'
line_leads s s' f f' (Ok None) replies h = (h.0, h.1)
line_leads s s' f f' (Ok (Some c)) replies h = (h.0, h.1, turn_leads s s' f f' c h.0 h.2)
line_leads s s' f f' (Err fault) replies h = (line (line_fault_text fault), h.0, inl h.1)

lines_lead : (lines replies : List (List ℕ)) (s s' : State) (f f' : Option Files) → Followed s f lines replies s' f' → Leads s lines replies s'
lines_lead [] replies s s' f f' h = (h.0, h.1)
lines_lead (l ∷ lines) replies s s' f f' h =
    (h.0, h.1, h.2, h.4, line_leads s h.2 f h.3 (read_of l) h.0 h.5, lines_lead lines h.1 h.2 s' h.3 f' h.6)

-- ---- a file stays as it is where no line writes it

other_name : (p q : List ℕ) → (q ≡ p → ⊥) → eq_by_cmp (slice_cmp nat_cmp) p q ≡ false
other_name p q differ = decide (eq_by_cmp (slice_cmp nat_cmp) p q) (λ t. absurd (differ (sym (same_name p q t)))) (λ f. f)

own : (name text : List ℕ) (files : Option Files) → HoldsText name text (with_file name text files)
own name text None = tt
own name text (Some f) = get_own f name text

beside : (name text other bytes : List ℕ) (files : Option Files) → (other ≡ name → ⊥) → HoldsText name text files → HoldsText name text (with_file other bytes files)
beside name text other bytes None differ h = tt
beside name text other bytes (Some f) differ h =
    get-insert nat_list_cmp_total f other bytes name ∙ ap (λ (b : Bool). cond b (Some bytes) (get f name)) (other_name name other differ) ∙ h

abbrev name_in : Option (List ℕ × List ℕ) → Option (List ℕ)
name_in file = option_map (λ (file : List ℕ × List ℕ). file.0) file

written_name : (s : State) (c : Command) → name_in (writes_of s c) ≡ file_of (Ok (Some c))
written_name s (Ply name) = refl
written_name s (Obj name) = refl
written_name s (Save name) = refl
written_name s (SaveText name) = refl
written_name s (SaveHex name) = refl
written_name s (Window corners format name) = refl
written_name s c = refl

written_beside : (name text : List ℕ) (file : Option (List ℕ × List ℕ)) (files : Option Files) → (name_in file ≡ Some name → ⊥) → HoldsText name text files → HoldsText name text (after_writing file files)
written_beside name text None files differ h = h
written_beside name text (Some file) files differ h = beside name text file.0 file.1 files (λ e. differ (ap Some e)) h

step_beside : (name text : List ℕ) (file : Option (List ℕ × List ℕ)) (f f' : Option Files) (step : Result State BenchFault) (A : State → Type 0) (B : BenchFault → Type 0) (C : State → Type 0) (D : BenchFault → Type 0)
    → (name_in file ≡ Some name → ⊥) → HoldsText name text f → MatchResult step (λ next. A next × C next × (f' ≡ after_writing file f)) (λ fault. B fault × D fault × (f' ≡ f)) → HoldsText name text f'
step_beside name text file f f' (Ok next) A B C D differ h t = subst (HoldsText name text) (sym t.2) (written_beside name text file f differ h)
step_beside name text file f f' (Err fault) A B C D differ h t = subst (HoldsText name text) (sym t.2) h

cut_beside : (name text other bytes : List ℕ) (f f' : Option Files) → (other ≡ name → ⊥) → HoldsText name text f → FilesCut other bytes f f' → HoldsText name text f'
cut_beside name text other bytes f f' differ h (inl e) = subst (HoldsText name text) (sym e) h
cut_beside name text other bytes f f' differ h (inr c) = subst (HoldsText name text) (sym c.3) (beside name text other c.0 f differ h)

turn_beside : (name text : List ℕ) (s s' : State) (f f' : Option Files) (c : Command) (reply : List ℕ) → (file_of (Ok (Some c)) ≡ Some name → ⊥) → HoldsText name text f → Turn s f c reply s' f' → HoldsText name text f'
turn_beside name text s s' f f' c reply differ h (inl t) =
    step_beside name text (writes_of s c) f f' (step_of s c) (λ next. s' ≡ next) (λ fault. s' ≡ s) (λ next. reply ≡ says_of s c) (λ fault. reply ≡ line (fault_text fault))
    (λ e. differ (sym (written_name s c) ∙ e)) h t
turn_beside name text s s' f f' c reply differ h (inr (inl t)) = subst (HoldsText name text) (sym t.same_files) h
turn_beside name text s s' f f' c reply differ h (inr (inr t)) =
    cut_beside name text t.name t.text f f' (λ e. differ (sym (written_name s c) ∙ ap name_in t.writes ∙ ap Some e)) h t.cut

line_beside : (name text : List ℕ) (s s' : State) (f f' : Option Files) (says : LineMeaning) (replies : List (List ℕ)) → (file_of says ≡ Some name → ⊥) → HoldsText name text f → LineTurn s f says replies s' f' → HoldsText name text f'
line_beside name text s s' f f' (Ok None) replies differ h t = subst (HoldsText name text) (sym t.2) h
line_beside name text s s' f f' (Ok (Some c)) replies differ h t = turn_beside name text s s' f f' c t.0 differ h t.2
line_beside name text s s' f f' (Err fault) replies differ h t = subst (HoldsText name text) (sym t.2) h

lines_beside : (name text : List ℕ) (lines replies : List (List ℕ)) (s s' : State) (f f' : Option Files) → Spares name lines → HoldsText name text f → Followed s f lines replies s' f' → HoldsText name text f'
lines_beside name text [] replies s s' f f' spares h t = subst (HoldsText name text) (sym t.2) h
lines_beside name text (l ∷ lines) replies s s' f f' spares h t =
    lines_beside name text lines t.1 t.2 s' t.3 f' spares.1 (line_beside name text s t.2 f t.3 (read_of l) t.0 spares.0 h t.5) t.6

-- ---- the turn of a line that asks for a mesh

shelf_told : is_shelf_error (line (fault_text faults.ShelfFailed)) ≡ true
unfolding fault_text
shelf_told = refl

-- its reply and its file, which is told at once
pub record Written (s : State) (format : TwoWayFormat) (name reply : List ℕ) (after : Option Files) : Type 0 where
  pub told : reply ≡ mesh_reply s.volume s.level (text_of_volume format s.level s.volume)
  pub file : HoldsText name (text_of_volume format s.level s.volume) after

written : (s : State) (f f' : Option Files) (format : TwoWayFormat) (name reply : List ℕ) → reply ≡ says_of s (writes_mesh format name) → f' ≡ after_writing (writes_of s (writes_mesh format name)) f
    → Written s format name reply f'
unfolding ply_text obj_text ply_written obj_written
written s f f' formats.Ply name reply told file = record {
  told = told;
  file = subst (HoldsText name (text_of_volume formats.Ply s.level s.volume)) (sym file) (own name (text_of_volume formats.Ply s.level s.volume) f);
}
written s f f' formats.Obj name reply told file = record {
  told = told;
  file = subst (HoldsText name (text_of_volume formats.Obj s.level s.volume)) (sym file) (own name (text_of_volume formats.Obj s.level s.volume) f);
}

mesh_turn : (s s' : State) (f f' : Option Files) (format : TwoWayFormat) (name reply : List ℕ) → Turn s f (writes_mesh format name) reply s' f'
    → (s' ≡ s) × (Written s format name reply f' ⊎ (is_shelf_error reply ≡ true))
mesh_turn s s' f f' formats.Ply name reply (inl h) = (h.0, inl (written s f f' formats.Ply name reply h.1 h.2))
mesh_turn s s' f f' formats.Obj name reply (inl h) = (h.0, inl (written s f f' formats.Obj name reply h.1 h.2))
mesh_turn s s' f f' formats.Ply name reply (inr (inl h)) = absurd (no_want h.may)
mesh_turn s s' f f' formats.Obj name reply (inr (inl h)) = absurd (no_want h.may)
mesh_turn s s' f f' format name reply (inr (inr h)) = (h.same_state, inr (ap is_shelf_error h.reply_is ∙ shelf_told))

-- and what it wrote is there at the end
wrote : (s s' : State) (after f' : Option Files) (format : TwoWayFormat) (name reply : List ℕ) (later rest : List (List ℕ)) → IsWatertight s.volume s.level → Followed s after later rest s' f'
    → (Written s format name reply after ⊎ (is_shelf_error reply ≡ true)) → WroteMesh s.volume s.level format name reply later f' ⊎ (is_shelf_error reply ≡ true)
wrote s s' after f' format name reply later rest mesh leads (inl w) = inl (record {
  told = w.told;
  file = λ spares. lines_beside name (text_of_volume format s.level s.volume) later rest s s' after f' spares w.file leads;
  watertight = mesh;
})
wrote s s' after f' format name reply later rest mesh leads (inr e) = inr e

one_mesh : (s s' : State) (f f' : Option Files) (before : List (List ℕ)) (asked : List ℕ) (later replies : List (List ℕ)) (format : TwoWayFormat) (name : List ℕ)
    → IsState s → read_of asked ≡ Ok (Some (writes_mesh format name)) → Between s s' f f' before asked later replies → MeshTurn s s' f' before later replies format name
one_mesh s s' f f' before asked later replies format name sound e b =
    let t = subst (λ (says : LineMeaning). LineTurn b.state b.files says b.answered b.next b.after) e b.turn in
    let mesh = followed_mesh before b.told s b.state f b.files sound b.led in
    let m = mesh_turn b.state b.next b.files b.after format name t.0 t.2 in
    let leads = subst (λ (x : State). Followed x b.after later b.rest s' f') m.0 b.leads in
    record {
      told = b.told;
      reply = t.0;
      rest = b.rest;
      parts = b.parts ∙ ap (λ (x : List (List ℕ)). b.told ++ (x ++ b.rest)) t.1;
      state = b.state;
      led = lines_lead before b.told s b.state f b.files b.led;
      wrote = wrote b.state s' b.after f' format name t.0 later b.rest mesh leads m.1;
      leads = lines_lead later b.rest b.state s' b.after f' leads;
    }

-- all meshes of lines that were run
pub mesh_turns : (w v : World) (lines replies : List (List ℕ)) → IsState w.bench.state → Kept (scene_of w) lines replies (scene_of v)
    → MeshTurns w.bench.state v.bench.state v.store.files lines replies
mesh_turns w v lines replies sound kept = λ before asked later format name e says.
    one_mesh w.bench.state v.bench.state w.store.files v.store.files before asked later replies format name sound says
    (split before asked later w.bench.state v.bench.state w.store.files v.store.files replies
    (subst (λ (l : List (List ℕ)). Followed w.bench.state w.store.files l replies v.bench.state v.store.files) e
    (kept_followed lines replies (scene_of w) (scene_of v) kept)))
