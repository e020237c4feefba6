-- Lines lead from states to states, whose meshes are watertight.
use Rattle.std.proofs.Common.{◌≡◌, inl, inr, ℕ, List, [], ◌∷◌, Ok, Err, MatchResult, refl, sym, subst}
use Rattle.std.specs.Prelude.{Option, Some, None, Result}
use Rattle.iso_defs.specs.Texts.{line}
use Rattle.iso_base.specs.declared.fault.BenchFault.{BenchFault}
use Rattle.byte_streams.specs.Seen.{Files}
use Rattle.bench_core.specs.Machine.{IsState, State, three_from}
use Rattle.bench_core.specs.Surface.{IsWatertight}
use Rattle.bench_core.proofs.Surfaces.{watertight_of}
use Rattle.session.proofs.StateLaws.{contour_state, fill_state, level_state, redo_state, same_state, set_state, undo_state, window_state}
use Rattle.script.specs.Commands.{read_of}
use Rattle.script.specs.Replies.{fault_text}
use Rattle.script.specs.declared.command.Command.{Command}
use Rattle.script.specs.declared.command.Command.TheVariants.{Set, Fill, Level, Undo, Redo, Contour, Window}
use Rattle.session.specs.Following.{Followed, LineTurn}
use Rattle.session.specs.Lines.{LineMeaning}
use Rattle.session.specs.Table.{Turn, after_writing, says_of, step_of, writes_of}

step_state : (s s' : State) (c : Command) → IsState s → step_of s c ≡ Ok s' → IsState s'
step_state s s' (Set at value) is e = set_state s s' is (three_from at 0) value e
step_state s s' (Fill corners value) is e = fill_state s s' is (three_from corners 0) (three_from corners 3) value e
step_state s s' (Level value) is e = level_state s s' is value e
step_state s s' Undo is e = undo_state s s' is e
step_state s s' Redo is e = redo_state s s' is e
step_state s s' (Contour k) is e = contour_state s s' k is e
step_state s s' (Window corners format name) is e = window_state s s' is corners e
step_state s s' command is e = same_state s s' is e

taken_state : (s s' : State) (f f' : Option Files) (c : Command) (reply : List ℕ) (step : Result State BenchFault) → IsState s → step_of s c ≡ step
    → MatchResult step (λ next. (s' ≡ next) × (reply ≡ says_of s c) × (f' ≡ after_writing (writes_of s c) f)) (λ fault. (s' ≡ s) × (reply ≡ line (fault_text fault)) × (f' ≡ f)) → IsState s'
taken_state s s' f f' c reply (Ok next) is e h = subst IsState (sym h.0) (step_state s next c is e)
taken_state s s' f f' c reply (Err fault) is e h = subst IsState (sym h.0) is

turn_state : (s s' : State) (f f' : Option Files) (c : Command) (reply : List ℕ) → IsState s → Turn s f c reply s' f' → IsState s'
turn_state s s' f f' c reply is (inl h) = taken_state s s' f f' c reply (step_of s c) is refl h
turn_state s s' f f' c reply is (inr (inl h)) = subst IsState (sym h.same_state) is
turn_state s s' f f' c reply is (inr (inr h)) = subst IsState (sym h.same_state) is

line_state : (s s' : State) (f f' : Option Files) (says : LineMeaning) (replies : List (List ℕ)) → IsState s → LineTurn s f says replies s' f' → IsState s'
line_state s s' f f' (Ok None) replies is h = subst IsState (sym h.1) is
line_state s s' f f' (Ok (Some c)) replies is h = turn_state s s' f f' c h.0 is h.2
line_state s s' f f' (Err fault) replies is h = subst IsState (sym h.1) is

pub followed_state : (lines replies : List (List ℕ)) (s s' : State) (f f' : Option Files) → IsState s → Followed s f lines replies s' f' → IsState s'
followed_state [] replies s s' f f' is h = subst IsState (sym h.1) is
followed_state (l ∷ lines) replies s s' f f' is h = followed_state lines h.1 h.2 s' h.3 f' (line_state s h.2 f h.3 (read_of l) h.0 is h.5) h.6

pub followed_mesh : (lines replies : List (List ℕ)) (s s' : State) (f f' : Option Files) → IsState s → Followed s f lines replies s' f' → IsWatertight s'.volume s'.level
followed_mesh lines replies s s' f f' is h =
    let sound = followed_state lines replies s s' f f' is h in watertight_of s'.volume s'.level sound.volume sound.above
