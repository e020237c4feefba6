-- How a soak ends, and what it leaves.
use Rattle.std.proofs.Common.{◌≡◌, ◌⊎◌, ℕ, List, [], ◌∷◌, ◌++◌, Some, IfSome, MatchOption, refl, sym, ap, subst, inl, inr}
use Rattle.std.specs.Prelude.{Option}
use Rattle.byte_streams.specs.Causes.{Rose}
use Rattle.bench_core.specs.Keeping.{Workbench, first_bench}
use Rattle.bench_core.specs.Machine.{IsState}
use Rattle.volume_gen.specs.Soak.{soak_lines}
use Rattle.session.specs.Worlds.{World, world}
use Rattle.commands.specs.Outcome.{Call}
use Rattle.commands.specs.Sessions.{world_after}
use Rattle.commands.specs.Soaking.{DoesSoak, RunsLines, SoakLeaves, SoakLedTo, SoakMeshes, soak_level, soak_limits, soak_volume, soak_world}
use Rattle.program.specs.Status.{status_of}
use Rattle.program.specs.declared.answer.Answer.{Answer}
use Rattle.program.specs.declared.answer.Answer.TheVariants as answers
use Rattle.program.specs.declared.answer.Status.{Status}
use Rattle.program.specs.declared.answer.Status.TheVariants as statuses
use Rattle.commands.proofs.MeshTurns.{mesh_turns}

-- an answer that a soak does not give
abbrev pub IsForeign : Answer → Type 0
IsForeign answers.Done = ⊥
IsForeign answers.Memory = ⊥
IsForeign answers.OutputFault = ⊥
IsForeign answer = Unit {0}

runs_not : (script : List (List ℕ)) (w v : World) (a : Answer) → IsForeign a → RunsLines script w v a → ⊥
runs_not script w v answers.Done f h = f
runs_not script w v answers.Memory f h = f
runs_not script w v answers.OutputFault f h = f
runs_not script w v answer f h = h

foreign_memory : (a : Answer) → IsForeign a → a ≡ answers.Memory → ⊥
foreign_memory a f e = subst IsForeign e f

pub not_soaked : (seed : ℕ) (call : Call) (a : Answer) → IsForeign a → DoesSoak seed call a → ⊥
not_soaked seed call a f (same, inl h) = foreign_memory a f h.answer_is
not_soaked seed call a f (same, inr h) = runs_not (soak_lines seed) (soak_world seed call) (world_after call h.last) a f h.runs

-- ---- where the output did not fail

abbrev IsWhole : Answer → Type 0
IsWhole a = (status_of a ≡ statuses.Done) ⊎ (status_of a ≡ statuses.Memory)

runs_whole : (script : List (List ℕ)) (w v : World) (a : Answer) → RunsLines script w v a → (Rose w.tape.faults v.tape.faults → ⊥) → IsWhole a
runs_whole script w v answers.Done h writes = inl refl
runs_whole script w v answers.Memory h writes = inr refl
runs_whole script w v answers.OutputFault h writes = absurd (writes h.3.cause)
runs_whole script w v answer h writes = absurd h

pub soaked_whole : (seed : ℕ) (call : Call) (a : Answer) → DoesSoak seed call a → (Rose call.streams.output.faults call.streams.output_after.faults → ⊥) → IsWhole a
soaked_whole seed call a (same, inl h) writes = inr (ap status_of h.answer_is)
soaked_whole seed call a (same, inr h) writes = runs_whole (soak_lines seed) (soak_world seed call) (world_after call h.last) a h.runs writes

-- ---- the bench that is left

pub led_to : (seed : ℕ) (call : Call) (status : Status) (last : Workbench) (a : Answer) → status ≡ status_of a → RunsLines (soak_lines seed) (soak_world seed call) (world_after call last) a → SoakLedTo seed call status last
led_to seed call status last answers.Done s h = record {
  answer = answers.Done;
  status_is = s;
  lines = soak_lines seed;
  replies = h.replies;
  ends = (refl, h.written);
  ran = h.ran;
}
led_to seed call status last answers.Memory s h = record {
  answer = answers.Memory;
  status_is = s;
  lines = h.0;
  replies = h.5.replies;
  ends = (h.1, h.2, h.3, h.4, h.5.written);
  ran = h.5.ran;
}
led_to seed call status last answers.OutputFault s h =
    let b = h.3 in
    record {
      answer = answers.OutputFault;
      status_is = s;
      lines = h.0;
      replies = b.replies ++ b.reply ∷ [];
      ends = (
        h.1,
        h.2,
        record {
          before = b.before;
          line = b.line;
          parts = b.parts;
          ply = b.ply;
          told = b.replies;
          reply = b.reply;
          replies_are = refl;
          front = b.front;
          back = b.back;
          cut = b.cut;
          written = b.written;
          cause = b.cause;
        },
      );
      ran = b.ran;
    }
led_to seed call status last answer s h = absurd h

pub soak_leaves : (seed : ℕ) (call : Call) (status : Status) (a : Answer) → status ≡ status_of a → DoesSoak seed call a → SoakLeaves seed call status
soak_leaves seed call status a s (same, inl h) = subst (λ (o : Option Workbench). MatchOption o (call.steps_after ≡ call.steps) (SoakLedTo seed call status)) (sym h.shelf.none) h.shelf.steps
soak_leaves seed call status a s (same, inr h) =
    subst (λ (o : Option Workbench). MatchOption o (call.steps_after ≡ call.steps) (SoakLedTo seed call status)) (sym h.left_is) (led_to seed call status h.last a s h.runs)

-- ---- its meshes

meshes_of : (seed : ℕ) (call : Call) (status : Status) (last : Workbench) → IsState (first_bench (soak_volume seed) soak_level soak_limits).state → SoakLedTo seed call status last → SoakMeshes seed call status last
meshes_of seed call status last sound led = record { led = led; meshes = mesh_turns (soak_world seed call) (world_after call last) led.lines led.replies sound led.ran.kept }

pub holds_meshes : (seed : ℕ) (call : Call) (status : Status) (a : Answer) → status ≡ status_of a → DoesSoak seed call a → IfSome call.left (SoakMeshes seed call status)
holds_meshes seed call status a s (same, inl h) = subst (λ (o : Option Workbench). IfSome o (SoakMeshes seed call status)) (sym h.shelf.none) tt
holds_meshes seed call status a s (same, inr h) =
    subst (λ (o : Option Workbench). IfSome o (SoakMeshes seed call status)) (sym h.left_is) (meshes_of seed call status h.last h.sound (led_to seed call status h.last a s h.runs))

-- ---- from the opened bench on

pub opened_soak : (seed : ℕ) (call : Call) (a : Answer) (last bench : Workbench) (lines : List (List ℕ)) → call.streams.input_after ≡ call.streams.input → call.left ≡ Some last
    → bench ≡ first_bench (soak_volume seed) soak_level soak_limits → IsState bench.state → lines ≡ soak_lines seed
    → RunsLines lines (world bench call.steps call.store call.streams.output) (world_after call last) a → DoesSoak seed call a
opened_soak seed call a last bench lines same left first sound are h = (
  same,
  inr (record {
    sound = subst (λ (b : Workbench). IsState b.state) first sound;
    last = last;
    left_is = left;
    runs = subst (λ (ls : List (List ℕ)). RunsLines ls (soak_world seed call) (world_after call last) a) are
        (subst (λ (b : Workbench). RunsLines lines (world b call.steps call.store call.streams.output) (world_after call last) a) first h);
  }),
)
