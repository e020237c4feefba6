-- A session that begins with a shelf as it was before its volume was read.
use Rattle.std.proofs.Common.{◌≡◌, ℕ, ◌≤◌, List, subst, arith, inr}
use Rattle.std.specs.Prelude.{Option, Some}
use Rattle.iso_base.specs.Volume.{Volume}
use Rattle.byte_streams.specs.Seen.{Files, Feed}
use Rattle.iso_io.specs.Shelves.{Store}
use Rattle.bench_core.specs.Keeping.{Workbench, first_bench}
use Rattle.bench_core.specs.Machine.{IsState}
use Rattle.session.specs.Kept.{Kept, Scene}
use Rattle.session.specs.Sessions.{EndsAfter, SessionEnds}
use Rattle.session.specs.Worlds.{Breaks, Runs, World, scene_of, world}
use Rattle.session.specs.declared.ending.Ending.{Ending}
use Rattle.session.specs.declared.ending.Ending.TheVariants as endings
use Rattle.commands.specs.Outcome.{Call}
use Rattle.commands.specs.Sessions.{Asked, HoldsFile, RunsSession, answer_of, world_after}
use Rattle.program.specs.declared.answer.Answer.{Answer}

abbrev with_store : World → Store → World
with_store w store = world w.bench w.steps store w.tape

-- the same lines on the same files
kept_since : (w : World) (store : Store) (ls rs : List (List ℕ)) (v : Scene) → w.store.files ≡ store.files → Kept (scene_of w) ls rs v → Kept (scene_of (with_store w store)) ls rs v
kept_since w store ls rs v e kept = subst (λ (f : Option Files). Kept (record { bench = w.bench; files = f; steps = w.steps }) ls rs v) e kept

runs_since : (w v : World) (store : Store) (ls : List (List ℕ)) → w.store.files ≡ store.files → store.faults ≤ w.store.faults → Runs w v ls → Runs (with_store w store) v ls
runs_since w v store ls e l r = record {
  replies = r.replies;
  kept = kept_since w store ls r.replies (scene_of v) e r.kept;
  written = r.written;
  beside = r.beside;
  later = r.later;
  shelf_later = omega (arith, l, r.shelf_later);
  counted = λ lt. let c = r.counted lt in omega (arith, l, c);
}

breaks_since : (w v : World) (store : Store) (ls : List (List ℕ)) → w.store.files ≡ store.files → store.faults ≤ w.store.faults → Breaks w v ls → Breaks (with_store w store) v ls
breaks_since w v store ls e l b = record {
  before = b.before;
  line = b.line;
  parts = b.parts;
  no_quit = b.no_quit;
  replies = b.replies;
  reply = b.reply;
  mid = b.mid;
  kept = kept_since w store b.before b.replies b.mid e b.kept;
  turn = b.turn;
  front = b.front;
  back = b.back;
  cut = b.cut;
  written = b.written;
  beside = b.beside;
  cause = b.cause;
  shelf_later = omega (arith, l, b.shelf_later);
  counted = λ lt. let c = b.counted lt in omega (arith, l, c);
}

pub ends_since : (a b : Feed) (w v : World) (store : Store) (ending : Ending) (ls : List (List ℕ)) → w.store.files ≡ store.files → store.faults ≤ w.store.faults
    → EndsAfter (record { input = a; input_after = b; world = w; world_after = v }) ending ls → EndsAfter (record { input = a; input_after = b; world = with_store w store; world_after = v }) ending ls
ends_since a b w v store endings.Done ls e l h = (runs_since w v store ls e l h.0, h.1)
ends_since a b w v store endings.InputFault ls e l h = (runs_since w v store ls e l h.0, h.1, h.2, h.3)
ends_since a b w v store endings.InputTooLong ls e l h = (runs_since w v store ls e l h.0, h.1, h.2)
ends_since a b w v store endings.OutputFault ls e l h = (breaks_since w v store ls e l h.0, h.1)

pub opened : (asked : Asked) (call : Call) (answer : Answer) (ending : Ending) (volume : Volume) (first last : Workbench) (mid : Store)
    → HoldsFile asked call volume → first ≡ first_bench volume asked.level asked.limits → IsState first.state → call.left ≡ Some last
    → mid.files ≡ call.store.files → call.store.faults ≤ mid.faults → answer ≡ answer_of ending
    → SessionEnds (record { input = call.streams.input; input_after = call.streams.input_after; world = world first call.steps mid call.streams.output; world_after = world_after call last }) ending
    → RunsSession asked call answer
opened asked call answer ending volume first last mid h e sound l same later a ends = inr (record {
  volume = volume;
  holds = h;
  sound = subst (λ (b : Workbench). IsState b.state) e sound;
  last = last;
  left_is = l;
  ending = ending;
  answer_is = a;
  lines = ends.0;
  ends = ends_since call.streams.input call.streams.input_after (world (first_bench volume asked.level asked.limits) call.steps mid call.streams.output) (world_after call last) call.store ending ends.0 same later
      (subst (λ (b : Workbench). EndsAfter (record { input = call.streams.input; input_after = call.streams.input_after; world = world b call.steps mid call.streams.output; world_after = world_after call last }) ending ends.0) e ends.1);
})
