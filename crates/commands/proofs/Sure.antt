-- Replies where the shelf does not fail.
use Rattle.std.proofs.Common.{ℕ, IfSome, refl, sym, subst, inl, inr}
use Rattle.std.specs.Prelude.{Option}
use Rattle.byte_streams.specs.Causes.{Rose}
use Rattle.bench_core.specs.Keeping.{Workbench}
use Rattle.session.proofs.Running.{kept_followed}
use Rattle.session.proofs.Sure.{no_errors, surely}
use Rattle.session.specs.Worlds.{scene_of}
use Rattle.commands.specs.Outcome.{Call}
use Rattle.commands.specs.Sessions.{Asked, RunsSession, session_between, world_after, world_before}
use Rattle.commands.specs.Soaking.{DoesSoak, SoakLedTo, soak_world}
use Rattle.commands.specs.Sure.{HasSureReplies, HasSureSoak, RepliesSurely, SoaksSurely}
use Rattle.program.specs.Status.{status_of}
use Rattle.program.specs.declared.answer.Answer.{Answer}
use Rattle.program.specs.declared.answer.Status.{Status}
use Rattle.commands.proofs.Economy.{led}
use Rattle.commands.proofs.Soaks.{led_to}

pub sure_replies : (asked : Asked) (call : Call) (a : Answer) → RunsSession asked call a → HasSureReplies asked call
sure_replies asked call a (inl shut) still = subst (λ (o : Option Workbench). IfSome o (RepliesSurely asked call)) (sym shut.nothing_left) tt
sure_replies asked call a (inr o) still =
    let l = led (session_between asked call o.volume o.last) o.ending o.lines o.ends in
    let followed = kept_followed o.lines l.replies (scene_of (world_before asked call o.volume)) (scene_of (world_after call o.last)) l.kept in
    subst (λ (x : Option Workbench). IfSome x (RepliesSurely asked call)) (sym o.left_is) (record {
      volume = o.volume;
      holds = o.holds;
      ending = o.ending;
      lines = o.lines;
      ends = o.ends;
      replies = l.replies;
      written = l.written;
      sure = surely o.lines _ _ _ _ l.replies (no_errors call.store.faults call.store_after.faults l.replies still l.counted) followed;
    })

soaked_surely : (seed : ℕ) (call : Call) (status : Status) (last : Workbench) → (Rose call.store.faults call.store_after.faults → ⊥) → SoakLedTo seed call status last → SoaksSurely seed call status last
soaked_surely seed call status last still led = record {
  led = led;
  sure = surely led.lines _ _ _ _ led.replies (no_errors call.store.faults call.store_after.faults led.replies still led.ran.counted)
      (kept_followed led.lines led.replies (scene_of (soak_world seed call)) (scene_of (world_after call last)) led.ran.kept);
}

pub sure_soak : (seed : ℕ) (call : Call) (a : Answer) → DoesSoak seed call a → HasSureSoak seed call (status_of a)
sure_soak seed call a (same, inl h) still = subst (λ (o : Option Workbench). IfSome o (SoaksSurely seed call (status_of a))) (sym h.shelf.none) tt
sure_soak seed call a (same, inr h) still =
    subst (λ (o : Option Workbench). IfSome o (SoaksSurely seed call (status_of a))) (sym h.left_is)
    (soaked_surely seed call (status_of a) h.last still (led_to seed call (status_of a) h.last a refl h.runs))
