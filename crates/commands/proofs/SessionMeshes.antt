-- What each line of a session that asked for a mesh did.
use Rattle.std.proofs.Common.{◌≡◌, ◌∷◌, ℕ, List, codes, Some, None, IfSome, MatchOption, sym, ap, ◌∙◌, subst, inl, inr, ℤ}
use Rattle.std.specs.Prelude.{Option}
use Rattle.bench_core.specs.Keeping.{Workbench}
use Rattle.session.specs.Sessions.{Course, EndsAfter}
use Rattle.session.specs.declared.ending.Ending.{Ending}
use Rattle.session.specs.declared.ending.Ending.TheVariants as endings
use Rattle.arguments.specs.Words.{request_of, session_of}
use Rattle.arguments.specs.declared.request.Request.{Request}
use Rattle.arguments.specs.declared.request.Request.TheVariants as requests
use Rattle.program.specs.Status.{status_of}
use Rattle.program.specs.declared.answer.Answer.{Answer}
use Rattle.program.specs.declared.answer.Status.{Status}
use Rattle.commands.specs.Outcome.{Call, Rejects}
use Rattle.commands.specs.Serving.{Ends, Serves, asked_for}
use Rattle.commands.specs.Sessions.{Asked, Opens, RunsSession, answer_of, session_between, world_after, world_before}
use Rattle.commands.specs.SessionMeshes.{SessionMeshes, WereRun}
use Rattle.commands.proofs.Asking.{asks_session}
use Rattle.commands.proofs.Economy.{led}
use Rattle.commands.proofs.MeshTurns.{mesh_turns}
use Rattle.commands.proofs.Reasons.{same_request}

-- which lines were run
were_run : (s : Course) (ending : Ending) (lines : List (List ℕ)) → EndsAfter s ending lines → WereRun (status_of (answer_of ending)) s.input s.input_after lines
were_run s endings.Done lines h = h.1
were_run s endings.InputFault lines h = (h.1, h.2, h.3)
were_run s endings.InputTooLong lines h = (h.1, h.2)
were_run s endings.OutputFault lines h = h.1

opened_meshes : (asked : Asked) (call : Call) (a : Answer) (o : Opens asked call a) → SessionMeshes asked call (status_of (answer_of o.ending)) o.last
opened_meshes asked call a o =
    let course = session_between asked call o.volume o.last in
    let l = led course o.ending o.lines o.ends in
    record {
      volume = o.volume;
      holds = o.holds;
      lines = o.lines;
      run = were_run course o.ending o.lines o.ends;
      replies = l.replies;
      written = l.written;
      counted = l.counted;
      meshes = mesh_turns (world_before asked call o.volume) (world_after call o.last) o.lines l.replies o.sound l.kept;
    }

-- a session, however it ended
of_session : (asked : Asked) (call : Call) (a : Answer) (status : Status) → status ≡ status_of a → RunsSession asked call a → IfSome call.left (SessionMeshes asked call status)
of_session asked call a status s (inl shut) = subst (λ (o : Option Workbench). IfSome o (SessionMeshes asked call status)) (sym shut.nothing_left) tt
of_session asked call a status s (inr o) =
    subst (λ (x : Option Workbench). IfSome x (SessionMeshes asked call status)) (sym o.left_is)
    (subst (λ (st : Status). SessionMeshes asked call st o.last) (sym (s ∙ ap status_of o.answer_is)) (opened_meshes asked call a o))

shown : (r : Request) (call : Call) (a : Answer) (status : Status) (level : ℤ) (pad : Option ℤ) (name : List ℕ) (bricks pages : ℕ) → status ≡ status_of a → r ≡ requests.Session level pad name bricks pages → Serves r call a
    → IfSome call.left (SessionMeshes (asked_for level pad name bricks pages) call status)
shown r call a status level pad name bricks pages s e h = of_session (asked_for level pad name bricks pages) call a status s (subst (λ (q : Request). Serves q call a) e h)

by_request : (o : Option Request) (call : Call) (a : Answer) (status : Status) (level : ℤ) (pad : Option ℤ) (name : List ℕ) (bricks pages : ℕ) → MatchOption o (Rejects call a) (λ r. Serves r call a)
    → status ≡ status_of a → o ≡ Some (requests.Session level pad name bricks pages) → IfSome call.left (SessionMeshes (asked_for level pad name bricks pages) call status)
by_request None call a status level pad name bricks pages h s asked = absurd cc
by_request (Some r) call a status level pad name bricks pages h s asked = shown r call a status level pad name bricks pages s (same_request r (requests.Session level pad name bricks pages) asked) h

pub session_headline : (words options : List (List ℕ)) (call : Call) (a : Answer) (status : Status) (level : ℤ) (pad : Option ℤ) (name : List ℕ) (bricks pages : ℕ) → Ends words call a → status ≡ status_of a
    → words ≡ codes "session" ∷ options → session_of options ≡ Some (requests.Session level pad name bricks pages) → IfSome call.left (SessionMeshes (asked_for level pad name bricks pages) call status)
session_headline words options call a status level pad name bricks pages h s are asked =
    by_request (request_of words) call a status level pad name bricks pages h s (ap request_of are ∙ asks_session options (requests.Session level pad name bricks pages) asked)
