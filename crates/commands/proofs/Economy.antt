-- The bench that a session leaves, and what was written of its replies.
use Rattle.std.proofs.Common.{◌≡◌, ℕ, List, [], ◌∷◌, ◌++◌, Some, None, MatchOption, refl, sym, ap, ◌∙◌, subst, inl, inr, append_assoc, ℤ}
use Rattle.std.specs.Prelude.{IfSome, Option}
use Rattle.std.proofs.lemmas.List.{append-nil}
use Rattle.bench_core.specs.Keeping.{Workbench}
use Rattle.session.specs.Kept.{Kept}
use Rattle.session.specs.Sessions.{Course, EndsAfter}
use Rattle.session.specs.Worlds.{Breaks, CountsBy, World, replies_text, scene_of}
use Rattle.session.specs.declared.ending.Ending.{Ending}
use Rattle.session.specs.declared.ending.Ending.TheVariants as endings
use Rattle.session.proofs.Running.{replies_text-append, kept_both}
use Rattle.arguments.specs.declared.request.Request.{Request}
use Rattle.arguments.specs.declared.request.Request.TheVariants as requests
use Rattle.program.specs.Status.{status_of}
use Rattle.program.specs.declared.answer.Answer.{Answer}
use Rattle.program.specs.declared.answer.Status.{Status}
use Rattle.commands.specs.Economy.{LeavesBench, LedTo}
use Rattle.commands.specs.Outcome.{Call, Rejects}
use Rattle.commands.specs.Serving.{Serves, asked_for}
use Rattle.commands.specs.SessionMeshes.{WritesReplies}
use Rattle.commands.specs.Sessions.{Asked, RunsSession, answer_of, session_between}
use Rattle.commands.specs.Soaking.{SoakLeaves, SoakMeshes}
use Rattle.commands.proofs.Reasons.{same_request}
use Rattle.commands.proofs.Soaks.{holds_meshes, soak_leaves}

-- the replies to lines, what they led to, and what was written of them
pub record Led (w v : World) (ending : Ending) (lines : List (List ℕ)) : Type 0 where
  pub replies : List (List ℕ)
  pub kept : Kept (scene_of w) lines replies (scene_of v)
  pub written : WritesReplies (status_of (answer_of ending)) w.tape v.tape replies
  pub counted : CountsBy w.store.faults v.store.faults replies

cut_text : (replies : List (List ℕ)) (reply front back : List ℕ) → reply ≡ front ++ back → replies_text (replies ++ reply ∷ []) ≡ (replies_text replies ++ front) ++ back
cut_text replies reply front back e =
    replies_text-append replies (reply ∷ []) ∙ ap (λ (l : List ℕ). replies_text replies ++ l) (append-nil reply ∙ e) ∙ sym (append_assoc (replies_text replies) front back)

broken : (w v : World) (lines : List (List ℕ)) → Breaks w v lines → Led w v endings.OutputFault lines
broken w v lines b = record {
  replies = b.replies ++ b.reply ∷ [];
  kept = subst (λ (ls : List (List ℕ)). Kept (scene_of w) ls (b.replies ++ b.reply ∷ []) (scene_of v)) (sym b.parts)
      (kept_both (scene_of w) b.before b.replies b.mid (b.line ∷ []) (b.reply ∷ []) (scene_of v) b.kept
      (b.reply ∷ [], [], scene_of v, sym (append-nil (b.reply ∷ [])), b.turn, (refl, refl)));
  written = (replies_text b.replies ++ b.front, b.back, cut_text b.replies b.reply b.front b.back b.cut, b.written);
  counted = b.counted;
}

pub led : (s : Course) (ending : Ending) (lines : List (List ℕ)) → EndsAfter s ending lines → Led s.world s.world_after ending lines
led s endings.Done lines h = record { replies = h.0.replies; kept = h.0.kept; written = h.0.written; counted = h.0.counted }
led s endings.InputFault lines h = record { replies = h.0.replies; kept = h.0.kept; written = h.0.written; counted = h.0.counted }
led s endings.InputTooLong lines h = record { replies = h.0.replies; kept = h.0.kept; written = h.0.written; counted = h.0.counted }
led s endings.OutputFault lines h = broken s.world s.world_after lines h.0

left_by : (asked : Asked) (call : Call) (answer : Answer) → RunsSession asked call answer → LeavesBench asked call
left_by asked call answer (inl h) =
    subst (λ (o : Option Workbench). MatchOption o (call.steps_after ≡ call.steps) (LedTo asked call)) (sym h.nothing_left) h.steps
left_by asked call answer (inr h) =
    let l = led (session_between asked call h.volume h.last) h.ending h.lines h.ends in
    subst (λ (o : Option Workbench). MatchOption o (call.steps_after ≡ call.steps) (LedTo asked call)) (sym h.left_is)
    (record {
      volume = h.volume;
      holds = h.holds;
      ending = h.ending;
      lines = h.lines;
      ends = h.ends;
      replies = l.replies;
      written = l.written;
      kept = l.kept;
    })

left_of : (r : Request) (call : Call) (a : Answer) (level : ℤ) (pad : Option ℤ) (name : List ℕ) (bricks pages : ℕ) → r ≡ requests.Session level pad name bricks pages → Serves r call a
    → LeavesBench (asked_for level pad name bricks pages) call
left_of r call a level pad name bricks pages e h = left_by (asked_for level pad name bricks pages) call a (subst (λ (q : Request). Serves q call a) e h)

pub economy : (o : Option Request) (call : Call) (a : Answer) (level : ℤ) (pad : Option ℤ) (name : List ℕ) (bricks pages : ℕ) → MatchOption o (Rejects call a) (λ r. Serves r call a)
    → o ≡ Some (requests.Session level pad name bricks pages) → LeavesBench (asked_for level pad name bricks pages) call
economy None call a level pad name bricks pages h asked = absurd cc
economy (Some r) call a level pad name bricks pages h asked = left_of r call a level pad name bricks pages (same_request r (requests.Session level pad name bricks pages) asked) h

soak_left : (r : Request) (call : Call) (status : Status) (a : Answer) (seed : ℕ) → status ≡ status_of a → r ≡ requests.Soak seed → Serves r call a → SoakLeaves seed call status
soak_left r call status a seed s e h = soak_leaves seed call status a s (subst (λ (q : Request). Serves q call a) e h)

pub soak_economy : (o : Option Request) (call : Call) (status : Status) (a : Answer) (seed : ℕ) → MatchOption o (Rejects call a) (λ r. Serves r call a) → status ≡ status_of a → o ≡ Some (requests.Soak seed) → SoakLeaves seed call status
soak_economy None call status a seed h s asked = absurd cc
soak_economy (Some r) call status a seed h s asked = soak_left r call status a seed s (same_request r (requests.Soak seed) asked) h

soak_shown : (r : Request) (call : Call) (status : Status) (a : Answer) (seed : ℕ) → status ≡ status_of a → r ≡ requests.Soak seed → Serves r call a → IfSome call.left (SoakMeshes seed call status)
soak_shown r call status a seed s e h = holds_meshes seed call status a s (subst (λ (q : Request). Serves q call a) e h)

pub soak_headline : (o : Option Request) (call : Call) (status : Status) (a : Answer) (seed : ℕ) → MatchOption o (Rejects call a) (λ r. Serves r call a) → status ≡ status_of a → o ≡ Some (requests.Soak seed) → IfSome call.left (SoakMeshes seed call status)
soak_headline None call status a seed h s asked = absurd cc
soak_headline (Some r) call status a seed h s asked = soak_shown r call status a seed s (same_request r (requests.Soak seed) asked) h
