-- Replies where the shelf does not fail.
use Rattle.std.proofs.Common.{◌≡◌, inl, inr, ℕ, ◌+◌, List, [], ◌∷◌, Ok, Err, refl, sym, ap, ◌∙◌, arith}
use Rattle.std.specs.Prelude.{Option, Some, None}
use Rattle.iso_base.specs.declared.fault.BenchFault.TheVariants as faults
use Rattle.iso_defs.specs.Texts.{line}
use Rattle.byte_streams.specs.Causes.{Rose}
use Rattle.byte_streams.specs.Seen.{Files}
use Rattle.bench_core.specs.Machine.{State}
use Rattle.script.specs.Commands.{read_of}
use Rattle.script.specs.Replies.{fault_text}
use Rattle.script.specs.declared.command.Command.{Command}
use Rattle.session.specs.Lines.{LineMeaning}
use Rattle.session.specs.Table.{Turn}
use Rattle.session.specs.Following.{Followed, LineTurn, SureLine, SureTurn, SurelyFollowed}
use Rattle.session.specs.Worlds.{CountsBy, shelf_errors}
use Rattle.session.proofs.Running.{shelf_errors-append}

pub no_errors : (before now : ℕ) (replies : List (List ℕ)) → (Rose before now → ⊥) → CountsBy before now replies → shelf_errors replies ≡ 0
no_errors before now replies still counts = omega (arith, still, counts)

one_error : shelf_errors (line (fault_text faults.ShelfFailed) ∷ []) ≡ 1
unfolding fault_text
one_error = refl

sure_turn : (s s' : State) (f f' : Option Files) (c : Command) (reply : List ℕ) → shelf_errors (reply ∷ []) ≡ 0 → Turn s f c reply s' f' → SureTurn s f c reply s' f'
sure_turn s s' f f' c reply none (inl h) = inl h
sure_turn s s' f f' c reply none (inr (inl h)) = inr h
sure_turn s s' f f' c reply none (inr (inr h)) =
    let one : shelf_errors (reply ∷ []) ≡ 1 = ap (λ (r : List ℕ). shelf_errors (r ∷ [])) h.reply_is ∙ one_error in absurd (omega (arith, one, none))

sure_line : (s s' : State) (f f' : Option Files) (says : LineMeaning) (replies : List (List ℕ)) → shelf_errors replies ≡ 0 → LineTurn s f says replies s' f' → SureLine s f says replies s' f'
sure_line s s' f f' (Ok None) replies none h = h
sure_line s s' f f' (Ok (Some c)) replies none h = (h.0, h.1, sure_turn s s' f f' c h.0 (sym (ap shelf_errors h.1) ∙ none) h.2)
sure_line s s' f f' (Err fault) replies none h = h

pub surely : (lines : List (List ℕ)) (s s' : State) (f f' : Option Files) (replies : List (List ℕ)) → shelf_errors replies ≡ 0 → Followed s f lines replies s' f' → SurelyFollowed s f lines replies s' f'
surely [] s s' f f' replies none h = h
surely (l ∷ lines) s s' f f' replies none h =
    let both : shelf_errors h.0 + shelf_errors h.1 ≡ 0 = sym (shelf_errors-append h.0 h.1) ∙ sym (ap shelf_errors h.4) ∙ none in (
      h.0,
      h.1,
      h.2,
      h.3,
      h.4,
      sure_line s h.2 f h.3 (read_of l) h.0 (omega (arith, both)) h.5,
      surely lines h.2 s' h.3 f' h.1 (omega (arith, both)) h.6,
    )
