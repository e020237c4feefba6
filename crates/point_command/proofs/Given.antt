-- What the program of points alone does, by what its words ask for: the causes of its statuses, and that nothing else stands in the way.
use Rattle.std.proofs.Common.{◌≡◌, Some, None, MatchOption, refl, sym, ap, ◌∙◌, subst}
use Rattle.std.specs.Prelude.{Option}
use Rattle.byte_streams.specs.Causes.{Rose}
use Rattle.program.specs.Status.{status_of}
use Rattle.program.specs.declared.answer.VolumeFault.{VolumeFault}
use Rattle.program.specs.declared.answer.Answer.{Answer}
use Rattle.program.specs.declared.answer.Answer.TheVariants as answers
use Rattle.program.specs.declared.answer.Status.{Status}
use Rattle.program.specs.declared.answer.Status.TheVariants as statuses
use Rattle.command_terms.specs.Outcome.{Streams}
use Rattle.command_terms.proofs.Converted.{converted, if_refused, told}
use Rattle.command_terms.proofs.Statuses.{is_bad_volume, is_too_long}
use Rattle.point_command.specs.Meaning.{points_given}
use Rattle.point_command.specs.Running.{CanGive, Gives, HasNoVolume, HasTooMany, IsGiven, RefusesWords}
use Rattle.point_command.specs.Help.{help_text, version_text}
use Rattle.point_command.specs.declared.words.Asked.{Asked}
use Rattle.point_command.specs.declared.words.Asked.TheVariants.{Points, Help, Version}

-- what a command line does: it is refused, or what it asks for is given
abbrev Ends : Option Asked → Streams → Answer → Type 0
Ends asked s a = MatchOption asked (RefusesWords s a) (λ request. Gives request s a)

not_refused : (s : Streams) (a : Answer) (status : Status) → status_of a ≡ status → (statuses.BadWords ≡ status → ⊥) → RefusesWords s a → ⊥
not_refused s a status e other h = other (sym (ap status_of h.answer_is) ∙ e)

as_answer : (request : Asked) (s : Streams) (a b : Answer) → Gives request s a → a ≡ b → Gives request s b
as_answer request s a b h e = subst (λ (x : Answer). Gives request s x) e h

too_long : (request : Asked) (s : Streams) → Gives request s answers.InputTooLong → HasTooMany (Some request) s
too_long (Points level) s h = (level, refl, h.0)
too_long Help s h = absurd h.0
too_long Version s h = absurd h.0

pub why_too_long : (asked : Option Asked) (s : Streams) (a : Answer) → Ends asked s a → status_of a ≡ statuses.InputTooLong → HasTooMany asked s
why_too_long None s a h e = absurd (not_refused s a statuses.InputTooLong e (λ x. absurd cc) h)
why_too_long (Some request) s a h e = too_long request s (as_answer request s a answers.InputTooLong h (is_too_long a e))

no_volume : (request : Asked) (s : Streams) (fault : VolumeFault) → Gives request s (answers.BadVolume fault) → HasNoVolume (Some request) s
no_volume (Points level) s fault h = (level, refl, if_refused _ _ fault s.input.left h.1)
no_volume Help s fault h = absurd h.0
no_volume Version s fault h = absurd h.0

pub why_no_volume : (asked : Option Asked) (s : Streams) (a : Answer) → Ends asked s a → status_of a ≡ statuses.BadVolume → HasNoVolume asked s
why_no_volume None s a h e = absurd (not_refused s a statuses.BadVolume e (λ x. absurd cc) h)
why_no_volume (Some request) s a h e =
    let w = is_bad_volume a e in
    no_volume request s w.0 (as_answer request s a (answers.BadVolume w.0) h w.1)

gives : (request : Asked) (s : Streams) (a : Answer) → Gives request s a → CanGive request s
    → (Rose s.input.faults s.input_after.faults → ⊥) → (Rose s.output.faults s.output_after.faults → ⊥) → IsGiven request (status_of a)
gives (Points level) s a h can reads writes = converted (points_given level) s a can.bytes can.text h can.told can.within can.gives reads writes
gives Help s a h can reads writes = told help_text s a h writes
gives Version s a h can reads writes = told version_text s a h writes

same_request : (a b : Asked) → Some a ≡ Some b → a ≡ b
same_request a b e = cc

pub completes : (asked : Option Asked) (request : Asked) (s : Streams) (a : Answer) → Ends asked s a → asked ≡ Some request → CanGive request s
    → (Rose s.input.faults s.input_after.faults → ⊥) → (Rose s.output.faults s.output_after.faults → ⊥) → IsGiven request (status_of a)
completes None request s a h e can reads writes = absurd cc
completes (Some other) request s a h e can reads writes =
    gives request s a (subst (λ (r : Asked). Gives r s a) (same_request other request e) h) can reads writes
