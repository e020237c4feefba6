-- What a command does that reads a volume from its input: its refusals, and that it is done where nothing fails.
use Rattle.std.proofs.Common.{◌≡◌, ℕ, ◌<◌, ◌≤◌, List, length, Some, Ok, Err, IfSome, refl, inl, inr, arith}
use Rattle.std.specs.Prelude.{Option, Result}
use Rattle.iso_base.specs.Volume.{Volume}
use Rattle.byte_streams.specs.Causes.{Rose}
use Rattle.program.specs.Status.{status_of}
use Rattle.program.specs.declared.answer.VolumeFault.{VolumeFault}
use Rattle.program.specs.declared.answer.Answer.{Answer}
use Rattle.program.specs.declared.answer.Answer.TheVariants as answers
use Rattle.program.specs.declared.answer.Status.TheVariants as statuses
use Rattle.command_terms.specs.Outcome.{Converts, IsDoneOrWanting, Streams, Tells}
use Rattle.command_terms.specs.Volumes.{text_by, volume_limit}
use Rattle.command_terms.proofs.Told.{at_told, if_told}

-- where the text is refused, so is the volume
refused_volume : (text : Volume → List ℕ) (r : Result Volume VolumeFault) (fault : VolumeFault) → text_by text r ≡ Err fault → r ≡ Err fault
refused_volume text (Ok v) fault e = absurd cc
refused_volume text (Err other) fault e = cc

pub if_refused : (text : Volume → List ℕ) (r : List ℕ → Result Volume VolumeFault) (fault : VolumeFault) (left : Option (List ℕ)) → IfSome left (λ bytes. text_by text (r bytes) ≡ Err fault) → IfSome left (λ bytes. (f : VolumeFault) × (r bytes ≡ Err f))
if_refused text r fault left h = if_told _ _ left (λ bytes e. (fault, refused_volume text (r bytes) fault e)) h

-- what is both a result and a refusal, and what is within a limit and longer
pub not_both : {A E : Type 0} (r : Result A E) (x : A) (e : E) → r ≡ Ok x → r ≡ Err e → ⊥
not_both r x e p q = absurd cc

pub not_long : (limit : ℕ) (bytes : List ℕ) → length bytes ≤ limit → limit < length bytes → ⊥
not_long limit bytes within long = absurd (omega (arith, within, long))

-- it is done, or memory is wanting
pub converted : (given : List ℕ → Result (List ℕ) VolumeFault) (s : Streams) (a : Answer) (bytes text : List ℕ) → Converts given s a → s.input.left ≡ Some bytes → length bytes ≤ volume_limit → given bytes ≡ Ok text
    → (Rose s.input.faults s.input_after.faults → ⊥) → (Rose s.output.faults s.output_after.faults → ⊥) → IsDoneOrWanting (status_of a)
converted given s answers.Done bytes text h told within gives reads writes = inl refl
converted given s answers.MeshRefused bytes text h told within gives reads writes = absurd h
converted given s answers.BadWords bytes text h told within gives reads writes = absurd h
converted given s (answers.BadVolume fault) bytes text h told within gives reads writes = absurd (not_both (given bytes) text fault gives (at_told (λ all. given all ≡ Err fault) s.input.left bytes told h.1))
converted given s answers.InputFault bytes text h told within gives reads writes = absurd (reads h.0)
converted given s answers.InputTooLong bytes text h told within gives reads writes = absurd (not_long volume_limit bytes within (at_told (λ all. volume_limit < length all) s.input.left bytes told h.0))
converted given s answers.OutputFault bytes text h told within gives reads writes = absurd (writes h.4.cause)
converted given s answers.Memory bytes text h told within gives reads writes = inr refl
converted given s answers.ShelfFault bytes text h told within gives reads writes = absurd h
converted given s (answers.BadMesh fault) bytes text h told within gives reads writes = absurd h

-- a text that a program tells of itself is written, unless the output fails
pub told : (text : List ℕ) (s : Streams) (a : Answer) → Tells text s a → (Rose s.output.faults s.output_after.faults → ⊥) → status_of a ≡ statuses.Done
told text s answers.Done h writes = refl
told text s answers.MeshRefused h writes = absurd h.0
told text s answers.BadWords h writes = absurd h.0
told text s (answers.BadVolume fault) h writes = absurd h.0
told text s answers.InputFault h writes = absurd h.0
told text s answers.InputTooLong h writes = absurd h.0
told text s answers.OutputFault h writes = absurd (writes h.0.cause)
told text s answers.Memory h writes = absurd h.0
told text s answers.ShelfFault h writes = absurd h.0
told text s (answers.BadMesh fault) h writes = absurd h.0
