-- What the program does, by what its words ask for: the causes of its statuses, and that nothing else stands in the way.
use Rattle.std.proofs.Common.{◌≡◌, ◌⊎◌, ◌↔◌, ℕ, ◌<◌, List, length, Some, None, Err, MatchOption, refl, sym, ap, ◌∙◌, inl, inr, subst}
use Rattle.std.specs.Prelude.{Option}
use Rattle.byte_streams.specs.Causes.{Rose}
use Rattle.command_terms.proofs.Converted.{not_both, not_long, told}
use Rattle.command_terms.proofs.Told.{at_told, if_told}
use Rattle.command_terms.specs.Outcome.{IsDoneOrWanting, Tells}
use Rattle.command_terms.specs.Volumes.{volume_limit}
use Rattle.mesh_text.specs.Lines.{ply_head}
use Rattle.program.specs.Status.{nrrd_status, status_of, volume_status}
use Rattle.program.specs.declared.answer.Answer.{Answer}
use Rattle.program.specs.declared.answer.Answer.TheVariants as answers
use Rattle.program.specs.declared.answer.Status.{Status}
use Rattle.program.specs.declared.answer.Status.TheVariants as statuses
use Rattle.program.specs.declared.answer.VolumeFault.{VolumeFault}
use Rattle.program.specs.declared.answer.VolumeFault.TheVariants as volume_faults
use Rattle.refusals.specs.declared.nrrd.NrrdFault.{NrrdFault}
use Rattle.refusals.specs.declared.nrrd.NrrdFault.TheVariants as nrrd_faults
use Rattle.slab_command.specs.Answers.{slab_status}
use Rattle.slab_command.specs.Help.{help_text, version_text}
use Rattle.slab_command.specs.Outcome.{Call, NothingMade, Refuses, Serves}
use Rattle.slab_command.specs.Parts.{slab_given}
use Rattle.slab_command.specs.Slabs.{part_of}
use Rattle.slab_command.specs.Running.{CanGive, CanServe, Gives, HasNoSlab, HasShelfFault, HasTooMany, IsGiven, RefusesWords, TellsText}
use Rattle.slab_command.specs.declared.answer.SlabAnswer.{SlabAnswer}
use Rattle.slab_command.specs.declared.answer.SlabAnswer.TheVariants.{Common, Thin, Numbers}
use Rattle.slab_command.specs.declared.asked.Asked.{Asked}
use Rattle.slab_command.specs.declared.asked.Asked.TheVariants.{Slab, Head, Help, Version}
use Rattle.slab_command.specs.declared.asked.SlabJob.{SlabJob}
use Rattle.slab_command.proofs.Outputs.{has_files}

-- what a command line does: it is refused, or what it asks for is given
abbrev Ends : Option Asked → Call → SlabAnswer → Type 0
Ends asked call a = MatchOption asked (RefusesWords call a) (λ request. Gives request call a)

-- ---- the status of a volume that is refused

nrrd_two : (f : NrrdFault) → (nrrd_status f ≡ statuses.BadVolume) ⊎ (nrrd_status f ≡ statuses.Memory)
nrrd_two nrrd_faults.NotNrrd = inl refl
nrrd_two (nrrd_faults.HeaderTooLong n) = inl refl
nrrd_two (nrrd_faults.BadLine line) = inl refl
nrrd_two (nrrd_faults.RepeatedField field) = inl refl
nrrd_two (nrrd_faults.MissingField field) = inl refl
nrrd_two (nrrd_faults.BadValue field) = inl refl
nrrd_two nrrd_faults.UnsupportedKind = inl refl
nrrd_two (nrrd_faults.UnsupportedEncoding word) = inl refl
nrrd_two (nrrd_faults.Detached line) = inl refl
nrrd_two (nrrd_faults.SkipUnsupported field) = inl refl
nrrd_two (nrrd_faults.NotThreeAxes n) = inl refl
nrrd_two (nrrd_faults.Size fault) = inl refl
nrrd_two nrrd_faults.NoEndian = inl refl
nrrd_two (nrrd_faults.ShortSamples needed present) = inl refl
nrrd_two nrrd_faults.Memory = inr refl
nrrd_two (nrrd_faults.BadSample place) = inl refl

volume_two : (f : VolumeFault) → (volume_status f ≡ statuses.BadVolume) ⊎ (volume_status f ≡ statuses.Memory)
volume_two (volume_faults.Nrrd fault) = nrrd_two fault
volume_two (volume_faults.Pad fault) = inl refl
volume_two (volume_faults.LevelNotAbovePad level pad) = inl refl

-- ---- causes

-- the cause of each status by which words end that ask for something
record HasCauses (asked : Option Asked) (call : Call) (status : Status) : Type 0 where
  words : status ≡ statuses.BadWords → ⊥
  input : status ≡ statuses.InputFault → Rose call.streams.input.faults call.streams.input_after.faults
  output : status ≡ statuses.OutputFault → Rose call.streams.output.faults call.streams.output_after.faults
  long : status ≡ statuses.InputTooLong → HasTooMany asked call
  volume : status ≡ statuses.BadVolume → HasNoSlab asked call
  shelf : status ≡ statuses.ShelfFault → HasShelfFault asked call
  untouched : (status ≡ statuses.Done → ⊥) → (status ≡ statuses.OutputFault → ⊥) → (status ≡ statuses.ShelfFault → ⊥) → NothingMade call

module _ (asked : Option Asked) (call : Call) where
  at_done : HasCauses asked call statuses.Done
  at_done = record { words = λ e. absurd cc; input = λ e. absurd cc; output = λ e. absurd cc; long = λ e. absurd cc; volume = λ e. absurd cc; shelf = λ e. absurd cc; untouched = λ d o s. absurd (d refl) }

  at_output : Rose call.streams.output.faults call.streams.output_after.faults → HasCauses asked call statuses.OutputFault
  at_output h = record { words = λ e. absurd cc; input = λ e. absurd cc; output = λ e. h; long = λ e. absurd cc; volume = λ e. absurd cc; shelf = λ e. absurd cc; untouched = λ d o s. absurd (o refl) }

  at_shelf : HasShelfFault asked call → HasCauses asked call statuses.ShelfFault
  at_shelf h = record { words = λ e. absurd cc; input = λ e. absurd cc; output = λ e. absurd cc; long = λ e. absurd cc; volume = λ e. absurd cc; shelf = λ e. h; untouched = λ d o s. absurd (s refl) }

  at_input : Rose call.streams.input.faults call.streams.input_after.faults → NothingMade call → HasCauses asked call statuses.InputFault
  at_input h nothing = record { words = λ e. absurd cc; input = λ e. h; output = λ e. absurd cc; long = λ e. absurd cc; volume = λ e. absurd cc; shelf = λ e. absurd cc; untouched = λ d o s. nothing }

  at_long : HasTooMany asked call → NothingMade call → HasCauses asked call statuses.InputTooLong
  at_long h nothing = record { words = λ e. absurd cc; input = λ e. absurd cc; output = λ e. absurd cc; long = λ e. h; volume = λ e. absurd cc; shelf = λ e. absurd cc; untouched = λ d o s. nothing }

  at_volume : HasNoSlab asked call → NothingMade call → HasCauses asked call statuses.BadVolume
  at_volume h nothing = record { words = λ e. absurd cc; input = λ e. absurd cc; output = λ e. absurd cc; long = λ e. absurd cc; volume = λ e. h; shelf = λ e. absurd cc; untouched = λ d o s. nothing }

  at_memory : NothingMade call → HasCauses asked call statuses.Memory
  at_memory nothing = record { words = λ e. absurd cc; input = λ e. absurd cc; output = λ e. absurd cc; long = λ e. absurd cc; volume = λ e. absurd cc; shelf = λ e. absurd cc; untouched = λ d o s. nothing }

  at_either : (status : Status) → (status ≡ statuses.BadVolume) ⊎ (status ≡ statuses.Memory) → HasNoSlab asked call → NothingMade call → HasCauses asked call status
  at_either status (inl e) h nothing = subst (HasCauses asked call) (sym e) (at_volume h nothing)
  at_either status (inr e) h nothing = subst (HasCauses asked call) (sym e) (at_memory nothing)

module _ (job : SlabJob) (call : Call) where
  no_slab : (a : SlabAnswer) → Refuses (slab_given job) call a → HasNoSlab (Some (Slab job)) call
  no_slab a h = (
    job,
    refl,
    if_told (λ bytes. slab_given job bytes ≡ Err a) (λ bytes. (reason : SlabAnswer) × (slab_given job bytes ≡ Err reason)) call.streams.input.left (λ bytes e. (a, e)) h.reason,
  )

  slab_causes : (a : SlabAnswer) → Serves (slab_given job) call a → HasCauses (Some (Slab job)) call (slab_status a)
  slab_causes (Common answers.Done) h = at_done _ call
  slab_causes (Common answers.OutputFault) h = at_output _ call h.line.cause
  slab_causes (Common answers.ShelfFault) h =
      at_shelf _ call (job, refl, (has_files job (part_of job.slab h.bytes) h.output call.store.files call.store_after.files h.gives h.cut, h.cause))
  slab_causes (Common answers.InputFault) h = at_input _ call h.0 h.1
  slab_causes (Common answers.InputTooLong) h = at_long _ call (job, refl, h.0) h.1
  slab_causes (Common (answers.BadVolume fault)) h = at_either _ call (volume_status fault) (volume_two fault) (no_slab (Common (answers.BadVolume fault)) h) h.nothing
  slab_causes (Common answers.Memory) h = at_memory _ call h
  slab_causes (Thin slices) h = at_volume _ call (no_slab (Thin slices) h) h.nothing
  slab_causes (Numbers largest) h = at_volume _ call (no_slab (Numbers largest) h) h.nothing
  slab_causes (Common answers.MeshRefused) h = absurd h
  slab_causes (Common answers.BadWords) h = absurd h
  slab_causes (Common (answers.BadMesh fault)) h = absurd h

told_by : (asked : Option Asked) (text : List ℕ) (call : Call) (a : Answer) → Tells text call.streams a → HasCauses asked call (status_of a)
told_by asked text call answers.Done h = at_done asked call
told_by asked text call answers.OutputFault h = at_output asked call h.0.cause
told_by asked text call answers.MeshRefused h = absurd h.0
told_by asked text call answers.BadWords h = absurd h.0
told_by asked text call (answers.BadVolume fault) h = absurd h.0
told_by asked text call answers.InputFault h = absurd h.0
told_by asked text call answers.InputTooLong h = absurd h.0
told_by asked text call answers.Memory h = absurd h.0
told_by asked text call answers.ShelfFault h = absurd h.0
told_by asked text call (answers.BadMesh fault) h = absurd h.0

text_causes : (asked : Option Asked) (text : List ℕ) (call : Call) (a : SlabAnswer) → TellsText text call a → HasCauses asked call (slab_status a)
text_causes asked text call a h = subst (λ (b : SlabAnswer). HasCauses asked call (slab_status b)) (sym h.answer_is) (told_by asked text call h.told h.text_is)

causes : (request : Asked) (call : Call) (a : SlabAnswer) → Gives request call a → HasCauses (Some request) call (slab_status a)
causes (Slab job) call a h = slab_causes job call a h
causes (Head vertices triangles) call a h = text_causes _ (ply_head vertices triangles) call a h
causes Help call a h = text_causes _ help_text call a h
causes Version call a h = text_causes _ version_text call a h

bad_words : (call : Call) (a : SlabAnswer) → RefusesWords call a → slab_status a ≡ statuses.BadWords
bad_words call a h = ap slab_status h.answer_is

other : (call : Call) (a : SlabAnswer) (status : Status) → RefusesWords call a → slab_status a ≡ status → (statuses.BadWords ≡ status → ⊥) → ⊥
other call a status h e not = not (sym (bad_words call a h) ∙ e)

module _ (call : Call) (a : SlabAnswer) where
  pub why_bad_words : (asked : Option Asked) → Ends asked call a → (slab_status a ≡ statuses.BadWords) ↔ (asked ≡ None)
  why_bad_words None h = (λ _. refl, λ _. bad_words call a h)
  why_bad_words (Some request) h = (λ e. absurd ((causes request call a h).words e), λ e. absurd cc)

  pub why_input_fault : (asked : Option Asked) → Ends asked call a → slab_status a ≡ statuses.InputFault → Rose call.streams.input.faults call.streams.input_after.faults
  why_input_fault None h e = absurd (other call a statuses.InputFault h e (λ x. absurd cc))
  why_input_fault (Some request) h e = (causes request call a h).input e

  pub why_output_fault : (asked : Option Asked) → Ends asked call a → slab_status a ≡ statuses.OutputFault → Rose call.streams.output.faults call.streams.output_after.faults
  why_output_fault None h e = absurd (other call a statuses.OutputFault h e (λ x. absurd cc))
  why_output_fault (Some request) h e = (causes request call a h).output e

  pub why_too_long : (asked : Option Asked) → Ends asked call a → slab_status a ≡ statuses.InputTooLong → HasTooMany asked call
  why_too_long None h e = absurd (other call a statuses.InputTooLong h e (λ x. absurd cc))
  why_too_long (Some request) h e = (causes request call a h).long e

  pub why_bad_volume : (asked : Option Asked) → Ends asked call a → slab_status a ≡ statuses.BadVolume → HasNoSlab asked call
  why_bad_volume None h e = absurd (other call a statuses.BadVolume h e (λ x. absurd cc))
  why_bad_volume (Some request) h e = (causes request call a h).volume e

  pub why_shelf_fault : (asked : Option Asked) → Ends asked call a → slab_status a ≡ statuses.ShelfFault → HasShelfFault asked call
  why_shelf_fault None h e = absurd (other call a statuses.ShelfFault h e (λ x. absurd cc))
  why_shelf_fault (Some request) h e = (causes request call a h).shelf e

  pub leaves_all : (asked : Option Asked) → Ends asked call a → (slab_status a ≡ statuses.Done → ⊥) → (slab_status a ≡ statuses.OutputFault → ⊥) → (slab_status a ≡ statuses.ShelfFault → ⊥) → NothingMade call
  leaves_all None h d o s = h.nothing_made
  leaves_all (Some request) h d o s = (causes request call a h).untouched d o s

-- ---- nothing else stands in the way

module _ (call : Call) (reads : Rose call.streams.input.faults call.streams.input_after.faults → ⊥) (writes : Rose call.streams.output.faults call.streams.output_after.faults → ⊥)
    (stores : Rose call.store.faults call.store_after.faults → ⊥) where
  not_refused : (job : SlabJob) (a : SlabAnswer) → CanServe job call → Refuses (slab_given job) call a → ⊥
  not_refused job a can h =
      not_both (slab_given job can.bytes) can.output a can.gives (at_told (λ bytes. slab_given job bytes ≡ Err a) call.streams.input.left can.bytes can.told h.reason)

  serves : (job : SlabJob) (a : SlabAnswer) → Serves (slab_given job) call a → CanServe job call → IsDoneOrWanting (slab_status a)
  serves job (Common answers.Done) h can = inl refl
  serves job (Common answers.Memory) h can = inr refl
  serves job (Common answers.OutputFault) h can = absurd (writes h.line.cause)
  serves job (Common answers.ShelfFault) h can = absurd (stores h.cause)
  serves job (Common answers.InputFault) h can = absurd (reads h.0)
  serves job (Common answers.InputTooLong) h can =
      absurd (not_long volume_limit can.bytes can.within (at_told (λ bytes. volume_limit < length bytes) call.streams.input.left can.bytes can.told h.0))
  serves job (Common (answers.BadVolume fault)) h can = absurd (not_refused job (Common (answers.BadVolume fault)) can h)
  serves job (Thin slices) h can = absurd (not_refused job (Thin slices) can h)
  serves job (Numbers largest) h can = absurd (not_refused job (Numbers largest) can h)
  serves job (Common answers.MeshRefused) h can = absurd h
  serves job (Common answers.BadWords) h can = absurd h
  serves job (Common (answers.BadMesh fault)) h can = absurd h

  tells : (text : List ℕ) (a : SlabAnswer) → TellsText text call a → slab_status a ≡ statuses.Done
  tells text a h = ap slab_status h.answer_is ∙ told text call.streams h.told h.text_is writes

  gives : (request : Asked) (a : SlabAnswer) → Gives request call a → CanGive request call → IsGiven request (slab_status a)
  gives (Slab job) a h can = serves job a h can
  gives (Head vertices triangles) a h can = tells (ply_head vertices triangles) a h
  gives Help a h can = tells help_text a h
  gives Version a h can = tells version_text a h

  same_request : (a b : Asked) → Some a ≡ Some b → a ≡ b
  same_request a b e = cc

  pub completes : (asked : Option Asked) (request : Asked) (a : SlabAnswer) → Ends asked call a → asked ≡ Some request → CanGive request call → IsGiven request (slab_status a)
  completes None request a h e can = absurd cc
  completes (Some one) request a h e can = gives request a (subst (λ (r : Asked). Gives r call a) (same_request one request e) h) can
