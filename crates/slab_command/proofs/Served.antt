-- What becomes of a call that reads a slab.
use Rattle.std.proofs.Common.{◌≡◌, ℕ, ◌≤◌, List, length, None, Ok, Err, ap}
use Rattle.std.specs.Prelude.{Result}
use Rattle.iso_base.specs.Volume.{Voxels}
use Rattle.command_terms.specs.Outcome.{HasRead, ReadWhole}
use Rattle.command_terms.specs.Volumes.{HoldsNone, volume_limit, volume_of}
use Rattle.command_terms.specs.Volumes as volumes
use Rattle.command_terms.proofs.Told.{if_told, of_whole}
use Rattle.nrrd_read.specs.Nrrd.{nrrd_of}
use Rattle.program.specs.declared.answer.Answer.{Answer}
use Rattle.program.specs.declared.answer.Answer.TheVariants as answers
use Rattle.program.specs.declared.answer.VolumeFault.{VolumeFault}
use Rattle.refusals.specs.declared.nrrd.NrrdFault.{NrrdFault}
use Rattle.slab_command.specs.Outcome.{Call, GivesOutput, NothingMade, Refuses, Serves}
use Rattle.slab_command.specs.Parts.{Output, output_by, slab_given}
use Rattle.slab_command.specs.Slabs.{of_read, part_of, refused}
use Rattle.slab_command.specs.declared.answer.SlabAnswer.{SlabAnswer}
use Rattle.slab_command.specs.declared.answer.SlabAnswer.TheVariants.{Common, Thin, Numbers}
use Rattle.slab_command.specs.declared.asked.Slab.{Slab}
use Rattle.slab_command.specs.declared.asked.SlabJob.{SlabJob}

-- ---- the whole input was read

module _ (given : List ℕ → Result Output SlabAnswer) (call : Call) (bytes : List ℕ) (read : HasRead volume_limit call.streams.input call.streams.input_after bytes) where
  whole : ReadWhole volume_limit call.streams
  whole = record { ended = read.all.end; within = of_whole (λ all. length all ≤ volume_limit) call.streams.input.left bytes read.all.whole read.within }

  refuses : (a : SlabAnswer) → (given bytes ≡ Err a) × (call.store_after ≡ call.store) × (call.streams.output_after ≡ call.streams.output) → Refuses given call a
  refuses a h = record {
    read = whole;
    reason = of_whole (λ all. given all ≡ Err a) call.streams.input.left bytes read.all.whole h.0;
    nothing = record { output = h.2; shelf = h.1 };
  }

  pub serves : (a : SlabAnswer) → GivesOutput (given bytes) call.store call.store_after call.streams.output call.streams.output_after a → Serves given call a
  serves (Common answers.Done) h = record { bytes = bytes; output = h.0; read = read; gives = h.1; files = h.2; line = record { gained = h.3.0; beside = h.3.1 } }
  serves (Common answers.OutputFault) h = record { bytes = bytes; output = h.0; read = read; gives = h.1; files = h.2; line = record { cause = h.3.0; gained = h.3.1; beside = h.3.2 } }
  serves (Common answers.ShelfFault) h = record { bytes = bytes; output = h.0; read = read; gives = h.1; cut = h.2; cause = h.3; nothing = h.4 }
  serves (Common (answers.BadVolume fault)) h = refuses (Common (answers.BadVolume fault)) h
  serves (Thin slices) h = refuses (Thin slices) h
  serves (Numbers largest) h = refuses (Numbers largest) h
  serves (Common answers.Memory) h = record { output = h.1; shelf = h.0 }
  serves (Common answers.MeshRefused) h = absurd h
  serves (Common answers.BadWords) h = absurd h
  serves (Common answers.InputFault) h = absurd h
  serves (Common answers.InputTooLong) h = absurd h
  serves (Common (answers.BadMesh fault)) h = absurd h

-- ---- it was not

-- what is no volume for any command is no slab
no_slab : (slab : Slab) (read : Result (Voxels × ℕ) NrrdFault) (fault : VolumeFault) → volumes.of_read None slab.level read ≡ Err fault → of_read slab read ≡ Err (refused fault)
no_slab slab (Ok read) fault e = absurd cc
no_slab slab (Err other) fault e = cc

no_part : (slab : Slab) (bytes : List ℕ) (fault : VolumeFault) → volume_of None slab.level bytes ≡ Err fault → part_of slab bytes ≡ Err (refused fault)
unfolding part_of volume_of
no_part slab bytes fault e = no_slab slab (nrrd_of bytes) fault e

pub not_held : (job : SlabJob) (call : Call) (a : Answer) → NothingMade call → HoldsNone None job.slab.level call.streams.input call.streams.input_after a → Serves (slab_given job) call (Common a)
not_held job call answers.InputFault nothing h = (h, nothing)
not_held job call answers.InputTooLong nothing h = (h, nothing)
not_held job call (answers.BadVolume fault) nothing h = record {
  read = record {
    ended = h.0;
    within = if_told (λ bytes. (length bytes ≤ volume_limit) × (volume_of None job.slab.level bytes ≡ Err fault)) (λ bytes. length bytes ≤ volume_limit) call.streams.input.left (λ bytes e. e.0) h.1;
  };
  reason = if_told (λ bytes. (length bytes ≤ volume_limit) × (volume_of None job.slab.level bytes ≡ Err fault)) (λ bytes. slab_given job bytes ≡ Err (Common (answers.BadVolume fault)))
      call.streams.input.left (λ bytes e. ap (output_by job) (no_part job.slab bytes fault e.1)) h.1;
  nothing = nothing;
}
not_held job call answers.Memory nothing h = nothing
not_held job call answers.Done nothing h = absurd h
not_held job call answers.MeshRefused nothing h = absurd h
not_held job call answers.BadWords nothing h = absurd h
not_held job call answers.OutputFault nothing h = absurd h
not_held job call answers.ShelfFault nothing h = absurd h
not_held job call (answers.BadMesh fault) nothing h = absurd h
