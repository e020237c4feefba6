-- What was written, by the answer.
use Rattle.std.proofs.Common.{◌≡◌, ℕ, ◌≤◌, List, length, None, Ok, Err, refl, sym, ap, subst, ℤ}
use Rattle.std.specs.Prelude.{IfSome, Option, Result}
use Rattle.std.specs.Io.KnownBytes.{Appends}
use Rattle.iso_base.specs.Volume.{IsVolume, Volume, IsSample}
use Rattle.byte_streams.specs.Seen.{Tape}
use Rattle.mesh_text.specs.declared.format.TwoWayFormat.{TwoWayFormat}
use Rattle.bench_core.specs.Surface.{IsWatertight}
use Rattle.command_terms.specs.Volumes.{text_by, HoldsNone, IsNoVolume, volume_answer, volume_limit, volume_of, with_pad}
use Rattle.commands.specs.Headline.{WritesWatertight, mesh_given, mesh_in, text_of_volume}
use Rattle.commands.specs.Volumes.{IsNotTaken}
use Rattle.commands.proofs.Taken.{given_of, taken_watertight}
use Rattle.nrrd_read.specs.Files.{IsRead}
use Rattle.command_terms.proofs.ReadVolumes.{read_volume}
use Rattle.command_terms.specs.Outcome.{HasRead, Converts, ReadWhole, Streams, WritesGiven}
use Rattle.command_terms.specs.declared.reasons.NoVolume.{NoVolume}
use Rattle.command_terms.specs.declared.reasons.NoVolume.TheVariants as reasons
use Rattle.command_terms.proofs.Told.{if_told, of_whole}
use Rattle.program.specs.declared.answer.VolumeFault.{VolumeFault}
use Rattle.program.specs.declared.answer.Answer.{Answer}
use Rattle.program.specs.declared.answer.Answer.TheVariants as answers

-- where the input was read whole, the command converts it
whole_of : (call : Streams) (bytes : List ℕ) → HasRead volume_limit call.input call.input_after bytes → ReadWhole volume_limit call
whole_of call bytes read = record { ended = read.all.end; within = of_whole (λ all. length all ≤ volume_limit) call.input.left bytes read.all.whole read.within }

pub converts : (given : List ℕ → Result (List ℕ) VolumeFault) (call : Streams) (bytes : List ℕ) (a : Answer) → HasRead volume_limit call.input call.input_after bytes
    → WritesGiven (given bytes) call.output call.output_after a → Converts given call a
converts given call bytes answers.Done read h = (bytes, h.0, read, h.1, record { gained = h.2; beside = h.3 })
converts given call bytes answers.OutputFault read h = (bytes, h.0, read, h.1, record { cause = h.2; gained = h.3; beside = h.4 })
converts given call bytes (answers.BadVolume fault) read h =
    (whole_of call bytes read, of_whole (λ all. given all ≡ Err fault) call.input.left bytes read.all.whole h.0, h.1)
converts given call bytes answers.Memory read h = h
converts given call bytes answers.MeshRefused read h = absurd h
converts given call bytes answers.BadWords read h = absurd h
converts given call bytes answers.InputFault read h = absurd h
converts given call bytes answers.InputTooLong read h = absurd h
converts given call bytes answers.ShelfFault read h = absurd h
converts given call bytes (answers.BadMesh fault) read h = absurd h

-- a refusal writes nothing
pub refused : (level : ℤ) (pad : Option ℤ) (format : TwoWayFormat) (bytes : List ℕ) (tape : Tape) (reason : NoVolume) → IsNoVolume pad level bytes reason
    → WritesGiven (mesh_given level pad format bytes) tape tape (volume_answer reason)
refused level pad format bytes tape (reasons.Refused fault) h = (ap (text_by (text_of_volume format level)) h, refl)
refused level pad format bytes tape reasons.Memory h = refl

-- and is no end of a command that was carried out
pub not_done : (reason : NoVolume) → volume_answer reason ≡ answers.Done → ⊥
not_done (reasons.Refused fault) e = absurd cc
not_done reasons.Memory e = absurd cc

-- nor does a refusal of a volume that was read
pub refused_in : (level : ℤ) (pad : Option ℤ) (format : TwoWayFormat) (v : Volume) (tape : Tape) (reason : NoVolume) → IsNotTaken pad level v reason
    → WritesGiven (mesh_in level pad format v) tape tape (volume_answer reason)
refused_in level pad format v tape (reasons.Refused fault) h = (ap (text_by (text_of_volume format level)) h, refl)
refused_in level pad format v tape reasons.Memory h = refl

-- what is written of a volume that was read is what its bytes give
pub of_read : (level : ℤ) (pad : Option ℤ) (format : TwoWayFormat) (bytes : List ℕ) (v : Volume) (old new : Tape) (a : Answer)
    → IsRead bytes v → WritesGiven (mesh_in level pad format v) old new a → WritesGiven (mesh_given level pad format bytes) old new a
of_read level pad format bytes v old new a read h =
    subst (λ given. WritesGiven given old new a) (sym (ap (text_by (text_of_volume format level)) (read_volume pad level bytes v (with_pad pad level v) read refl))) h

-- and its mesh is watertight, where it was written
pub done_watertight : (level : ℤ) (pad : Option ℤ) (format : TwoWayFormat) (bytes : List ℕ) (v : Volume) (old new : Tape) (a : Answer)
    → IsRead bytes v → IsVolume v → v.pad ≡ None → IfSome pad IsSample → WritesGiven (mesh_in level pad format v) old new a → a ≡ answers.Done
    → (w : Volume) × (volume_of pad level bytes ≡ Ok w) × IsWatertight w level
done_watertight level pad format bytes v old new a read is none range h done =
    let w = subst (WritesGiven (mesh_in level pad format v) old new) done h in
    let m = given_of (text_of_volume format level) (with_pad pad level v) w.0 w.1 in
    (m.0, read_volume pad level bytes v (Ok m.0) read m.1, taken_watertight pad level v m.0 is none range m.1)

-- where there is no volume in the input nothing is written
pub not_held : (level : ℤ) (pad : Option ℤ) (format : TwoWayFormat) (call : Streams) (a : Answer) → call.output_after ≡ call.output
    → HoldsNone pad level call.input call.input_after a → Converts (mesh_given level pad format) call a
not_held level pad format call answers.InputFault same h = (h, same)
not_held level pad format call answers.InputTooLong same h = (h, same)
not_held level pad format call (answers.BadVolume fault) same h = (
  record {
    ended = h.0;
    within = if_told (λ bytes. (length bytes ≤ volume_limit) × (volume_of pad level bytes ≡ Err fault)) (λ bytes. length bytes ≤ volume_limit) call.input.left (λ bytes e. e.0) h.1;
  },
  if_told (λ bytes. (length bytes ≤ volume_limit) × (volume_of pad level bytes ≡ Err fault)) (λ bytes. mesh_given level pad format bytes ≡ Err fault) call.input.left
      (λ bytes e. ap (text_by (text_of_volume format level)) e.1) h.1,
  same,
)
not_held level pad format call answers.Memory same h = same
not_held level pad format call answers.Done same h = absurd h
not_held level pad format call answers.MeshRefused same h = absurd h
not_held level pad format call answers.BadWords same h = absurd h
not_held level pad format call answers.OutputFault same h = absurd h
not_held level pad format call answers.ShelfFault same h = absurd h
not_held level pad format call (answers.BadMesh fault) same h = absurd h

-- which is no end of a command that was carried out
pub not_held_done : (level : ℤ) (pad : Option ℤ) (call : Streams) (a : Answer) → HoldsNone pad level call.input call.input_after a → a ≡ answers.Done → ⊥
not_held_done level pad call a h e = subst (HoldsNone pad level call.input call.input_after) e h

-- the text that was written is that of the watertight mesh
one_text : (one other : List ℕ) (given : Result (List ℕ) VolumeFault) → given ≡ Ok one → given ≡ Ok other → one ≡ other
one_text one other given e f = cc

same_text : (level : ℤ) (pad : Option ℤ) (format : TwoWayFormat) (bytes text : List ℕ) (v : Volume) → volume_of pad level bytes ≡ Ok v → mesh_given level pad format bytes ≡ Ok text → text ≡ text_of_volume format level v
same_text level pad format bytes text v holds given =
    one_text text (text_of_volume format level v) (mesh_given level pad format bytes) given (ap (text_by (text_of_volume format level)) holds)

pub shows : (level : ℤ) (pad : Option ℤ) (format : TwoWayFormat) (call : Streams) (bytes : List ℕ) (a : Answer) → HasRead volume_limit call.input call.input_after bytes
    → WritesGiven (mesh_given level pad format bytes) call.output call.output_after a → (a ≡ answers.Done → (v : Volume) × (volume_of pad level bytes ≡ Ok v) × IsWatertight v level)
    → a ≡ answers.Done → WritesWatertight level pad format call
shows level pad format call bytes a read h mesh done =
    let w = subst (WritesGiven (mesh_given level pad format bytes) call.output call.output_after) done h in
    let m = mesh done in
    record {
      bytes = bytes;
      read = read;
      volume = m.0;
      holds = m.1;
      writes = record { gained = subst (Appends call.output.taken call.output_after.taken) (same_text level pad format bytes w.0 m.0 m.1 w.1) w.2; beside = w.3 };
      watertight = m.2;
    }
