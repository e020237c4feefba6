-- Which answers have a status.
use Rattle.std.proofs.Common.{◌≡◌, ◌⊎◌, refl, sym, ◌∙◌, inl, inr}
use Rattle.program.specs.Status.{mesh_status, nrrd_status, status_of, volume_status}
use Rattle.program.specs.declared.answer.VolumeFault.{VolumeFault}
use Rattle.program.specs.declared.answer.VolumeFault.TheVariants as volume_faults
use Rattle.refusals.specs.declared.nrrd.NrrdFault.{NrrdFault}
use Rattle.refusals.specs.declared.nrrd.NrrdFault.TheVariants as nrrd_faults
use Rattle.refusals.specs.declared.mesh.MeshFault.{MeshFault}
use Rattle.refusals.specs.declared.mesh.MeshFault.TheVariants as mesh_faults
use Rattle.program.specs.declared.answer.Answer.{Answer}
use Rattle.program.specs.declared.answer.Answer.TheVariants as answers
use Rattle.program.specs.declared.answer.Status.{Status}
use Rattle.program.specs.declared.answer.Status.TheVariants as statuses

mesh_two : (f : MeshFault) → (mesh_status f ≡ statuses.BadMesh) ⊎ (mesh_status f ≡ statuses.Memory)
mesh_two mesh_faults.NotMesh = inl refl
mesh_two mesh_faults.BinaryPly = inl refl
mesh_two (mesh_faults.BadHeader line) = inl refl
mesh_two (mesh_faults.BadNumber line) = inl refl
mesh_two (mesh_faults.NotTriangle line) = inl refl
mesh_two (mesh_faults.IndexOutside line) = inl refl
mesh_two (mesh_faults.ShortMesh needed present) = inl refl
mesh_two (mesh_faults.TooMany n) = inl refl
mesh_two mesh_faults.Memory = inr refl

nrrd_two : (f : NrrdFault) → (nrrd_status f ≡ statuses.BadVolume) ⊎ (nrrd_status f ≡ statuses.Memory)
nrrd_two nrrd_faults.NotNrrd = inl refl
nrrd_two (nrrd_faults.HeaderTooLong n) = inl refl
nrrd_two (nrrd_faults.BadLine line) = inl refl
nrrd_two (nrrd_faults.RepeatedField field) = inl refl
nrrd_two (nrrd_faults.MissingField field) = inl refl
nrrd_two (nrrd_faults.BadValue field) = inl refl
nrrd_two nrrd_faults.UnsupportedKind = inl refl
nrrd_two (nrrd_faults.UnsupportedEncoding word) = inl refl
nrrd_two (nrrd_faults.Detached line) = inl refl
nrrd_two (nrrd_faults.SkipUnsupported field) = inl refl
nrrd_two (nrrd_faults.NotThreeAxes n) = inl refl
nrrd_two (nrrd_faults.Size fault) = inl refl
nrrd_two nrrd_faults.NoEndian = inl refl
nrrd_two (nrrd_faults.ShortSamples needed present) = inl refl
nrrd_two nrrd_faults.Memory = inr refl
nrrd_two (nrrd_faults.BadSample place) = inl refl

volume_two : (f : VolumeFault) → (volume_status f ≡ statuses.BadVolume) ⊎ (volume_status f ≡ statuses.Memory)
volume_two (volume_faults.Nrrd fault) = nrrd_two fault
volume_two (volume_faults.Pad fault) = inl refl
volume_two (volume_faults.LevelNotAbovePad level pad) = inl refl

neither : (s t u v : Status) → (s ≡ t) ⊎ (s ≡ u) → s ≡ v → (t ≡ v → ⊥) → (u ≡ v → ⊥) → ⊥
neither s t u v (inl e) f not_t not_u = not_t (sym e ∙ f)
neither s t u v (inr e) f not_t not_u = not_u (sym e ∙ f)

pub is_done : (a : Answer) → status_of a ≡ statuses.Done → a ≡ answers.Done
is_done answers.Done e = refl
is_done answers.MeshRefused e = absurd cc
is_done answers.BadWords e = absurd cc
is_done (answers.BadVolume f) e = absurd (neither (volume_status f) statuses.BadVolume statuses.Memory statuses.Done (volume_two f) e (λ x. absurd cc) (λ x. absurd cc))
is_done answers.InputFault e = absurd cc
is_done answers.InputTooLong e = absurd cc
is_done answers.OutputFault e = absurd cc
is_done answers.Memory e = absurd cc
is_done answers.ShelfFault e = absurd cc
is_done (answers.BadMesh f) e = absurd (neither (mesh_status f) statuses.BadMesh statuses.Memory statuses.Done (mesh_two f) e (λ x. absurd cc) (λ x. absurd cc))

pub is_mesh_refused : (a : Answer) → status_of a ≡ statuses.MeshRefused → a ≡ answers.MeshRefused
is_mesh_refused answers.Done e = absurd cc
is_mesh_refused answers.MeshRefused e = refl
is_mesh_refused answers.BadWords e = absurd cc
is_mesh_refused (answers.BadVolume f) e = absurd (neither (volume_status f) statuses.BadVolume statuses.Memory statuses.MeshRefused (volume_two f) e (λ x. absurd cc) (λ x. absurd cc))
is_mesh_refused answers.InputFault e = absurd cc
is_mesh_refused answers.InputTooLong e = absurd cc
is_mesh_refused answers.OutputFault e = absurd cc
is_mesh_refused answers.Memory e = absurd cc
is_mesh_refused answers.ShelfFault e = absurd cc
is_mesh_refused (answers.BadMesh f) e = absurd (neither (mesh_status f) statuses.BadMesh statuses.Memory statuses.MeshRefused (mesh_two f) e (λ x. absurd cc) (λ x. absurd cc))

pub is_too_long : (a : Answer) → status_of a ≡ statuses.InputTooLong → a ≡ answers.InputTooLong
is_too_long answers.Done e = absurd cc
is_too_long answers.MeshRefused e = absurd cc
is_too_long answers.BadWords e = absurd cc
is_too_long (answers.BadVolume f) e = absurd (neither (volume_status f) statuses.BadVolume statuses.Memory statuses.InputTooLong (volume_two f) e (λ x. absurd cc) (λ x. absurd cc))
is_too_long answers.InputFault e = absurd cc
is_too_long answers.InputTooLong e = refl
is_too_long answers.OutputFault e = absurd cc
is_too_long answers.Memory e = absurd cc
is_too_long answers.ShelfFault e = absurd cc
is_too_long (answers.BadMesh f) e = absurd (neither (mesh_status f) statuses.BadMesh statuses.Memory statuses.InputTooLong (mesh_two f) e (λ x. absurd cc) (λ x. absurd cc))

pub is_shelf_fault : (a : Answer) → status_of a ≡ statuses.ShelfFault → a ≡ answers.ShelfFault
is_shelf_fault answers.Done e = absurd cc
is_shelf_fault answers.MeshRefused e = absurd cc
is_shelf_fault answers.BadWords e = absurd cc
is_shelf_fault (answers.BadVolume f) e = absurd (neither (volume_status f) statuses.BadVolume statuses.Memory statuses.ShelfFault (volume_two f) e (λ x. absurd cc) (λ x. absurd cc))
is_shelf_fault answers.InputFault e = absurd cc
is_shelf_fault answers.InputTooLong e = absurd cc
is_shelf_fault answers.OutputFault e = absurd cc
is_shelf_fault answers.Memory e = absurd cc
is_shelf_fault answers.ShelfFault e = refl
is_shelf_fault (answers.BadMesh f) e = absurd (neither (mesh_status f) statuses.BadMesh statuses.Memory statuses.ShelfFault (mesh_two f) e (λ x. absurd cc) (λ x. absurd cc))

pub is_bad_volume : (a : Answer) → status_of a ≡ statuses.BadVolume → (f : VolumeFault) × (a ≡ answers.BadVolume f)
is_bad_volume answers.Done e = absurd cc
is_bad_volume answers.MeshRefused e = absurd cc
is_bad_volume answers.BadWords e = absurd cc
is_bad_volume (answers.BadVolume f) e = (f, refl)
is_bad_volume answers.InputFault e = absurd cc
is_bad_volume answers.InputTooLong e = absurd cc
is_bad_volume answers.OutputFault e = absurd cc
is_bad_volume answers.Memory e = absurd cc
is_bad_volume answers.ShelfFault e = absurd cc
is_bad_volume (answers.BadMesh f) e = absurd (neither (mesh_status f) statuses.BadMesh statuses.Memory statuses.BadVolume (mesh_two f) e (λ x. absurd cc) (λ x. absurd cc))

pub is_bad_mesh : (a : Answer) → status_of a ≡ statuses.BadMesh → (f : MeshFault) × (a ≡ answers.BadMesh f)
is_bad_mesh answers.Done e = absurd cc
is_bad_mesh answers.MeshRefused e = absurd cc
is_bad_mesh answers.BadWords e = absurd cc
is_bad_mesh (answers.BadVolume f) e = absurd (neither (volume_status f) statuses.BadVolume statuses.Memory statuses.BadMesh (volume_two f) e (λ x. absurd cc) (λ x. absurd cc))
is_bad_mesh answers.InputFault e = absurd cc
is_bad_mesh answers.InputTooLong e = absurd cc
is_bad_mesh answers.OutputFault e = absurd cc
is_bad_mesh answers.Memory e = absurd cc
is_bad_mesh answers.ShelfFault e = absurd cc
is_bad_mesh (answers.BadMesh f) e = (f, refl)
