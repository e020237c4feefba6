use Rattle.std.proofs.Common.{◌≡◌, ◌∙◌, ap, refl, sym, subst}
use Rattle.iso_base.specs.Volume.{unpadded}
use Rattle.iso_base.proofs.VolumeLaws.{unpadded_is}
use Rattle.nrrd_read.specs.Files.{IsRead, file_voxels}
use Rattle.nrrd_read.specs.Nrrd.{nrrd_of, Fails}
use Rattle.commands.specs.Headline.{mesh_given}
use Rattle.command_terms.specs.Outcome.{WritesGiven}
use Rattle.command_terms.specs.Volumes.{volume_answer, volume_refusal}
use Rattle.command_terms.proofs.ReadVolumes.{no_volume}
use Rattle.commands.proofs.Written.{done_watertight, of_read, refused}
use Rattle.commands.proofs.extracting.extract_bytes.Goals as goal

pub returns-in-Ok-Raw-default-clause-text : goal.returns-in-Ok-Raw-default-clause-text
returns-in-Ok-Raw-default-clause-text g c =
    let bytes = c.args.bytes.items in
    let v = unpadded c.in-Ok-Raw-default.raw in
    let read : IsRead bytes v = (
      (file_voxels c.in-Ok-Raw-default.field-0-0, c.in-Ok-Raw-default.field-0-1),
      ap nrrd_of (sym c.deref.ensures.value) ∙ c.in-Ok-Raw-default.ensures,
      sym (ap (λ volume. unpadded (file_voxels volume)) c.in-Ok-Raw-default.field-0-0-is),
    ) in
    of_read c.args.asked.level c.args.asked.pad c.args.asked.format bytes v (g.K.Sink.seen c.args.output.now) (g.K.Sink.seen c.extract_raw.new.output) c.extract_raw.result
    read c.extract_raw.ensures.text

pub returns-in-Ok-Raw-default-clause-surface : goal.returns-in-Ok-Raw-default-clause-surface
returns-in-Ok-Raw-default-clause-surface g c =
    let bytes = c.args.bytes.items in
    let v = unpadded c.in-Ok-Raw-default.raw in
    let read : IsRead bytes v = (
      (file_voxels c.in-Ok-Raw-default.field-0-0, c.in-Ok-Raw-default.field-0-1),
      ap nrrd_of (sym c.deref.ensures.value) ∙ c.in-Ok-Raw-default.ensures,
      sym (ap (λ volume. unpadded (file_voxels volume)) c.in-Ok-Raw-default.field-0-0-is),
    ) in
    done_watertight c.args.asked.level c.args.asked.pad c.args.asked.format bytes v (g.K.Sink.seen c.args.output.now) (g.K.Sink.seen c.extract_raw.new.output) c.extract_raw.result
    read (unpadded_is c.in-Ok-Raw-default.raw c.extract_raw.ensures.voxels) refl c.requires c.extract_raw.ensures.text

pub returns-in-Err-clause-text : goal.returns-in-Err-clause-text
returns-in-Err-clause-text g c =
    let bytes = c.args.bytes.items in
    let tape = g.K.Sink.seen c.args.output.now in
    let answer : c.from-in-Err.result ≡ volume_answer (volume_refusal c.in-Err.fault) = c.from-in-Err.ensures ∙ ap volume_answer c.from.ensures in
    subst (WritesGiven (mesh_given c.args.asked.level c.args.asked.pad c.args.asked.format bytes) tape tape) (sym answer)
    (refused c.args.asked.level c.args.asked.pad c.args.asked.format bytes tape (volume_refusal c.in-Err.fault)
    (no_volume c.args.asked.pad c.args.asked.level bytes c.in-Err.fault (subst (λ bytes. Fails c.in-Err.fault (nrrd_of bytes)) c.deref.ensures.value c.in-Err.ensures)))

pub returns-clause-text : goal.returns-clause-text
returns-clause-text g c =
    let bytes = c.args.bytes.items in
    let v = unpadded c.raw.result in
    let read : IsRead bytes v = (
      (file_voxels c.in-Ok-Read-default.field-0-0, c.in-Ok-Read-default.field-0-1),
      ap nrrd_of (sym c.deref.ensures.value) ∙ c.in-Ok-Read-default.ensures,
      ap unpadded c.raw.ensures ∙ sym (ap (λ volume. unpadded (file_voxels volume)) c.in-Ok-Read-default.field-0-0-is),
    ) in
    of_read c.args.asked.level c.args.asked.pad c.args.asked.format bytes v (g.K.Sink.seen c.args.output.now) (g.K.Sink.seen c.extract_raw-2.new.output) c.extract_raw-2.result
    read c.extract_raw-2.ensures.text

pub returns-clause-surface : goal.returns-clause-surface
returns-clause-surface g c =
    let bytes = c.args.bytes.items in
    let v = unpadded c.raw.result in
    let read : IsRead bytes v = (
      (file_voxels c.in-Ok-Read-default.field-0-0, c.in-Ok-Read-default.field-0-1),
      ap nrrd_of (sym c.deref.ensures.value) ∙ c.in-Ok-Read-default.ensures,
      ap unpadded c.raw.ensures ∙ sym (ap (λ volume. unpadded (file_voxels volume)) c.in-Ok-Read-default.field-0-0-is),
    ) in
    done_watertight c.args.asked.level c.args.asked.pad c.args.asked.format bytes v (g.K.Sink.seen c.args.output.now) (g.K.Sink.seen c.extract_raw-2.new.output) c.extract_raw-2.result
    read (unpadded_is c.raw.result c.extract_raw-2.ensures.voxels) refl c.requires c.extract_raw-2.ensures.text
