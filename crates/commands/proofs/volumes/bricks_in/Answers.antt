use Rattle.std.proofs.Common.{◌∙◌, ap, sym, subst}
use Rattle.iso_base.specs.Volume.{unpadded}
use Rattle.nrrd_read.specs.Files.{IsRead, file_voxels}
use Rattle.nrrd_read.specs.Nrrd.{nrrd_of, Fails}
use Rattle.command_terms.specs.Volumes.{IsNoVolume}
use Rattle.command_terms.proofs.ReadVolumes.{no_volume}
use Rattle.commands.proofs.Taken.{if_not_taken, if_taken}
use Rattle.commands.proofs.volumes.bricks_in.Goals as goal

pub returns-in-Ok-Raw-default-clause-volume : goal.returns-in-Ok-Raw-default-clause-volume
returns-in-Ok-Raw-default-clause-volume c =
    let bytes = c.args.bytes.items in
    let v = unpadded c.in-Ok-Raw-default.raw in
    let read : IsRead bytes v = (
      (file_voxels c.in-Ok-Raw-default.field-0-0, c.in-Ok-Raw-default.field-0-1),
      ap nrrd_of (sym c.deref.ensures.value) ∙ c.in-Ok-Raw-default.ensures,
      sym (ap (λ volume. unpadded (file_voxels volume)) c.in-Ok-Raw-default.field-0-0-is),
    ) in
    if_taken c.args.pad c.args.level bytes v read c.bricks_of_raw.result c.bricks_of_raw.ensures.volume

pub returns-in-Ok-Raw-default-clause-fault : goal.returns-in-Ok-Raw-default-clause-fault
returns-in-Ok-Raw-default-clause-fault c =
    let bytes = c.args.bytes.items in
    let v = unpadded c.in-Ok-Raw-default.raw in
    let read : IsRead bytes v = (
      (file_voxels c.in-Ok-Raw-default.field-0-0, c.in-Ok-Raw-default.field-0-1),
      ap nrrd_of (sym c.deref.ensures.value) ∙ c.in-Ok-Raw-default.ensures,
      sym (ap (λ volume. unpadded (file_voxels volume)) c.in-Ok-Raw-default.field-0-0-is),
    ) in
    if_not_taken c.args.pad c.args.level bytes v read c.bricks_of_raw.result c.bricks_of_raw.ensures.fault

pub returns-in-Err-clause-fault : goal.returns-in-Err-clause-fault
returns-in-Err-clause-fault c =
    subst (IsNoVolume c.args.pad c.args.level c.args.bytes.items) (sym c.from.ensures)
    (no_volume c.args.pad c.args.level c.args.bytes.items c.in-Err.fault (subst (λ bytes. Fails c.in-Err.fault (nrrd_of bytes)) c.deref.ensures.value c.in-Err.ensures))

pub returns-clause-volume : goal.returns-clause-volume
returns-clause-volume c =
    let bytes = c.args.bytes.items in
    let v = unpadded c.raw.result in
    let read : IsRead bytes v = (
      (file_voxels c.in-Ok-Read-default.field-0-0, c.in-Ok-Read-default.field-0-1),
      ap nrrd_of (sym c.deref.ensures.value) ∙ c.in-Ok-Read-default.ensures,
      ap unpadded c.raw.ensures ∙ sym (ap (λ volume. unpadded (file_voxels volume)) c.in-Ok-Read-default.field-0-0-is),
    ) in
    if_taken c.args.pad c.args.level bytes v read c.bricks_of_raw-2.result c.bricks_of_raw-2.ensures.volume

pub returns-clause-fault : goal.returns-clause-fault
returns-clause-fault c =
    let bytes = c.args.bytes.items in
    let v = unpadded c.raw.result in
    let read : IsRead bytes v = (
      (file_voxels c.in-Ok-Read-default.field-0-0, c.in-Ok-Read-default.field-0-1),
      ap nrrd_of (sym c.deref.ensures.value) ∙ c.in-Ok-Read-default.ensures,
      ap unpadded c.raw.ensures ∙ sym (ap (λ volume. unpadded (file_voxels volume)) c.in-Ok-Read-default.field-0-0-is),
    ) in
    if_not_taken c.args.pad c.args.level bytes v read c.bricks_of_raw-2.result c.bricks_of_raw-2.ensures.fault
