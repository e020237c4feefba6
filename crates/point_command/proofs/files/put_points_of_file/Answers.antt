use Rattle.std.proofs.Common.{◌∙◌, ap, subst, sym}
use Rattle.iso_base.specs.Volume.{Voxels}
use Rattle.byte_streams.specs.Seen.{Puts}
use Rattle.nrrd_read.specs.Files.{file_voxels}
use Rattle.nrrd_read.specs.Nrrd.{nrrd_of}
use Rattle.point_command.specs.Texts.{text_of}
use Rattle.point_command.proofs.files.put_points_of_file.Goals as goal

pub returns-in-Raw-clause-text : goal.returns-in-Raw-clause-text
returns-in-Raw-clause-text g c = (
  (file_voxels c.in_ok-volume.volume, c.in_ok-volume.field-0-1),
  ap nrrd_of (sym c.deref.ensures.value) ∙ c.in_ok-volume.ensures,
  subst (λ (v : Voxels). Puts (g.K.Sink.seen c.args.sink.now) (g.K.Sink.seen c.put_points_of_raw.new.sink) c.in_ok-put_points_of_raw-in-Raw.field-0 (text_of v c.args.level))
      (sym (ap file_voxels c.in-Raw.is)) c.in_ok-put_points_of_raw-in-Raw.ensures.text,
)

pub returns-clause-text : goal.returns-clause-text
returns-clause-text g c = (
  (file_voxels c.in_ok-volume.volume, c.in_ok-volume.field-0-1),
  ap nrrd_of (sym c.deref.ensures.value) ∙ c.in_ok-volume.ensures,
  subst (λ (v : Voxels). Puts (g.K.Sink.seen c.args.sink.now) (g.K.Sink.seen c.put_points_of_raw-2.new.sink) c.in_ok-put_points_of_raw.field-0 (text_of v c.args.level))
      (c.raw.ensures ∙ sym (ap file_voxels c.in-Read.is)) c.in_ok-put_points_of_raw.ensures.text,
)
