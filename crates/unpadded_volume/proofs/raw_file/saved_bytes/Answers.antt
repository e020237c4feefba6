use Rattle.std.proofs.Common.{◌∙◌, sym, ap}
use Rattle.iso_defs.specs.Grid.{point_count}
use Rattle.unpadded_volume.specs.Unpadded.{inner_samples, saved_text}
use Rattle.unpadded_volume.proofs.InnerSamples.{length-inner_samples}
use Rattle.unpadded_volume.proofs.raw_file.saved_bytes.Goals as goal

pub returns : goal.returns
unfolding saved_text
returns c =
    rw (c.requires, c.kind.ensures) at (c.volume_bytes.ensures (inner_samples c.args.store.now) (length-inner_samples c.args.store.now ∙ ap point_count (sym c.requires)))
