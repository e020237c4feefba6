-- The points of the volume in a file, and their text.
use Rattle.std.proofs.Common.{◌≡◌, ℕ, List, None, Ok, refl, ap, ◌∙◌, ℤ}
use Rattle.iso_base.specs.Volume.{Voxels, unpadded}
use Rattle.nrrd_read.specs.Nrrd.{nrrd_of}
use Rattle.point_command.specs.Texts.{text_of}
use Rattle.command_terms.specs.Volumes.{text_by}
use Rattle.command_terms.proofs.ReadVolumes.{read_volume}
use Rattle.point_command.specs.Meaning.{points_given, points_of}

text_is : (v : Voxels) (level : ℤ) → points_of level (unpadded v) ≡ text_of v level
unfolding points_of
text_is v level = refl

-- it is what `points` gives
pub gives_text : (bytes : List ℕ) (level : ℤ) (read : Voxels × ℕ) → nrrd_of bytes ≡ Ok read → points_given level bytes ≡ Ok (text_of read.0 level)
gives_text bytes level read is =
    let v = unpadded read.0 in
    ap (text_by (points_of level)) (read_volume None level bytes v (Ok v) (read, is, refl) refl) ∙ ap Ok (text_is read.0 level)
