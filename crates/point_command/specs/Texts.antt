-- The points of a volume in its file, as a text.
use Rattle.std.specs.Prelude.{◌≡◌, ℕ, List, ℤ, Ok, Result}
use Rattle.iso_defs.specs.Texts.{points_text}
use Rattle.iso_base.specs.Volume.{field, Voxels}
use Rattle.byte_streams.specs.Seen.{Puts, Tape}
use Rattle.nrrd_read.specs.Nrrd.{nrrd_of}
use Rattle.point_command.specs.Edges.{edge_points}

-- the text of the vertices on the crossing edges of a volume at a level
abbrev pub text_of : Voxels → ℤ → List ℕ
text_of v level = points_text (edge_points v.grid (field v.samples level))

-- that of the volume in a file was put, or a front of it
abbrev pub PutsPointsOf : {T E : Type 0} → List ℕ → ℤ → Tape → Tape → Result T E → Type 0
PutsPointsOf bytes level old new written = (read : Voxels × ℕ) × (nrrd_of bytes ≡ Ok read)
    × Puts old new written (text_of read.0 level)
