-- The headline, where a mesh is extracted.
use Rattle.std.specs.Prelude.{ℕ, Bool, List, Option, Result, is_some, ℤ, ◌≡◌, Ok}
use Rattle.iso_defs.specs.Scratch.{vertices}
use Rattle.iso_defs.specs.Texts.{obj_text, ply_text}
use Rattle.iso_base.specs.Volume.{Volume, field}
use Rattle.command_terms.specs.Volumes.{text_by, volume_of, with_pad, volume_limit}
use Rattle.program.specs.declared.answer.VolumeFault.{VolumeFault}
use Rattle.mesh_lines.specs.Origins.{origin_of}
use Rattle.mesh_lines.specs.declared.style.Style.{Style}
use Rattle.mesh_text.specs.Formats.{mesh_format}
use Rattle.mesh_text.specs.declared.format.TwoWayFormat.{TwoWayFormat}
use Rattle.mesh_text.specs.declared.format.TwoWayFormat.TheVariants.{Ply, Obj}
use Rattle.bench_core.specs.Surface.{IsWatertight, mesh_triangles}
use Rattle.command_terms.specs.Outcome.{HasRead, Streams, Writes}

-- the text of the mesh of a volume at a level, from scratch
abbrev pub text_of_volume : TwoWayFormat → ℤ → Volume → List ℕ
text_of_volume Ply level v =
    ply_text (is_some v.pad) (vertices v.grid (field v.samples level)) (mesh_triangles v level)
text_of_volume Obj level v =
    obj_text (is_some v.pad) (vertices v.grid (field v.samples level)) (mesh_triangles v level)

-- what `extract` gives
abbrev pub mesh_given : ℤ → Option ℤ → TwoWayFormat → List ℕ → Result (List ℕ) VolumeFault
mesh_given level pad format bytes = text_by (text_of_volume format level) (volume_of pad level bytes)

-- what it gives for a volume that was read
abbrev pub mesh_in : ℤ → Option ℤ → TwoWayFormat → Volume → Result (List ℕ) VolumeFault
mesh_in level pad format v = text_by (text_of_volume format level) (with_pad pad level v)

-- how a mesh is written: in a format, and with a pad or without one
abbrev pub style_of : TwoWayFormat → Bool → Style
style_of format padded = record { format = mesh_format format; origin = origin_of padded }

-- The text of the mesh of the volume in the input was written, and that mesh is watertight. Where the input does not tell its
-- bytes, the volume is that of some bytes.
pub record WritesWatertight (level : ℤ) (pad : Option ℤ) (format : TwoWayFormat) (call : Streams) : Type 0 where
  pub bytes : List ℕ
  pub read : HasRead volume_limit call.input call.input_after bytes
  pub volume : Volume
  pub holds : volume_of pad level bytes ≡ Ok volume
  pub writes : Writes call (text_of_volume format level volume)
  pub watertight : IsWatertight volume level
