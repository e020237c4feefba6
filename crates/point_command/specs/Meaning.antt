-- Which text `points` gives for the bytes of its input.
use Rattle.std.specs.Prelude.{ℕ, List, None, Result, ℤ}
use Rattle.iso_defs.specs.Texts.{points_text}
use Rattle.iso_base.specs.Volume.{field, Volume}
use Rattle.point_command.specs.Edges.{edge_points}
use Rattle.program.specs.declared.answer.VolumeFault.{VolumeFault}
use Rattle.command_terms.specs.Volumes.{text_by, volume_of}

-- the text of the vertices on the crossing edges of a volume at a level
unfoldable pub points_of : ℤ → Volume → List ℕ
points_of level v = points_text (edge_points v.grid (field v.samples level))

-- what `points` gives
abbrev pub points_given : ℤ → List ℕ → Result (List ℕ) VolumeFault
points_given level bytes = text_by (points_of level) (volume_of None level bytes)
