-- Where the coordinates of the mesh of a volume are counted from.
use Rattle.std.specs.Prelude.{Bool, true, false}
use Rattle.mesh_lines.specs.declared.style.Origin.{Origin}
use Rattle.mesh_lines.specs.declared.style.Origin.TheVariants.{Volume, Pad}

-- from its lowest point, or from that inside the pad that it lies in
abbrev pub origin_for : Bool → Origin
origin_for true = Pad
origin_for false = Volume
