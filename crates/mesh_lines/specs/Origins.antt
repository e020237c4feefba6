-- Where the coordinates of a whole volume's mesh are counted from: with a padding or without one.
use Rattle.std.specs.Prelude.{Bool, true, false}
use Rattle.mesh_lines.specs.declared.style.Origin.{Origin}
use Rattle.mesh_lines.specs.declared.style.Origin.TheVariants.{Volume, Pad}

abbrev pub origin_of : Bool → Origin
origin_of true = Pad
origin_of false = Volume
