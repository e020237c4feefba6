-- The lines of triangles in their parts.
use Rattle.std.specs.Prelude.{ℕ, ◌+◌, List, [], ◌∷◌, ◌++◌, decimal}
use Rattle.iso_defs.specs.Bytes.{digit_three, lower_f, space}
use Rattle.iso_base.specs.declared.format.MeshFormat.{MeshFormat}
use Rattle.iso_base.specs.declared.format.MeshFormat.TheVariants.{Ply, Obj, Off, Vtk}

-- the letter that begins the line of a triangle
abbrev pub letter_of : MeshFormat → ℕ
letter_of Ply = digit_three
letter_of Obj = lower_f
letter_of Off = digit_three
letter_of Vtk = digit_three

-- the number of the first vertex: OBJ counts vertices from 1, the others from 0
abbrev pub first_of : MeshFormat → ℕ
first_of Ply = 0
first_of Obj = 1
first_of Off = 0
first_of Vtk = 0

-- the text of a corner, with a blank behind it
abbrev pub corner_text : MeshFormat → ℕ → List ℕ
corner_text format n = decimal (first_of format + n) ++ space ∷ []
