-- Triangles as a reader makes them.
use Rattle.std.specs.Prelude.{ℕ, List}
use Rattle.iso_base.specs.Triangles.{IsBelow, triangle_of}

-- the three corners are among so many vertices
abbrev pub IsInside : ℕ → List ℕ → Type 0
IsInside n corners = IsBelow n (triangle_of corners)
