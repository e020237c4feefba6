-- The line of a vertex has no name in it.
use Rattle.std.proofs.Common.{◌≡◌, ℕ, refl}
use Rattle.iso_defs.specs.Place.{Position}
use Rattle.mesh_lines.specs.Lines.{vertex_line}
use Rattle.mesh_lines.specs.declared.style.Style.{Style}

pub any_name : (style : Style) (m n : ℕ) (p : Position) → vertex_line style (m, p) ≡ vertex_line style (n, p)
unfolding vertex_line
any_name style m n p = refl
