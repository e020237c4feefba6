-- Numbers of loops.
use Rattle.std.specs.Prelude.{ℕ, zero, suc, ◌+◌, ◌*◌, ◌/◌, ◌<◌, ◌≤◌, ℤ, pos, ◌+ℤ◌, ◌-ℤ◌, length, if◌then◌else◌}
use Rattle.std.specs.List.{count_by}
use Rattle.iso_defs.specs.Lists.{around}
use Rattle.iso_defs.specs.Scratch.{has_centre}
use Rattle.iso_defs.specs.Manifold.{share_outer_plane}
use Rattle.flat_mesh.specs.Lattice.{Leveled}
use Rattle.mesh_report.specs.declared.part.Part.{Part}
use Rattle.part_laws.specs.Loops.{Loop}
use Rattle.component_walk.specs.declared.tally.LoopCounts.{LoopCounts}

-- the numbers, in order
abbrev pub number : LoopCounts → ℕ → ℤ
number c zero = pos c.threes
number c (suc zero) = pos c.centres
number c (suc (suc zero)) = pos c.spokes
number c (suc (suc (suc zero))) = pos c.border
number c (suc (suc (suc (suc _)))) = pos 0

-- what each is of a loop
abbrev pub counted : Leveled → ℕ → Loop → ℤ
counted v zero l = pos (if has_centre l then 0 else 1)
counted v (suc zero) l = pos (if has_centre l then 1 else 0)
counted v (suc (suc zero)) l = pos (if has_centre l then length l.1 else 0)
counted v (suc (suc (suc zero))) l = pos (count_by (λ (p : ℕ × ℕ). share_outer_plane v.grid p.0 p.1) (around l.1))
counted v (suc (suc (suc (suc _)))) l = pos 0

-- none is more than the steps round the loops
pub record fit (n : ℕ) (c : LoopCounts) : Type 0 where
  pub threes : c.threes ≤ n
  pub centres : c.centres ≤ n
  pub spokes : c.spokes ≤ n
  pub border : c.border ≤ n

-- a part's numbers, by its crossing edges and what is counted of its loops: off the border two steps are one edge
abbrev pub part_with : ℕ → ℕ → LoopCounts → Part
part_with least crossings c = record {
  least = least;
  vertices = crossings + c.centres;
  edges = (3 * c.threes + c.spokes + c.border) / 2 + c.spokes;
  faces = c.threes + c.spokes;
  border = c.border;
  euler = (pos (crossings + c.centres) -ℤ pos ((3 * c.threes + c.spokes + c.border) / 2 + c.spokes)) +ℤ pos
      (c.threes + c.spokes);
}

-- they are small
pub record AreFew (crossings : ℕ) (c : LoopCounts) : Type 0 where
  pub vertices : crossings + c.centres < 4294967296
  pub faces : c.threes + c.spokes < 4294967296
