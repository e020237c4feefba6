use Rattle.std.proofs.Common.{◌≡◌, ◌*◌, ◌<◌, ◌≤◌, All, map, take}
use Rattle.flat_mesh.specs.Rows.{row_start}
use Rattle.row_bits.proofs.ActiveLists.{begins}
use Rattle.mesh_walk.specs.Fans.{by_numbers, row_fans, seen}
use Rattle.mesh_walk.specs.declared.centres.RowFan.{RowFan}
use Rattle.mesh_walk.proofs.centres.list_fans.Given as goal

abbrev pub invariant-loop-k : goal.invariant-loop-k
invariant-loop-k g l =
    let v = g.H.Heights.leveled l.field in
    let cells = l.cells in
    record {
      few : l.count ≤ 2 * l.k;
      are : map seen (take l.count l.fans) ≡ map by_numbers (row_fans v (row_start v.grid cells.y cells.z) (begins 0 cells.places l.k));
      low : All (λ (f : RowFan). f.fan < 115) (take l.count l.fans);
    }
