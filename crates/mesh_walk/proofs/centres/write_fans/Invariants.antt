use Rattle.std.proofs.Common.{◌+◌, ◌*◌, ◌≤◌, Ok, take}
use Rattle.flat_mesh.specs.Rows.{row_start}
use Rattle.mesh_lines.specs.Blocks.{Adds}
use Rattle.mesh_walk.specs.Fans.{row_fans}
use Rattle.mesh_walk.proofs.FanLines.{fan_lines}
use Rattle.mesh_walk.proofs.centres.write_fans.Given as goal

abbrev pub invariant-loop-k : goal.invariant-loop-k
invariant-loop-k g l =
    let v = g.H.Heights.leveled l.field in
    let texts = l.row.texts.now in
    let start = row_start v.grid texts.y texts.z in
    record {
      adds : Adds {T = Unit {0}} (g.K.Sink.seen l.fn.sink) (g.K.Sink.seen l.sink) l.fn.block l.block (Ok tt)
          (fan_lines texts.style v start (take l.k (row_fans v start v.grid.nx)));
      bytes : l.block.total ≤ l.fn.block.total + 64 * l.k;
    }
