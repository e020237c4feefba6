use Rattle.std.proofs.Common.{◌+◌, arith, take, ℕ}
use Rattle.mesh_walk.proofs.CornerLanes.{lane_sum, more_put}
use Rattle.mesh_walk.proofs.corners.fill_corners.Goals as goal

pub returns : goal.returns
returns c =
    let table = c.args.table.now in
    let from = c.args.from in
    let at = c.args.at in
    let f : ℕ → ℕ = λ s. lane_sum s c.args.far in
    more_put f table (take at c.args.list.now) _ _ from at 32 (from + 32) (at + 32) (omega arith) (omega arith)
    (more_put f table (take at c.args.list.now) _ _ from at 24 (from + 24) (at + 24) (omega arith) (omega arith)
    (more_put f table (take at c.args.list.now) _ _ from at 16 (from + 16) (at + 16) (omega arith) (omega arith)
    (more_put f table (take at c.args.list.now) _ _ from at 8 (from + 8) (at + 8) (omega arith) (omega arith) c.fill_eight.ensures c.fill_eight-2.ensures)
    c.fill_eight-3.ensures)
    c.fill_eight-4.ensures)
    c.fill_eight-5.ensures
