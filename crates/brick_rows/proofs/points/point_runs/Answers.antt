use Rattle.std.proofs.Common.{◌≡◌, ℕ, ◌+◌, ◌*◌, map, subst, arith}
use Rattle.brick_rows.specs.Bricks.{next_at}
use Rattle.brick_rows.specs.Runs.{IsRun}
use Rattle.brick_rows.proofs.points.point_runs.Goals as goal

pub returns : goal.returns
returns g c =
    let v = c.args.field.now in
    let x : ℕ = 8 * c.args.x in
    let same_y : c.args.row.y + 0 ≡ c.args.row.y = omega arith in
    let same_z : c.args.row.z + 0 ≡ c.args.row.z = omega arith in
    record {
      here = subst (λ n. IsRun v x n c.args.row.z (map g.T.Packed.value c.run.result.now)) same_y
          (subst (λ n. IsRun v x (c.args.row.y + 0) n (map g.T.Packed.value c.run.result.now)) same_z c.run.ensures);
      up = subst (λ n. IsRun v x n c.args.row.z (map g.T.Packed.value c.run-2.result.now)) c.requires.row.up
          (subst (λ n. IsRun v x (c.args.row.y + c.args.row.up) n (map g.T.Packed.value c.run-2.result.now)) same_z c.run-2.ensures);
      far = subst (λ n. IsRun v x n (next_at c.args.row.z v.grid.nz) (map g.T.Packed.value c.run-3.result.now)) same_y
          (subst (λ n. IsRun v x (c.args.row.y + 0) n (map g.T.Packed.value c.run-3.result.now)) c.requires.row.far c.run-3.ensures);
    }
