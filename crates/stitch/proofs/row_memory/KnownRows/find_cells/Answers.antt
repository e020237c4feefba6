use Rattle.std.proofs.Common.{◌+◌, ◌∙◌, ap, arith, take, drop}
use Rattle.stitch.proofs.KnownLists.{cells_kept}
use Rattle.stitch.proofs.SpreadCells.{all_of, half_few, parted}
use Rattle.stitch.proofs.row_memory.KnownRows.find_cells.Goals as goal

pub part_cells-requires : goal.part_cells-requires
part_cells-requires c =
    let v = c.args.field.now in
    let key = c.edges_key-key in
    let are = cells_kept v c.args.self.now.recent c.args.y c.args.z (key.result + 2) c.list.result.now c.requires.known.recent (omega (arith, c.requires.y)) (omega (arith, c.requires.z)) c.list.ensures c.requires.y c.requires.z (ap (λ k. k + 2) key.ensures.value) in
    let few = half_few v c.args.y c.args.z c.list.result.now are in
    let all = all_of v c.args.y c.args.z c.list.result.now are in
    record { few = omega (arith, few, all, c.sizes.ensures.leveled.grid.x.most) }

pub returns-then-has-clause-cells : goal.returns-then-has-clause-cells
returns-then-has-clause-cells c =
    let v = c.args.field.now in
    let key = c.edges_key-key in
    let list = c.list.result.now in
    let are = cells_kept v c.args.self.now.recent c.args.y c.args.z (key.result + 2) list c.requires.known.recent (omega (arith, c.requires.y)) (omega (arith, c.requires.z)) c.list.ensures c.requires.y c.requires.z (ap (λ k. k + 2) key.ensures.value) in
    let count = c.part_cells.ensures.count in
    parted v c.args.y c.args.z list are _ _ (c.part_cells.ensures.places ∙ ap (λ n. take n list) count) (c.part_cells.ensures.cases ∙ ap (λ n. take n (drop n list)) count)

pub returns-then-has-clause-few : goal.returns-then-has-clause-few
returns-then-has-clause-few c =
    let v = c.args.field.now in
    let key = c.edges_key-key in
    let are = cells_kept v c.args.self.now.recent c.args.y c.args.z (key.result + 2) c.list.result.now c.requires.known.recent (omega (arith, c.requires.y)) (omega (arith, c.requires.z)) c.list.ensures c.requires.y c.requires.z (ap (λ k. k + 2) key.ensures.value) in
    let few = half_few v c.args.y c.args.z c.list.result.now are in
    omega (arith, few, c.part_cells.ensures.count, c.sizes.ensures.leveled.grid.x.least)
