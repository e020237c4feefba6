use Rattle.std.proofs.Common.{◌≡◌, ℕ, ◌+◌, ◌-◌, ◌*◌, ◌≤◌, List, length, take, drop, ap, ◌∙◌, arith, ℤ, length-drop}
use Rattle.std.proofs.lemmas.List.{length-take-le}
use Rattle.brick_store.specs.Holding.{brick_at}
use Rattle.brick_store.specs.Copies.{copy_place}
use Rattle.packed_samples.specs.Runs.{row_set}
use Rattle.brick_store.proofs.RowWriting.{max_is, min_is, one_written, room_of}
use Rattle.brick_store.proofs.rows.write_in_brick.Goals as goal

pub returns : goal.returns
returns g c =
    let grid = c.args.sizes.now in
    let p = c.args.p in
    let from : ℕ = c.max-from.result in
    let end : ℕ = c.min-end.result in
    let values : List ℤ = c.args.values.now in
    let old : List ℤ = g.C.PackedList.list c.args.copies.now in
    let b0 : ℕ = brick_at grid c.args.x c.args.y c.args.z in
    let part : List ℤ = take (end - from) (drop (from - p.x) values) in
    let order : from ≤ end = omega (arith, c.max-from.ensures, c.min-end.ensures) in
    let inside : end ≤ p.x + length values = omega (arith, c.min-end.ensures) in
    let first : p.x ≤ from = omega (arith, c.max-from.ensures) in
    let count : length part ≡ end - from = length-take-le (end - from) (drop (from - p.x) values) (omega (arith, length-drop (from - p.x) values)) in
    let at : c.copy_place-start.result ≡ copy_place b0 (from - 8 * c.args.x) (p.y - 8 * c.args.y) (p.z - 8 * c.args.z)
    = c.copy_place-start.ensures ∙ ap (λ b. copy_place b (from - 8 * c.args.x) (p.y - 8 * c.args.y) (p.z - 8 * c.args.z)) c.brick_at-brick.ensures.value in
    one_written grid p values c.args.x c.args.y c.args.z from end old _ c.nx.ensures.grid c.requires.x c.requires.y c.requires.z
    first (omega (arith, c.max-from.ensures)) (max_is _ _ _ c.max-from.ensures) order inside (omega (arith, c.min-end.ensures)) (min_is _ _ _ c.min-end.ensures)
    c.requires.y_from c.requires.y_to c.requires.z_from c.requires.z_to (omega (arith, c.max-from.ensures, c.requires.x_from))
    (room_of b0 _ (from - 8 * c.args.x) (p.y - 8 * c.args.y) (p.z - 8 * c.args.z) (end - from) _ (rw c.brick_at-brick.ensures.value at c.brick_at-brick.ensures.bound)
    (omega (arith, c.max-from.ensures, c.min-end.ensures, order)) (omega (arith, c.requires.y_to)) (omega (arith, c.requires.z_to)) c.requires.count)
    (c.put.ensures ∙ ap (λ s. row_set s part old) at)
