use Rattle.std.proofs.Common.{◌≡◌, ℕ, ◌-◌, List, length, take, drop, ◌∙◌, arith, ℤ, pos, length-drop}
use Rattle.std.proofs.lemmas.List.{get_or-take, get_or-drop, length-take-le}
use Rattle.brick_store.specs.Parts.{row_place}
use Rattle.brick_store.proofs.PartWriting.{row_put}
use Rattle.brick_store.proofs.boxes.write_row.Goals as goal

pub returns : goal.returns
returns g c =
    let p = c.args.part.now in
    let values : List ℤ = c.args.source.values.now in
    let from : ℕ = row_place p c.args.source c.args.y c.args.z in
    let count : ℕ = p.x_end - p.x in
    let there = c.requires.rows c.args.y c.args.z c.requires.y_from c.requires.y_to c.requires.z_from c.requires.z_to in
    let size : length (take count (drop from values)) ≡ count = length-take-le count (drop from values) (omega (arith, length-drop from values, there)) in
    row_put c.args.brick.0 p c.args.source c.args.y c.args.z c.copy_place-start.result (take count (drop from values)) _ _ c.requires.part
    (omega (arith, c.requires.y_to, c.requires.part.y_most)) (omega (arith, c.requires.z_to, c.requires.part.z_most)) c.copy_place-start.ensures size
    (omega (arith, size, c.copy_place-start.ensures, c.requires.room, c.requires.part.x_order, c.requires.part.x_most, c.requires.y_to, c.requires.z_to, c.requires.part.y_most, c.requires.part.z_most))
    c.put.ensures
    (λ x least most. get_or-take count (drop from values) (x - p.x) (pos 0) (omega (arith, least, most)) ∙ get_or-drop from values (x - p.x) (pos 0))
