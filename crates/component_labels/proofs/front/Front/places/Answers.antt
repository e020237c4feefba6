use Rattle.std.proofs.Common.{◌≡◌, ◌∙◌, ◌+◌, ◌%◌, ◌<◌, ap, arith}
use Rattle.iso_defs.specs.Grid.{Grid}
use Rattle.component_labels.specs.Fronts.{Marks, room, row_name}
use Rattle.component_labels.proofs.PlaceLaws.{place_of_edge}
use Rattle.component_labels.proofs.front.Front.places.Goals as goal

pub returns : goal.returns
returns c = λ e x low wide.
    (let g : Grid = c.args.self.now.grid in
    let is : c.ny-ny.result ≡ g.ny = c.ny-ny.ensures.value ∙ ap (λ (m : Marks). m.grid.ny) c.self.view_is in
    let some : 0 < g.ny = omega (arith, is, c.ny-ny.ensures.value, c.ny-ny.ensures.grid.y.least) in
    place_of_edge g c.args.row x c.row_place-near.result c.row_place-up.result c.row_place-far.result c.row_place-both.result wide some c.row_place-near.ensures.value
    c.row_place-up.ensures.value (c.row_place-far.ensures.value ∙ ap (λ y. row_name g (c.args.row + y) % room g) is)
    (c.row_place-both.ensures.value ∙ ap (λ y. row_name g (c.args.row + y + 1) % room g) is) e low)
