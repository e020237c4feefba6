use Rattle.std.proofs.Common.{◌≡◌, ◌∙◌, ◌+◌, ◌*◌, ◌%◌, ◌≤◌, ap, ap₂, sym, subst, arith}
use Rattle.iso_defs.specs.Grid.{Grid}
use Rattle.component_labels.specs.Fronts.{Marks, room, row_name}
use Rattle.component_labels.proofs.PlaceLaws.{first_of_row, row_fits}
use Rattle.component_labels.proofs.front.Front.row_place.Goals as goal

pub returns-clause-value : goal.returns-clause-value
returns-clause-value c =
    let inner : Grid = c.self.inside.sizes in
    let is : inner ≡ c.args.self.now.grid = ap (λ (m : Marks). m.grid) c.self.view_is in
    subst (λ (g : Grid). 3 * c.nx.result * (c.args.row % (2 * c.ny.result)) ≡ row_name g c.args.row % room g) is
    (ap₂ (λ x y. 3 * x * (c.args.row % (2 * y))) c.nx.ensures.value c.ny.ensures.value
    ∙ first_of_row inner c.args.row (omega (arith, c.nx.ensures.grid.x.least)) (omega (arith, c.nx.ensures.grid.y.least)))

pub returns-clause-bound : goal.returns-clause-bound
returns-clause-bound c =
    let inner : Grid = c.self.inside.sizes in
    let is : inner ≡ c.args.self.now.grid = ap (λ (m : Marks). m.grid) c.self.view_is in
    subst (λ (g : Grid). 3 * c.nx.result * (c.args.row % (2 * c.ny.result)) + 3 * g.nx ≤ room g) is
    (subst (λ z. z + 3 * inner.nx ≤ room inner) (sym (ap₂ (λ x y. 3 * x * (c.args.row % (2 * y))) c.nx.ensures.value c.ny.ensures.value))
    (row_fits inner c.args.row (omega (arith, c.nx.ensures.grid.x.least)) (omega (arith, c.nx.ensures.grid.y.least))))
