use Rattle.std.proofs.Common.{◌≡◌, ◌∙◌, ◌+◌, ◌-◌, ◌*◌, ◌%◌, ◌<◌, ◌≤◌, ℕ, min, sym, ap, subst, arith}
use Rattle.std.proofs.Math.Nat.{mul-le-mul_left}
use Rattle.iso_defs.specs.Grid.{Grid}
use Rattle.iso_defs.specs.Cell.{cell_edge}
use Rattle.component_labels.specs.Fronts.{room}
use Rattle.flat_mesh.specs.Rows.{row_start}
use Rattle.component_walk.specs.Walks.{IsWalked, loops_before}
use Rattle.component_walk.proofs.RowLaws.{quiet_to, row_low}
use Rattle.component_walk.proofs.rows.add_row.Goals as goal

pub places-places-requires : goal.places-places-requires
places-places-requires g c =
    let v = c.args.field.now in
    let is = c.sizes-sizes.ensures.leveled.grid in
    let low = row_low v.grid c.args.active.now.y c.args.active.now.z (omega (arith, c.requires.y)) (omega (arith, c.requires.z)) in
    let ny : c.ny.result ≡ v.grid.ny = c.ny.ensures.value ∙ ap (λ (s : Grid). s.ny) c.sizes-sizes.ensures.value in
    let e : c.args.active.now.y + c.ny.result * c.args.active.now.z ≡ c.args.active.now.y + v.grid.ny * c.args.active.now.z = ap (λ n. c.args.active.now.y + n * c.args.active.now.z) ny in
    let a : v.grid.ny * v.grid.nz ≤ v.grid.ny * 1026 = mul-le-mul_left v.grid.ny is.z.most in
    omega (arith, low, e, a, is.y.most)

pub add_cells-requires-clause-places : goal.add_cells-requires-clause-places
add_cells-requires-clause-places g c =
    let v = c.args.field.now in
    let ny : c.ny.result ≡ v.grid.ny = c.ny.ensures.value ∙ ap (λ (s : Grid). s.ny) c.sizes-sizes.ensures.value in
    let grid = c.requires.state.labelled_are.grid in
    record {
      each = λ e x low wide.
          c.places-places.ensures e x low (subst (λ (s : Grid). x + 1 < s.nx) (sym grid) wide)
          ∙ (ap (λ (s : Grid). cell_edge s (s.nx * (c.args.active.now.y + c.ny.result * c.args.active.now.z) + x) e % room s) grid ∙ ap (λ n. cell_edge v.grid (v.grid.nx * (c.args.active.now.y + n * c.args.active.now.z) + x) e % room v.grid) ny);
    }

pub loop-x-init : goal.loop-x-init
loop-x-init g c =
    let v = c.args.field.now in
    let l = c.args.walked.now in
    let to : ℕ = min (8 * c.next_from-x.result) (v.grid.nx - 1) in
    let start : row_start v.grid c.args.active.now.y c.args.active.now.z + 0 ≡ row_start v.grid c.args.active.now.y c.args.active.now.z = omega arith in
    subst (λ ls. IsWalked g.T.Tally.value g.T.Tally.fits g.T.Tally.of_loop v (c.args.active.now.y + v.grid.ny * c.args.active.now.z) ls l.labels l.tallies.items l.edges)
    (sym (quiet_to v c.args.active.now.y c.args.active.now.z (omega (arith, c.requires.y)) (omega (arith, c.requires.z)) 0 to (omega arith) (omega arith) (λ x wide from low hy hz. c.next_from-x.ensures.cells x wide (omega arith) (omega (arith, low)) hy hz)
    ∙ ap (loops_before v) start)) c.requires.state

pub loop-x-preserved : goal.loop-x-preserved
loop-x-preserved g c =
    let v = c.args.field.now in
    let l = c.add_cells.new.walked in
    let next : ℕ = c.next_from-x-in-loop-x.result in
    let to : ℕ = min (8 * next) (v.grid.nx - 1) in
    let last : c.nx-last.result ≡ v.grid.nx = c.nx-last.ensures.value ∙ ap (λ (s : Grid). s.nx) c.sizes-sizes.ensures.value in
    let end : c.min-end.result ≡ min (8 * c.loop-x.x + 8) (v.grid.nx - 1) = omega (arith, c.min-end.ensures, last) in
    subst (λ ls. IsWalked g.T.Tally.value g.T.Tally.fits g.T.Tally.of_loop v (c.args.active.now.y + v.grid.ny * c.args.active.now.z) ls l.labels l.tallies.items l.edges)
    (sym (quiet_to v c.args.active.now.y c.args.active.now.z (omega (arith, c.requires.y)) (omega (arith, c.requires.z)) c.min-end.result to (omega (arith, end, c.next_from-x-in-loop-x.ensures.least)) (omega arith)
    (λ x wide from low hy hz. c.next_from-x-in-loop-x.ensures.cells x wide (omega (arith, from, end, wide)) (omega (arith, low)) hy hz))) c.in_ok-add_cells.ensures

pub returns : goal.returns
returns g c =
    let v = c.args.field.now in
    let l = c.loop-x.walked in
    let is = c.sizes-sizes.ensures.leveled.grid in
    let nx : c.nx.result ≡ v.grid.nx = c.nx.ensures.value ∙ ap (λ (s : Grid). s.nx) c.sizes-sizes.ensures.value in
    let end : min (8 * c.loop-x.x) (v.grid.nx - 1) ≡ v.grid.nx - 1 = omega (arith, c.loop-x-test.false, c.bricks_along-count.ensures.value, nx) in
    subst (λ ls. IsWalked g.T.Tally.value g.T.Tally.fits g.T.Tally.of_loop v (c.args.active.now.y + v.grid.ny * c.args.active.now.z) ls l.labels l.tallies.items l.edges)
    (ap (λ n. loops_before v (row_start v.grid c.args.active.now.y c.args.active.now.z + n)) end
    ∙ sym (quiet_to v c.args.active.now.y c.args.active.now.z (omega (arith, c.requires.y)) (omega (arith, c.requires.z)) (v.grid.nx - 1) v.grid.nx (omega arith) (omega arith) (λ x wide from low hy hz. absurd (omega (arith, wide, from))))) c.loop-x.invariant
