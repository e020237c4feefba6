use Rattle.std.proofs.Common.{◌≡◌, ◌∙◌, ◌+◌, ◌-◌, ◌*◌, ◌%◌, ◌<◌, ◌≤◌, ℕ, refl, sym, ap, subst, arith}
use Rattle.std.proofs.Math.Nat.{mul-le-mul_left}
use Rattle.iso_defs.specs.Bricks.{bricks_along}
use Rattle.iso_defs.specs.Grid.{Grid}
use Rattle.component_labels.specs.Fronts.{room, row_name}
use Rattle.flat_mesh.specs.Rows.{row_start}
use Rattle.component_walk.specs.Walks.{IsWalked, loops_before}
use Rattle.component_walk.specs.Passed.{IsLeft}
use Rattle.component_walk.specs.Rows.{first_point}
use Rattle.component_walk.proofs.RowLaws.{begin_behind, begin_in, begin_low, brick_place, brick_some, left_between, row_begun, row_ended, row_here, row_of}
use Rattle.component_walk.proofs.rows.leave_row.Goals as goal

pub loop-x-init : goal.loop-x-init
loop-x-init g c = record {
  tallies = refl;
  left = λ label base h.
      (let v = c.args.field.now in
      let l = c.args.walked.now in
      let row : ℕ = c.args.active.now.y + v.grid.ny * c.args.active.now.z in
      let is = c.sizes-sizes.ensures.leveled.grid in
      let zero = begin_in v.grid 0 (omega (arith, is.x.least)) in
      left_between v c.args.active.now.y c.args.active.now.z c.requires.y c.requires.z label base 0 c.next_from-x.result l.labels l.edges is c.next_from-x.ensures
      (subst (λ n. IsLeft (row_of v row label base) n l.labels l.edges) (let e : row_name v.grid row ≡ row_name v.grid row + 3 * first_point v.grid 0 = omega (arith, zero) in e) h));
}

pub leave_edges-requires-clause-place : goal.leave_edges-requires-clause-place
leave_edges-requires-clause-place g c =
    let v = c.args.field.now in
    let l = c.args.walked.now in
    let is = c.sizes-sizes.ensures.leveled.grid in
    let begun = row_begun v c.args.active.now.y c.args.active.now.z c.requires.y c.requires.z g.T.Tally.value g.T.Tally.fits g.T.Tally.of_loop l.labels l.tallies.items l.edges is c.requires.state in
    let k = row_here v c.args.active.now.y c.args.active.now.z c.requires.y c.requires.z g.T.Tally.value g.T.Tally.fits g.T.Tally.of_loop l.labels l.tallies.items l.edges is c.requires.state in
    let known = ap room ((c.loop-x.invariant.left k.label k.base begun).grid ∙ sym c.requires.state.labelled_are.grid) in
    let wide = ap (λ (s : Grid). s.nx) c.requires.state.labelled_are.grid in
    let nx : c.nx.result ≡ v.grid.nx = c.nx.ensures.value ∙ ap (λ (s : Grid). s.nx) c.sizes-sizes.ensures.value in
    let end : c.first_point.result ≡ first_point v.grid (c.loop-x.x + 1) = c.first_point.ensures ∙ ap (λ (s : Grid). first_point s (c.loop-x.x + 1)) c.sizes-sizes.ensures.value in
    let low : c.loop-x.x < bricks_along v.grid 0 = omega (arith, c.loop-x-test.true, c.bricks_along-count.ensures.value, nx) in
    let most = begin_low v.grid (c.loop-x.x + 1) in
    let least = brick_some v.grid c.loop-x.x low in
    omega (arith, known, end, most, least, c.row_place-place.ensures.bound, wide)

pub leave_edges-requires-clause-state : goal.leave_edges-requires-clause-state
leave_edges-requires-clause-state g c =
    let v = c.args.field.now in
    let l = c.args.walked.now in
    let row : ℕ = c.args.active.now.y + v.grid.ny * c.args.active.now.z in
    let is = c.sizes-sizes.ensures.leveled.grid in
    let k = row_here v c.args.active.now.y c.args.active.now.z c.requires.y c.requires.z g.T.Tally.value g.T.Tally.fits g.T.Tally.of_loop l.labels l.tallies.items l.edges is c.requires.state in
    let begun = row_begun v c.args.active.now.y c.args.active.now.z c.requires.y c.requires.z g.T.Tally.value g.T.Tally.fits g.T.Tally.of_loop l.labels l.tallies.items l.edges is c.requires.state in
    let grid = c.requires.state.labelled_are.grid in
    let ny : c.ny.result ≡ v.grid.ny = c.ny.ensures.value ∙ ap (λ (s : Grid). s.ny) c.sizes-sizes.ensures.value in
    let nx : c.nx.result ≡ v.grid.nx = c.nx.ensures.value ∙ ap (λ (s : Grid). s.nx) c.sizes-sizes.ensures.value in
    let at : c.row_place-place.result ≡ row_name v.grid row % room v.grid
    = c.row_place-place.ensures.value
    ∙ (ap (λ (s : Grid). row_name s (c.args.active.now.y + c.ny.result * c.args.active.now.z) % room s) grid
    ∙ ap (λ n. row_name v.grid (c.args.active.now.y + n * c.args.active.now.z) % room v.grid) ny) in
    let fits : c.row_place-place.result + 3 * v.grid.nx ≤ room v.grid
    = subst (λ (s : Grid). c.row_place-place.result + 3 * s.nx ≤ room s) grid c.row_place-place.ensures.bound in
    let end : c.first_point.result ≡ first_point v.grid (c.loop-x.x + 1) = c.first_point.ensures ∙ ap (λ (s : Grid). first_point s (c.loop-x.x + 1)) c.sizes-sizes.ensures.value in
    let low : c.loop-x.x < bricks_along v.grid 0 = omega (arith, c.loop-x-test.true, c.bricks_along-count.ensures.value, nx) in
    let most = begin_low v.grid (c.loop-x.x + 1) in
    let least = brick_some v.grid c.loop-x.x low in
    let here = begin_in v.grid c.loop-x.x low in
    record {
      leaving = k;
      name = row_name v.grid row + 3 * first_point v.grid c.loop-x.x;
      inside = omega (arith, end, most, least, here);
      at = brick_place v.grid row c.row_place-place.result c.loop-x.x at fits low;
      left = c.loop-x.invariant.left k.label k.base begun;
    }

pub loop-x-preserved : goal.loop-x-preserved
loop-x-preserved g c = record {
  tallies = c.loop-x.invariant.tallies;
  left = λ label base h.
      (let v = c.args.field.now in
      let row : ℕ = c.args.active.now.y + v.grid.ny * c.args.active.now.z in
      let is = c.sizes-sizes.ensures.leveled.grid in
      let k = row_of v row label base in
      let l = c.leave_edges.new.labels in
      let e = c.leave_edges.new.edges in
      let grid = c.requires.state.labelled_are.grid in
      let ny : c.ny.result ≡ v.grid.ny = c.ny.ensures.value ∙ ap (λ (s : Grid). s.ny) c.sizes-sizes.ensures.value in
      let nx : c.nx.result ≡ v.grid.nx = c.nx.ensures.value ∙ ap (λ (s : Grid). s.nx) c.sizes-sizes.ensures.value in
      let at : c.row_place-place.result ≡ row_name v.grid row % room v.grid
      = c.row_place-place.ensures.value
      ∙ (ap (λ (s : Grid). row_name s (c.args.active.now.y + c.ny.result * c.args.active.now.z) % room s) grid
      ∙ ap (λ n. row_name v.grid (c.args.active.now.y + n * c.args.active.now.z) % room v.grid) ny) in
      let fits : c.row_place-place.result + 3 * v.grid.nx ≤ room v.grid
      = subst (λ (s : Grid). c.row_place-place.result + 3 * s.nx ≤ room s) grid c.row_place-place.ensures.bound in
      let end : c.first_point.result ≡ first_point v.grid (c.loop-x.x + 1) = c.first_point.ensures ∙ ap (λ (s : Grid). first_point s (c.loop-x.x + 1)) c.sizes-sizes.ensures.value in
      let low : c.loop-x.x < bricks_along v.grid 0 = omega (arith, c.loop-x-test.true, c.bricks_along-count.ensures.value, nx) in
      let most = begin_low v.grid (c.loop-x.x + 1) in
      let least = brick_some v.grid c.loop-x.x low in
      let here = begin_in v.grid c.loop-x.x low in
      let from : ℕ = row_name v.grid row + 3 * first_point v.grid c.loop-x.x in
      let count : ℕ = 3 * (c.first_point.result - 8 * c.loop-x.x) in
      let left : IsLeft k (from + count) l e
      = c.in_ok-leave_edges.ensures k from (omega (arith, end, most, least, here)) (brick_place v.grid row c.row_place-place.result c.loop-x.x at fits low) (c.loop-x.invariant.left label base h) in
      left_between v c.args.active.now.y c.args.active.now.z c.requires.y c.requires.z label base (c.loop-x.x + 1) c.next_from-x-in-loop-x.result l e is c.next_from-x-in-loop-x.ensures
      (subst (λ n. IsLeft k n l e) (let s : from + count ≡ row_name v.grid row + 3 * first_point v.grid (c.loop-x.x + 1) = omega (arith, end, least, here) in s) left));
}

pub returns : goal.returns
returns g c =
    let v = c.args.field.now in
    let l = c.args.walked.now in
    let row : ℕ = c.args.active.now.y + v.grid.ny * c.args.active.now.z in
    let is = c.sizes-sizes.ensures.leveled.grid in
    let k = row_here v c.args.active.now.y c.args.active.now.z c.requires.y c.requires.z g.T.Tally.value g.T.Tally.fits g.T.Tally.of_loop l.labels l.tallies.items l.edges is c.requires.state in
    let begun = row_begun v c.args.active.now.y c.args.active.now.z c.requires.y c.requires.z g.T.Tally.value g.T.Tally.fits g.T.Tally.of_loop l.labels l.tallies.items l.edges is c.requires.state in
    let nx : c.nx.result ≡ v.grid.nx = c.nx.ensures.value ∙ ap (λ (s : Grid). s.nx) c.sizes-sizes.ensures.value in
    let end = begin_behind v.grid c.loop-x.x (omega (arith, c.loop-x-test.false, c.bricks_along-count.ensures.value, nx)) in
    subst
    (λ ts. IsWalked g.T.Tally.value g.T.Tally.fits g.T.Tally.of_loop v (row + 1) (loops_before v (row_start v.grid c.args.active.now.y c.args.active.now.z + v.grid.nx)) c.loop-x.walked.labels ts c.loop-x.walked.edges)
    (sym c.loop-x.invariant.tallies)
    (row_ended v c.args.active.now.y c.args.active.now.z c.requires.y c.requires.z g.T.Tally.value g.T.Tally.fits g.T.Tally.of_loop l.labels l.tallies.items l.edges is c.requires.state
    c.loop-x.walked.labels c.loop-x.walked.edges
    (subst (λ n. IsLeft k n c.loop-x.walked.labels c.loop-x.walked.edges) (ap (λ n. row_name v.grid row + 3 * n) end) (c.loop-x.invariant.left k.label k.base begun)))

pub overflow_sub-points : goal.overflow_sub-points
overflow_sub-points g c =
    let v = c.args.field.now in
    let nx : c.nx.result ≡ v.grid.nx = c.nx.ensures.value ∙ ap (λ (s : Grid). s.nx) c.sizes-sizes.ensures.value in
    let end : c.first_point.result ≡ first_point v.grid (c.loop-x.x + 1) = c.first_point.ensures ∙ ap (λ (s : Grid). first_point s (c.loop-x.x + 1)) c.sizes-sizes.ensures.value in
    let least = brick_some v.grid c.loop-x.x (omega (arith, c.loop-x-test.true, c.bricks_along-count.ensures.value, nx)) in
    omega (arith, end, least)

pub overflow_mul-points-in-loop-x : goal.overflow_mul-points-in-loop-x
overflow_mul-points-in-loop-x g c =
    let v = c.args.field.now in
    let is = c.sizes-sizes.ensures.leveled.grid in
    let end : c.first_point.result ≡ first_point v.grid (c.loop-x.x + 1) = c.first_point.ensures ∙ ap (λ (s : Grid). first_point s (c.loop-x.x + 1)) c.sizes-sizes.ensures.value in
    let most = begin_low v.grid (c.loop-x.x + 1) in
    omega (arith, end, most, is.x.most)

pub overflow_add-brick : goal.overflow_add-brick
overflow_add-brick g c =
    let v = c.args.field.now in
    let is = c.sizes-sizes.ensures.leveled.grid in
    let nx : c.nx.result ≡ v.grid.nx = c.nx.ensures.value ∙ ap (λ (s : Grid). s.nx) c.sizes-sizes.ensures.value in
    let fits : c.row_place-place.result + 3 * v.grid.nx ≤ room v.grid
    = subst (λ (s : Grid). c.row_place-place.result + 3 * s.nx ≤ room s) c.requires.state.labelled_are.grid c.row_place-place.ensures.bound in
    let slice : v.grid.nx * v.grid.ny ≤ v.grid.nx * 1026 = mul-le-mul_left v.grid.nx is.y.most in
    let low : c.loop-x.x < bricks_along v.grid 0 = omega (arith, c.loop-x-test.true, c.bricks_along-count.ensures.value, nx) in
    omega (arith, fits, slice, low, is.x.most)
