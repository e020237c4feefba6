use Rattle.std.proofs.Common.{◌≡◌, ◌∙◌, ◌+◌, ◌*◌, ◌<◌, ◌≤◌, ℕ, refl, sym, ap, subst, arith}
use Rattle.iso_defs.specs.Grid.{Grid}
use Rattle.flat_mesh.specs.Lattice.{Leveled}
use Rattle.flat_mesh.specs.Rows.{row_start}
use Rattle.brick_rows.specs.Bricks.{AreMarked}
use Rattle.brick_rows.specs.Rows.{AreStill}
use Rattle.brick_rows.specs.declared.active.ActiveRow.{ActiveRow}
use Rattle.brick_rows.proofs.NextBricks.{at_row}
use Rattle.component_walk.specs.Walks.{IsWalked, loops_before}
use Rattle.component_walk.proofs.RowLaws.{no_crossing, quiet_row, quiet_to, row_low, start_next}
use Rattle.component_walk.proofs.rows.RowWalk.walk_row.Goals as goal

pub returns-then-next_from-bricks_along-clause-state : goal.returns-then-next_from-bricks_along-clause-state
returns-then-next_from-bricks_along-clause-state g c =
    let v = c.args.self.now.field in
    let row : ℕ = c.args.y + v.grid.ny * c.args.z in
    let is = c.sizes-sizes.ensures.leveled.grid in
    let still = at_row (λ y z. AreStill v y z 0 c.next_from.result) _ _ _ _ c.mark.ensures.y c.mark.ensures.z c.next_from.ensures in
    let low = row_low v.grid c.args.y c.args.z c.requires.y c.requires.z in
    let l = c.args.self.now.walked in
    let nx : c.nx.result ≡ v.grid.nx = c.nx.ensures.value ∙ ap (λ (s : Grid). s.nx) c.sizes-sizes.ensures.value in
    let far : v.grid.nx ≤ 8 * c.next_from.result + 1 = omega (arith, c.if-next_from-bricks_along.true, c.bricks_along.ensures.value, nx) in
    let start : row_start v.grid c.args.y c.args.z + 0 ≡ row_start v.grid c.args.y c.args.z = omega arith in
    let quiet : loops_before v (row_start v.grid c.args.y c.args.z + v.grid.nx) ≡ loops_before v (row_start v.grid c.args.y c.args.z)
    = quiet_to v c.args.y c.args.z c.requires.y c.requires.z 0 v.grid.nx (omega arith) (omega arith) (λ x wide from low hy hz. still.cells x wide (omega arith) (omega (arith, wide, far)) hy hz) ∙ ap (loops_before v) start in
    let next = start_next v c.args.y c.args.z c.requires.y c.requires.z in
    let h : IsWalked g.T.Tally.value g.T.Tally.fits g.T.Tally.of_loop v row (loops_before v (v.grid.nx * (row + 1))) l.labels l.tallies.items l.edges
    = subst (λ ls. IsWalked g.T.Tally.value g.T.Tally.fits g.T.Tally.of_loop v row ls l.labels l.tallies.items l.edges) (sym quiet ∙ ap (loops_before v) next) c.requires.state.walked in
    record {
      field = refl;
      active = c.mark.ensures.marked;
      count = c.requires.state.count;
      walked = subst (λ q. IsWalked g.T.Tally.value g.T.Tally.fits g.T.Tally.of_loop v (row + 1) (loops_before v q) l.labels l.tallies.items l.edges) (sym next)
          (quiet_row v g.T.Tally.value g.T.Tally.fits g.T.Tally.of_loop row l.labels l.tallies.items l.edges is low h
          (λ m first last. no_crossing v c.args.y c.args.z c.requires.y c.requires.z 0 v.grid.nx
          (λ x least wide. still.points x wide (omega arith) (omega (arith, far, wide, is.x.least))) m (omega (arith, first)) (omega (arith, last, next))));
    }

pub add_row_here-requires-clause-state : goal.add_row_here-requires-clause-state
add_row_here-requires-clause-state g c =
    let v = c.args.self.now.field in
    let l = c.args.self.now.walked in
    record {
      field = refl;
      active = c.mark.ensures.marked;
      count = c.requires.state.count;
      walked = at_row
          (λ y z. IsWalked g.T.Tally.value g.T.Tally.fits g.T.Tally.of_loop v (y + v.grid.ny * z) (loops_before v (row_start v.grid y z)) l.labels l.tallies.items l.edges)
          _ _ _ _ (sym c.mark.ensures.y) (sym c.mark.ensures.z) c.requires.state.walked;
    }

pub leave_row-requires-clause-active : goal.leave_row-requires-clause-active
leave_row-requires-clause-active g c =
    let h = c.in_ok-add_row_here.ensures.state in
    subst (λ (v : Leveled). AreMarked v c.add_row_here.new.self.active) (sym h.field) h.active

pub leave_row-requires-clause-y : goal.leave_row-requires-clause-y
leave_row-requires-clause-y g c =
    let e = c.in_ok-add_row_here.ensures in
    let y = ap (λ (a : ActiveRow). a.y) e.active ∙ c.mark.ensures.y in
    subst (λ (v : Leveled). c.add_row_here.new.self.active.y < v.grid.ny) (sym e.state.field) (omega (arith, y, c.requires.y))

pub leave_row-requires-clause-z : goal.leave_row-requires-clause-z
leave_row-requires-clause-z g c =
    let e = c.in_ok-add_row_here.ensures in
    let z = ap (λ (a : ActiveRow). a.z) e.active ∙ c.mark.ensures.z in
    subst (λ (v : Leveled). c.add_row_here.new.self.active.z < v.grid.nz) (sym e.state.field) (omega (arith, z, c.requires.z))

pub leave_row-requires-clause-state : goal.leave_row-requires-clause-state
leave_row-requires-clause-state g c =
    let e = c.in_ok-add_row_here.ensures in
    let w = c.add_row_here.new.self in
    let v = c.args.self.now.field in
    let l = w.walked in
    subst
    (λ (v : Leveled). IsWalked g.T.Tally.value g.T.Tally.fits g.T.Tally.of_loop v (w.active.y + v.grid.ny * w.active.z) (loops_before v (row_start v.grid w.active.y w.active.z + v.grid.nx)) l.labels l.tallies.items l.edges)
    (sym e.state.field)
    (subst
    (λ (a : ActiveRow). IsWalked g.T.Tally.value g.T.Tally.fits g.T.Tally.of_loop v (a.y + v.grid.ny * a.z) (loops_before v (row_start v.grid a.y a.z + v.grid.nx)) l.labels l.tallies.items l.edges)
    (sym e.active) e.state.walked)

pub returns-clause-state : goal.returns-clause-state
returns-clause-state g c =
    let e = c.in_ok-add_row_here.ensures in
    let h = e.state in
    let l = c.leave_row.new.walked in
    let y = ap (λ (a : ActiveRow). a.y) e.active ∙ c.mark.ensures.y in
    let z = ap (λ (a : ActiveRow). a.z) e.active ∙ c.mark.ensures.z in
    record {
      field = h.field;
      active = h.active;
      count = h.count;
      walked = subst
          (λ (v : Leveled). IsWalked g.T.Tally.value g.T.Tally.fits g.T.Tally.of_loop v (c.args.y + v.grid.ny * c.args.z + 1) (loops_before v (row_start v.grid c.args.y c.args.z + v.grid.nx)) l.labels l.tallies.items l.edges)
          h.field
          (at_row
          (λ y z. (let v = c.add_row_here.new.self.field in IsWalked g.T.Tally.value g.T.Tally.fits g.T.Tally.of_loop v (y + v.grid.ny * z + 1) (loops_before v (row_start v.grid y z + v.grid.nx)) l.labels l.tallies.items l.edges))
          _ _ _ _ y z c.in_ok-leave_row.ensures);
    }
