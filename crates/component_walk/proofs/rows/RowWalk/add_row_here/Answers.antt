use Rattle.std.proofs.Common.{◌≡◌, ◌∙◌, ◌+◌, ◌*◌, ◌<◌, length, refl, sym, ap, subst, arith}
use Rattle.iso_defs.specs.Grid.{Grid}
use Rattle.flat_mesh.specs.Rows.{row_start}
use Rattle.mesh_rows.specs.Rows.{AreCases}
use Rattle.brick_rows.specs.Named.{Named}
use Rattle.component_walk.specs.Walks.{IsWalked, loops_before}
use Rattle.component_walk.proofs.AskedLaws.{asked_inner}
use Rattle.component_walk.proofs.RowLaws.{all_written, quiet_to}
use Rattle.component_walk.proofs.rows.RowWalk.add_row_here.Goals as goal
use Rattle.component_walk.proofs.rows.RowWalk.add_row_here.Goals.{then-y-ny-via-then-y-ny, then-y-ny-via-else-y-ny+then-z-nz}

pub returns-then-y-ny-clause-state : goal.returns-then-y-ny-clause-state
returns-then-y-ny-clause-state g c =
    let v = c.args.self.now.field in
    let l = c.args.self.now.walked in
    let ny : c.ny.result ≡ v.grid.ny = c.ny.ensures.value ∙ ap (λ (s : Grid). s.ny) c.sizes-sizes.ensures.value in
    let none : c.args.self.now.active.y + 1 < v.grid.ny → c.args.self.now.active.z + 1 < v.grid.nz → ⊥
    = λ hy hz. elim c.then-y-ny.branch [
      | then-y-ny-via-then-y-ny w ↦ omega (arith, hy, ny, w.if-y-ny.true)
      | then-y-ny-via-else-y-ny+then-z-nz w ↦ (
          let nz : w.nz.result ≡ v.grid.nz = w.nz.ensures.value ∙ ap (λ (s : Grid). s.nz) c.sizes-sizes.ensures.value in
          omega (arith, hz, nz, w.if-z-nz.true))
    ] in
    let start : row_start v.grid c.args.self.now.active.y c.args.self.now.active.z + 0 ≡ row_start v.grid c.args.self.now.active.y c.args.self.now.active.z = omega arith in
    record {
      field = refl;
      active = c.requires.state.active;
      count = c.requires.state.count;
      walked = subst (λ ls. IsWalked g.T.Tally.value g.T.Tally.fits g.T.Tally.of_loop v (c.args.self.now.active.y + v.grid.ny * c.args.self.now.active.z) ls l.labels l.tallies.items l.edges)
          (sym (quiet_to v c.args.self.now.active.y c.args.self.now.active.z c.requires.y c.requires.z 0 v.grid.nx (omega arith) (omega arith) (λ x wide from low hy hz. absurd (none hy hz)) ∙ ap (loops_before v) start)) c.requires.state.walked;
    }

pub add_row-requires-clause-cases : goal.add_row-requires-clause-cases
add_row-requires-clause-cases g c =
    let cases = c.args.self.now.cases in
    let size : length c.case_row.new.cases ≡ length cases.items = c.case_row.auto.cases ∙ ap length c.as_mut_slice.ensures.value in
    subst (AreCases c.args.self.now.field c.args.self.now.active.y c.args.self.now.active.z) (sym (c.deref.ensures.value ∙ all_written cases.len cases.items c.case_row.new.cases cases.ok.0 size)) c.case_row.ensures.cases

pub returns-clause-state : goal.returns-clause-state
returns-clause-state g c =
    let cases = c.args.self.now.cases in
    let size : length c.case_row.new.cases ≡ length cases.items = c.case_row.auto.cases ∙ ap length c.as_mut_slice.ensures.value in
    record {
      field = refl;
      active = c.requires.state.active;
      count = ap length (all_written cases.len cases.items c.case_row.new.cases cases.ok.0 size) ∙ (size ∙ c.requires.state.count);
      walked = c.in_ok-add_row.ensures;
    }

pub returns-in_err-add_row-clause-most : goal.returns-in_err-add_row-clause-most
returns-in_err-add_row-clause-most g c =
    let v = c.args.self.now.field in
    let at = c.args.self.now.active in
    let names : Named = g.R.CellRows.named c.args.rows.now in
    let ny : c.ny.result ≡ v.grid.ny = c.ny.ensures.value ∙ ap (λ (s : Grid). s.ny) c.sizes-sizes.ensures.value in
    let nz : c.nz.result ≡ v.grid.nz = c.nz.ensures.value ∙ ap (λ (s : Grid). s.nz) c.sizes-sizes.ensures.value in
    omega (arith, c.case_row.ensures.most, asked_inner v names at.z at.y (omega (arith, c.if-y-ny.false, ny)) (omega (arith, c.if-z-nz.false, nz)))

pub returns-clause-most : goal.returns-clause-most
returns-clause-most g c =
    let v = c.args.self.now.field in
    let at = c.args.self.now.active in
    let names : Named = g.R.CellRows.named c.args.rows.now in
    let ny : c.ny.result ≡ v.grid.ny = c.ny.ensures.value ∙ ap (λ (s : Grid). s.ny) c.sizes-sizes.ensures.value in
    let nz : c.nz.result ≡ v.grid.nz = c.nz.ensures.value ∙ ap (λ (s : Grid). s.nz) c.sizes-sizes.ensures.value in
    omega (arith, c.case_row.ensures.most, asked_inner v names at.z at.y (omega (arith, c.if-y-ny.false, ny)) (omega (arith, c.if-z-nz.false, nz)))
