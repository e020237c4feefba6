use Rattle.std.proofs.Common.{◌≡◌, ◌+◌, ◌<◌, ◌∙◌, ap, arith, length, rules, subst, sym}
use Rattle.std.proofs.lemmas.List.{take_at}
use Rattle.iso_defs.specs.Grid.{Grid}
use Rattle.sample_rows.specs.Cases.{AreRowCases, HasNoLoops}
use Rattle.sample_rows.proofs.Counted.{quiet_counted}
use Rattle.sample_rows.proofs.RowCases.{row_cases}
use Rattle.sample_rows.proofs.cases.fill_row.Goals as goal
use Rattle.sample_rows.proofs.cases.fill_row.Goals.{then-y-ny-via-then-y-ny, then-y-ny-via-else-y-ny+then-z-nz}

pub returns-then-y-ny-clause-counts : goal.returns-then-y-ny-clause-counts
returns-then-y-ny-clause-counts g c =
    let v = (g.H.Heights.leveled c.args.field.now) in
    let s = c.sizes-sizes.ensures.value in
    let none : HasNoLoops v c.args.y c.args.z = elim c.then-y-ny.branch [
      | then-y-ny-via-then-y-ny w ↦ (
          let last : c.args.y + 1 ≡ v.grid.ny = w.if-y-ny.true ∙ (c.ny.ensures.value ∙ ap (λ (g : Grid). g.ny) s) in
          record { none = λ x hx hy hz. absurd (omega (arith, last, hy)) })
      | then-y-ny-via-else-y-ny+then-z-nz w ↦ (
          let last : c.args.z + 1 ≡ v.grid.nz = w.if-z-nz.true ∙ (w.nz.ensures.value ∙ ap (λ (g : Grid). g.nz) s) in
          record { none = λ x hx hy hz. absurd (omega (arith, last, hz)) })
    ] in
    quiet_counted v c.args.y c.args.z c.args.counts none c.requires.y c.requires.z c.requires.counts

pub returns-clause-cases : goal.returns-clause-cases
returns-clause-cases g c =
    let v = (g.H.Heights.leveled c.args.field.now) in
    let s = c.sizes-sizes.ensures.value in
    let new = c.fill_cases.new.cases in
    let some : 0 < v.grid.nx = omega (arith, c.sizes-sizes.ensures.leveled.grid.x.least) in
    let ny : c.ny.result ≡ v.grid.ny = c.ny.ensures.value ∙ ap (λ (g : Grid). g.ny) s in
    let nz : c.nz.result ≡ v.grid.nz = c.nz.ensures.value ∙ ap (λ (g : Grid). g.nz) s in
    let held : c.fill.new.self.len ≡ length c.fill.new.self.items = search rules in
    let before : c.args.row.now.cases.len ≡ length c.args.row.now.cases.items = search rules in
    let filled : c.fill.new.self.len ≡ v.grid.nx = c.fill.ensures.len ∙ (before ∙ c.requires.count) in
    let count : length new ≡ v.grid.nx = c.fill_cases.auto.cases ∙ (ap length c.deref_mut-2.ensures.value ∙ (sym held ∙ filled)) in
    subst (AreRowCases v c.args.y c.args.z) (sym (take_at new _ c.fill.new.self.len (count ∙ sym filled)))
    (row_cases v c.args.y c.args.z new count some c.fill_cases.ensures.cases c.fill_cases.ensures.last
    (omega (arith, c.if-y-ny.false, c.requires.y, ny)) (omega (arith, c.if-z-nz.false, c.requires.z, nz)))
