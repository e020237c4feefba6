use Rattle.std.proofs.Common.{◌≡◌, ◌∙◌, ap, arith}
use Rattle.iso_defs.specs.Grid.{Grid}
use Rattle.stitch.proofs.ListedRows.{front_cases}
use Rattle.stitch.proofs.row_memory.case_marked.Goals as goal

pub returns-clause-cases : goal.returns-clause-cases
returns-clause-cases g c =
    let v = c.args.field.now in
    let width : c.nx-nx.result ≡ v.grid.nx = c.nx-nx.ensures.value ∙ ap (λ (g : Grid). g.nx) c.sizes.ensures.value in
    front_cases v c.args.active.now.y c.args.active.now.z c.case_row.new.cases _ (omega (arith, c.case_row.auto.cases, width)) c.case_row.ensures.cases
