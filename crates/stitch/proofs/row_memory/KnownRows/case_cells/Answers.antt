use Rattle.std.proofs.Common.{◌≡◌, ◌∙◌, ap}
use Rattle.brick_rows.specs.declared.active.ActiveRow.{ActiveRow}
use Rattle.mesh_rows.specs.Rows.{AreCases}
use Rattle.brick_rows.proofs.NextBricks.{at_row}
use Rattle.stitch.proofs.row_memory.KnownRows.case_cells.Goals as goal

pub returns-then-is_even-clause-cases : goal.returns-then-is_even-clause-cases
returns-then-is_even-clause-cases g c =
    let marked : c.deref.result.now ≡ c.mark.new.self = cc in
    at_row (λ y z. AreCases c.args.field.now y z c.case_marked.new.all) _ _ _ _
    (ap (λ (r : ActiveRow). r.y) marked ∙ c.mark.ensures.y) (ap (λ (r : ActiveRow). r.z) marked ∙ c.mark.ensures.z) c.case_marked.ensures.cases

pub returns-else-is_even-clause-cases : goal.returns-else-is_even-clause-cases
returns-else-is_even-clause-cases g c =
    let marked : c.deref-else-is_even.result.now ≡ c.mark-else-is_even.new.self = cc in
    at_row (λ y z. AreCases c.args.field.now y z c.case_marked-else-is_even.new.all) _ _ _ _
    (ap (λ (r : ActiveRow). r.y) marked ∙ c.mark-else-is_even.ensures.y) (ap (λ (r : ActiveRow). r.z) marked ∙ c.mark-else-is_even.ensures.z) c.case_marked-else-is_even.ensures.cases
