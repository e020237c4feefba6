use Rattle.std.proofs.Common.{arith, ◌≡◌, ◌++◌, ◌∙◌, ap, subst, List, ℕ}
use Rattle.mesh_lines.specs.Lines.{vertex_line}
use Rattle.mesh_lines.specs.RowLines.{RowPlace, edge_at}
use Rattle.mesh_lines.proofs.RowLines.{upper_line}
use Rattle.mesh_lines.proofs.row_texts.RowTexts.gather_upper_end.Goals as goal

pub returns-clause-line : goal.returns-clause-line
returns-clause-line c =
    subst (λ (row : RowPlace). c.push_thirds.new.self ≡ c.args.lines.now ++ vertex_line row.style (0, edge_at row c.args.edge 1000)) c.self.view_is
    (c.push_thirds.ensures.line ∙ ap (λ (l : List ℕ). c.args.lines.now ++ l)
    (upper_line _ _ _ _ _ c.self.invariant c.args.edge c.from.result c.step.result c.step-2.result c.step-3.result
    c.from.ensures c.step.ensures.value c.step-2.ensures.value c.step-3.ensures.value
    (omega (arith, c.requires.edge, ap (λ (row : RowPlace). row.count) c.self.view_is))))
