use Rattle.std.proofs.Common.{arith, ◌≡◌, ◌++◌, ◌∙◌, ap, subst, List, ℕ}
use Rattle.mesh_lines.specs.Lines.{vertex_line}
use Rattle.mesh_lines.specs.RowLines.{RowPlace, edge_at}
use Rattle.mesh_lines.proofs.RowLines.{edge_line}
use Rattle.mesh_lines.proofs.row_texts.RowTexts.gather_edge.Goals as goal

pub returns-clause-line : goal.returns-clause-line
returns-clause-line c =
    subst (λ (row : RowPlace). c.push_parts.new.self ≡ c.args.lines.now ++ vertex_line row.style (0, edge_at row c.args.edge c.args.place)) c.self.view_is
    (c.push_parts.ensures.line ∙ ap (λ (l : List ℕ). c.args.lines.now ++ l)
    (edge_line _ c.self.inside.fronts _ _ c.self.inside.parts c.self.invariant c.args.edge c.args.place c.from-axis.result c.from.result c.from-axis.ensures c.from.ensures
    (omega (arith, c.requires.edge, ap (λ (row : RowPlace). row.count) c.self.view_is)) (omega (arith, c.requires.place, c.if-place-eq1000.false)) c.if-edge-self.false))
