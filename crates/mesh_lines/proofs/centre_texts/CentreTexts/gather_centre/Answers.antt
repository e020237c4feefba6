use Rattle.std.proofs.Common.{rules, arith, ◌≡◌, ◌++◌, ◌∙◌, ap, subst, List, ℕ}
use Rattle.mesh_lines.specs.Lines.{vertex_line}
use Rattle.mesh_lines.specs.RowLines.{RowPlace, centre_at}
use Rattle.mesh_lines.proofs.RowLines.{centre_line}
use Rattle.mesh_lines.proofs.centre_texts.CentreTexts.gather_centre.Goals as goal

pub returns-then-at-lt1000-3-clause-line : goal.returns-then-at-lt1000-3-clause-line
returns-then-at-lt1000-3-clause-line c =
    subst (λ (row : RowPlace). c.push_thirds.new.self ≡ c.args.lines.now ++ vertex_line row.style (0, centre_at row c.args.x c.args.at.now)) c.self.view_is
    (c.push_thirds.ensures.line ∙ ap (λ (l : List ℕ). c.args.lines.now ++ l)
    (centre_line _ _ _ _ _ c.self.invariant c.args.x c.args.at.now
    (omega (arith, c.requires.x, ap (λ (row : RowPlace). row.count) c.self.view_is)) (search rules) c.if-at-lt1000.true c.if-at-lt1000-2.true c.if-at-lt1000-3.true))
