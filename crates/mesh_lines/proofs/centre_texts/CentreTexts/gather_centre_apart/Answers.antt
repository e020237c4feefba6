use Rattle.std.proofs.Common.{rules, arith, ◌≡◌, ◌≤◌, ◌++◌, ◌∙◌, ap, slice_index, subst, List, ℕ}
use Rattle.mesh_lines.specs.Lines.{vertex_line}
use Rattle.mesh_lines.specs.RowLines.{RowPlace, centre_at}
use Rattle.mesh_lines.proofs.RowLines.{near_centre_line}
use Rattle.mesh_lines.proofs.centre_texts.CentreTexts.gather_centre_apart.Goals as goal

pub returns-then-from-x-clause-line : goal.returns-then-from-x-clause-line
returns-then-from-x-clause-line c =
    let a : slice_index c.args.at.now 0 ≤ 1000 = search rules in
    let b : slice_index c.args.at.now 1 ≤ 1000 = search rules in
    let d : slice_index c.args.at.now 2 ≤ 1000 = search rules in
    subst (λ (row : RowPlace). c.push_thirds.new.self ≡ c.args.lines.now ++ vertex_line row.style (0, centre_at row c.args.x c.args.at.now)) c.self.view_is
    (c.push_thirds.ensures.line ∙ ap (λ (l : List ℕ). c.args.lines.now ++ l)
    (near_centre_line _ _ _ _ _ c.self.invariant c.args.x c.args.at.now c.decimals.result
    (omega (arith, c.requires.x, ap (λ (row : RowPlace). row.count) c.self.view_is)) (search rules) a b d c.decimals.ensures.x c.decimals.ensures.y c.decimals.ensures.z))
