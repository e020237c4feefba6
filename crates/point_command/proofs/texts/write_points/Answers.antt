use Rattle.std.proofs.Common.{◌≡◌, [], ◌++◌, ◌∙◌, ap, ap₂}
use Rattle.std.proofs.lemmas.Result.{err_from_is_err_and}
use Rattle.crossing_edges.specs.Leveled.{heights}
use Rattle.mesh_lines.specs.Blocks.{Gathered}
use Rattle.mesh_text.specs.Lines.{points_head}
use Rattle.point_command.proofs.PointLines.{points_are, text_not_put, text_put}
use Rattle.point_command.proofs.texts.write_points.Goals as goal

pub returns-in_err-write_rows : goal.returns-in_err-write_rows
returns-in_err-write_rows g c =
    let v = c.args.rows.now in
    let p = err_from_is_err_and c.from_residual.result c.from_residual.ensures.1 in
    let waits : c.push.new.self.waiting ≡ [] ++ points_head c.count.result
    = c.push.ensures.put.waiting ∙ ap₂ (λ a b. a ++ b) (ap (λ (b : Gathered). b.waiting) c.new-block.ensures) (c.as_bytes.ensures.value ∙ (c.as_str.ensures.value ∙ c.points_head_text.ensures)) in
    rw p.1 (text_not_put _ _ _ _ _ _ _ _ _ waits (points_are v.grid (heights v) c.count.result c.count.ensures.count) c.in_err-write_rows.ensures)

pub returns : goal.returns
returns g c =
    let v = c.args.rows.now in
    let waits : c.push.new.self.waiting ≡ [] ++ points_head c.count.result
    = c.push.ensures.put.waiting ∙ ap₂ (λ a b. a ++ b) (ap (λ (b : Gathered). b.waiting) c.new-block.ensures) (c.as_bytes.ensures.value ∙ (c.as_str.ensures.value ∙ c.points_head_text.ensures)) in
    text_put _ _ _ tt _ _ _ _ _ _ waits (points_are v.grid (heights v) c.count.result c.count.ensures.count) c.in_ok-write_rows.ensures c.write_waiting.ensures.text
