use Rattle.std.proofs.Common.{◌∙◌, ◌≤◌, ◌+◌, ap, arith, length, List, ℤ}
use Rattle.iso_base.specs.Volume.{sample}
use Rattle.samples.specs.Signs.{sign_of}
use Rattle.window_mesh.specs.Views.{InBox}
use Rattle.window_mesh.proofs.Viewing.{row_at}
use Rattle.window_mesh.proofs.view.BoxSamples.fill_row.Goals as goal

pub returns-clause-inside : goal.returns-clause-inside
returns-clause-inside c = λ i low.
    let b : InBox = c.args.self.now in
    let n = length c.args.row.now in
    let fits : c.args.first.x + n ≤ b.window.grid.nx = omega (arith, c.requires.first, c.requires.row) in
    c.fill_part.ensures.inside i (omega (arith, low, c.requires.row, c.copy_samples.auto.into))
    ∙ ap (λ (l : List ℤ). sign_of c.args.level (sample l i)) c.copy_samples.ensures
    ∙ ap (sign_of c.args.level) (row_at b c.args.first n c.requires.point fits i (omega (arith, low, c.requires.row)))
