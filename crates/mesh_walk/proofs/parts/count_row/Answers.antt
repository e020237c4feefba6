use Rattle.std.proofs.Common.{rules, ◌≡◌, ◌*◌, ◌∙◌, ap₂, sym, arith}
use Rattle.flat_mesh.specs.Rows.{row_start}
use Rattle.mesh_rows.specs.Counts.{centres_among, triangles_among}
use Rattle.mesh_walk.specs.Cells.{AreCells}
use Rattle.mesh_walk.specs.Numbers.{row_number}
use Rattle.mesh_walk.proofs.CellRuns.{no_centres_among}
use Rattle.mesh_walk.proofs.RowCentres.{few_cells, low_cells}
use Rattle.mesh_walk.proofs.RowCounts.{no_triangles_among, row_centre_count, row_corner_count}
use Rattle.mesh_walk.proofs.parts.count_row.Goals as goal

pub returns-then-not-find-clause-centres : goal.returns-then-not-find-clause-centres
returns-then-not-find-clause-centres g c =
    let v = g.R.Heights.leveled c.args.rows.now in
    sym (no_centres_among v (v.grid.nx * row_number v.grid c.args.row) v.grid.nx (c.find.ensures.quiet c.if-not-find.true))

pub returns-then-not-find-clause-faces : goal.returns-then-not-find-clause-faces
returns-then-not-find-clause-faces g c =
    let v = g.R.Heights.leveled c.args.rows.now in
    sym (no_triangles_among v (v.grid.nx * row_number v.grid c.args.row) v.grid.nx (c.find.ensures.quiet c.if-not-find.true))

pub count_listed-requires : goal.count_listed-requires
count_listed-requires g c =
    let v = g.R.Heights.leveled c.args.rows.now in
    let are : AreCells v c.find.new.self = search rules in
    low_cells v c.sizes.ensures.leveled.grid c.find.new.self are

pub returns-clause-centres : goal.returns-clause-centres
returns-clause-centres g c =
    let v = g.R.Heights.leveled c.args.rows.now in
    let are : AreCells v c.find.new.self = search rules in
    let y : c.find.new.self.y ≡ c.args.row.y = search rules in
    let z : c.find.new.self.z ≡ c.args.row.z = search rules in
    c.count_listed.ensures.centres
    ∙ (row_centre_count v c.sizes.ensures.leveled.grid c.find.new.self are ∙ ap₂ (λ y z. centres_among v (row_start v.grid y z) v.grid.nx) y z)

pub returns-clause-faces : goal.returns-clause-faces
returns-clause-faces g c =
    let v = g.R.Heights.leveled c.args.rows.now in
    let are : AreCells v c.find.new.self = search rules in
    let y : c.find.new.self.y ≡ c.args.row.y = search rules in
    let z : c.find.new.self.z ≡ c.args.row.z = search rules in
    let same = ap₂ (λ y z. triangles_among v (row_start v.grid y z) v.grid.nx) y z in
    omega (arith, c.count_listed.ensures.faces, row_corner_count v c.sizes.ensures.leveled.grid c.find.new.self are, same)

pub returns-clause-few_centres : goal.returns-clause-few_centres
returns-clause-few_centres g c =
    let v = g.R.Heights.leveled c.args.rows.now in
    let are : AreCells v c.find.new.self = search rules in
    omega (arith, c.count_listed.ensures.few_centres, few_cells v c.sizes.ensures.leveled.grid c.find.new.self are)

pub returns-clause-few_faces : goal.returns-clause-few_faces
returns-clause-few_faces g c =
    let v = g.R.Heights.leveled c.args.rows.now in
    let are : AreCells v c.find.new.self = search rules in
    omega (arith, c.count_listed.ensures.few_faces, few_cells v c.sizes.ensures.leveled.grid c.find.new.self are)
