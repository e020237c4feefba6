use Rattle.std.proofs.Common.{◌+◌, ◌*◌, ◌∙◌, ap, sym}
use Rattle.crossing_edges.specs.Flags.{rank}
use Rattle.flat_mesh.specs.Lattice.{heights}
use Rattle.flat_mesh.specs.Rows.{row_start}
use Rattle.mesh_rows.proofs.FlagEdges.{flags_small}
use Rattle.sample_rows.proofs.Tallied.{edges_of_row}
use Rattle.sample_rows.proofs.slice_counts.count_row_edges.Goals as goal

pub count_all_edges-requires-clause-flags : goal.count_all_edges-requires-clause-flags
count_all_edges-requires-clause-flags g c =
    flags_small c.args.field.now c.args.y c.args.z c.fill_flags.new.flags (c.fill_flags.auto.flags ∙ c.requires.count) c.fill_flags.ensures

pub returns-clause-count : goal.returns-clause-count
returns-clause-count g c =
    let v = c.args.field.now in
    edges_of_row v c.args.y c.args.z c.fill_flags.new.flags (c.fill_flags.auto.flags ∙ c.requires.count) c.fill_flags.ensures
    ∙ ap (λ n. rank v.grid (heights v) (3 * row_start v.grid c.args.y c.args.z) + n) (sym c.count_all_edges.ensures.value)
