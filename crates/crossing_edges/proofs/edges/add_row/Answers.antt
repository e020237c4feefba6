use Rattle.std.proofs.Common.{◌+◌, ◌*◌, ◌<◌, ◌^◌, ◌∙◌, All, ap, sym, subst, arith, drop, length, take}
use Rattle.iso_defs.specs.Grid.{Grid, point_count}
use Rattle.crossing_edges.specs.Leveled.{heights}
use Rattle.crossing_edges.proofs.Counting.{length-flags_from}
use Rattle.crossing_edges.proofs.FlagParts.{flags_of_row, row_in}
use Rattle.crossing_edges.proofs.OffsetEdges.{names_fit}
use Rattle.crossing_edges.proofs.edges.add_row.Goals as goal

pub row_flags-requires-clause-all : goal.row_flags-requires-clause-all
row_flags-requires-clause-all g c =
    let v = c.args.rows.now in
    ap length c.requires.flags.flags_are ∙ (length-flags_from v.grid (heights v) 0 (point_count v.grid) ∙ ap point_count (sym c.sizes-sizes.ensures.value))

pub list_row-count-requires-clause-flags : goal.list_row-count-requires-clause-flags
list_row-count-requires-clause-flags g c =
    let v = c.args.rows.now in
    c.row_flags.ensures ∙ (ap (λ (g : Grid). take g.nx (drop (g.nx * c.args.row) c.args.flags.now)) c.sizes-sizes.ensures.value
    ∙ flags_of_row v.grid (heights v) c.args.flags.now c.args.row c.requires.row c.requires.flags.flags_are)

pub add_names-requires : goal.add_names-requires
add_names-requires g c =
    let v = c.args.rows.now in
    let edges = take c.list_row-count.result c.list_row-count.new.room.edges in
    subst (λ n. All (λ e. 3 * (n * c.args.row) + e < 2 ^ 32) edges) (sym (c.nx.ensures.value ∙ ap (λ (g : Grid). g.nx) c.sizes-sizes.ensures.value))
    (names_fit v.grid (heights v) (v.grid.nx * c.args.row) v.grid.nx edges c.list_row-count.ensures.edges (2 ^ 32) (omega (arith, row_in v.grid c.args.row c.requires.row, c.sizes-sizes.ensures.leveled.grid.count)))
