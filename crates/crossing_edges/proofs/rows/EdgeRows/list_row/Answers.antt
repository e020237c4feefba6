use Rattle.std.proofs.Common.{◌+◌, ◌*◌, ◌<◌, ◌≤◌, ◌∙◌, All, ap, sym, subst, arith, length, take}
use Rattle.std.proofs.lemmas.List.{length-take}
use Rattle.iso_defs.specs.Grid.{point_count}
use Rattle.crossing_edges.specs.Leveled.{heights}
use Rattle.crossing_edges.specs.Rows.{AreOffsets}
use Rattle.crossing_edges.proofs.Counting.{all_flags_low, length-flags_from}
use Rattle.crossing_edges.proofs.FlagParts.{row_in}
use Rattle.crossing_edges.proofs.OffsetEdges.{offsets_of}
use Rattle.crossing_edges.proofs.rows.EdgeRows.list_row.Goals as goal

pub list_edges-count-requires-clause-few : goal.list_edges-count-requires-clause-few
list_edges-count-requires-clause-few g c =
    let v = c.args.self.now in
    let len = ap length c.requires.flags ∙ length-flags_from v.grid (heights v) (v.grid.nx * c.args.row) v.grid.nx in
    omega (arith, len, c.nx.ensures.grid.x.most)

pub list_edges-count-requires-clause-flags : goal.list_edges-count-requires-clause-flags
list_edges-count-requires-clause-flags g c =
    let v = c.args.self.now in
    subst (All (λ f. f < 8)) (sym c.requires.flags) (all_flags_low v.grid (heights v) (v.grid.nx * c.args.row) v.grid.nx)

pub shared_ref_as_front-fill_crossings : goal.shared_ref_as_front-fill_crossings
shared_ref_as_front-fill_crossings g c =
    let v = c.args.self.now in
    let len = ap length c.requires.flags ∙ length-flags_from v.grid (heights v) (v.grid.nx * c.args.row) v.grid.nx in
    omega (arith, len, c.nx.ensures.grid.x.most, c.list_edges-count.ensures.count)

pub fill_crossings-requires-clause-edges : goal.fill_crossings-requires-clause-edges
fill_crossings-requires-clause-edges g c =
    let v = c.args.self.now in
    subst (λ n. AreOffsets v (n * c.args.row) v.grid.nx (take c.list_edges-count.result c.list_edges-count.new.edges)) (sym c.nx.ensures.value)
    (offsets_of v.grid (heights v) (v.grid.nx * c.args.row) c.args.flags.now _ v.grid.nx c.requires.flags c.list_edges-count.ensures.put)

pub fill_crossings-requires-clause-points : goal.fill_crossings-requires-clause-points
fill_crossings-requires-clause-points g c =
    let v = c.args.self.now in
    subst (λ n. n * c.args.row + v.grid.nx ≤ point_count v.grid) (sym c.nx.ensures.value) (row_in v.grid c.args.row c.requires.row)

pub fill_crossings-requires-clause-few : goal.fill_crossings-requires-clause-few
fill_crossings-requires-clause-few g c =
    let v = c.args.self.now in
    let len = ap length c.requires.flags ∙ length-flags_from v.grid (heights v) (v.grid.nx * c.args.row) v.grid.nx in
    omega (arith, len, c.nx.ensures.grid.x.most, c.list_edges-count.ensures.count, length-take c.list_edges-count.result c.list_edges-count.new.edges)

pub returns-clause-edges : goal.returns-clause-edges
returns-clause-edges g c =
    let v = c.args.self.now in
    offsets_of v.grid (heights v) (v.grid.nx * c.args.row) c.args.flags.now _ v.grid.nx c.requires.flags c.list_edges-count.ensures.put

pub returns-clause-count : goal.returns-clause-count
returns-clause-count g c =
    let v = c.args.self.now in
    let len = ap length c.requires.flags ∙ length-flags_from v.grid (heights v) (v.grid.nx * c.args.row) v.grid.nx in
    omega (arith, len, c.list_edges-count.ensures.count)
