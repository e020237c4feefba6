use Rattle.std.proofs.Common.{◌≡◌, ℕ, List, ◌<◌, ◌∙◌, ◌++◌, ap, arith, get_or, map, sym}
use Rattle.std.proofs.lemmas.List.{length-take}
use Rattle.std.proofs.lemmas.List.Elements.{All-nil}
use Rattle.case_faces.specs.Fans.{fan_of}
use Rattle.cell_loops.specs.Loops.{row_centres, row_loops}
use Rattle.flat_mesh.specs.Rows.{row_start}
use Rattle.mesh_walk.specs.Fans.{by_numbers, row_fans}
use Rattle.mesh_walk.proofs.ActiveCells.{case_of, cell_low, few_cells, gap, gap_before, gap_low, gap_next, place_low, quiet_gap, quiet_rest}
use Rattle.mesh_walk.proofs.CentreLines.{tested_at}
use Rattle.mesh_walk.proofs.RowFans.{first_fans, no_more, one_cell}
use Rattle.mesh_walk.proofs.centres.list_fans.Goals as goal

pub loop-k-init : goal.loop-k-init
loop-k-init g c =
    let v = g.H.Heights.leveled c.args.field.now in
    let cells = c.args.cells.now in
    record {
      few = omega arith;
      are = sym (first_fans v (row_start v.grid cells.y cells.z));
      low = All-nil _;
    }

pub of-requires : goal.of-requires
of-requires g c = (case_of (g.H.Heights.leveled c.args.field.now) c.args.cells.now c.requires.cells c.loop-k.k c.loop-k-test.true).small

pub fill_fans-count-requires : goal.fill_fans-count-requires
fill_fans-count-requires g c =
    let v = g.H.Heights.leveled c.args.field.now in
    let low = place_low v c.args.cells.now c.requires.cells c.loop-k.k c.loop-k-test.true in
    record { room = omega (arith, low, c.loop-k.invariant.few, c.sizes.ensures.leveled.grid.x.most) }

pub loop-k-preserved : goal.loop-k-preserved
loop-k-preserved g c =
    let v = g.H.Heights.leveled c.args.field.now in
    let cells = c.args.cells.now in
    let are = c.requires.cells in
    let k = c.loop-k.k in
    let more = c.loop-k-test.true in
    let x = get_or cells.places k 0 in
    let start = row_start v.grid cells.y cells.z in
    let case = ap row_loops c.of.ensures ∙ (case_of v cells are k more).loops in
    let tested = tested_at v cells are x (cell_low v cells are k more) in
    record {
      few = omega (arith, c.fill_fans-count.ensures.end, c.loop-k.invariant.few);
      are = c.fill_fans-count.ensures.put
          ∙ (ap (λ l. l ++ map (λ (l : ℕ × List ℕ). (x, fan_of l.1)) (row_centres c.of.result)) c.loop-k.invariant.are
          ∙ (sym (one_cell v start (gap v cells are k) x c.of.result (gap_before v cells are k more) (quiet_gap v cells are k more) tested case)
          ∙ ap (λ n. map by_numbers (row_fans v start n)) (sym (gap_next v cells are k more))));
      low = c.fill_fans-count.ensures.low c.loop-k.invariant.low;
    }

pub returns-clause-few : goal.returns-clause-few
returns-clause-few g c =
    let v = g.H.Heights.leveled c.args.field.now in
    let few = few_cells v c.args.cells.now c.requires.cells in
    omega (arith, few, c.loop-k.auto.k-end, c.loop-k.invariant.few, c.sizes.ensures.leveled.grid.x.most)

pub returns-clause-fans : goal.returns-clause-fans
returns-clause-fans g c =
    let v = g.H.Heights.leveled c.args.field.now in
    let cells = c.args.cells.now in
    let are = c.requires.cells in
    let start = row_start v.grid cells.y cells.z in
    let some : 0 < v.grid.nx = omega (arith, c.sizes.ensures.leveled.grid.x.least) in
    let end : c.loop-k.k ≡ cells.count = omega (arith, c.loop-k-test.false, c.loop-k.auto.k-end) in
    let few = few_cells v cells are in
    let low = gap_low v cells are some cells.count (omega arith) in
    let taken = length-take c.loop-k.count c.loop-k.fans in
    record {
      are = c.loop-k.invariant.are
          ∙ (ap (λ k. map by_numbers (row_fans v start (gap v cells are k))) end
          ∙ ap (map by_numbers) (sym (no_more v start (gap v cells are cells.count) v.grid.nx (omega (arith, low)) (quiet_rest v cells are some))));
      few = omega (arith, taken, few, c.loop-k.auto.k-end, c.loop-k.invariant.few);
      low = c.loop-k.invariant.low;
    }
