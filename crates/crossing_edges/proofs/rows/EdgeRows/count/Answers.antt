use Rattle.std.proofs.Common.{◌≡◌, ◌+◌, ◌*◌, ◌<◌, ◌∙◌, All, ap, ap₂, arith, length, subst, sym}
use Rattle.std.specs.List.{sum_by}
use Rattle.iso_defs.specs.Grid.{Grid, point_count}
use Rattle.crossing_edges.specs.Flags.{edges_in, rank}
use Rattle.crossing_edges.specs.Leveled.{heights}
use Rattle.crossing_edges.proofs.Counting.{all_flags_low, length-flags_from, rank_all, rank_none, rank_of_row}
use Rattle.crossing_edges.proofs.rows.EdgeRows.count.Goals as goal

pub loop-row-init : goal.loop-row-init
loop-row-init g c =
    let v = c.args.self.now in
    let none : 3 * (v.grid.nx * 0) ≡ 0 = omega arith in
    record {
      count = sym (ap (rank v.grid (heights v)) none ∙ rank_none v.grid (heights v));
      few = omega arith;
      signs = c.begin.ensures;
      flags = c.requires.flags;
    }

pub count_all_edges-count-requires-clause-flags : goal.count_all_edges-count-requires-clause-flags
count_all_edges-count-requires-clause-flags g c =
    let v = c.args.self.now in
    subst (All (λ f. f < 8)) (sym c.fill_flags.ensures.flags) (all_flags_low v.grid (heights v) (v.grid.nx * c.loop-row.row) v.grid.nx)

pub loop-row-preserved : goal.loop-row-preserved
loop-row-preserved g c =
    let v = c.args.self.now in
    let flags = c.fill_flags.ensures.flags in
    let long : length c.fill_flags.new.flags ≡ v.grid.nx = ap length flags ∙ length-flags_from v.grid (heights v) (v.grid.nx * c.loop-row.row) v.grid.nx in
    record {
      count = ap₂ (λ a b. a + b) c.loop-row.invariant.count (c.count_all_edges-count.ensures.value ∙ ap (sum_by edges_in) flags) ∙ sym (rank_of_row v.grid (heights v) c.loop-row.row);
      few = omega (arith, c.loop-row.invariant.few, c.count_all_edges-count.ensures.bound, long);
      signs = c.fill_flags.ensures.signs;
      flags = long;
    }

pub returns-clause-count : goal.returns-clause-count
returns-clause-count g c =
    let v = c.args.self.now in
    let ny : c.ny.result ≡ v.grid.ny = c.ny.ensures.value ∙ ap (λ (g : Grid). g.ny) c.sizes-sizes.ensures.value in
    let nz : c.nz.result ≡ v.grid.nz = c.nz.ensures.value ∙ ap (λ (g : Grid). g.nz) c.sizes-sizes.ensures.value in
    let end : c.ny.result * c.nz.result ≡ v.grid.ny * v.grid.nz = ap₂ (λ a b. a * b) ny nz in
    let last : c.loop-row.row ≡ v.grid.ny * v.grid.nz = omega (arith, c.loop-row-test.false, c.loop-row.auto.row-end, end) in
    let all : 3 * (v.grid.nx * c.loop-row.row) ≡ 3 * point_count v.grid = ap (λ n. 3 * (v.grid.nx * n)) last ∙ omega arith in
    c.loop-row.invariant.count ∙ (ap (rank v.grid (heights v)) all ∙ rank_all v.grid (heights v))
