use Rattle.std.proofs.Common.{◌≡◌, ◌*◌, ◌∙◌, List, ℕ, Ok, ap, ap₂, sym, subst, arith}
use Rattle.std.proofs.lemmas.Result.{err_from_is_err_and}
use Rattle.iso_defs.specs.Grid.{Grid}
use Rattle.iso_defs.specs.Rows.{row_count}
use Rattle.byte_streams.specs.Seen.{Stages}
use Rattle.byte_streams.specs.declared.Failed.{Failed}
use Rattle.byte_streams.proofs.Staging.{nothing_staged}
use Rattle.crossing_edges.specs.Leveled.{heights}
use Rattle.mesh_lines.specs.RowLines.{RowPlace}
use Rattle.point_command.proofs.PointLines.{no_rows, row_failed, row_staged}
use Rattle.point_command.proofs.texts.write_rows.Goals as goal

pub loop-number-init : goal.loop-number-init
loop-number-init g c =
    let v = c.args.rows.now in
    record {
      texts = record {
        width = ap (λ (t : RowPlace). t.count) c.new-2.ensures ∙ (c.nx.ensures.value ∙ ap (λ (g : Grid). g.nx) c.sizes-sizes.ensures.value);
        style = ap (λ (t : RowPlace). t.style) c.new-2.ensures;
      };
      signs = c.begin.ensures;
      flags = c.requires.flags;
      lines = subst (λ (text : List ℕ). Stages {T = Unit {0}} {E = Failed} (g.K.Sink.seen c.args.sink.now) (g.K.Sink.seen c.args.sink.now) c.args.block.now.waiting c.args.block.now.waiting (Ok tt) text)
          (sym (no_rows v.grid (heights v))) (nothing_staged (g.K.Sink.seen c.args.sink.now) c.args.block.now.waiting tt);
    }

pub returns-in_err-write : goal.returns-in_err-write
returns-in_err-write g c =
    let v = c.args.rows.now in
    let p = err_from_is_err_and c.from_residual.result c.from_residual.ensures.1 in
    let rows : c.ny.result * c.nz.result ≡ row_count v.grid
    = ap₂ (λ a b. a * b) (c.ny.ensures.value ∙ ap (λ (g : Grid). g.ny) c.sizes-sizes.ensures.value) (c.nz.ensures.value ∙ ap (λ (g : Grid). g.nz) c.sizes-sizes.ensures.value) in
    rw p.1 (row_failed v.grid (heights v) _ _ _ tt _ _ _ _ _ _ c.loop-number.number (row_count v.grid) (omega (arith, rows, c.loop-number-test.true)) c.loop-number.invariant.lines c.in_err-write.ensures.lines)

pub loop-number-preserved : goal.loop-number-preserved
loop-number-preserved g c =
    let v = c.args.rows.now in
    record {
      texts = c.in_ok-write.ensures.texts;
      signs = c.fill_flags.ensures.signs;
      flags = c.fill_flags.auto.flags ∙ c.loop-number.invariant.flags;
      lines = row_staged v.grid (heights v) _ _ _ tt tt _ _ _ c.loop-number.number c.loop-number.invariant.lines c.in_ok-write.ensures.lines;
    }
