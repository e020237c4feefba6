use Rattle.std.proofs.Common.{◌≡◌, ◌∙◌, ap, ap₂, sym, subst, arith}
use Rattle.iso_defs.specs.Bricks.{brick_count}
use Rattle.iso_base.specs.Volume.{IsGrid}
use Rattle.std.specs.Prelude.{IfOk}
use Rattle.byte_streams.specs.Seen.{Puts}
use Rattle.flat_mesh.specs.Lattice.{Leveled, heights}
use Rattle.flat_mesh.specs.Mesh.{mesh_of}
use Rattle.mesh_lines.specs.Lines.{text_of, written_of}
use Rattle.brick_rows.specs.Named.{Named, asked_among}
use Rattle.stitch.specs.Kept.{StoreKept}
use Rattle.stitch.specs.Recent.{AreRecent}
use Rattle.stitch.proofs.AskedSums.{rows_cost}
use Rattle.stitch.proofs.write.write_in.Goals as goal

pub returns-clause-text : goal.returns-clause-text
returns-clause-text g c =
    let seen = g.K.Sink.seen in
    subst (λ (v : Leveled). Puts (seen c.args.sink.now) (seen c.write_mesh.new.sink) c.write_mesh.result (text_of c.args.style (mesh_of v.grid (heights v))))
    c.new-store.ensures.field c.write_mesh.ensures.text

pub returns-clause-written : goal.returns-clause-written
returns-clause-written g c =
    subst (λ (v : Leveled). IfOk c.write_mesh.result (λ w. w ≡ written_of c.args.style (mesh_of v.grid (heights v)))) c.new-store.ensures.field c.write_mesh.ensures.written

-- what the walk left behind the references that the rows held
pub returns-clause-same : goal.returns-clause-same
returns-clause-same g c =
    let kept = c.write_mesh.ensures.kept in
    let name = sym (ap (λ (k : StoreKept). k.rows) kept ∙ c.new-store.ensures.same_rows) in
    ap g.R.CellRows.named (c.rows-1.given.1 name) ∙ (ap (λ (k : StoreKept). k.names) kept ∙ ap g.R.CellRows.named c.new-store.ensures.rows)

pub returns-clause-least : goal.returns-clause-least
returns-clause-least g c =
    let name = sym (ap (λ (k : StoreKept). k.steps) c.write_mesh.ensures.kept ∙ c.new-store.ensures.same_steps) in
    omega (arith, c.steps-1.given.1 name, c.new-store.ensures.steps, c.write_mesh.ensures.least)

pub returns-clause-most : goal.returns-clause-most
returns-clause-most g c =
    let v = c.new-store.result.field.now in
    let names : Named = g.R.CellRows.named c.new-store.result.rows.now in
    let name = sym (ap (λ (k : StoreKept). k.steps) c.write_mesh.ensures.kept ∙ c.new-store.ensures.same_steps) in
    let grid = subst (λ (v : Leveled). IsGrid v.grid) (sym c.new-store.ensures.field) c.sizes.ensures.leveled.grid in
    let same = ap₂ (λ (v : Leveled) (n : Named). asked_among v.grid (heights v) n 0 (brick_count v.grid)) c.new-store.ensures.field (ap g.R.CellRows.named c.new-store.ensures.rows) in
    omega (arith, c.steps-1.given.1 name, c.new-store.ensures.steps, c.write_mesh.ensures.most, rows_cost v grid names, same)

-- what is known after the walk is right for its volume
pub returns-clause-right : goal.returns-clause-right
returns-clause-right g c =
    let rows = c.write_mesh.new.rows in
    subst (λ (v : Leveled). AreRecent v rows.known.now.recent) (c.write_mesh.ensures.volume ∙ c.new-store.ensures.field) rows.known_are.recent
