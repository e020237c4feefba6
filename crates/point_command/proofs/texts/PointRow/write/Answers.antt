use Rattle.std.proofs.Common.{◌≡◌, ◌+◌, ◌*◌, ◌<◌, ◌≤◌, ◌∙◌, List, ℕ, All, Ok, ap, ap₂, sym, subst, arith, take, map, zero-add}
use Rattle.iso_defs.specs.Grid.{Grid, index}
use Rattle.byte_streams.specs.Seen.{Stages}
use Rattle.byte_streams.specs.declared.Failed.{Failed}
use Rattle.byte_streams.proofs.Staging.{nothing_staged}
use Rattle.crossing_edges.specs.Leveled.{heights}
use Rattle.crossing_edges.proofs.OffsetEdges.{offset_at, offsets_low}
use Rattle.mesh_lines.specs.RowLines.{RowPlace}
use Rattle.point_command.proofs.PointLines.{lines_none, places_low}
use Rattle.point_command.proofs.RowPoints.{lines_are}
use Rattle.point_command.proofs.texts.PointRow.write.Goals as goal

pub returns-then-count-eq0-clause-lines : goal.returns-then-count-eq0-clause-lines
returns-then-count-eq0-clause-lines g c =
    let v = c.args.rows.now in
    let start = v.grid.nx * c.args.row in
    let none = sym c.list_row-count.ensures.edges ∙ ap (λ n. map (λ e. 3 * start + e) (take n c.list_row-count.new.room.edges)) c.if-count-eq0.true in
    subst (λ (text : List ℕ). Stages {T = Unit {0}} {E = Failed} (g.K.Sink.seen c.args.sink.now) (g.K.Sink.seen c.args.sink.now) c.args.block.now.waiting c.args.block.now.waiting (Ok tt) text)
    (sym (lines_none v.grid (heights v) (3 * start) (3 * v.grid.nx) none)) (nothing_staged (g.K.Sink.seen c.args.sink.now) c.args.block.now.waiting tt)

pub write_edges-requires-clause-edges : goal.write_edges-requires-clause-edges
write_edges-requires-clause-edges g c =
    let v = c.args.rows.now in
    let edges = take c.list_row-count.result c.list_row-count.new.room.edges in
    subst (λ n. All (λ e. e < 3 * n) edges) (sym (ap (λ (t : RowPlace). t.count) c.move_to.ensures ∙ c.requires.texts.width))
    (offsets_low v.grid (heights v) (v.grid.nx * c.args.row) v.grid.nx edges c.list_row-count.ensures.edges)

pub write_edges-requires-clause-places : goal.write_edges-requires-clause-places
write_edges-requires-clause-places g c =
    let v = c.args.rows.now in
    subst (All (λ d. d ≤ 1000)) (sym c.list_row-count.ensures.places) (places_low v.grid (heights v) (3 * (v.grid.nx * c.args.row)) (3 * v.grid.nx))

pub returns-clause-lines : goal.returns-clause-lines
returns-clause-lines g c =
    let v = c.args.rows.now in
    let s = heights v in
    let start = v.grid.nx * c.args.row in
    let row = c.move_to.new.self in
    let y = c.row_at-y.result.0 in
    let z = c.row_at-y.result.1 in
    let ny : c.sizes.result.ny ≡ v.grid.ny = ap (λ (g : Grid). g.ny) c.sizes.ensures.value in
    let nz : c.sizes.result.nz ≡ v.grid.nz = ap (λ (g : Grid). g.nz) c.sizes.ensures.value in
    let ey : row.y ≡ y = ap (λ (t : RowPlace). t.y) c.move_to.ensures in
    let ez : row.z ≡ z = ap (λ (t : RowPlace). t.z) c.move_to.ensures in
    let hy : row.y < v.grid.ny = omega (arith, ey, ny, c.row_at-y.ensures.y) in
    let hz : row.z < v.grid.nz = omega (arith, ez, nz, c.row_at-y.ensures.z) in
    let here : y + v.grid.ny * z ≡ c.args.row = subst (λ n. y + n * z ≡ c.args.row) ny c.row_at-y.ensures.row in
    let at : index v.grid 0 row.y row.z ≡ start = ap₂ (λ a b. 0 + v.grid.nx * (a + v.grid.ny * b)) ey ez ∙ (zero-add _ ∙ ap (λ n. v.grid.nx * n) here) in
    let edges = take c.list_row-count.result c.list_row-count.new.room.edges in
    let places = take c.list_row-count.result c.list_row-count.new.room.places in
    subst (λ (text : List ℕ). Stages {T = Unit {0}} {E = Failed} (g.K.Sink.seen c.args.sink.now) (g.K.Sink.seen c.write_edges.new.sink) c.args.block.now.waiting c.write_edges.new.block.waiting c.write_edges.result text)
    (lines_are v.grid s row start (ap (λ (t : RowPlace). t.style) c.move_to.ensures ∙ c.requires.texts.style) hy hz at edges places c.list_row-count.ensures.edges c.list_row-count.ensures.places
    (λ i low. (offset_at v.grid s start v.grid.nx edges c.list_row-count.ensures.edges i low).low))
    c.write_edges.ensures
