use Rattle.std.proofs.Common.{◌≡◌, ◌<◌, All, length, ◌∙◌, ap, subst, sym, refl, arith}
use Rattle.iso_defs.specs.Grid.{Grid}
use Rattle.row_bits.specs.Edges.{edges_among}
use Rattle.mesh_rows.proofs.FlagEdges.{edges_are, flags_small}
use Rattle.stitch.proofs.ListedRows.{still_edges, take_front}
use Rattle.stitch.proofs.row_memory.list_marked.Goals as goal

pub returns-then-is_still-clause-edges : goal.returns-then-is_still-clause-edges
returns-then-is_still-clause-edges c = still_edges c.args.field.now c.args.active.now.y c.args.active.now.z _ (c.is_still.ensures.still c.if-is_still.true) refl

pub list_edges-requires-clause-flags : goal.list_edges-requires-clause-flags
list_edges-requires-clause-flags c =
    let v = c.args.field.now in
    let flags = c.flag_row.new.flags in
    let width : c.nx-nx.result ≡ v.grid.nx = c.nx-nx.ensures.value ∙ ap (λ (g : Grid). g.nx) c.sizes.ensures.value in
    let long : c.nx-nx.result ≡ length flags = omega (arith, c.flag_row.auto.flags, width) in
    subst (All (λ f. f < 8)) (sym (take_front flags _ c.nx-nx.result long))
    (flags_small v c.args.active.now.y c.args.active.now.z flags (sym long ∙ width) c.flag_row.ensures.each)

pub returns-clause-edges : goal.returns-clause-edges
returns-clause-edges c =
    let v = c.args.field.now in
    let flags = c.flag_row.new.flags in
    let width : c.nx-nx.result ≡ v.grid.nx = c.nx-nx.ensures.value ∙ ap (λ (g : Grid). g.nx) c.sizes.ensures.value in
    let long : c.nx-nx.result ≡ length flags = omega (arith, c.flag_row.auto.flags, width) in
    let front = take_front flags _ c.nx-nx.result long in
    edges_are v c.args.active.now.y c.args.active.now.z flags _ c.flag_row.ensures.each
    (c.list_edges.ensures.put ∙ (ap (λ l. edges_among l 0 (length l)) front ∙ ap (edges_among flags 0) (sym long ∙ width)))
