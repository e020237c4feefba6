use Rattle.std.proofs.Common.{length, sym, ◌∙◌, ap, subst}
use Rattle.flat_mesh.specs.Lattice.{Leveled}
use Rattle.mesh_rows.specs.Rows.{AreEdges}
use Rattle.sample_rows.proofs.RowPlaces.{places_count}
use Rattle.sample_rows.proofs.rows.ListRowsMeshRows.fill_places.Goals as goal

pub place_row-requires-clause-count : goal.place_row-requires-clause-count
place_row-requires-clause-count g c =
    places_count c.self.inside.field c.args.y c.args.z c.args.edges.now (subst (λ (v : Leveled). AreEdges v c.args.y c.args.z c.args.edges.now) (sym c.self.view_is) c.requires.edges)

pub copy_from_slice-requires : goal.copy_from_slice-requires
copy_from_slice-requires g c =
    c.requires.count
    ∙ (places_count c.self.inside.field c.args.y c.args.z c.args.edges.now (subst (λ (v : Leveled). AreEdges v c.args.y c.args.z c.args.edges.now) (sym c.self.view_is) c.requires.edges)
    ∙ sym (ap length c.place_row.ensures))
