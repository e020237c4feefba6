use Rattle.std.proofs.Common.{sym, subst}
use Rattle.flat_mesh.specs.Lattice.{heights}
use Rattle.brick_rows.specs.Named.{NamesCases}
use Rattle.stitch.proofs.store.StoreRows.case_cells.Goals as goal

pub invariant_of-self : goal.invariant_of-self
invariant_of-self g c =
    let v = c.args.self.now.field.now in
    record {
      known_are = c.case_cells.ensures.known;
      named = subst (λ names. NamesCases names v.grid (heights v)) (sym c.case_cells.ensures.same) c.args.self.now.named;
    }
