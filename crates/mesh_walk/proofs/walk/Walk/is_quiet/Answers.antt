use Rattle.std.proofs.Common.{◌≡◌, ◌+◌, ◌*◌, ℕ, sym, refl, ◌∙◌, ap, arith}
use Rattle.std.proofs.lemmas.Bool.{eqb-true}
use Rattle.crossing_edges.specs.Flags.{rank}
use Rattle.flat_mesh.specs.Lattice.{heights}
use Rattle.mesh_walk.proofs.RankedRows.{quiet_row}
use Rattle.mesh_walk.proofs.walk.Walk.is_quiet.Goals as goal

pub returns-then-edges_to_row : goal.returns-then-edges_to_row
returns-then-edges_to_row g c = λ t.
    let v = (g.H.Heights.leveled c.args.field.now) in
    let g = v.grid in
    let near : ℕ = c.args.y + g.ny * c.args.z in
    let r : ℕ → ℕ = λ n. rank g (heights v) (3 * (g.nx * n)) in
    let second : c.args.y + 2 + g.ny * c.args.z ≡ near + 2 = omega arith in
    let third : c.args.y + g.ny * (c.args.z + 1) ≡ near + g.ny = omega arith in
    let fourth : c.args.y + 2 + g.ny * (c.args.z + 1) ≡ near + g.ny + 2 = omega arith in
    let same : c.edges_to_row-then-edges_to_row.result ≡ c.edges_to_row-then-edges_to_row-2.result = eqb-true _ _ t in
    quiet_row v c.args.y c.args.z near c.requires.y c.requires.z refl
    (sym c.edges_to_row.ensures ∙ (c.if-edges_to_row.true ∙ (c.edges_to_row-2.ensures ∙ ap r second)))
    (sym (c.edges_to_row-then-edges_to_row.ensures ∙ ap r third) ∙ (same ∙ (c.edges_to_row-then-edges_to_row-2.ensures ∙ ap r fourth)))
