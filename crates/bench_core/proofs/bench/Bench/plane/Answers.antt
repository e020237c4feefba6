use Rattle.std.proofs.Common.{◌≡◌, ◌<◌, ◌∙◌, ap, subst, rules, to_z, of_z, w64}
use Rattle.std.proofs.lemmas.Int.{to_z-of_z}
use Rattle.std.specs.Prelude.{IfSome}
use Rattle.bench_core.specs.Keeping.{Workbench}
use Rattle.unpadded_volume.specs.Unpadded.{plane_of}
use Rattle.bench_core.proofs.bench.Bench.plane.Goals as goal

pub returns-clause-plane : goal.returns-clause-plane
returns-clause-plane c =
    let k : to_z w64 (of_z w64 c.args.k) ≡ c.args.k = search (rules, to_z-of_z) in
    c.plane_in.ensures.plane ∙ (ap (plane_of c.self.inside.store) k ∙ ap (λ (w : Workbench). plane_of w.state.volume c.args.k) c.self.view_is)

pub returns-clause-within : goal.returns-clause-within
returns-clause-within c = subst (λ (w : Workbench). IfSome c.plane_in.result (λ p. p < w.state.volume.grid.nz)) c.self.view_is c.plane_in.ensures.within
