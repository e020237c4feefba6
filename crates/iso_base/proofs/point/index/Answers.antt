use Rattle.std.proofs.Common.{ℕ, ◌+◌, ◌*◌, ap₂, ◌∙◌}
use Rattle.iso_base.specs.Points.{point_at}
use Rattle.iso_base.proofs.Indices.{point_at-index_of}
use Rattle.iso_base.proofs.point.index.Goals as goal

pub returns-clause-found : goal.returns-clause-found
returns-clause-found c =
    ap₂ (λ (m n : ℕ). point_at c.args.sizes.now (c.args.point.x + m * (c.args.point.y + n * c.args.point.z))) c.nx.ensures.value c.ny.ensures.value
    ∙ point_at-index_of c.args.sizes.now c.args.point c.requires
