use Rattle.std.proofs.Common.{◌∙◌, ◌*◌, ◌/◌, ◌<◌, ◌^◌, ap, subst, sym}
use Rattle.edge_points.proofs.Reciprocals.{quotient_is, product_fits}
use Rattle.edge_points.proofs.sample_places.short_quotient.Goals as goal

pub overflow_mul-result : goal.overflow_mul-result
overflow_mul-result c = record {
  fits = subst (λ r. c.args.number * r < 2 ^ 64) (sym c.from.ensures) (product_fits c.args.number c.args.half c.requires.some c.requires.short c.requires.few);
}

pub returns : goal.returns
returns c = ap (λ r. c.args.number * r / 4294967296) c.from.ensures ∙ quotient_is c.args.number c.args.half c.requires.some c.requires.short c.requires.few
