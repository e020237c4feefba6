use Rattle.std.proofs.Common.{◌≢◌, ◌∙◌, arith, below_more, get_or, get_or-set_other, get_or-set_same, length-set, set, subst, sym}
use Rattle.cached_mesh.specs.Held.{IsNoSlice}
use Rattle.cached_mesh.proofs.held.clear_signs.Goals as goal

pub loop-place-preserved : goal.loop-place-preserved
loop-place-preserved c = record {
  long = length-set c.loop-place.signed c.loop-place.place c.none.result ∙ c.loop-place.invariant.long;
  none = λ d.
      below_more (λ k. IsNoSlice (get_or (set c.loop-place.signed c.loop-place.place c.none.result) k d)) c.loop-place.place
      (λ k low. let other : k ≢ c.loop-place.place = omega arith in
      subst IsNoSlice (sym (get_or-set_other c.loop-place.signed c.loop-place.place k c.none.result d other)) (c.loop-place.invariant.none d k low))
      (subst IsNoSlice (sym (get_or-set_same c.loop-place.signed c.loop-place.place c.none.result d (omega (arith, c.loop-place.invariant.long)))) (omega (arith, c.none.ensures)));
}

pub returns : goal.returns
returns c = λ k d low. c.loop-place.invariant.none d k (omega (arith, low, c.loop-place.invariant.long))
