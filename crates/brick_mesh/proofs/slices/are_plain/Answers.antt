use Rattle.std.proofs.Common.{◌≡◌, ◌∙◌, get_or, ap, sym, arith, below_more}
use Rattle.std.proofs.lemmas.Nat.{le_or_l, le_or_r}
use Rattle.iso_defs.specs.Bricks.{bits_of}
use Rattle.brick_mesh.specs.Entries.{IsPlain}
use Rattle.brick_mesh.proofs.slices.are_plain.Goals as goal

pub loop-x-preserved : goal.loop-x-preserved
loop-x-preserved c = record {
  plain = λ none.
      let before : c.loop-x.sets ≡ 0 = omega (arith, none, le_or_l c.loop-x.sets c.ambiguous_set-sets.result) in
      let here : c.ambiguous_set-sets.result ≡ 0 = omega (arith, none, le_or_r c.loop-x.sets c.ambiguous_set-sets.result) in
      below_more (λ x. IsPlain (get_or c.args.signs.now x 0)) c.loop-x.x (c.loop-x.invariant.plain before)
      (sym c.ambiguous_set-sets.ensures.faces ∙ ap (bits_of 6) here);
}
