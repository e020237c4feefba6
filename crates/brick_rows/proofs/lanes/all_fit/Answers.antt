use Rattle.std.proofs.Common.{◌∙◌, map, get_or, pos, ap, subst, sym, arith, below_more}
use Rattle.std.proofs.lemmas.List.{get_or-map, length-map}
use Rattle.std.proofs.lemmas.List.Elements.{All-from_get_or}
use Rattle.brick_rows.proofs.lanes.all_fit.Goals as goal

pub loop-i-preserved : goal.loop-i-preserved
loop-i-preserved g c =
    let value = g.T.Packed.value in
    let run = c.args.run.now in
    record {
      fits = below_more (λ k. g.T.Packed.Fits (get_or (map value run) k (pos 0))) c.loop-i.i c.loop-i.invariant.fits
          (subst g.T.Packed.Fits (c.sample.ensures.value ∙ (ap value c.index-run-i.is ∙ sym (get_or-map value run c.loop-i.i c.index-run-i.result (pos 0) (omega arith)))) c.sample.ensures.fits);
    }

pub returns : goal.returns
returns g c =
    let all = map g.T.Packed.value c.args.run.now in
    All-from_get_or g.T.Packed.Fits all (pos 0) (λ i low. c.loop-i.invariant.fits i (omega (arith, low, length-map c.args.run.now g.T.Packed.value)))
