use Rattle.std.proofs.Common.{◌∙◌, ap, arith, map, take}
use Rattle.std.proofs.lemmas.List.{length-take-le, map-id}
use Rattle.samples.specs.Signs.{sign_of}
use Rattle.window_mesh.proofs.Viewing.{put_at}
use Rattle.window_mesh.proofs.view.fill_part.Goals as goal

pub returns-clause-inside : goal.returns-clause-inside
returns-clause-inside c = λ i low.
    put_at (sign_of c.args.level) c.args.samples.now (take c.args.from c.args.into.now) c.fill_signs.new.into _ c.args.from i
    (length-take-le c.args.from c.args.into.now (omega (arith, c.requires))) (c.fill_signs.ensures ∙ ap (map (sign_of c.args.level)) (map-id c.args.samples.now)) low
