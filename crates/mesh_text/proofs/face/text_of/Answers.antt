use Rattle.std.proofs.Common.{◌≡◌, ◌+◌, [], ◌∷◌, ◌∙◌, ap, arith, decimal, length, length-append}
use Rattle.mesh_text.specs.Numbers.{number_text}
use Rattle.mesh_text.proofs.Pieces.{ten_digits_most}
use Rattle.mesh_text.proofs.face.text_of.Goals as goal

pub returns-clause-short : goal.returns-clause-short
returns-clause-short c =
    let long : length (number_text c.set.new.self) ≡ length (decimal c.args.n) + 1 = ap length c.set.ensures ∙ length-append (decimal c.args.n) (32 ∷ []) in
    record { some = omega (arith, long); few = omega (arith, long, ten_digits_most c.args.n c.requires) }
