use Rattle.std.proofs.Common.{arith, ◌≡◌, ◌+◌, ◌<◌, ◌^◌, length, decimal, subst, ℕ}
use Rattle.mesh_lines.specs.RowLines.{whole_size}
use Rattle.mesh_lines.proofs.RowLines.{sign_and_digits}
use Rattle.mesh_lines.proofs.row_texts.push_whole.Goals as goal

pub push-requires : goal.push-requires
push-requires c =
    let low : whole_size c.args.origin c.args.axis c.args.whole < 10 ^ 10 = omega (arith, c.whole_size.ensures.value, c.whole_size.ensures.bound) in
    let short = sign_and_digits c.args.origin c.args.axis c.args.whole low in
    let count : c.push_number.new.self.len ≡ c.push_sign.new.piece.len + length (decimal (whole_size c.args.origin c.args.axis c.args.whole))
    = subst (λ (n : ℕ). c.push_number.new.self.len ≡ c.push_sign.new.piece.len + length (decimal n)) c.whole_size.ensures.value c.push_number.ensures.count in
    omega (arith, short, count, c.push_sign.ensures.count, c.requires.few)

pub returns-clause-few : goal.returns-clause-few
returns-clause-few c =
    let low : whole_size c.args.origin c.args.axis c.args.whole < 10 ^ 10 = omega (arith, c.whole_size.ensures.value, c.whole_size.ensures.bound) in
    let short = sign_and_digits c.args.origin c.args.axis c.args.whole low in
    let count : c.push_number.new.self.len ≡ c.push_sign.new.piece.len + length (decimal (whole_size c.args.origin c.args.axis c.args.whole))
    = subst (λ (n : ℕ). c.push_number.new.self.len ≡ c.push_sign.new.piece.len + length (decimal n)) c.whole_size.ensures.value c.push_number.ensures.count in
    omega (arith, short, count, c.push_sign.ensures.count, c.push.ensures.count)
