use Rattle.std.proofs.Common.{◌≡◌, ◌+◌, [], decimal, length, arith}
use Rattle.mesh_text.proofs.Pieces.{ten_digits_most, written_length}
use Rattle.mesh_text.proofs.number.Number.set.Goals as goal

pub end_at-requires : goal.end_at-requires
end_at-requires g c =
    let long : c.put_number-end.result ≡ 0 + length (decimal c.args.n)
    = written_length [] c.put_number-end.new.room (decimal c.args.n) 0 c.put_number-end.result (omega arith) (omega (arith, c.put_number-end.ensures.end)) c.put_number-end.ensures.written in
    omega (arith, long, ten_digits_most c.args.n c.requires)
