use Rattle.std.proofs.Common.{rules}
use Rattle.mesh_text.proofs.Pieces.{written_length}
use Rattle.mesh_text.proofs.piece.Piece.push_number.Goals as goal

pub returns-clause-count : goal.returns-clause-count
returns-clause-count g c =
    written_length c.args.self.now.bytes c.put_number-self.new.room _ c.args.self.now.len c.put_number-self.result (search rules) (search rules) c.put_number-self.ensures.written
