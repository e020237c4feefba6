use Rattle.std.proofs.Common.{rules}
use Rattle.mesh_text.proofs.Pieces.{piece_written}
use Rattle.mesh_text.proofs.piece.Piece.put.Goals as goal

pub returns-clause-written : goal.returns-clause-written
returns-clause-written g c =
    piece_written c.args.room.now c.put_array.new.room c.args.self.now.bytes c.args.at c.args.self.now.len g.row.N (search rules) c.requires.len (search rules) c.put_array.ensures
