use Rattle.std.proofs.Common.{rules, arith, ◌≤◌, ◌++◌, ◌∙◌, ap, length, refl, take, List, ℕ}
use Rattle.std.proofs.lemmas.List.{length-take-le, take-take}
use Rattle.mesh_text.proofs.Pieces.{piece_written}
use Rattle.mesh_lines.proofs.row_texts.push_piece.Goals as goal

pub returns-clause-text : goal.returns-clause-text
returns-clause-text c =
    let moved : List ℕ = take 12 c.args.piece.now.bytes in
    let room : 12 ≤ length c.args.piece.now.bytes = search rules in
    piece_written c.args.text.now.bytes c.put_bytes.new.room moved c.args.text.now.len c.args.piece.now.len (length moved) (search rules)
    (omega (arith, length-take-le 12 c.args.piece.now.bytes room, c.requires.piece)) refl c.put_bytes.ensures
    ∙ ap (λ (l : List ℕ). take c.args.text.now.len c.args.text.now.bytes ++ l) (take-take c.args.piece.now.len 12 c.args.piece.now.bytes c.requires.piece)
