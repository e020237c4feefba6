-- Texts that are put into lines more than once.
use Rattle.std.specs.Prelude.{ℕ, List, ◌++◌, slice_index, take}
use Rattle.iso_defs.specs.Texts.{line, three_digits}
use Rattle.mesh_text.specs.declared.piece.Piece.{Piece}

-- the bytes of a piece
abbrev pub piece_text : {N : ℕ} → Piece N → List ℕ
piece_text p = take p.len p.bytes

-- three digits between pieces
abbrev pub parts_line : {M N : ℕ} → Piece M → Piece N → ℕ → Piece N → List ℕ
parts_line front middle n tail = piece_text front ++ (piece_text middle ++ (three_digits n ++ piece_text tail))

-- a line of three pieces, and three digits behind each
abbrev pub thirds_line : {N : ℕ} → Piece N → Piece N → Piece N → List ℕ → List ℕ
thirds_line x y z at =
    line ((piece_text x ++ three_digits (slice_index at 0))
    ++ ((piece_text y ++ three_digits (slice_index at 1)) ++ (piece_text z ++ three_digits (slice_index at 2))))
