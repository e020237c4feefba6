-- The lines of a PLY text, one by one.
use Rattle.std.proofs.Common.{◌≡◌, ℕ, List, [], ◌∷◌, map, ap}
use Rattle.text_lines.specs.Lines.{Line, lines_of}
use Rattle.text_lines.specs.Words.{words_of}
use Rattle.mesh_read.specs.Ply.{heading_of, ply_heads, ply_words}

pub words_first : (rest text after : List ℕ) → lines_of rest ≡ record { text = text; after = after } ∷ lines_of after → ply_words rest ≡ words_of text ∷ ply_words after
words_first rest text after e = ap (λ (ls : List Line). map words_of (map (λ (l : Line). l.text) ls)) e

pub words_none : (rest : List ℕ) → lines_of rest ≡ [] → ply_words rest ≡ []
words_none rest e = ap (λ (ls : List Line). map words_of (map (λ (l : Line). l.text) ls)) e

pub heads_first : (rest text after : List ℕ) → lines_of rest ≡ record { text = text; after = after } ∷ lines_of after → ply_heads rest ≡ heading_of (words_of text) ∷ ply_heads after
heads_first rest text after e = ap (λ (ws : List (List (List ℕ))). map heading_of ws) (words_first rest text after e)

pub heads_none : (rest : List ℕ) → lines_of rest ≡ [] → ply_heads rest ≡ []
heads_none rest e = ap (λ (ws : List (List (List ℕ))). map heading_of ws) (words_none rest e)
