-- Lines in the form that nearly every writer gives them.
use Rattle.std.specs.Prelude.{◌≡◌, ◌≢◌, ℕ, ◌<◌, true, List, ◌∷◌, ◌++◌, length, slice_index, Some, Ok}
use Rattle.iso_defs.specs.Bytes.{line_feed}
use Rattle.std.specs.List.{list_all}
use Rattle.text_lines.specs.Lines.{lines_of}
use Rattle.text_lines.specs.Words.{words_of}
use Rattle.text_lines.specs.Numbers.{is_digit, digits_value}
use Rattle.mesh_read.specs.Ply.{face_of}

-- the first line feed of a text stands at a place
pub record IsFirstFeed (bytes : List ℕ) (place : ℕ) : Type 0 where
  pub within : place < length bytes
  pub here : slice_index bytes place ≡ line_feed
  pub first : (k : ℕ) → k < place → slice_index bytes k ≢ line_feed

-- a text begins with a line that has words
pub record BeginsLine (bytes after : List ℕ) : Type 0 where
  pub text : List ℕ
  pub word : List ℕ
  pub words : List (List ℕ)
  pub line : lines_of bytes ≡ record { text = text; after = after } ∷ lines_of after
  pub split : words_of text ≡ word ∷ words

-- a text begins with a number in digits, and then with this byte
pub record BeginsNumber (bytes : List ℕ) (mark value : ℕ) (after : List ℕ) : Type 0 where
  pub word : List ℕ
  pub split : bytes ≡ word ++ mark ∷ after
  pub digits : list_all is_digit word ≡ true
  pub number : digits_value word ≡ Some value

-- a text begins with a line that is this face of n vertices, whatever the line's number
pub record BeginsFace (n : ℕ) (bytes triangle after : List ℕ) : Type 0 where
  pub text : List ℕ
  pub word : List ℕ
  pub words : List (List ℕ)
  pub line : lines_of bytes ≡ record { text = text; after = after } ∷ lines_of after
  pub split : words_of text ≡ word ∷ words
  pub face : (line : ℕ) → face_of n (line, word ∷ words) ≡ Ok triangle
