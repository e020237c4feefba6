-- Blanks, words and the case of letters.
use Rattle.std.specs.Prelude.{ℕ, Bool, true, ◌==◌, ◌||◌, List, [], ◌∷◌, map, if◌then◌else◌, bytes_eq, Option, Some, None}
use Rattle.std.specs.Char.{to_ascii_lowercase}
use Rattle.iso_defs.specs.Bytes.{tab, space}

-- a space or a tab
abbrev pub is_blank : ℕ → Bool
is_blank b = b == space || b == tab

-- without the blanks at the front
abbrev pub skip_blanks : List ℕ → List ℕ
skip_blanks [] = []
skip_blanks (b ∷ bs) = if is_blank b then skip_blanks bs else b ∷ bs

-- a byte before a text that has no blanks at its end
abbrev pub kept : ℕ → List ℕ → List ℕ
kept b [] = if is_blank b then [] else b ∷ []
kept b (c ∷ cs) = b ∷ c ∷ cs

-- without the blanks at the end
abbrev pub trim_end : List ℕ → List ℕ
trim_end [] = []
trim_end (b ∷ bs) = kept b (trim_end bs)

-- without the blanks at both ends
abbrev pub trimmed : List ℕ → List ℕ
trimmed text = trim_end (skip_blanks text)

-- whether a text is a word in small letters, whatever the case of its own
unfoldable pub is_word : List ℕ → List ℕ → Bool
is_word text word = bytes_eq (map to_ascii_lowercase text) word

-- whether a word ends here
abbrev pub is_end : List ℕ → Bool
is_end [] = true
is_end (b ∷ bs) = is_blank b

-- a byte stands before the first word
abbrev pub longer : ℕ → List (List ℕ) → List (List ℕ)
longer b [] = []
longer b (w ∷ ws) = (b ∷ w) ∷ ws

-- the runs of bytes without blanks
abbrev pub words_of : List ℕ → List (List ℕ)
words_of [] = []
words_of (b ∷ bs) =
    if is_blank b then words_of bs else
    if is_end bs then (b ∷ []) ∷ words_of bs else
    longer b (words_of bs)

-- three words and no more
abbrev pub three_in : List (List ℕ) → Option (List ℕ × List ℕ × List ℕ)
three_in (a ∷ b ∷ c ∷ []) = Some (a, b, c)
three_in _ = None
