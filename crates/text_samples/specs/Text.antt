-- Samples as decimal numbers between separators.
use Rattle.std.specs.Prelude.{ℕ, Bool, true, ◌==◌, ◌&&◌, ◌||◌, nat_le, List, [], ◌∷◌, if◌then◌else◌, nat_lt, int_le, ℤ, map, take, length, get_or, Option, Some, None, option_and_then, ok_or, Result, Ok, Err}
use Rattle.iso_defs.specs.Bytes.{tab, carriage_return, space, comma}
use Rattle.std.specs.List.{enumerate_from}
use Rattle.iso_base.specs.Volume.{least_of, greatest_of}
use Rattle.iso_base.specs.declared.kind.SampleKind.{SampleKind}
use Rattle.text_lines.specs.Numbers.{integer_of}
use Rattle.text_samples.specs.declared.fault.SampleFault.{SampleFault}
use Rattle.text_samples.specs.declared.fault.SampleFault.TheVariants.{Bad, Short}
use Rattle.text_lines.specs.Lines.{◌>>=◌, all_or_first}

-- a space, a tab, a line feed, a vertical tab, a form feed, a return or a comma
abbrev pub is_separator : ℕ → Bool
is_separator b = b == space || (nat_le tab b && nat_le b carriage_return || b == comma)

-- a word, and the bytes after it
pub record Word : Type 0 where
  pub text : List ℕ
  pub after : List ℕ

-- whether a word ends here
abbrev pub is_word_end : List ℕ → Bool
is_word_end [] = true
is_word_end (b ∷ bs) = is_separator b

-- a byte stands before the first word
abbrev pub longer_word : ℕ → List Word → List Word
longer_word b [] = []
longer_word b (w ∷ ws) = record { text = b ∷ w.text; after = w.after } ∷ ws

-- the runs of bytes that are no separators
abbrev pub words_in : List ℕ → List Word
words_in [] = []
words_in (b ∷ bs) =
    if is_separator b then words_in bs else
    if is_word_end bs then record { text = b ∷ []; after = bs } ∷ words_in bs else
    longer_word b (words_in bs)

-- without the separators at the front
abbrev pub skip_separators : List ℕ → List ℕ
skip_separators [] = []
skip_separators (b ∷ bs) = if is_separator b then skip_separators bs else b ∷ bs

-- the sample that a word says: a number within the range of the kind
unfoldable pub sample_said : SampleKind → List ℕ → Option ℤ
sample_said kind word =
    option_and_then (λ v. if int_le (least_of kind) v && int_le v (greatest_of kind) then Some v else None)
    (integer_of word)

-- the sample of the word at a place, or that it says none
abbrev pub said_at : SampleKind → ℕ × Word → Result ℤ SampleFault
said_at kind w = ok_or (sample_said kind w.1.text) (Bad w.0)

-- the samples that the first words of a text say, so many, and the number of bytes after the last of them;
-- or the first of them that says none, or else how many words there are where there are too few
unfoldable pub text_samples : SampleKind → ℕ → List ℕ → Result (List ℤ × ℕ) SampleFault
text_samples kind count bytes = do
  samples ← all_or_first (map (said_at kind) (enumerate_from 0 (take count (words_in bytes))))
  if nat_lt (length (words_in bytes)) count
      then Err (Short count (length (words_in bytes)))
      else Ok (samples, get_or (length bytes ∷ map (λ (w : Word). length w.after) (words_in bytes)) count 0)
