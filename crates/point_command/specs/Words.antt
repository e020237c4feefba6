-- What the words of a command line that is `points` ask for, or that is a question about the program.
use Rattle.std.specs.Prelude.{nat_lt, if◌then◌else◌, ℕ, List, [], ◌∷◌, take, drop, codes, bytes_eq, Option, Some, None, ℤ, unsigned_abs}
use Rattle.std.specs.Option.{option_and_then, option_map}
use Rattle.iso_base.specs.Volume.{level_limit}
use Rattle.text_lines.specs.Numbers.{level_number_of}
use Rattle.program.specs.Questions.{asks_help, asks_version}
use Rattle.point_command.specs.declared.words.Asked.{Asked}
use Rattle.point_command.specs.declared.words.Asked.TheVariants.{Points, Help, Version}

-- a level number within the limit, in thousandths
abbrev pub within_limit : ℤ → Option ℤ
within_limit z = if nat_lt (unsigned_abs z) level_limit then Some z else None

abbrev pub level_of_text : List ℕ → Option ℤ
level_of_text text = option_and_then within_limit (level_number_of text)

-- the level of the option `--level=V`
abbrev pub level_of_option : List ℕ → Option ℤ
level_of_option option = if bytes_eq (take 8 option) (codes "--level=") then level_of_text (drop 8 option) else None

-- the level of two words, a command and an option
abbrev pub level_of_two : List ℕ → List ℕ → Option ℤ
level_of_two command option = if bytes_eq command (codes "points") then level_of_option option else None

-- the level of the words `points --level=V`; none where the words are others
abbrev pub points_level : List (List ℕ) → Option ℤ
points_level (command ∷ option ∷ []) = level_of_two command option
points_level words = None

-- what the program is asked for: `--help` alone or behind `points`, `--version` alone, or the points at a level
abbrev pub asked_of : List (List ℕ) → Option Asked
asked_of words =
    if asks_help (codes "points" ∷ []) words then Some Help else if asks_version words then Some Version else option_map Points (points_level words)
