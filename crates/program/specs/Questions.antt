-- What a program is asked about itself.
use Rattle.std.specs.Prelude.{◌&&◌, Bool, false, ℕ, List, [], ◌∷◌, ◌++◌, bytes_eq, codes}
use Rattle.std.specs.List.{list_any}
use Rattle.iso_defs.specs.Bytes.{line_feed, space}

-- the version of the programs
abbrev pub version : List ℕ
version = codes "1.1.0"

-- whether a word is one of the commands
abbrev pub is_among : List ℕ → List (List ℕ) → Bool
is_among command commands = list_any (bytes_eq command) commands

-- `--help` alone, or one of the commands and then `--help`
abbrev pub asks_help : List (List ℕ) → List (List ℕ) → Bool
asks_help commands (word ∷ []) = bytes_eq word (codes "--help")
asks_help commands (command ∷ word ∷ []) = is_among command commands && bytes_eq word (codes "--help")
asks_help commands words = false

-- `--version` alone
abbrev pub asks_version : List (List ℕ) → Bool
asks_version (word ∷ []) = bytes_eq word (codes "--version")
asks_version words = false

-- the line of a program's version, by its name
abbrev pub version_line : List ℕ → List ℕ
version_line name = name ++ space ∷ (version ++ line_feed ∷ [])
