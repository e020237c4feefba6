-- What the words of a command line ask for.
use Rattle.std.specs.Prelude.{◌≤◌, ◌==◌, ◌&&◌, not, nat_le, Bool, true, false, if◌then◌else◌, ℕ, List, [], ◌∷◌, length, Option, Some, None, IfSome, codes, bytes_eq, option_map, option_and_then}
use Rattle.std.specs.List.{list_all}
use Rattle.iso_defs.specs.Bytes.{digit_zero}
use Rattle.iso_base.specs.Volume.{IsSample}
use Rattle.text_lines.specs.Numbers.{digits_value}
use Rattle.text_lines.specs.Parts.{◌>>=◌}
use Rattle.script.specs.Names.{is_name}
use Rattle.program.specs.Questions.{asks_help, asks_version}
use Rattle.arguments.specs.Words.{at_most_one, format_in, has_head, level_in, only_options, pad_in, plain_words, values}
use Rattle.mesh_walk.specs.Numbers.{AreFirst}
use Rattle.slab_command.specs.declared.asked.Slab.{Slab}
use Rattle.slab_command.specs.declared.asked.SlabFiles.{SlabFiles}
use Rattle.slab_command.specs.declared.asked.Asked.{Asked}
use Rattle.slab_command.specs.declared.asked.Asked.TheVariants as wishes

-- ---- values

-- the largest number
abbrev pub most : ℕ
most = 2147483647

abbrev pub as_number : ℕ → Option ℕ
as_number n = if nat_le n most then Some n else None

-- no zero stands before other digits
abbrev pub begins_well : List ℕ → Bool
begins_well (b ∷ c ∷ text) = not (b == digit_zero)
begins_well text = true

-- a number: 0, or digits of which the first is another one
abbrev pub number_value : List ℕ → Option ℕ
number_value text = if begins_well text then option_and_then as_number (digits_value text) else None

-- an option without a value
abbrev pub flag_value : List ℕ → Option Bool
flag_value [] = Some true
flag_value (b ∷ text) = None

-- what the names of files begin with: a name to which ten bytes may be added
abbrev pub name_value : List ℕ → Option (List ℕ)
name_value text = if nat_le (length text) 245 && is_name text then Some text else None

-- ---- options

abbrev pub from_option : List ℕ
from_option = codes "--from="

abbrev pub last_option : List ℕ
last_option = codes "--last"

abbrev pub edges_option : List ℕ
edges_option = codes "--edges="

abbrev pub centres_option : List ℕ
centres_option = codes "--centres="

-- a number that is required
abbrev pub number_in : List ℕ → List (List ℕ) → Option ℕ
number_in head words = at_most_one None number_value (values head words)

-- without its option the slab is not the last one
abbrev pub last_in : List (List ℕ) → Option Bool
last_in words = at_most_one (Some false) flag_value (values last_option words)

abbrev pub name_in : List (List ℕ) → Option (List ℕ)
name_in words = at_most_one None name_value (plain_words words)

abbrev pub slab_in : List (List ℕ) → Option Slab
slab_in words = do
  level ← level_in words
  pad ← pad_in words
  from ← number_in from_option words
  is_last ← last_in words
  Some (record { level = level; pad = pad; from = from; is_last = is_last })

abbrev pub files_in : List (List ℕ) → Option SlabFiles
files_in words = do
  name ← name_in words
  format ← format_in words
  first_edge ← number_in edges_option words
  first_centre ← number_in centres_option words
  Some (record {
    format = format;
    numbers = record { first_edge = first_edge; first_centre = first_centre };
    name = name;
  })

-- ---- commands, by the words that follow

-- `count --level=V --from=Z [--pad=P] [--last]`
unfoldable pub count_of : List (List ℕ) → Option Asked
count_of words =
    if list_all (has_head (codes "--level=" ∷ codes "--pad=" ∷ from_option ∷ last_option ∷ [])) words
    then option_map (λ slab. wishes.Slab (record { slab = slab; files = None })) (slab_in words) else None

-- `write --level=V --from=Z [--pad=P] [--last] [--format=F] --edges=O --centres=C NAME`
abbrev pub write_by : List (List ℕ) → Option Asked
write_by words = do
  slab ← slab_in words
  files ← files_in words
  Some (wishes.Slab (record { slab = slab; files = Some files }))

unfoldable pub write_of : List (List ℕ) → Option Asked
write_of words =
    if only_options (codes "--level=" ∷ codes "--pad=" ∷ from_option ∷ last_option ∷ codes "--format=" ∷ edges_option
    ∷ centres_option ∷ []) words
    then write_by words else None

-- `head VERTICES TRIANGLES`
abbrev pub head_of : List (List ℕ) → Option Asked
head_of (vertices ∷ triangles ∷ []) = do
  vertices ← number_value vertices
  triangles ← number_value triangles
  Some (wishes.Head vertices triangles)
head_of words = None

-- the commands
abbrev pub commands : List (List ℕ)
commands = codes "count" ∷ codes "write" ∷ codes "head" ∷ []

abbrev pub asked_by : List (List ℕ) → Option Asked
asked_by [] = None
asked_by (command ∷ words) =
    if bytes_eq command (codes "count") then count_of words else
    if bytes_eq command (codes "write") then write_of words else
    if bytes_eq command (codes "head") then head_of words else
    None

-- what the program is asked for: `--help` alone or behind a command, `--version` alone, or a command with what it wants
abbrev pub asked_of : List (List ℕ) → Option Asked
asked_of words = if asks_help commands words then Some wishes.Help else if asks_version words then Some wishes.Version
    else asked_by words

-- ---- limits

-- the numbers are below 2^31, and ten bytes can be put behind the name
pub record AreSound (files : SlabFiles) : Type 0 where
  pub numbers : AreFirst files.numbers
  pub name : length files.name ≤ 245

-- what is asked for is within its limits
abbrev pub IsSound : Asked → Type 0
IsSound (wishes.Slab job) = IfSome job.slab.pad IsSample × IfSome job.files AreSound
IsSound (wishes.Head vertices triangles) = Unit {0}
IsSound wishes.Help = Unit {0}
IsSound wishes.Version = Unit {0}
