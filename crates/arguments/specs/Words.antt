-- What the words of a command line ask for.
use Rattle.std.specs.Prelude.{◌≡◌, ◌==◌, ◌||◌, not, Bool, false, if◌then◌else◌, ℕ, ◌≤◌, List, [], ◌∷◌, length, filter, Option, Some, None, is_some, ◌&&◌, nat_le, nat_lt, int_le, codes, bytes_eq, Result, Ok, Err, ℤ, pos, negsuc, unsigned_abs, IfSome}
use Rattle.std.specs.List.{filter_map, list_any, list_all}
use Rattle.iso_defs.specs.Bytes.{minus}
use Rattle.arguments.specs.declared.options.Found.{Found}
use Rattle.arguments.specs.declared.options.Found.TheVariants.{Nothing, Once, Again}
use Rattle.std.specs.Option.{option_map, option_and_then}
use Rattle.text_lines.specs.Numbers.{integer_of, whole_of, level_number_of}
use Rattle.text_lines.specs.Parts.{◌>>=◌}
use Rattle.script.specs.Names.{count_of, is_name}
use Rattle.iso_defs.specs.Grid.{Grid}
use Rattle.iso_base.specs.Volume.{IsSample, level_limit, sized}
use Rattle.iso_base.specs.declared.sizes.SizeFault.{SizeFault}
use Rattle.program.specs.Questions.{asks_help, asks_version}
use Rattle.mesh_text.specs.declared.format.TwoWayFormat.{TwoWayFormat}
use Rattle.mesh_text.specs.declared.format.TwoWayFormat.TheVariants.{Ply, Obj}
use Rattle.arguments.specs.declared.request.Request.{Request}
use Rattle.arguments.specs.declared.request.Request.TheVariants.{Points, Extract, Session, Check, Gen, Soak, Help, Version}

-- an option is a word that begins with `-`
abbrev pub is_option : List ℕ → Bool
is_option [] = false
is_option (b ∷ bs) = b == minus

-- what follows a prefix
abbrev pub after_prefix : List ℕ → List ℕ → Option (List ℕ)
after_prefix [] text = Some text
after_prefix (x ∷ prefix) [] = None
after_prefix (x ∷ prefix) (y ∷ text) = if x == y then after_prefix prefix text else None

-- the plain words, in their order
unfoldable pub plain_words : List (List ℕ) → List (List ℕ)
plain_words words = filter (λ w. not (is_option w)) words

-- the values of an option, in their order: what follows its head `--name=`
unfoldable pub values : List ℕ → List (List ℕ) → List (List ℕ)
values head words = filter_map (after_prefix head) words

-- whether a word begins with one of these heads
abbrev pub has_head : List (List ℕ) → List ℕ → Bool
has_head heads word = list_any (λ head. is_some (after_prefix head word)) heads

-- whether each option begins with one of these heads
unfoldable pub only_options : List (List ℕ) → List (List ℕ) → Bool
only_options heads words = list_all (λ w. not (is_option w) || has_head heads w) words

-- what is found of a list that may hold one text at most
abbrev pub IsFound : Found → List (List ℕ) → Type 0
IsFound Nothing texts = texts ≡ []
IsFound (Once text) texts = texts ≡ text.now ∷ []
IsFound Again texts = 2 ≤ length texts

-- ---- values

-- a level number within the limit, in thousandths
abbrev pub level_value : List ℕ → Option ℤ
level_value text =
    option_and_then (λ z. if nat_lt (unsigned_abs z) level_limit then Some z else None) (level_number_of text)

-- a number from -2^31 to 2^32 - 1
abbrev pub as_pad : ℤ → Option ℤ
as_pad z = if int_le (negsuc 2147483647) z && int_le z (pos 4294967295) then Some z else None

abbrev pub pad_value : List ℕ → Option ℤ
pad_value text = option_and_then as_pad (integer_of text)

-- `ply` or `obj`
abbrev pub format_value : List ℕ → Option TwoWayFormat
format_value text = if bytes_eq text (codes "ply") then Some Ply else if bytes_eq text (codes "obj") then Some Obj else None

-- a count from one number to another
abbrev pub as_count : ℕ → ℕ → ℕ → Option ℕ
as_count least most n = if nat_le least n && nat_le n most then Some n else None

abbrev pub count_value : ℕ → ℕ → List ℕ → Option ℕ
count_value least most text = option_and_then (as_count least most) (count_of text)

-- the name of a file
abbrev pub name_value : List ℕ → Option (List ℕ)
name_value text = if is_name text then Some text else None

-- ---- how often

-- the value of the only text, and this where there is no text
abbrev pub at_most_one : {A : Type 0} → Option A → (List ℕ → Option A) → List (List ℕ) → Option A
at_most_one without value [] = without
at_most_one without value (text ∷ []) = value text
at_most_one without value _ = None

-- ---- options

-- the level is required
abbrev pub level_in : List (List ℕ) → Option ℤ
level_in words = at_most_one None level_value (values (codes "--level=") words)

-- without its option there is no pad
abbrev pub pad_in : List (List ℕ) → Option (Option ℤ)
pad_in words = at_most_one (Some None) (λ text. option_map Some (pad_value text)) (values (codes "--pad=") words)

-- without its option the form is PLY
abbrev pub format_in : List (List ℕ) → Option TwoWayFormat
format_in words = at_most_one (Some Ply) format_value (values (codes "--format=") words)

-- without its option 4,096 bricks keep their mesh
abbrev pub bricks_in : List (List ℕ) → Option ℕ
bricks_in words = at_most_one (Some 4096) (count_value 1 65536) (values (codes "--bricks=") words)

-- without its option in 65,536 pages
abbrev pub pages_in : List (List ℕ) → Option ℕ
pages_in words = at_most_one (Some 65536) (count_value 16 1048576) (values (codes "--pages=") words)

-- ---- commands, by the words that follow

-- `points --level=V`
unfoldable pub points_of : List (List ℕ) → Option Request
points_of words = if list_all (has_head (codes "--level=" ∷ [])) words then option_map Points (level_in words) else None

-- `extract --level=V [--pad=P] [--format=F]`
unfoldable pub extract_of : List (List ℕ) → Option Request
extract_of words =
    if not (list_all (has_head (codes "--level=" ∷ codes "--pad=" ∷ codes "--format=" ∷ [])) words) then None else do
      level ← level_in words
      pad ← pad_in words
      format ← format_in words
      Some (Extract level pad format)

-- `session --level=V [--pad=P] [--bricks=N] [--pages=N] NAME`
abbrev pub session_by : List (List ℕ) → Option Request
session_by words = do
  name ← at_most_one None name_value (plain_words words)
  level ← level_in words
  pad ← pad_in words
  bricks ← bricks_in words
  pages ← pages_in words
  Some (Session level pad name bricks pages)

unfoldable pub session_of : List (List ℕ) → Option Request
session_of words =
    if only_options (codes "--level=" ∷ codes "--pad=" ∷ codes "--bricks=" ∷ codes "--pages=" ∷ []) words
    then session_by words else None

-- `check FORMAT`
unfoldable pub check_of : List (List ℕ) → Option Request
check_of words = if only_options [] words then option_map Check (at_most_one None format_value (plain_words words)) else None

-- what three lengths are, where they are sizes
abbrev pub accepted : Result Grid SizeFault → Option Grid
accepted (Ok g) = Some g
accepted (Err fault) = None

-- the sizes of three words
abbrev pub sizes_value : List ℕ → List ℕ → List ℕ → Option Grid
sizes_value x y z = do
  nx ← whole_of x
  ny ← whole_of y
  nz ← whole_of z
  accepted (sized (record { nx = nx; ny = ny; nz = nz }))

-- the sizes of words that are three
abbrev pub sizes_in : List (List ℕ) → Option Grid
sizes_in (x ∷ y ∷ z ∷ []) = sizes_value x y z
sizes_in _ = None

-- `SEED NX NY NZ`
abbrev pub gen_by : List (List ℕ) → Option Request
gen_by [] = None
gen_by (seed ∷ words) = do
  seed ← whole_of seed
  sizes ← sizes_in words
  Some (Gen seed sizes)

-- `gen SEED NX NY NZ`
unfoldable pub gen_of : List (List ℕ) → Option Request
gen_of words = if only_options [] words then gen_by words else None

-- `soak SEED`
unfoldable pub soak_of : List (List ℕ) → Option Request
soak_of words = if only_options [] words then option_map Soak (at_most_one None whole_of (plain_words words)) else None

-- the commands
abbrev pub commands : List (List ℕ)
commands = codes "points" ∷ codes "extract" ∷ codes "session" ∷ codes "check" ∷ codes "gen" ∷ codes "soak" ∷ []

-- what a command asks for, by the words that follow
unfoldable pub command_of : List (List ℕ) → Option Request
command_of [] = None
command_of (command ∷ words) =
    if bytes_eq command (codes "points") then points_of words else
    if bytes_eq command (codes "extract") then extract_of words else
    if bytes_eq command (codes "session") then session_of words else
    if bytes_eq command (codes "check") then check_of words else
    if bytes_eq command (codes "gen") then gen_of words else
    if bytes_eq command (codes "soak") then soak_of words else
    None

-- The request of a whole command line: `--help` alone or behind a command, `--version` alone, or a command with what it wants.
unfoldable pub request_of : List (List ℕ) → Option Request
request_of words = if asks_help commands words then Some Help else if asks_version words then Some Version
    else command_of words

-- a pad that is asked for lies in the range of a sample
abbrev pub HasSamplePad : Request → Type 0
HasSamplePad (Extract level pad format) = IfSome pad IsSample
HasSamplePad (Session level pad name bricks pages) = IfSome pad IsSample
HasSamplePad _ = Unit {0}

-- how many bricks may keep their mesh, and in how many pages
pub record IsCapacity (bricks pages : ℕ) : Type 0 where
  pub least_bricks : 1 ≤ bricks
  pub most_bricks : bricks ≤ 65536
  pub least_pages : 16 ≤ pages
  pub most_pages : pages ≤ 1048576

-- the bricks and pages of a session are within their limits
abbrev pub HasCapacity : Request → Type 0
HasCapacity (Session level pad name bricks pages) = IsCapacity bricks pages
HasCapacity _ = Unit {0}
