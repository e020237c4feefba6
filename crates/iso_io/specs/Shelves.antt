-- What is known of a shelf, and what a call does to it.
use Rattle.std.specs.Prelude.{◌≡◌, ◌⊎◌, ℕ, List, [], ◌∷◌, ◌++◌, Bool, true, false, Option, Some, None, Result, Err, MatchResult, unwrap_or}
use Rattle.std.specs.Option.{option_map, option_and_then}
use Rattle.std.specs.FinMap.{get, insert, remove}
use Rattle.std.specs.Borrow.{GName}
use Rattle.byte_streams.specs.Causes.{HasCause}
use Rattle.byte_streams.specs.Seen.{Files, Tape}
use Rattle.refusals.specs.declared.shelf.ShelfError.{ShelfError}
use Rattle.refusals.specs.declared.shelf.ShelfError.TheVariants.{Failed}

-- a shelf: its files, where they are told, and how often it failed
pub record Store : Type 0 where
  pub files : Option Files
  pub faults : ℕ

-- a shelf that tells nothing of its files
abbrev pub untold_store : ℕ → Store
untold_store faults = record { files = None; faults = faults }

-- whether a file was not read for a fault, and not for its length or want of memory
abbrev pub is_failed : {T : Type 0} → Result T ShelfError → Bool
is_failed (Err Failed) = true
is_failed _ = false

-- the bytes of a file; a name without a file counts as an empty one
abbrev pub content : Files → List ℕ → List ℕ
content files name = unwrap_or (get files name) []

-- where files are told, this file is now these bytes
abbrev pub with_file : List ℕ → List ℕ → Option Files → Option Files
with_file name bytes told = option_map (λ (files : Files). insert files name bytes) told

-- where files are told, these bytes are now at the end of this file
abbrev pub with_appended : List ℕ → List ℕ → Option Files → Option Files
with_appended name bytes told = option_map (λ (files : Files). insert files name (content files name ++ bytes)) told

-- the files are as before, or this file is now a front of the text
abbrev pub FilesCut : List ℕ → List ℕ → Option Files → Option Files → Type 0
FilesCut name text old new = (new ≡ old) ⊎ ((front : List ℕ) × (back : List ℕ) × (text ≡ front ++ back)
    × (new ≡ with_file name front old))

-- told files have none of that name
abbrev pub Lacks : List ℕ → Option Files → Type 0
Lacks name None = ⊥
Lacks name (Some files) = get files name ≡ None

-- told files have one of that name
abbrev pub Has : List ℕ → Option Files → Type 0
Has name None = Unit {0}
Has name (Some files) = get files name ≡ Some (content files name)

-- the name was made an empty file
pub record Starts {T E : Type 0} (old new : Store) (result : Result T E) (name : List ℕ) : Type 0 where
  pub changed : MatchResult result (λ _. new.files ≡ with_file name [] old.files) (λ _. (new.files ≡ old.files)
      ⊎ (new.files ≡ with_file name [] old.files))
  pub cause : HasCause old.faults new.faults result

-- the bytes were put behind the file's, or a front of them, or nothing was changed
pub record Grows {T E : Type 0} (old new : Store) (result : Result T E) (name bytes : List ℕ) : Type 0 where
  pub changed : MatchResult result (λ _. new.files ≡ with_appended name bytes old.files)
      (λ _. (new.files ≡ old.files) ⊎ ((front : List ℕ) × (back : List ℕ) × (bytes ≡ front ++ back)
      × (new.files ≡ with_appended name front old.files)))
  pub cause : HasCause old.faults new.faults result

-- the file is now this text; after a failure it is as before or a front of it
pub record Stores {T E : Type 0} (old new : Store) (result : Result T E) (name text : List ℕ) : Type 0 where
  pub changed : MatchResult result (λ _. new.files
      ≡ with_file name text old.files) (λ _. FilesCut name text old.files new.files)
  pub cause : HasCause old.faults new.faults result

-- a name, and the files of other names
abbrev pub others_of : List ℕ → Files → List ℕ × Files
others_of name files = (name, remove files name)

-- one file of a shelf as a sink: what the file holds, and beside it the name and all other files
abbrev pub file_tape : GName → Store → List ℕ → Tape
file_tape loan store name = record {
  taken = option_and_then (λ (files : Files). get files name) store.files;
  faults = store.faults;
  beside = record { held = (loan, name) ∷ []; others = option_map (others_of name) store.files };
}
