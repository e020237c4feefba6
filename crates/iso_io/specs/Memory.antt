-- A shelf in memory.
use Rattle.std.specs.Prelude.{◌≡◌, ◌⊎◌, ℕ, ◌+◌, ◌<◌, false, List, length, Some, Contains, refl}
use Rattle.std.specs.Coded.{Coded, code_by, coded×, coded_ℕ, coded_list}
use Rattle.byte_streams.specs.Seen.{no_files}
use Rattle.byte_streams.specs.Causes.{one_more}
use Rattle.iso_io.specs.Places.{Places, content_in, has_place, placed, placed_behind, fitting, places_code}
use Rattle.iso_io.specs.Shelves.{Store}

-- files in places, the most that a failing append takes, the calls that fail, and how many calls and faults there were
pub record KeptFiles : Type 0 where
  pub places : Places
  pub cut : ℕ
  pub failing : List ℕ
  pub calls : ℕ
  pub faults : ℕ

-- none yet
abbrev pub empty_shelf : ℕ → ℕ → ℕ → List ℕ → KeptFiles
empty_shelf files room cut failing =
    record {
      places = record { files = no_files; free = files; room = room };
      cut = cut;
      failing = failing;
      calls = 0;
      faults = 0;
    }

abbrev pub store_of : KeptFiles → Store
store_of m = record { files = Some m.places.files; faults = m.faults }

-- the file of that name is now these bytes
abbrev pub stored : KeptFiles → List ℕ → List ℕ → KeptFiles
stored m name bytes = record m { places = placed m.places name bytes }

-- one more call
abbrev pub called : KeptFiles → KeptFiles
called m = record m { calls = one_more m.calls }

-- one more call, which failed
abbrev pub missed : KeptFiles → KeptFiles
missed m = record m { calls = one_more m.calls; faults = one_more m.faults }

-- the next call is one of those that fail
abbrev pub IsFailing : KeptFiles → Type 0
IsFailing m = Contains m.failing (one_more m.calls)

-- the next append is one of those that fail, or there is no place for the file, or no room for the bytes
abbrev pub RefusesAppend : KeptFiles → List ℕ → List ℕ → Type 0
RefusesAppend m name bytes =
    IsFailing m ⊎ (has_place m.places name ≡ false) ⊎ (m.places.room < length (content_in m.places name) + length bytes)

-- one more call, which failed after it had put as many of the first bytes as are let and as fit; for none no file is made
abbrev pub cut_short : KeptFiles → List ℕ → List ℕ → KeptFiles
cut_short m name bytes = record (missed m) { places = placed_behind m.places name (fitting m.places name m.cut bytes) }

-- as its fields, one in another
abbrev pub kept_files_code : Coded KeptFiles
kept_files_code = code_by (Places × (ℕ × (List ℕ × (ℕ × ℕ))))
    (coded× places_code (coded× coded_ℕ (coded× (coded_list coded_ℕ) (coded× coded_ℕ coded_ℕ))))
    (λ m. (m.places, (m.cut, (m.failing, (m.calls, m.faults)))))
    (λ c. record { places = c.0; cut = c.1.0; failing = c.1.1.0; calls = c.1.1.1.0; faults = c.1.1.1.1 }) (λ _. refl)
