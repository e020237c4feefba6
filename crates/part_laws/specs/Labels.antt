-- Loops that have labels.
use Rattle.std.specs.Prelude.{◌≡◌, ℕ, ◌<◌, Bool, List, map, slice_index}
use Rattle.std.specs.List.{filter, AllByRecursion}
use Rattle.part_laws.specs.Loops.{Loop}
use Rattle.part_laws.specs.Classes.{class_of}

-- the loops of which the label passes a test
abbrev pub labelled : List (ℕ × Loop) → (ℕ → Bool) → List Loop
labelled xs p = map (λ (x : ℕ × Loop). x.1) (filter (λ (x : ℕ × Loop). p x.0) xs)

-- all of them
abbrev pub unlabelled : List (ℕ × Loop) → List Loop
unlabelled xs = map (λ (x : ℕ × Loop). x.1) xs

-- each label is below n
abbrev pub AreLabelled : ℕ → List (ℕ × Loop) → Type 0
AreLabelled n xs = AllByRecursion (λ (x : ℕ × Loop). x.0 < n) xs

-- the root of each loop's label is the loop's class
abbrev pub IsRooted : List (ℕ × Loop) → (ℕ → ℕ) → Type 0
IsRooted xs root = AllByRecursion (λ (x : ℕ × Loop). class_of (unlabelled xs) (slice_index x.1.1 0) ≡ root x.0) xs
