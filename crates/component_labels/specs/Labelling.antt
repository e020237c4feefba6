-- Labels of loops, and which of them met.
use Rattle.std.specs.Prelude.{◌≡◌, ◌≢◌, ◌⊎◌, ℕ, ◌<◌, ◌≤◌, List, ◌++◌, length, slice_index}
use Rattle.std.specs.List.{AllByRecursion}
use Rattle.part_laws.specs.Meets.{least_joined}
use Rattle.component_labels.specs.Chains.{ArePaired}
use Rattle.component_labels.specs.Fronts.{Marks, none, room, slot_of}

-- the labels that stand, how many there are, and the pairs of them that met, each in both orders
pub record Known : Type 0 where
  pub marks : Marks
  pub count : ℕ
  pub pairs : List (ℕ × ℕ)

-- the label that each label was noted with last
pub record AreMet (pairs : List (ℕ × ℕ)) (met : List ℕ) : Type 0 where
  pub paired : ArePaired (length met) pairs
  pub low : (a : ℕ) → a < length met → slice_index met a < length met
  pub joined : (a : ℕ) → a < length met → least_joined pairs (slice_index met a) ≡ least_joined pairs a
  pub few : length met < none
  pub few_pairs : length pairs ≤ 4294967294

-- no label stands that is not known
pub record AreKnown (marks : Marks) (count : ℕ) : Type 0 where
  pub size : length marks.labels ≡ room marks.grid
  pub low : (k : ℕ) → k < room marks.grid → slice_index marks.labels k ≢ none → slice_index marks.labels k < count

-- pairs of labels of a kind were noted behind others
pub record Adds (P : ℕ → Type 0) (ps ps' : List (ℕ × ℕ)) : Type 0 where
  pub more : List (ℕ × ℕ)
  pub behind : ps' ≡ ps ++ more
  pub each : AllByRecursion (λ (p : ℕ × ℕ). P p.0 × P p.1) more

-- one of two
abbrev pub IsOneOf : ℕ → ℕ → ℕ → Type 0
IsOneOf a b c = (c ≡ a) ⊎ (c ≡ b)

-- the label stands at one of the first n edges of a loop
pub record Stands (stand : ℕ → ℕ) (n c : ℕ) : Type 0 where
  pub at : ℕ
  pub inside : at < n
  pub is : stand at ≡ c
  pub some : c ≢ none

-- where the label of the i-th edge of a loop stands
abbrev pub stand_of : Marks → List ℕ → ℕ → List ℕ → ℕ → ℕ
stand_of marks places shift edges i = slice_index marks.labels (slot_of places shift edges i)

-- a label for a loop of n edges: one that they have, or a new one
pub record IsLabelFor (base now : Known) (stand : ℕ → ℕ) (n label : ℕ) : Type 0 where
  pub marks : now.marks ≡ base.marks
  pub count : base.count ≤ now.count
  pub low : label < now.count
  pub pairs : Adds (Stands stand n) base.pairs now.pairs
  pub joined : (i : ℕ) → i < n → stand i ≢ none → least_joined now.pairs (stand i) ≡ least_joined now.pairs label
  pub own : Stands stand n label ⊎ (((i : ℕ) → i < n → stand i ≡ none) × (label ≡ base.count))

-- A loop got a label: it is a label for the loop, and stands at the loop's edges from now on. All others stand as before.
pub record IsAdded (old new : Known) (slot : ℕ → ℕ) (n label : ℕ) : Type 0 where
  pub grid : new.marks.grid ≡ old.marks.grid
  pub count : old.count ≤ new.count
  pub low : label < new.count
  pub pairs : Adds (Stands (λ i. slice_index old.marks.labels (slot i)) n) old.pairs new.pairs
  pub joined : (i : ℕ) → i < n → slice_index old.marks.labels (slot i) ≢ none →
      least_joined new.pairs (slice_index old.marks.labels (slot i)) ≡ least_joined new.pairs label
  pub own : Stands (λ i. slice_index old.marks.labels (slot i)) n label
      ⊎ (((i : ℕ) → i < n → slice_index old.marks.labels (slot i) ≡ none) × (label ≡ old.count))
  pub set : (i : ℕ) → i < n → slice_index new.marks.labels (slot i) ≡ label
  pub others : (k : ℕ) → ((i : ℕ) → i < n → slot i ≢ k) → slice_index new.marks.labels k
      ≡ slice_index old.marks.labels k
