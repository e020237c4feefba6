-- Components while they are put together: first each is begun, then what the labels have is added.
use Rattle.std.specs.Prelude.{◌≡◌, ◌≢◌, ℕ, ◌<◌, ◌==◌, ℤ, pos, List, length, slice_index, slice_index_or, if◌then◌else◌}
use Rattle.std.specs.List.{sum_by}
use Rattle.iso_defs.specs.Lists.{below}
use Rattle.component_labels.specs.Fronts.{none}
use Rattle.measure_laws.specs.Vectors.{total}
use Rattle.part_laws.specs.ByLabels.{firsts}
use Rattle.component_walk.specs.declared.components.Component.{Component}

-- a component to which nothing was added
pub record IsEmpty {T : Type 0} (value : T → ℕ → ℤ) (fits : ℕ → T → Type 0) (c : Component T) : Type 0 where
  pub crossings : c.crossings ≡ 0
  pub values : (i : ℕ) → value c.tally i ≡ pos 0
  pub fit : fits 0 c.tally

-- One for each name that these edges have, in the order of the first edges that have it, and the place of each by its name.
pub record AreBegun {T : Type 0} (value : T → ℕ → ℤ) (fits : ℕ → T → Type 0) (name number : ℕ →
    ℕ) (es places : List ℕ) (cs : List (Component T)) : Type 0 where
  pub count : length cs ≡ length (firsts name es)
  pub least : (i : ℕ) (d : Component T) → i < length cs → (slice_index_or cs i d).least
      ≡ number (slice_index_or (firsts name es) i 0)
  pub empty : (i : ℕ) (d : Component T) → i < length cs → IsEmpty value fits (slice_index_or cs i d)
  pub place : (i : ℕ) → i < length cs → slice_index places (name (slice_index_or (firsts name es) i 0)) ≡ i
  pub named : (a : ℕ) → a < length places → slice_index places a ≢ none →
      (slice_index places a < length cs) × (name (slice_index_or (firsts name es) (slice_index places a) 0) ≡ a)

-- What the labels below n have was added to empty components, each label's to the one at its place.
pub record AreAdded {T : Type 0} (value : T → ℕ → ℤ) (fits : ℕ → T → Type 0) (place : ℕ →
    ℕ) (n : ℕ) (crossings : List ℕ) (tallies : List T) (cs cs' : List (Component T)) : Type 0 where
  pub count : length cs' ≡ length cs
  pub least : (i : ℕ) (d : Component T) → i < length cs → (slice_index_or cs' i d).least ≡ (slice_index_or cs i d).least
  pub crossings_are : (i : ℕ) (d : Component T) → i < length cs →
      (slice_index_or cs' i d).crossings ≡ sum_by (λ a. if place a == i then slice_index crossings a else 0) (below n)
  pub values : (i : ℕ) (d : Component T) (t : T) (j : ℕ) → i < length cs →
      value (slice_index_or cs' i d).tally j ≡ total (λ a. if place a == i then value (slice_index_or tallies a t) j
      else pos 0) (below n)
  pub fit : (of : ℕ → ℕ) → ((a : ℕ) (t : T) → a < n → fits (of a) (slice_index_or tallies a t)) →
      (i : ℕ) (d : Component T) → i < length cs →
      fits (sum_by (λ a. if place a == i then of a else 0) (below n)) (slice_index_or cs' i d).tally

-- the tallies of n labels are those of loops with few steps
pub record AreFew {T : Type 0} (fits : ℕ → T → Type 0) (n : ℕ) (tallies : List T) : Type 0 where
  pub of : ℕ → ℕ
  pub few : sum_by of (below n) < 2147483648
  pub fit : (a : ℕ) (t : T) → a < n → fits (of a) (slice_index_or tallies a t)
