-- A walk over labels from one start after another. Of each label that was seen the start is kept, and a queue has them in the order in which they were seen.
use Rattle.std.specs.Prelude.{◌≡◌, ◌≢◌, ℕ, ◌+◌, ◌<◌, ◌≤◌, ◌==◌, List, length, slice_index, if◌then◌else◌}
use Rattle.std.specs.List.{sum_by}
use Rattle.part_laws.specs.Meets.{least_joined}
use Rattle.component_labels.specs.Chains.{begins_at, ends_at}

-- the mark of a label that was not seen
abbrev pub none : ℕ
none = 4294967295

-- how many were not seen
unfoldable pub unseen : List ℕ → ℕ
unseen least = sum_by (λ s. if s == none then 1 else 0) least

-- More labels were seen, from this start, and put behind the others.
pub record Keeps (start : ℕ) (least queue least' queue' : List ℕ) : Type 0 where
  pub size : length least' ≡ length least
  pub same : (v : ℕ) → v < length least → slice_index least v ≢ none → slice_index least' v ≡ slice_index least v
  pub new : (v : ℕ) → v < length least → slice_index least v ≡ none → slice_index least' v ≢ none →
      slice_index least' v ≡ start
  pub longer : length queue ≤ length queue'
  pub front : (j : ℕ) → j < length queue → slice_index queue' j ≡ slice_index queue j
  pub behind : (j : ℕ) → length queue ≤ j → j < length queue' → (slice_index queue' j < length least)
      × (slice_index least' (slice_index queue' j) ≡ start)
  pub left : unseen least' + length queue' ≡ unseen least + length queue

-- All labels before this start were seen. What was seen stands in the queue, has a start that is not greater, and is joined with it.
pub record IsSpread (ps : List (ℕ × ℕ)) (start : ℕ) (least queue : List ℕ) : Type 0 where
  pub before : (v : ℕ) → v < start → slice_index least v ≢ none
  pub most : (v : ℕ) → v < length least → slice_index least v ≢ none → slice_index least v ≤ start
  pub low : (v : ℕ) → v < length least → slice_index least v ≢ none → slice_index least v ≤ v
  pub joined : (v : ℕ) → v < length least → slice_index least v ≢ none → least_joined ps (slice_index least v)
      ≡ least_joined ps v
  pub queued : (v : ℕ) → v < length least → slice_index least v ≢ none → (j : ℕ) × (j < length queue)
      × (slice_index queue j ≡ v)
  pub known : (j : ℕ) → j < length queue → (slice_index queue j < length least)
      × (slice_index least (slice_index queue j) ≢ none)

-- what pairs lead to from a label has the same start
abbrev pub IsClosedAt : List (ℕ × ℕ) → List ℕ → ℕ → Type 0
IsClosedAt ps least v = (i : ℕ) → i < length ps → begins_at ps i ≡ v → slice_index least (ends_at ps i)
    ≡ slice_index least v

-- So it is of the labels from earlier starts, and of the first ones in the queue; those behind them are from this start.
pub record AreClosed (ps : List (ℕ × ℕ)) (start : ℕ) (least queue : List ℕ) (walked : ℕ) : Type 0 where
  pub older : (v : ℕ) → v < length least → slice_index least v < start → IsClosedAt ps least v
  pub walked_is : walked ≤ length queue
  pub first : (j : ℕ) → j < walked → IsClosedAt ps least (slice_index queue j)
  pub ahead : (j : ℕ) → walked ≤ j → j < length queue → slice_index least (slice_index queue j) ≡ start

-- for each label below a number the least one that pairs join with it
pub record IsLeast (n : ℕ) (ps : List (ℕ × ℕ)) (least : List ℕ) : Type 0 where
  pub count : length least ≡ n
  pub each : (a : ℕ) → a < n → slice_index least a ≡ least_joined ps a
