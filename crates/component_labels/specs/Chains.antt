-- Pairs of labels, chained by the label where they begin.
use Rattle.std.specs.Prelude.{◌≡◌, ◌≢◌, ℕ, ◌-◌, ◌<◌, ◌≤◌, List, length, slice_index, slice_index_or}

-- where a pair begins, and where it ends
abbrev pub begins_at : List (ℕ × ℕ) → ℕ → ℕ
begins_at ps i = (slice_index_or ps i (0, 0)).0

abbrev pub ends_at : List (ℕ × ℕ) → ℕ → ℕ
ends_at ps i = (slice_index_or ps i (0, 0)).1

-- a pair begins at a label below a number
abbrev pub BeginsBelow : ℕ → ℕ × ℕ → Type 0
BeginsBelow n p = p.0 < n

-- pairs of labels below a number, each with one that leads back
pub record ArePaired (n : ℕ) (ps : List (ℕ × ℕ)) : Type 0 where
  pub begins : (i : ℕ) → i < length ps → begins_at ps i < n
  pub ends : (i : ℕ) → i < length ps → ends_at ps i < n
  pub back : (i : ℕ) → i < length ps → (j : ℕ) × (j < length ps) × (begins_at ps j ≡ ends_at ps i)
      × (ends_at ps j ≡ begins_at ps i)

-- the number of the last of the first n pairs that begins at a label: one more than its place, or 0 where there is none
pub record IsLast (ps : List (ℕ × ℕ)) (a n k : ℕ) : Type 0 where
  pub low : k ≤ n
  pub there : 0 < k → begins_at ps (k - 1) ≡ a
  pub none_behind : (i : ℕ) → k ≤ i → i < n → begins_at ps i ≢ a

-- for each label that of its last pair among the first n, and for each of these that of the one before it
pub record AreChained (ps : List (ℕ × ℕ)) (n : ℕ) (last before : List ℕ) : Type 0 where
  pub last_is : (a : ℕ) → a < length last → IsLast ps a n (slice_index last a)
  pub before_is : (i : ℕ) → i < n → IsLast ps (begins_at ps i) i (slice_index before i)
