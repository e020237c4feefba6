-- What is known of a list of triangles while its vertices are looked at one by one.
use Rattle.std.specs.Prelude.{◌≡◌, ◌≢◌, ◌⊎◌, ℕ, zero, suc, ◌+◌, ◌<◌, not, cond, ◌==◌, List, [], length, Option, Some, None}
use Rattle.std.specs.List.{count_by, AllByRecursion}
use Rattle.iso_defs.specs.Lists.{ends}
use Rattle.iso_defs.specs.Cell.{Triangle}
use Rattle.iso_defs.specs.FanWalk.{walked, IsFanStart}
use Rattle.iso_defs.specs.Manifold.{arcs, HasThreeCorners}
use Rattle.iso_defs.specs.Verdict as laws
use Rattle.mesh_check.specs.declared.fan.Fan.{Fan}
use Rattle.mesh_check.specs.declared.fan.Fan.TheVariants.{Twice, Whole, Split}
use Rattle.iso_base.specs.declared.verdict.Verdict.{Verdict}
use Rattle.iso_base.specs.declared.verdict.Verdict.TheVariants.{Closed, Border, SplitVertex}
use Rattle.mesh_check.specs.Marks.{IsLeastTwice}

-- the arcs that begin where none ends
abbrev pub loose_at : List (ℕ × ℕ) → ℕ
loose_at ps = count_by (λ (p : ℕ × ℕ). not (ends ps p.0)) ps

-- there are none, or a walk takes all
abbrev pub WalksAll : List (ℕ × ℕ) → Type 0
WalksAll ps = (ps ≡ []) ⊎ ((start : ℕ) × IsFanStart ps start × (length (walked ps (length ps) start start) ≡ length ps))

-- a walk does not take all
abbrev pub LeavesSome : List (ℕ × ℕ) → Type 0
LeavesSome ps = (start : ℕ) × IsFanStart ps start × (length (walked ps (length ps) start start) ≢ length ps)

-- what is said of the arcs round one vertex is so
abbrev pub IsFanOf : List (ℕ × ℕ) → Fan → Type 0
IsFanOf ps (Twice b) = IsLeastTwice ps (Some b)
IsFanOf ps (Whole loose) = IsLeastTwice ps None × (loose ≡ loose_at ps) × WalksAll ps
IsFanOf ps (Split loose) = IsLeastTwice ps None × (loose ≡ loose_at ps) × LeavesSome ps

-- the same of all vertices below a number
abbrev pub loose_below : List Triangle → ℕ → ℕ
loose_below ts zero = 0
loose_below ts (suc v) = loose_below ts v + loose_at (arcs ts v)

-- the first of the vertices below v whose arcs a walk does not take whole
abbrev pub IsFirstSplit : List Triangle → ℕ → Option ℕ → Type 0
IsFirstSplit ts v None = (u : ℕ) → u < v → WalksAll (arcs ts u)
IsFirstSplit ts v (Some s) = (s < v) × LeavesSome (arcs ts s) × ((u : ℕ) → u < s → WalksAll (arcs ts u))

-- the vertices below v are looked at: none begins two arcs, the first split one is known, and the loose arcs are counted
pub record IsJudged (ts : List Triangle) (v : ℕ) (split : Option ℕ) (loose : ℕ) : Type 0 where
  pub once : (u : ℕ) → u < v → IsLeastTwice (arcs ts u) None
  pub first : IsFirstSplit ts v split
  pub count : loose ≡ loose_below ts v

-- the least triangle that repeats a corner
abbrev pub IsFirstRepeated : List Triangle → Option ℕ → Type 0
IsFirstRepeated ts None = AllByRecursion HasThreeCorners ts
IsFirstRepeated ts (Some t) = laws.IsVerdict ts (laws.Verdict.RepeatedCorner t)

-- the first split vertex, with one more
abbrev pub first_split : Option ℕ → ℕ → Option ℕ
first_split None v = Some v
first_split (Some s) v = Some s

-- the verdict where no ordered pair is run twice
abbrev pub summed_of : Option ℕ → ℕ → Verdict
summed_of (Some s) loose = SplitVertex s
summed_of None loose = cond (loose == 0) Closed (Border loose)
