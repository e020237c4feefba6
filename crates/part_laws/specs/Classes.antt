-- Which vertices loops join.
use Rattle.std.specs.Prelude.{◌≡◌, ℕ, ◌≤◌, Bool, true, ◌&&◌, ◌==◌, List, [], ◌∷◌, map, slice_index, if◌then◌else◌}
use Rattle.std.specs.List.{list_any}
use Rattle.iso_defs.specs.Lists.{is_in, least_of}
use Rattle.part_laws.specs.Loops.{Loop}

-- The class of a vertex, named by its least vertex. Without loops each vertex is a class; each loop more makes one class of those of its vertices.
unfoldable pub class_of : List Loop → ℕ → ℕ
class_of [] v = v
class_of (l ∷ ls) v = if is_in (class_of ls v) (map (class_of ls) l.1) then least_of (map (class_of ls) l.1)
    else class_of ls v

-- whether a loop is of the class: its vertices are of one class, so its first tells
abbrev pub is_of_class : List Loop → ℕ → Loop → Bool
is_of_class ls k l = class_of ls (slice_index l.1 0) == k

-- both vertices are of one loop
abbrev pub share_loop : List Loop → ℕ → ℕ → Bool
share_loop ls a b = list_any (λ (l : Loop). is_in a l.1 && is_in b l.1) ls

-- a number of each vertex that is the same for the vertices of a loop
abbrev pub IsShared : List Loop → (ℕ → ℕ) → Type 0
IsShared ls f = (v w : ℕ) → share_loop ls v w ≡ true → f v ≡ f w

-- from v over these vertices to w, from each to the next in one loop: a chain of loops each of which has a vertex of the one before
abbrev pub IsChain : List Loop → ℕ → List ℕ → ℕ → Type 0
IsChain ls v [] w = v ≡ w
IsChain ls v (u ∷ us) w = (share_loop ls v u ≡ true) × IsChain ls u us w

-- the least vertex to which chains lead
pub record IsLeastChained (ls : List Loop) (v k : ℕ) : Type 0 where
  pub reached : (us : List ℕ) × IsChain ls v us k
  pub least : (w : ℕ) (us : List ℕ) → IsChain ls v us w → k ≤ w
