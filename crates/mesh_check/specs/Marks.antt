-- Marks of the vertices that begin and end the arcs round one vertex.
use Rattle.std.specs.Prelude.{◌≡◌, ◌≢◌, ◌==◌, ℕ, ◌<◌, ◌≤◌, Bool, true, false, List, length, slice_index_or, Option, Some, None, if◌then◌else◌, nat_lt}
use Rattle.std.specs.List.{count_by}
use Rattle.iso_defs.specs.Lists.{begins, ends}
use Rattle.iso_defs.specs.Cell.{next_of}
use Rattle.mesh_check.specs.declared.marks.Mark.{Mark}

-- the mark of a vertex
abbrev pub mark_at : List Mark → ℕ → Mark
mark_at marks k = slice_index_or marks k (record { owner = 0; to = 0; ended = 0 })

-- a vertex is marked by the stamp where it begins an arc, with what follows it, and where it ends one
pub record IsMarked (marks : List Mark) (stamp : ℕ) (arcs : List (ℕ × ℕ)) : Type 0 where
  pub owned : (k : ℕ) → k < length marks → (mark_at marks k).owner ≡ stamp → begins arcs k ≡ true
  pub owns : (k : ℕ) → k < length marks → begins arcs k ≡ true → (mark_at marks k).owner ≡ stamp
  pub next : (k : ℕ) → k < length marks → begins arcs k ≡ true → (mark_at marks k).to ≡ next_of arcs k
  pub ended : (k : ℕ) → k < length marks → (mark_at marks k).ended ≡ stamp → ends arcs k ≡ true
  pub ending : (k : ℕ) → k < length marks → ends arcs k ≡ true → (mark_at marks k).ended ≡ stamp

-- no mark is by this stamp or a later one
abbrev pub IsUnmarked : List Mark → ℕ → Type 0
IsUnmarked marks stamp = (k : ℕ) → k < length marks → ((mark_at marks k).owner < stamp)
    × ((mark_at marks k).ended < stamp)

-- one arc was marked
pub record IsPut (old new : List Mark) (begin end stamp : ℕ) : Type 0 where
  pub owner : (mark_at new begin).owner ≡ stamp
  pub to : (mark_at new begin).to ≡ end
  pub ended : (mark_at new end).ended ≡ stamp
  pub owner_kept : (k : ℕ) → k ≢ begin → (mark_at new k).owner ≡ (mark_at old k).owner
  pub to_kept : (k : ℕ) → k ≢ begin → (mark_at new k).to ≡ (mark_at old k).to
  pub ended_kept : (k : ℕ) → k ≢ end → (mark_at new k).ended ≡ (mark_at old k).ended

-- how many arcs begin at a vertex
abbrev pub begun : List (ℕ × ℕ) → ℕ → ℕ
begun arcs b = count_by (λ (p : ℕ × ℕ). p.0 == b) arcs

-- the least vertex so far that begins two arcs, where this one does so again or not
abbrev pub noted_of : Option ℕ → ℕ → Bool → Option ℕ
noted_of twice b false = twice
noted_of None b true = Some b
noted_of (Some c) b true = if nat_lt c b then Some c else Some b

-- the least vertex that begins two arcs
abbrev pub IsLeastTwice : List (ℕ × ℕ) → Option ℕ → Type 0
IsLeastTwice arcs None = (b : ℕ) → begun arcs b ≤ 1
IsLeastTwice arcs (Some b) = (2 ≤ begun arcs b) × ((c : ℕ) → c < b → begun arcs c ≤ 1)
