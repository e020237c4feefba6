-- Ways along edges, of any length.
use Rattle.std.specs.Prelude.{◌≡◌, ◌≤◌, ℕ, true, List, [], ◌∷◌}
use Rattle.iso_defs.specs.Cell.{Triangle}
use Rattle.mesh_report.specs.Report.{are_joined}

-- from v over these vertices to w
abbrev pub IsWay : List Triangle → ℕ → ℕ → List ℕ → Type 0
IsWay ts v w [] = v ≡ w
IsWay ts v w (u ∷ us) = (are_joined ts v u ≡ true) × IsWay ts u w us

-- the least vertex to which edges lead, by ways of any length
pub record IsLeastReached (ts : List Triangle) (v k : ℕ) : Type 0 where
  pub reached : (us : List ℕ) × IsWay ts v k us
  pub least : (w : ℕ) (us : List ℕ) → IsWay ts v w us → k ≤ w
