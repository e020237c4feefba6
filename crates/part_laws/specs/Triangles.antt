-- Triangles of which an edge lies in two at most.
use Rattle.std.specs.Prelude.{ℕ, ◌≤◌, List}
use Rattle.std.specs.List.{AllByRecursion}
use Rattle.iso_defs.specs.Cell.{Triangle}
use Rattle.iso_defs.specs.Manifold.{HasThreeCorners, times_run}
use Rattle.iso_base.specs.Triangles.{IsBelow}

-- over vertices below n, with three different corners each, and no ordered pair run twice
pub record RunOnce (n : ℕ) (ts : List Triangle) : Type 0 where
  pub corners : AllByRecursion HasThreeCorners ts
  pub inside : AllByRecursion (IsBelow n) ts
  pub once : (a b : ℕ) → times_run ts a b ≤ 1
