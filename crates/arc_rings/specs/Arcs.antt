-- Arcs by their ends.
use Rattle.std.specs.Prelude.{ℕ, ◌<◌}

-- both ends of an arc are below the number
abbrev pub ArcBelow : ℕ → ℕ × ℕ → Type 0
ArcBelow n p = (p.0 < n) × (p.1 < n)
