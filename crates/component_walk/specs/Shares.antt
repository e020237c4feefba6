-- What is measured of components, at the positions that are printed.
use Rattle.std.specs.Prelude.{◌^◌, ◌≤◌, ℤ, pos, ◌+ℤ◌, ◌-ℤ◌, ◌*ℤ◌, Bool, if◌then◌else◌, unsigned_abs}
use Rattle.measure_laws.specs.Vectors.{Vector}
use Rattle.measure.specs.declared.share.Share.{Share}
use Rattle.measure.specs.Measures.{IsWithin, coordinates, vector_of}
use Rattle.component_walk.specs.declared.components.Component.{Component}
use Rattle.component_walk.specs.declared.sweep.Swept.{Swept}

-- the numbers are so small that a volume may be moved
pub record CanMove (c : Component Swept) : Type 0 where
  pub six : unsigned_abs c.tally.six ≤ 2 ^ 100
  pub area : IsWithin (2 ^ 60) (vector_of c.tally.area)

-- Six times a volume from the first point off a pad's layer: it is less by the scalar product of that point with the area.
abbrev pub off_layer : ℤ → Vector → ℤ
off_layer six area = six -ℤ pos 1000 *ℤ ((area.0 +ℤ area.1) +ℤ area.2)

-- the share of a component
abbrev pub share_at : Bool → Component Swept → Share
share_at padded c = record {
  least = c.least;
  six = if padded then off_layer c.tally.six (vector_of c.tally.area) else c.tally.six;
  area = coordinates (vector_of c.tally.area);
  border = c.tally.border;
}
