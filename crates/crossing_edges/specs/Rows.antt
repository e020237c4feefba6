-- The crossing edges of a row of points, by their offsets, and names and places in a list.
use Rattle.std.specs.Prelude.{◌≡◌, ℕ, ◌+◌, ◌*◌, List, ◌++◌, map, Result, IfOk}
use Rattle.crossing_edges.specs.Flags.{names_in, places_in}
use Rattle.crossing_edges.specs.Leveled.{Leveled, heights}

-- the crossing edges that begin at n points from one on, by their offsets from its first edge
abbrev pub AreOffsets : Leveled → ℕ → ℕ → List ℕ → Type 0
AreOffsets v start n edges = map (λ e. 3 * start + e) edges ≡ names_in v.grid (heights v) (3 * start) (3 * n)

-- the names of the crossing edges among n names from a on were put behind those that were there
abbrev pub AddsNames : {A E : Type 0} → Leveled → ℕ → ℕ → Result A E → List ℕ → List ℕ → Type 0
AddsNames v a n result old new = IfOk result (λ _. new ≡ old ++ names_in v.grid (heights v) a n)

-- likewise where they are crossed
abbrev pub AddsPlaces : {A E : Type 0} → Leveled → ℕ → ℕ → Result A E → List ℕ → List ℕ → Type 0
AddsPlaces v a n result old new = IfOk result (λ _. new ≡ old ++ places_in v.grid (heights v) a n)
