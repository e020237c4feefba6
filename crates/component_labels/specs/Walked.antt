-- What is known of labels by the names of lattice edges.
use Rattle.std.specs.Prelude.{◌≡◌, ℕ, ◌<◌, true, false, List}
use Rattle.iso_defs.specs.Grid.{Grid}
use Rattle.part_laws.specs.Loops.{Loop}
use Rattle.part_laws.specs.Labels.{AreLabelled}
use Rattle.part_laws.specs.Meets.{IsLabelling, is_met}
use Rattle.component_labels.specs.Chains.{ArePaired}
use Rattle.component_labels.specs.Fronts.{AreLabels, none}
use Rattle.component_labels.specs.Labelling.{Known}

-- Loops have labels, and so have their vertices and no others. Those of the edges of two slices stand from a row on, and the pairs tell which labels met.
pub record IsLabelled (g : Grid) (row : ℕ) (xs : List (ℕ × Loop)) (label : ℕ → ℕ) (k : Known) : Type 0 where
  pub grid : k.marks.grid ≡ g
  pub standing : AreLabels g row label k.marks.labels
  pub met : (v : ℕ) → is_met xs v ≡ true → label v < k.count
  pub unmet : (v : ℕ) → is_met xs v ≡ false → label v ≡ none
  pub few : k.count < none
  pub low : AreLabelled k.count xs
  pub paired : ArePaired k.count k.pairs
  pub labelling : IsLabelling xs k.pairs label
