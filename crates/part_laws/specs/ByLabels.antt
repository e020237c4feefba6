-- What a report says and what is measured, by labels of loops and of crossing edges.
use Rattle.std.specs.Prelude.{ℕ, ℤ, ◌==◌, not, List, [], ◌∷◌, length, map}
use Rattle.std.specs.List.{count_by, filter}
use Rattle.iso_defs.specs.Grid.{Grid}
use Rattle.iso_defs.specs.Scratch.{crossing_edges, number_of}
use Rattle.iso_defs.specs.Manifold.{share_outer_plane}
use Rattle.measure_laws.specs.Vectors.{Vector}
use Rattle.mesh_report.specs.Report.{Summary}
use Rattle.measure.specs.declared.share.Share.{Share}
use Rattle.part_laws.specs.Loops.{Loop}
use Rattle.part_laws.specs.Labels.{labelled, unlabelled}
use Rattle.part_laws.specs.Parts.{part_by}
use Rattle.part_laws.specs.Swept.{share_round}

-- those of which something is told for the first time
abbrev pub firsts : (ℕ → ℕ) → List ℕ → List ℕ
firsts f [] = []
firsts f (e ∷ es) = e ∷ filter (λ d. not (f d == f e)) (firsts f es)

-- the loops whose labels have a name
abbrev pub loops_named : List (ℕ × Loop) → (ℕ → ℕ) → ℕ → List Loop
loops_named xs name k = labelled xs (λ a. name a == k)

-- the report on loops of a field on a grid, where labels of one part have one name
abbrev pub named_summary : Grid → (ℕ → ℤ) → List (ℕ × Loop) → (ℕ → ℕ) → (ℕ → ℕ) → Summary
named_summary g s xs name label = record {
  total = part_by (share_outer_plane g) 0 (length (crossing_edges g s)) (unlabelled xs);
  parts = map
      (λ k. part_by (share_outer_plane g) (number_of g s k)
      (count_by (λ e. name (label e) == name (label k)) (crossing_edges g s))
      (loops_named xs name (name (label k))))
      (firsts (λ e. name (label e)) (crossing_edges g s));
}

-- and what is measured of them
abbrev pub named_shares : Grid → (ℕ → ℤ) → List (ℕ × Loop) → (ℕ → ℕ) → (ℕ → ℕ) → (ℕ → Vector) → List Share
named_shares g s xs name label at =
    map (λ k. share_round (share_outer_plane g) (λ v. at (number_of g s v)) (number_of g s k)
    (loops_named xs name (name (label k)))) (firsts (λ e. name (label e)) (crossing_edges g s))
