-- Elements as the code holds them. No public definition rests on it.
use Rattle.std.specs.Prelude.{◌≡◌, ℕ, List, map}
use Rattle.std.specs.Borrow.{Bor}
use Rattle.std.specs.BTreeSet.{BTreeSet, contains_by}
use Rattle.std.specs.Cmp.Lexicographic.{slice_cmp}
use Rattle.std.specs.Ordering.{nat_cmp}
use Rattle.mesh_read.specs.declared.elements.Element.{Element}
use Rattle.mesh_read.specs.Ply.{has_name}

-- names and counts, without where they lie in memory
abbrev pub seen_elements : List Element → List (List ℕ × ℕ)
seen_elements es = map (λ e. (e.name.now, e.count)) es

-- a set holds the names of the elements and no others
abbrev pub HoldsNames : BTreeSet (Bor (List ℕ)) → List (List ℕ × ℕ) → Type 0
HoldsNames names es = (q : List ℕ) → contains_by (λ k. slice_cmp nat_cmp q k.now) names ≡ has_name q es
