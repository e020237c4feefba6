-- Labels that meet, and what labels tell of classes.
use Rattle.std.specs.Prelude.{◌≡◌, ◌≢◌, ◌⊎◌, ℕ, Bool, true, false, List, [], ◌∷◌, ◌++◌, map, if◌then◌else◌}
use Rattle.std.specs.List.{AllByRecursion, list_any}
use Rattle.iso_defs.specs.Lists.{is_in}
use Rattle.part_laws.specs.Loops.{Loop}
use Rattle.part_laws.specs.Classes.{class_of}
use Rattle.part_laws.specs.Labels.{unlabelled}

-- two labels that meet, as a loop of both
abbrev pub pair_loop : ℕ × ℕ → Loop
pair_loop p = (0, p.0 ∷ p.1 ∷ [])

-- the least label that pairs join with one, over any number of pairs
unfoldable pub least_joined : List (ℕ × ℕ) → ℕ → ℕ
least_joined ps a = class_of (map pair_loop ps) a

-- Labels of loops and of vertices, and pairs of labels that met: pairs join the label of each vertex of a loop with the loop's, a vertex is of one
-- class with the vertex that its label began at, and so are the vertices that the two labels of a pair began at.
pub record IsLabelling (xs : List (ℕ × Loop)) (ps : List (ℕ × ℕ)) (label : ℕ → ℕ) : Type 0 where
  pub began : ℕ → ℕ
  pub joined : AllByRecursion (λ (x : ℕ × Loop). AllByRecursion (λ v. least_joined ps (label v)
      ≡ least_joined ps x.0) x.1.1) xs
  pub own : AllByRecursion (λ (x : ℕ × Loop). AllByRecursion (λ v. class_of (unlabelled xs) v
      ≡ class_of (unlabelled xs) (began (label v))) x.1.1) xs
  pub meets : AllByRecursion (λ (p : ℕ × ℕ). class_of (unlabelled xs) (began p.0)
      ≡ class_of (unlabelled xs) (began p.1)) ps

-- whether a loop has the vertex
abbrev pub is_met : List (ℕ × Loop) → ℕ → Bool
is_met xs v = list_any (λ (x : ℕ × Loop). is_in v x.1.1) xs

-- the labels of vertices after a loop was given one
abbrev pub relabelled : (ℕ → ℕ) → ℕ → Loop → ℕ → ℕ
relabelled label a l v = if is_in v l.1 then a else label v

-- a vertex of a loop that a loop before it has too, and its label
pub record HasLabel (xs : List (ℕ × Loop)) (label : ℕ → ℕ) (l : Loop) (a : ℕ) : Type 0 where
  pub vertex : ℕ
  pub inside : is_in vertex l.1 ≡ true
  pub met : is_met xs vertex ≡ true
  pub is : label vertex ≡ a

-- nothing has the label, and no loop before this one has a vertex of it
pub record IsNew (xs : List (ℕ × Loop)) (ps : List (ℕ × ℕ)) (label : ℕ → ℕ) (l : Loop) (a : ℕ) : Type 0 where
  pub none : (v : ℕ) → is_in v l.1 ≡ true → is_met xs v ≡ false
  pub unused : (v : ℕ) → is_met xs v ≡ true → label v ≢ a
  pub unpaired : AllByRecursion (λ (p : ℕ × ℕ). (p.0 ≢ a) × (p.1 ≢ a)) ps

-- A label for a loop behind others: pairs join it with the labels that the loop's vertices have, it is one of these or new, and the pairs that were
-- noted meanwhile are of these.
pub record IsNext (xs : List (ℕ × Loop)) (ps qs : List (ℕ × ℕ)) (label : ℕ → ℕ) (l : Loop) (a : ℕ) : Type 0 where
  pub joined : (v : ℕ) → is_in v l.1 ≡ true → is_met xs v ≡ true → least_joined (ps ++ qs) (label v)
      ≡ least_joined (ps ++ qs) a
  pub own : HasLabel xs label l a ⊎ IsNew xs ps label l a
  pub pairs : AllByRecursion (λ (p : ℕ × ℕ). HasLabel xs label l p.0 × HasLabel xs label l p.1) qs
