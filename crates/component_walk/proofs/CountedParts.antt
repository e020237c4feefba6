-- The numbers of a part, by what is counted of its loops.
use Rattle.std.proofs.Common.{◌≡◌, ◌∙◌, ℕ, ◌+◌, ◌*◌, ◌/◌, ◌<◌, ◌≤◌, pos, ◌+ℤ◌, ◌-ℤ◌, Bool, true, false, cond, List, [], ◌∷◌, length, refl, ap, arith}
use Rattle.std.proofs.lemmas.Int.{ints}
use Rattle.std.proofs.lemmas.List.Sums.{sum_by-cons}
use Rattle.std.specs.List.{count_by, sum_by}
use Rattle.iso_defs.specs.Lists.{around}
use Rattle.iso_defs.specs.Scratch.{has_centre}
use Rattle.iso_defs.specs.Manifold.{share_outer_plane}
use Rattle.triangle_laws.proofs.Counts.{count-cons}
use Rattle.triangle_laws.proofs.Lists.{In}
use Rattle.measure_laws.specs.Vectors.{total}
use Rattle.mesh_report.proofs.Sums.{sum_add, sum_agree}
use Rattle.mesh_report.specs.declared.part.Part.{Part}
use Rattle.flat_mesh.specs.Lattice.{Leveled}
use Rattle.part_laws.specs.Loops.{Loop, centres, faces, rims, rims_where, spokes}
use Rattle.part_laws.specs.Parts.{part_by}
use Rattle.part_laws.proofs.Counted.{sides_round}
use Rattle.component_walk.specs.Counts.{AreFew, counted, number, part_with}
use Rattle.component_walk.specs.declared.tally.LoopCounts.{LoopCounts}

-- a total of natural numbers
pub total_pos : {A : Type 0} (f : A → ℕ) (xs : List A) → total (λ x. pos (f x)) xs ≡ pos (sum_by f xs)
total_pos f [] = refl
total_pos f (x ∷ xs) = omega (arith, ints, sum_by-cons f x xs, total_pos f xs)

total_count : {A : Type 0} (p : A → Bool) (xs : List A) → total (λ x. pos (cond (p x) 1 0)) xs ≡ pos (count_by p xs)
total_count p [] = refl
total_count p (x ∷ xs) = omega (arith, ints, count-cons p x xs, total_count p xs)

pos_same : (a b : ℕ) → pos a ≡ pos b → a ≡ b
pos_same a b e = omega (arith, ints, e)

-- a part by its numbers
abbrev part_of_numbers : ℕ → ℕ → ℕ → ℕ → ℕ → Part
part_of_numbers least vertices edges faces border =
    record { least = least; vertices = vertices; edges = edges; faces = faces; border = border; euler = (pos vertices -ℤ pos edges) +ℤ pos faces }

module _ (v : Leveled) (ls : List Loop) (long : (l : Loop) → In l ls → 3 ≤ length l.1) (c : LoopCounts) (h : (i : ℕ) → number c i ≡ total (counted v i) ls) where
  threes_are : c.threes ≡ sum_by (λ (l : Loop). cond (has_centre l) 0 1) ls
  threes_are = pos_same _ _ (h 0 ∙ total_pos (λ (l : Loop). cond (has_centre l) 0 1) ls)

  centres_are : c.centres ≡ centres ls
  centres_are = pos_same _ _ (h 1 ∙ total_count has_centre ls)

  spokes_are : c.spokes ≡ spokes ls
  spokes_are = pos_same _ _ (h 2 ∙ total_pos (λ (l : Loop). cond (has_centre l) (length l.1) 0) ls)

  border_is : c.border ≡ rims_where (share_outer_plane v.grid) ls
  border_is = pos_same _ _ (h 3 ∙ total_pos (λ (l : Loop). count_by (λ (p : ℕ × ℕ). share_outer_plane v.grid p.0 p.1) (around l.1)) ls)

  faces_are : c.threes + c.spokes ≡ faces ls
  faces_are =
      let parts : faces ls ≡ sum_by (λ (l : Loop). cond (has_centre l) 0 1 + cond (has_centre l) (length l.1) 0) ls
      = sum_agree (λ (l : Loop). cond (has_centre l) (length l.1) 1) (λ (l : Loop). cond (has_centre l) 0 1 + cond (has_centre l) (length l.1) 0) ls (λ l i. split (has_centre l) (length l.1)) in
      let sums : sum_by (λ (l : Loop). cond (has_centre l) 0 1 + cond (has_centre l) (length l.1) 0) ls ≡ sum_by (λ (l : Loop). cond (has_centre l) 0 1) ls + spokes ls
      = sum_add (λ (l : Loop). cond (has_centre l) 0 1) (λ (l : Loop). cond (has_centre l) (length l.1) 0) ls in
      omega (arith, parts, sums, threes_are, spokes_are)
    where
      split : (b : Bool) (n : ℕ) → cond b n 1 ≡ cond b 0 1 + cond b n 0
      split true n = omega arith
      split false n = omega arith

  rims_are : 3 * c.threes + c.spokes ≡ rims ls
  rims_are = omega (arith, faces_are, spokes_are, sides_round ls long)

  pub part_is : (least crossings : ℕ) → part_with least crossings c ≡ part_by (share_outer_plane v.grid) least crossings ls
  part_is least crossings =
      let steps : 3 * c.threes + c.spokes + c.border ≡ rims ls + rims_where (share_outer_plane v.grid) ls = omega (arith, rims_are, border_is) in
      ap (λ n. part_of_numbers least (crossings + n) ((3 * c.threes + c.spokes + c.border) / 2 + c.spokes) (c.threes + c.spokes) c.border) centres_are
      ∙ (ap (λ n. part_of_numbers least (crossings + centres ls) (n / 2 + c.spokes) (c.threes + c.spokes) c.border) steps
      ∙ (ap (λ n. part_of_numbers least (crossings + centres ls) ((rims ls + rims_where (share_outer_plane v.grid) ls) / 2 + n) (c.threes + c.spokes) c.border) spokes_are
      ∙ (ap (λ n. part_of_numbers least (crossings + centres ls) ((rims ls + rims_where (share_outer_plane v.grid) ls) / 2 + spokes ls) n c.border) faces_are
      ∙ ap (λ n. part_of_numbers least (crossings + centres ls) ((rims ls + rims_where (share_outer_plane v.grid) ls) / 2 + spokes ls) (faces ls) n) border_is)))

  pub few_are : (crossings : ℕ) → crossings + centres ls < 4294967296 → faces ls < 4294967296 → AreFew crossings c
  few_are crossings vertices triangles = record {
    vertices = omega (arith, vertices, centres_are);
    faces = omega (arith, triangles, faces_are);
  }
