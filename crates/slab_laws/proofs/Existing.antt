-- Every grid can be cut into slabs.
use Rattle.std.proofs.Common.{◌≡◌, ℕ, ◌+◌, ◌-◌, ◌≤◌, List, [], ◌∷◌, refl, arith, ℤ}
use Rattle.std.specs.List.{sum}
use Rattle.std.proofs.lemmas.List.Sums.{sum_by-cons}
use Rattle.iso_defs.specs.Grid.{Grid}
use Rattle.slab_laws.specs.Slabs.{IsSlab, AreSlabs, slab_at, slabs_of}

more : (n : ℕ) (ns : List ℕ) → sum (n ∷ ns) ≡ n + sum ns
more n ns = sum_by-cons (λ n. n) n ns

module _ (g : Grid) (s : ℕ → ℤ) where
  slab_is : (z n owned : ℕ) → z + n ≤ g.nz → IsSlab g s (slab_at g s z n owned)
  slab_is z n owned fits = record { grid = refl; fits = fits; values = λ p l. refl }

  are_slabs : (ns : List ℕ) (z : ℕ) → z + (sum ns + 2) ≤ g.nz → AreSlabs g s z (slabs_of g s z ns)
  are_slabs [] z fits = (slab_is z (g.nz - z) (g.nz - z) (omega arith), refl, refl, omega arith)
  are_slabs (n ∷ []) z fits =
      (slab_is z (n + 2) n (omega (arith, more n [])), refl, refl, are_slabs [] (z + n) (omega (arith, more n [])))
  are_slabs (n ∷ m ∷ ns) z fits = (
    slab_is z (n + 2) n (omega (arith, more n (m ∷ ns))),
    refl,
    refl,
    are_slabs (m ∷ ns) (z + n) (omega (arith, more n (m ∷ ns))),
  )

  pub cuts_are_slabs : (ns : List ℕ) → sum ns + 2 ≤ g.nz → AreSlabs g s 0 (slabs_of g s 0 ns)
  cuts_are_slabs ns fits = are_slabs ns 0 (omega (arith, fits))
