-- Every volume, with padding and without, can be cut into slabs of its slices.
use Rattle.std.proofs.Common.{◌≡◌, ℕ, zero, suc, ◌+◌, ◌-◌, ◌<◌, ◌≤◌, ◌⊎◌, inl, inr, Bool, cond, ne_eqb, List, [], ◌∷◌, length, refl, sym, ap, arith, ℤ}
use Rattle.std.specs.List.{sum}
use Rattle.std.proofs.lemmas.List.Sums.{sum_by-cons}
use Rattle.iso_defs.specs.Grid.{point_count, IsSolid}
use Rattle.iso_base.specs.Volume.{grown, padded_volume, field, Voxels, unpadded}
use Rattle.slab_laws.specs.Slabs.{AreSlabs, IsSlab}
use Rattle.slab_laws.specs.SlabVolumes.{layers_below, padded_slab_of, padded_slabs_of, slab_of, stretch_at, volume_slabs_of}
use Rattle.slab_laws.proofs.SlabVolumes.{padded_slab_is, slab_is}

more : (n : ℕ) (ns : List ℕ) → sum (n ∷ ns) ≡ n + sum ns
more n ns = sum_by-cons (λ n. n) n ns

module _ (v : Voxels) (level : ℤ) (all : length v.samples ≡ point_count v.grid) where
  stretch_is : (z n owned : ℕ) → z + n ≤ v.grid.nz
      → IsSlab v.grid (field v.samples level) (slab_of v level (record { from = z; count = n; below = 0; above = 0 }) owned)
  stretch_is z n owned fits = slab_is v level (record { from = z; count = n; below = 0; above = 0 }) owned all fits

  are_slabs : (ns : List ℕ) (z : ℕ) → z + (sum ns + 2) ≤ v.grid.nz
      → AreSlabs v.grid (field v.samples level) z (volume_slabs_of v level z ns)
  are_slabs [] z fits = (stretch_is z (v.grid.nz - z) (v.grid.nz - z) (omega arith), refl, refl, omega arith)
  are_slabs (n ∷ []) z fits =
      (stretch_is z (n + 2) n (omega (arith, more n [])), refl, refl, are_slabs [] (z + n) (omega (arith, more n [])))
  are_slabs (n ∷ m ∷ ns) z fits = (
    stretch_is z (n + 2) n (omega (arith, more n (m ∷ ns))),
    refl,
    refl,
    are_slabs (m ∷ ns) (z + n) (omega (arith, more n (m ∷ ns))),
  )

pub cuts_of_volume : (v : Voxels) (level : ℤ) (owned : List ℕ) → length v.samples ≡ point_count v.grid
    → sum owned + 2 ≤ v.grid.nz → AreSlabs v.grid (field v.samples level) 0 (volume_slabs_of v level 0 owned)
cuts_of_volume v level owned all fits = are_slabs v level all owned 0 (omega (arith, fits))

-- whether slices are the lowest, as a number
lowest : (z : ℕ) → ((z ≡ 0) × (layers_below z ≡ 1)) ⊎ ((0 < z) × (layers_below z ≡ 0))
lowest zero = inl (refl, refl)
lowest (suc z) = inr (omega arith, ap (λ (t : Bool). cond {A = ℕ} t 1 0) (ne_eqb (suc z) 0 (λ e. omega (arith, e))))

module _ (v : Voxels) (pad level : ℤ) (solid : IsSolid v.grid) where
  abbrev s : ℕ → ℤ
  s = field (padded_volume (unpadded v) pad).samples level

  -- slices of the padded volume from z on, with a layer above or without
  module _ (z stored above : ℕ) (some : 2 ≤ stored) (most : above ≤ 1) (fits : z + stored ≤ v.grid.nz + 1 + above)
      (last : above ≡ 1 → z + stored ≡ v.grid.nz + 2) where
    abbrev below : ℕ
    below = layers_below z

    below_most : below ≤ 1
    below_most = elim (lowest z) [
      | inl h ↦ omega (arith, h.1)
      | inr h ↦ omega (arith, h.1)
    ]

    within : z - 1 + (stored - (below + above)) ≤ v.grid.nz
    within = elim (lowest z) [
      | inl h ↦ omega (arith, h.0, h.1, some, most, fits)
      | inr h ↦ omega (arith, h.0, h.1, some, most, fits)
    ]

    begun : below ≡ 1 → z - 1 ≡ 0
    begun e = elim (lowest z) [
      | inl h ↦ omega (arith, h.0)
      | inr h ↦ absurd (omega (arith, h.1, e))
    ]

    ended : above ≡ 1 → z - 1 + (stored - (below + above)) ≡ v.grid.nz
    ended e = elim (lowest z) [
      | inl h ↦ omega (arith, h.0, h.1, some, e, last e)
      | inr h ↦ omega (arith, h.0, h.1, some, e, last e)
    ]

    pub padded_is : (owned : ℕ) → IsSlab (grown v.grid) s (padded_slab_of v pad level (stretch_at z stored above) owned)
    padded_is owned = padded_slab_is v pad level (stretch_at z stored above) owned solid within
        (record { below = below_most; above = most; first = begun; last = ended })

    pub height_is : z - 1 + (1 - below) ≡ z
    height_is = elim (lowest z) [
      | inl h ↦ omega (arith, h.0, h.1)
      | inr h ↦ omega (arith, h.0, h.1)
    ]

    pub slices_are : stored - (below + above) + (below + above) ≡ stored
    slices_are = omega (arith, some, most, below_most)

  are_padded : (ns : List ℕ) (z : ℕ) → z + (sum ns + 1) ≤ v.grid.nz → AreSlabs (grown v.grid) s z (padded_slabs_of v pad level z ns)
  are_padded [] z fits =
      let m : ℕ = v.grid.nz + 2 - z in
      let some : 2 ≤ m = omega (arith, fits) in
      let top : z + m ≡ v.grid.nz + 2 = omega (arith, fits) in
      let one : 1 ≤ 1 = omega arith in
      let low : z + m ≤ v.grid.nz + 1 + 1 = omega (arith, top) in
      (padded_is z m 1 some one low (λ _. top) m, height_is z m 1 some one low (λ _. top), sym (slices_are z m 1 some one low (λ _. top)), top)
  are_padded (n ∷ []) z fits =
      let some : 2 ≤ n + 2 = omega arith in
      let none : 0 ≤ 1 = omega arith in
      let low : z + (n + 2) ≤ v.grid.nz + 1 + 0 = omega (arith, fits, more n []) in
      let no : 0 ≡ 1 → z + (n + 2) ≡ v.grid.nz + 2 = λ (e : 0 ≡ 1). absurd (omega (arith, e)) in (
        padded_is z (n + 2) 0 some none low no n,
        height_is z (n + 2) 0 some none low no,
        sym (slices_are z (n + 2) 0 some none low no),
        are_padded [] (z + n) (omega (arith, fits, more n [])),
      )
  are_padded (n ∷ m ∷ ns) z fits =
      let some : 2 ≤ n + 2 = omega arith in
      let none : 0 ≤ 1 = omega arith in
      let low : z + (n + 2) ≤ v.grid.nz + 1 + 0 = omega (arith, fits, more n (m ∷ ns)) in
      let no : 0 ≡ 1 → z + (n + 2) ≡ v.grid.nz + 2 = λ (e : 0 ≡ 1). absurd (omega (arith, e)) in (
        padded_is z (n + 2) 0 some none low no n,
        height_is z (n + 2) 0 some none low no,
        sym (slices_are z (n + 2) 0 some none low no),
        are_padded (m ∷ ns) (z + n) (omega (arith, fits, more n (m ∷ ns))),
      )

pub cuts_of_padded : (v : Voxels) (pad level : ℤ) (owned : List ℕ) → IsSolid v.grid → sum owned + 1 ≤ v.grid.nz
    → AreSlabs (grown v.grid) (field (padded_volume (unpadded v) pad).samples level) 0 (padded_slabs_of v pad level 0 owned)
cuts_of_padded v pad level owned solid fits = are_padded v pad level solid owned 0 (omega (arith, fits))
