-- The part of slices of a volume, in their padding or without, is a slab of the whole.
use Rattle.std.proofs.Common.{◌≡◌, ℕ, zero, suc, ◌+◌, ◌-◌, ◌*◌, ◌<◌, ◌≤◌, ◌==◌, if◌then◌else◌, inl, inr, ℤ, pos, Bool, true, false, Some, length, refl, sym, ◌∙◌, ap, subst, ne_eqb, arith}
use Rattle.std.proofs.lemmas.Bool.{cases_eq}
use Rattle.std.proofs.lemmas.List.FromFn.{get_or-map-range_with_len}
use Rattle.iso_defs.specs.Grid.{IsSolid, point_count}
use Rattle.iso_base.specs.Volume.{Voxels, field, grown, padded_sample, padded_volume, sample, shifted, unpadded}
use Rattle.flat_mesh.specs.Lattice.{Leveled}
use Rattle.padded_samples.specs.PaddedSlabs.{SlabInPad, layers, ringed, slab_list}
use Rattle.padded_samples.proofs.SlabRows.{at_most_one, lifted, listed}
use Rattle.slab_laws.specs.Slabs.{IsSlab, slice_size, slices}
use Rattle.slab_laws.specs.SlabVolumes.{Stretch, padded_slab_of, sliced}
use Rattle.slab_laws.proofs.SlabVolumes.{padded_slab_is, slab_is, up_inside}
use Rattle.join_laws.proofs.PartTexts.{slab_of_part}
use Rattle.join_laws.proofs.SlabLines.{height_of}

module _ (v : Voxels) (level : ℤ) where
  -- ---- without padding
  abbrev pub bare_slices : ℕ → ℕ → Leveled
  bare_slices z n = record { grid = slices v.grid n; samples = (sliced v z n).samples; level = level }

  pub bare_is : (z n owned : ℕ) → length v.samples ≡ point_count v.grid → z + n ≤ v.grid.nz
      → IsSlab v.grid (field v.samples level) (slab_of_part (bare_slices z n) owned z)
  bare_is z n owned all fits = slab_is v level (record { from = z; count = n; below = 0; above = 0 }) owned all fits

  -- ---- in their padding
  abbrev pub in_ring : ℤ → ℕ → ℕ → Bool → SlabInPad
  in_ring pad z n is_last = record {
    grid = slices v.grid n;
    samples = (sliced v z n).samples;
    pad = pad;
    ends = record { below = z == 0; above = is_last };
  }

  abbrev pub padded_slices : ℤ → ℕ → ℕ → Bool → Leveled
  padded_slices pad z n is_last = record {
    grid = ringed (record { below = z == 0; above = is_last }) (slices v.grid n);
    samples = slab_list (in_ring pad z n is_last);
    level = level;
  }

  module _ (pad : ℤ) (z n : ℕ) (is_last : Bool) (solid : IsSolid v.grid) (fits : z + n ≤ v.grid.nz)
      (last : is_last ≡ true → z + n ≡ v.grid.nz) where
    abbrev below : ℕ
    below = layers (z == 0)

    abbrev above : ℕ
    above = layers is_last

    abbrev area : ℕ
    area = slice_size (grown v.grid)

    abbrev stretch : Stretch
    stretch = record { from = z; count = n; below = below; above = above }

    first_if : below ≡ 1 → z ≡ 0
    first_if one = elim (cases_eq z 0) [
      | inl e ↦ e
      | inr ne ↦ (let none : below ≡ 0 = ap layers (ne_eqb z 0 ne) in absurd (omega (arith, none, one)))
    ]

    last_if : (b : Bool) → (b ≡ true → z + n ≡ v.grid.nz) → layers b ≡ 1 → z + n ≡ v.grid.nz
    last_if true l one = l refl
    last_if false l one = absurd (clash one)
      where
        clash : ◌≡◌ {A = ℕ} 0 1 → ⊥
        clash e = omega (arith, e)

    abbrev whole : ℕ → ℤ
    whole = field (padded_volume (unpadded v) pad).samples level

    stretch_is : (owned : ℕ) → IsSlab (grown v.grid) whole (padded_slab_of v pad level stretch owned)
    stretch_is owned = padded_slab_is v pad level stretch owned solid fits
        (record { below = at_most_one (z == 0); above = at_most_one is_last; first = first_if; last = last_if is_last last })

    -- the sample at a point of the slices in their ring is the one with a layer at both ends
    abbrev own : Voxels
    own = sliced v z n

    some : 0 < area
    some = product v.grid.nx v.grid.ny
      where
        product : (a b : ℕ) → 0 < (a + 2) * (b + 2)
        product a b = let e : (a + 2) * (b + 2) ≡ a * b + 2 * a + 2 * b + 4 = omega arith in omega (arith, e)

    lift_is : 1 - below + below ≡ 1
    lift_is = omega (arith, at_most_one (z == 0))

    same_sample : (p : ℕ) → p < point_count (padded_slices pad z n is_last).grid
        → sample (padded_slices pad z n is_last).samples p
        ≡ sample (padded_volume (unpadded own) pad).samples (p + area * (1 - below))
    same_sample p low =
        let q : ℕ = p + area * (1 - below) in
        let inside : q < (n + 2) * area = up_inside area n below above p some (at_most_one (z == 0)) (at_most_one is_last) low in
        listed (in_ring pad z n is_last) p low
        ∙ (ap (padded_sample own.grid own.samples pad) (lifted (in_ring pad z n is_last) (1 - below) lift_is p)
        ∙ sym (get_or-map-range_with_len (padded_sample own.grid own.samples pad) 0 (point_count (grown own.grid)) q q (pos 0) (omega (arith, inside)) (omega arith)))

    lifted_is : (owned : ℕ) → IsSlab (grown v.grid) whole (slab_of_part (padded_slices pad z n is_last) owned (z + (1 - below)))
    lifted_is owned = record {
      grid = refl;
      fits = (stretch_is owned).fits;
      values = λ p low. ap (λ (k : ℤ). shifted k level) (same_sample p low) ∙ (stretch_is owned).values p low;
    }

    pub height_is : z + (1 - below) ≡ height_of (Some pad) z
    height_is = heights z
      where
        heights : (z : ℕ) → z + (1 - layers (z == 0)) ≡ (if z == 0 then 0 else z + 1)
        heights zero = refl
        heights (suc k) = ap (λ (b : Bool). suc k + (1 - layers b)) no ∙ sym (ap (λ (b : Bool). if b then 0 else suc k + 1) no)
          where
            no : (suc k == 0) ≡ false
            no = ne_eqb (suc k) 0 (λ e. omega (arith, e))

    pub padded_is : (owned : ℕ) → IsSlab (grown v.grid) whole (slab_of_part (padded_slices pad z n is_last) owned (height_of (Some pad) z))
    padded_is owned = subst (λ h. IsSlab (grown v.grid) whole (slab_of_part (padded_slices pad z n is_last) owned h)) height_is (lifted_is owned)
