-- Slices of a volume, in their padding or without, are a slab of it.
use Rattle.std.proofs.Common.{◌≡◌, ℕ, ◌+◌, ◌-◌, ◌*◌, ◌/◌, ◌<◌, ◌≤◌, Bool, true, false, ◌||◌, eqb, if◌then◌else◌, length, drop, refl, sym, ap, ap₂, ◌∙◌, subst, arith, ℤ, pos, inl, inr}
use Rattle.std.proofs.lemmas.Bool.{cases_eq, eqb-false, eq-eqb, ne_eqb, or_parts}
use Rattle.std.proofs.lemmas.Nat.{div_below, le-div, mod_below}
use Rattle.std.proofs.lemmas.List.{get_or-drop, get_or-take}
use Rattle.std.proofs.lemmas.List.FromFn.{get_or-map-range_with_len}
use Rattle.iso_defs.specs.Grid.{Grid, coordinate, index, point_count, IsSolid, is_outer}
use Rattle.iso_defs.proofs.Points.{index_in}
use Rattle.iso_base.specs.Volume.{grown, inner_point, padded_sample, padded_volume, field, shifted, Voxels, sample, unpadded}
use Rattle.slab_laws.specs.Slabs.{slice_size, IsSlab}
use Rattle.slab_laws.specs.SlabVolumes.{HasOwnEnds, LiesIn, Stretch, padded_slab_of, slab_of, sliced}
use Rattle.slab_laws.proofs.Slices.{height, height_low, higher, same_x, same_y}

-- a sample of the slices is the one that stands so many slices further up in the volume
sliced_sample : (v : Voxels) (from n i : ℕ) → i < slice_size v.grid * n → sample (sliced v from n).samples i ≡ sample v.samples (slice_size v.grid * from + i)
sliced_sample v from n i low =
    get_or-take (slice_size v.grid * n) (drop (slice_size v.grid * from) v.samples) i (pos 0) low
    ∙ get_or-drop (slice_size v.grid * from) v.samples i (pos 0)

pub slab_is : (v : Voxels) (level : ℤ) (t : Stretch) (owned : ℕ) → length v.samples ≡ point_count v.grid → LiesIn v t
    → IsSlab v.grid (field v.samples level) (slab_of v level t owned)
slab_is v level t owned all within = record {
  grid = refl;
  fits = within;
  values = λ p low. ap (λ (k : ℤ). shifted k level)
      (sliced_sample v t.from t.count p low ∙ ap (sample v.samples) (turn (slice_size v.grid * t.from) p));
}
  where
    turn : (a p : ℕ) → a + p ≡ p + a
    turn a p = omega arith

-- a choice is the same by the same test, if what is chosen where it fails is
chosen : (a b pad : ℤ) (t u : Bool) → t ≡ u → (t ≡ false → a ≡ b) → (if t then pad else a) ≡ (if u then pad else b)
chosen a b pad true true e f = refl
chosen a b pad false false e f = f refl
chosen a b pad true false e f = absurd (clash e)
  where
    clash : true ≡ false → ⊥
    clash e = cc
chosen a b pad false true e f = absurd (clash e)
  where
    clash : false ≡ true → ⊥
    clash e = cc

same_test : (a b : ℕ) (c d : ℕ) → (a ≡ b → c ≡ d) → (c ≡ d → a ≡ b) → eqb a b ≡ eqb c d
same_test a b c d f g = elim (cases_eq a b) [
  | inl e ↦ eq-eqb a b e ∙ sym (eq-eqb c d (f e))
  | inr n ↦ ne_eqb a b n ∙ sym (ne_eqb c d (λ e. n (g e)))
]

module _ (v : Voxels) (pad : ℤ) (t : Stretch) (solid : IsSolid v.grid) (within : LiesIn v t) (ends : HasOwnEnds v t) where
  abbrev g : Grid
  g = v.grid

  abbrev own : Voxels
  own = sliced v t.from t.count

  abbrev area : ℕ
  area = slice_size (grown g)

  large : IsSolid (grown g)
  large = record { x = omega arith; y = omega arith; z = omega arith }

  module _ (q : ℕ) (low : q < (t.count + 2) * area) (from_first : 1 - t.below ≤ q / area) (to_last : q / area < t.count + 1 + t.above) where
    fits : t.from + (t.count + 2) ≤ (grown g).nz
    fits = omega (arith, within)

    abbrev x : ℕ
    x = coordinate (grown g) 0 q

    abbrev y : ℕ
    y = coordinate (grown g) 1 q

    abbrev z : ℕ
    z = q / area

    abbrev there : ℕ
    there = q + area * t.from

    z_own : coordinate (grown own.grid) 2 q ≡ z
    z_own = height (grown g) large (t.count + 2) q low

    x_there : coordinate (grown g) 0 there ≡ x
    x_there = same_x (grown g) large (t.count + 2) t.from fits q low

    y_there : coordinate (grown g) 1 there ≡ y
    y_there = same_y (grown g) large (t.count + 2) t.from fits q low

    z_there : coordinate (grown g) 2 there ≡ z + t.from
    z_there = higher (grown g) large (t.count + 2) t.from fits q low

    -- whether a coordinate is at an end of so many points
    abbrev at_end : ℕ → ℕ → Bool
    at_end n c = eqb c 0 || eqb c (n + 2 - 1)

    abbrev outer : ℕ → ℕ → ℕ → ℕ → Bool
    outer n a b c = at_end g.nx a || (at_end g.ny b || (at_end n c || false))

    outer_own : is_outer (grown own.grid) q ≡ outer t.count x y z
    outer_own = ap (outer t.count x y) z_own

    outer_there : is_outer (grown g) there ≡ outer g.nz x y (z + t.from)
    outer_there =
        ap (λ (k : ℕ). outer g.nz k (coordinate (grown g) 1 there) (coordinate (grown g) 2 there)) x_there
        ∙ (ap (λ (k : ℕ). outer g.nz x k (coordinate (grown g) 2 there)) y_there ∙ ap (outer g.nz x y) z_there)

    -- a layer is at an end of the slab where it is at one of the volume
    same_first : eqb z 0 ≡ eqb (z + t.from) 0
    same_first = same_test z 0 (z + t.from) 0
        (λ e. (let one : t.below ≡ 1 = omega (arith, e, from_first, ends.below) in omega (arith, e, ends.first one)))
        (λ e. omega (arith, e))

    same_last : eqb z (t.count + 2 - 1) ≡ eqb (z + t.from) (g.nz + 2 - 1)
    same_last = same_test z (t.count + 2 - 1) (z + t.from) (g.nz + 2 - 1)
        (λ e. (let one : t.above ≡ 1 = omega (arith, e, to_last, ends.above) in omega (arith, e, ends.last one)))
        (λ e. omega (arith, e, within, to_last, ends.above))

    same_outer : outer t.count x y z ≡ outer g.nz x y (z + t.from)
    same_outer = ap₂ (λ (a b : Bool). at_end g.nx x || (at_end g.ny y || ((a || b) || false))) same_first same_last

    -- off the outer layer the same sample stands
    inside : outer t.count x y z ≡ false → sample own.samples (index own.grid (x - 1) (y - 1) (z - 1))
        ≡ sample v.samples (index g (x - 1) (y - 1) (z + t.from - 1))
    inside f =
        let p = or_parts (at_end g.nx x) (at_end g.ny y || (at_end t.count z || false)) f in
        let r = or_parts (at_end g.ny y) (at_end t.count z || false) p.1 in
        let s = or_parts (at_end t.count z) false r.1 in
        let a = or_parts (eqb x 0) (eqb x (g.nx + 2 - 1)) p.0 in
        let b = or_parts (eqb y 0) (eqb y (g.ny + 2 - 1)) r.0 in
        let c = or_parts (eqb z 0) (eqb z (t.count + 2 - 1)) s.0 in
        let a0 : x ≡ 0 → ⊥ = eqb-false x 0 a.0 in
        let a1 : x ≡ g.nx + 2 - 1 → ⊥ = eqb-false x (g.nx + 2 - 1) a.1 in
        let b0 : y ≡ 0 → ⊥ = eqb-false y 0 b.0 in
        let b1 : y ≡ g.ny + 2 - 1 → ⊥ = eqb-false y (g.ny + 2 - 1) b.1 in
        let c0 : z ≡ 0 → ⊥ = eqb-false z 0 c.0 in
        let c1 : z ≡ t.count + 2 - 1 → ⊥ = eqb-false z (t.count + 2 - 1) c.1 in
        let low_x : x < g.nx + 2 = mod_below (q / 1) (g.nx + 2) (omega arith) in
        let low_y : y < g.ny + 2 = mod_below (q / (g.nx + 2)) (g.ny + 2) (omega arith) in
        let low_z : z < t.count + 2 = height_low (grown g) large (t.count + 2) q low in
        let here : index own.grid (x - 1) (y - 1) (z - 1) < slice_size g * t.count = index_in own.grid (x - 1) (y - 1) (z - 1)
        (omega (arith, low_x, a0, a1)) (omega (arith, low_y, b0, b1)) (omega (arith, low_z, c0, c1)) in
        let up : z - 1 + t.from ≡ z + t.from - 1 = omega (arith, c0) in
        sliced_sample v t.from t.count (index own.grid (x - 1) (y - 1) (z - 1)) here
        ∙ (ap (sample v.samples) (moved (x - 1) (y - 1) (z - 1) g.nx g.ny t.from)
        ∙ ap (λ (k : ℕ). sample v.samples (index g (x - 1) (y - 1) k)) up)
      where
        moved : (x y z a b f : ℕ) → a * b * f + (x + a * (y + b * z)) ≡ x + a * (y + b * (z + f))
        moved x y z a b f = omega arith

    own_point : inner_point own.grid q ≡ index own.grid (x - 1) (y - 1) (z - 1)
    own_point = ap (λ (k : ℕ). index own.grid (x - 1) (y - 1) (k - 1)) z_own

    point_there : inner_point g there ≡ index g (x - 1) (y - 1) (z + t.from - 1)
    point_there =
        ap (λ (k : ℕ). index g (k - 1) (coordinate (grown g) 1 there - 1) (coordinate (grown g) 2 there - 1)) x_there
        ∙ (ap (λ (k : ℕ). index g (x - 1) (k - 1) (coordinate (grown g) 2 there - 1)) y_there
        ∙ ap (λ (k : ℕ). index g (x - 1) (y - 1) (k - 1)) z_there)

    pub same_padded : padded_sample own.grid own.samples pad q ≡ padded_sample g v.samples pad there
    unfolding padded_sample
    same_padded = chosen (sample own.samples (inner_point own.grid q)) (sample v.samples (inner_point g there)) pad (is_outer (grown own.grid) q) (is_outer (grown g) there) (outer_own ∙ (same_outer ∙ sym outer_there))
        (λ e. ap (sample own.samples) own_point ∙ (inside (sym outer_own ∙ e) ∙ sym (ap (sample v.samples) point_there)))

-- the sample at a point of a padded volume
padded_at : (v : Voxels) (pad : ℤ) (p : ℕ) → p < point_count (grown v.grid)
    → sample (padded_volume (unpadded v) pad).samples p ≡ padded_sample v.grid v.samples pad p
padded_at v pad p low =
    get_or-map-range_with_len (padded_sample v.grid v.samples pad) 0 (point_count (grown v.grid)) p p (pos 0) low (omega arith)

-- a point of the slab, with the layer that it may not have below
module _ (a n below above p : ℕ) (some : 0 < a) (most : below ≤ 1) (last : above ≤ 1) (low : p < a * (n + (below + above))) where
  abbrev up : ℕ
  up = p + a * (1 - below)

  up_low : up < a * (n + 1 + above)
  up_low =
      let e : n + 1 + above ≡ n + (below + above) + (1 - below) = omega (arith, most) in
      subst (λ (k : ℕ). up < a * k) (sym e) (sum (n + (below + above)) (1 - below) low)
    where
      sum : (m l : ℕ) → p < a * m → p + a * l < a * (m + l)
      sum m l h = let d : a * (m + l) ≡ a * m + a * l = omega arith in omega (arith, h, d)

  pub up_first : 1 - below ≤ up / a
  up_first = le-div (1 - below) up a some (behind (1 - below))
    where
      behind : (l : ℕ) → l * a ≤ p + a * l
      behind l = let e : l * a ≡ a * l = omega arith in omega (arith, e)

  pub up_last : up / a < n + 1 + above
  up_last =
      let e : (n + 1 + above) * a ≡ a * (n + 1 + above) = turn (n + 1 + above) in
      div_below up a (n + 1 + above) some (subst (λ (k : ℕ). up < k) (sym e) up_low)
    where
      turn : (m : ℕ) → m * a ≡ a * m
      turn m = omega arith

  pub up_inside : up < (n + 2) * a
  up_inside = within (n + 1 + above) up_low (omega (arith, last))
    where
      within : (m : ℕ) → up < a * m → m ≤ n + 2 → up < (n + 2) * a
      within m h k =
          let e : n + 2 ≡ m + (n + 2 - m) = omega (arith, k) in
          let d : (m + (n + 2 - m)) * a ≡ a * m + a * (n + 2 - m) = omega arith in
          subst (λ (j : ℕ). up < j * a) (sym e) (omega (arith, h, d))

pub padded_slab_is : (v : Voxels) (pad level : ℤ) (t : Stretch) (owned : ℕ) → IsSolid v.grid → LiesIn v t → HasOwnEnds v t
    → IsSlab (grown v.grid) (field (padded_volume (unpadded v) pad).samples level) (padded_slab_of v pad level t owned)
padded_slab_is v pad level t owned solid within ends = record {
  grid = refl;
  fits = omega (arith, within, ends.below, ends.above, ends.first, ends.last);
  values = λ p low. (
      let area : ℕ = slice_size (grown v.grid) in
      let some : 0 < area = product v.grid.nx v.grid.ny in
      let q : ℕ = p + area * (1 - t.below) in
      let inside : q < (t.count + 2) * area = up_inside area t.count t.below t.above p some ends.below ends.above low in
      let there : q + area * t.from < point_count (grown v.grid) = higher_in area t.count t.from v.grid.nz q inside within in
      ap (λ (k : ℤ). shifted k level)
      (padded_at (sliced v t.from t.count) pad q (omega (arith, inside))
      ∙ (same_padded v pad t solid within ends q inside (up_first area t.count t.below t.above p some ends.below ends.above low)
      (up_last area t.count t.below t.above p some ends.below ends.above low)
      ∙ (sym (padded_at v pad (q + area * t.from) there)
      ∙ ap (sample (padded_volume (unpadded v) pad).samples) (together area p (1 - t.below) t.from)))));
}
  where
    product : (a b : ℕ) → 0 < (a + 2) * (b + 2)
    product a b = let e : (a + 2) * (b + 2) ≡ a * b + 2 * a + 2 * b + 4 = omega arith in omega (arith, e)

    together : (a p l f : ℕ) → p + a * l + a * f ≡ p + a * (f + l)
    together a p l f = omega arith

    higher_in : (a n f m q : ℕ) → q < (n + 2) * a → f + n ≤ m → q + a * f < a * (m + 2)
    higher_in a n f m q l h =
        let e : m + 2 ≡ n + 2 + f + (m - n - f) = omega (arith, h) in
        let d : a * (n + 2 + f + (m - n - f)) ≡ (n + 2) * a + a * f + a * (m - n - f) = omega arith in
        subst (λ (j : ℕ). q + a * f < a * j) (sym e) (omega (arith, l, d))
