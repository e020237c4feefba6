-- The samples off the pad's layer.
use Rattle.std.proofs.Common.{◌≡◌, ℕ, ◌+◌, ◌-◌, ◌*◌, ◌<◌, ◌≤◌, List, length, take, drop, get_or, refl, sym, ap, subst, ◌∙◌, arith, All, ℤ, pos}
use Rattle.std.proofs.lemmas.List.{ext_get_or, get_or-take, get_or-drop, length-take-le, length-drop}
use Rattle.std.proofs.lemmas.List.FromFn.{get_or-map-range_with_len, length-map-range_with_len}
use Rattle.std.proofs.Math.Nat.{mul-le-mul_left}
use Rattle.iso_defs.specs.Grid.{Grid, index, coordinate, point_count}
use Rattle.iso_defs.proofs.Points.{x_index, y_index, z_index, index_in}
use Rattle.iso_base.specs.Points.{index_of}
use Rattle.iso_base.specs.Volume.{IsOfKind, IsGrid, Volume, IsVoxels, IsVolume, inner_grid, layer, sample}
use Rattle.iso_base.specs.declared.point.Point.{Point}
use Rattle.unpadded_volume.specs.Unpadded.{IsInside, inner_samples, inner_voxels, stored_index}
use Rattle.unpadded_volume.proofs.Insides.{inside_is_inner}

pub length-inner_samples : (v : Volume) → length (inner_samples v) ≡ point_count (inner_grid v)
unfolding inner_samples
length-inner_samples v = length-map-range_with_len (λ i. sample v.samples (stored_index v i)) 0 (point_count (inner_grid v))

pub get_or-inner_samples : (v : Volume) (i : ℕ) (d : ℤ) → i < point_count (inner_grid v) → get_or (inner_samples v) i d ≡ sample v.samples (stored_index v i)
unfolding inner_samples
get_or-inner_samples v i d lt = get_or-map-range_with_len (λ i. sample v.samples (stored_index v i)) 0 (point_count (inner_grid v)) i i d lt (omega arith)

-- a row of these samples is among them
pub row_fits : (v : Volume) (g : Grid) (row : ℕ) → g ≡ inner_grid v → row < g.ny * g.nz → row * g.nx + g.nx ≤ length (inner_samples v)
row_fits v g row same low = omega (arith, length-inner_samples v, ap point_count same, ends g.nx g.ny g.nz row low)
  where
    ends : (a b c r : ℕ) → r < b * c → r * a + a ≤ a * b * c
    ends a b c r h =
        let l : a * (r + 1) ≤ a * (b * c) = mul-le-mul_left a h' in
        omega arith
      where
        h' : r + 1 ≤ b * c
        h' = omega arith

-- the sample at coordinates that do not count the layer
pub inner_at : (v : Volume) (x y z : ℕ) → x < (inner_grid v).nx → y < (inner_grid v).ny → z < (inner_grid v).nz
    → sample v.samples (index v.grid (x + layer v.pad) (y + layer v.pad) (z + layer v.pad)) ≡ sample (inner_samples v) (index (inner_grid v) x y z)
inner_at v x y z hx hy hz =
    let i : ℕ = index (inner_grid v) x y z in
    let ex : coordinate (inner_grid v) 0 i ≡ x = x_index (inner_grid v) x y z hx hy hz in
    let ey : coordinate (inner_grid v) 1 i ≡ y = y_index (inner_grid v) x y z hx hy hz in
    let ez : coordinate (inner_grid v) 2 i ≡ z = z_index (inner_grid v) x y z hx hy hz in
    let same : stored_index v i ≡ index v.grid (x + layer v.pad) (y + layer v.pad) (z + layer v.pad) = rw (ex, ey, ez) refl in
    ap (sample v.samples) (sym same) ∙ sym (get_or-inner_samples v i (pos 0) (index_in (inner_grid v) x y z hx hy hz))

-- a list of the samples of a row is that part of the list
pub row_taken : (all row : List ℤ) (start width : ℕ) → length row ≡ width → start + width ≤ length all
    → ((i : ℕ) → i < width → get_or row i (pos 0) ≡ get_or all (start + i) (pos 0)) → row ≡ take width (drop start all)
row_taken all row start width count ends each =
    let taken : length (take width (drop start all)) ≡ width = length-take-le width (drop start all) (omega (arith, length-drop start all)) in
    ext_get_or (pos 0) row (take width (drop start all)) (count ∙ sym taken) (λ i lt.
    let low : i < width = subst (λ n. i < n) count lt in
    each i low ∙ sym (get_or-take width (drop start all) i (pos 0) low ∙ get_or-drop start all i (pos 0)))

-- each of these samples is of the kind
pub each_inner : (v : Volume) → IsVolume v → All (IsOfKind v.kind) (inner_samples v)
each_inner v is i d lt =
    let fits : IsGrid (inner_grid v) = is.inner in
    let low : i < point_count (inner_grid v) = subst (λ n. i < n) (length-inner_samples v) lt in
    let lx = fits.x.least in
    let ly = fits.y.least in
    let lz = fits.z.least in
    let x : coordinate (inner_grid v) 0 i < v.grid.nx - 2 * layer v.pad = omega arith in
    let y : coordinate (inner_grid v) 1 i < v.grid.ny - 2 * layer v.pad = omega arith in
    let z : coordinate (inner_grid v) 2 i < v.grid.nz - 2 * layer v.pad = omega arith in
    let p : Point = record {
      x = coordinate (inner_grid v) 0 i + layer v.pad;
      y = coordinate (inner_grid v) 1 i + layer v.pad;
      z = coordinate (inner_grid v) 2 i + layer v.pad;
    } in
    let inside : IsInside v p = record { low_x = omega arith; high_x = omega arith; low_y = omega arith; high_y = omega arith; low_z = omega arith; high_z = omega arith } in
    let within : index_of v.grid p < point_count v.grid = index_in v.grid p.x p.y p.z (omega arith) (omega arith) (omega arith) in
    subst (IsOfKind v.kind) (sym (get_or-inner_samples v i d low)) (is.each (index_of v.grid p) within (inside_is_inner v p inside))

-- so they are a volume
pub inner_is : (v : Volume) → IsVolume v → IsVoxels (inner_voxels v)
inner_is v is = record { grid = is.inner; count = length-inner_samples v; each = each_inner v is }
