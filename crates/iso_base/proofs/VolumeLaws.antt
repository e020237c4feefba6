-- What volumes keep: samples in range, grids of two points and more, and a pad below the level outside of the surface.
use Rattle.std.proofs.Common.{◌≡◌, ℕ, ◌-◌, ◌*◌, ◌<◌, ◌≤◌, Bool, true, false, refl, sym, ◌∙◌, ap, subst, arith, ℤ, pos}
use Rattle.std.specs.Prelude.{Option, IfSome, Some, None, MatchOption, not}
use Rattle.std.proofs.lemmas.Int.{ints}
use Rattle.std.proofs.lemmas.List.Elements.{All-get_or}
use Rattle.iso_defs.specs.Grid.{Grid, point_count, is_outer, IsBelowOutside, IsSolid, IsThick}
use Rattle.iso_base.specs.Volume.{IsAxis, IsGrid, field, is_above_level, is_above_pad, IsOfKind, IsSample, Voxels, IsVoxels, Volume, IsVolume, HoldsPad, IsInner, inner_grid, unpadded, sample}
use Rattle.iso_base.specs.declared.kind.SampleKind.{SampleKind}
use Rattle.iso_base.specs.declared.kind.SampleKind.TheVariants.{I8, U8, I16, U16, I32, U32}

-- a level above a pad has the pad below it
pub pad_is_not_above : (pad level : ℤ) → is_above_pad level pad ≡ true → is_above_level pad level ≡ false
pad_is_not_above pad level h = turned (is_above_level pad level) h
  where
    turned : (b : Bool) → not b ≡ true → b ≡ false
    turned true e = cc
    turned false e = refl

-- where the pad is below the level, so is the outer layer
pub pad_is_below : (v : Volume) (level pad : ℤ) → IsVolume v → v.pad ≡ Some pad → is_above_pad level pad ≡ true → IsBelowOutside v.grid (field v.samples level)
pad_is_below v level pad is e h p low out =
    let holds : IfSome (Some pad) (HoldsPad v) = subst (λ o. IfSome o (HoldsPad v)) e is.holds in
    let k : sample v.samples p ≡ pad = holds p low out in
    ap (λ z. is_above_level z level) k ∙ pad_is_not_above pad level h

-- a grid within the limits has at least two points along each axis
pub grid_is_thick : {g : Grid} → IsGrid g → IsThick g
grid_is_thick is = record { x = is.x.least; y = is.y.least; z = is.z.least }

-- and so at least one
pub grid_is_solid : {g : Grid} → IsGrid g → IsSolid g
grid_is_solid is = record {
  x = (let h = is.x.least in omega arith);
  y = (let h = is.y.least in omega arith);
  z = (let h = is.z.least in omega arith);
}

-- a sample of any kind is a sample
pub kind_is_sample : (kind : SampleKind) (z : ℤ) → IsOfKind kind z → IsSample z
kind_is_sample I8 z is = record { low = (let h = is.low in omega (arith, ints)); high = (let h = is.high in omega (arith, ints)) }
kind_is_sample U8 z is = record { low = (let h = is.low in omega (arith, ints)); high = (let h = is.high in omega (arith, ints)) }
kind_is_sample I16 z is = record { low = (let h = is.low in omega (arith, ints)); high = (let h = is.high in omega (arith, ints)) }
kind_is_sample U16 z is = record { low = (let h = is.low in omega (arith, ints)); high = (let h = is.high in omega (arith, ints)) }
kind_is_sample I32 z is = record { low = (let h = is.low in omega (arith, ints)); high = (let h = is.high in omega (arith, ints)) }
kind_is_sample U32 z is = record { low = (let h = is.low in omega (arith, ints)); high = (let h = is.high in omega (arith, ints)) }

-- without a pad the inner grid is the grid itself
pub unpadded_inner : (v : Voxels) → IsGrid v.grid → IsGrid (inner_grid (unpadded v))
unpadded_inner v is = record {
  x = axis v.grid.nx is.x;
  y = axis v.grid.ny is.y;
  z = axis v.grid.nz is.z;
  count = subst (λ n. n ≤ 160000000) (sizes v.grid.nx v.grid.ny v.grid.nz) is.count;
}
  where
    axis : (n : ℕ) → IsAxis n → IsAxis (n - 2 * 0)
    axis n is = record { least = (let h = is.least in omega arith); most = (let h = is.most in omega arith) }

    sizes : (a b c : ℕ) → a * b * c ≡ (a - 2 * 0) * (b - 2 * 0) * (c - 2 * 0)
    sizes a b c =
        let x : a ≡ a - 2 * 0 = omega arith in
        let y : b ≡ b - 2 * 0 = omega arith in
        let z : c ≡ c - 2 * 0 = omega arith in
        λ i. x i * y i * z i

-- what a file gives is a volume without a pad
pub unpadded_is : (v : Voxels) → IsVoxels v → IsVolume (unpadded v)
unpadded_is v is = record {
  grid = is.grid;
  inner = unpadded_inner v is.grid;
  count = is.count;
  pad = tt;
  holds = tt;
  each = λ p low inner. All-get_or (IsOfKind v.kind) v.samples p (pos 0) (subst (λ n. p < n) (sym is.count) low) is.each;
}

-- each sample of a volume, a pad's too, is in the range of samples
pub sample_in_range : (v : Volume) (p : ℕ) → IsVolume v → p < point_count v.grid → IsSample (sample v.samples p)
sample_in_range v p is low = by_pad v.pad refl
  where
    of_kind : IsInner v p → IsSample (sample v.samples p)
    of_kind inner = kind_is_sample v.kind (sample v.samples p) (is.each p low inner)

    by_place : (pad : ℤ) → v.pad ≡ Some pad → (outer : Bool) → is_outer v.grid p ≡ outer → IsSample (sample v.samples p)
    by_place pad e true h =
        let range : IfSome (Some pad) IsSample = subst (λ o. IfSome o IsSample) e is.pad in
        let holds : IfSome (Some pad) (HoldsPad v) = subst (λ o. IfSome o (HoldsPad v)) e is.holds in
        subst IsSample (sym (holds p low h)) range
    by_place pad e false h = of_kind (subst (λ o. MatchOption o (Unit {0}) (λ _. not (is_outer v.grid p) ≡ true)) (sym e) (ap not h))

    by_pad : (pad : Option ℤ) → v.pad ≡ pad → IsSample (sample v.samples p)
    by_pad None e = of_kind (subst (λ o. MatchOption o (Unit {0}) (λ _. not (is_outer v.grid p) ≡ true)) (sym e) tt)
    by_pad (Some pad) e = by_place pad e (is_outer v.grid p) refl
