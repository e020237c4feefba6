-- Points inside hold no pad.
use Rattle.std.proofs.Common.{◌≡◌, ◌+◌, ◌-◌, ◌<◌, ◌≤◌, true, false, refl, sym, ap, subst, arith, ne_eqb, eqb, ℤ}
use Rattle.std.specs.Prelude.{Option, Some, None, IfSome, MatchOption, ◌&&◌, nat_le, not}
use Rattle.std.proofs.lemmas.Bool.{and_parts, leb-true}
use Rattle.iso_defs.specs.Grid.{Grid, coordinate, is_outer}
use Rattle.iso_defs.proofs.Points.{x_index, y_index, z_index}
use Rattle.iso_base.specs.Points.{index_of}
use Rattle.iso_base.specs.declared.point.Point.{Point}
use Rattle.iso_base.specs.Volume.{Volume, IsInner, layer}
use Rattle.voxel_list.specs.Areas.{Area, is_within}
use Rattle.unpadded_volume.specs.Unpadded.{IsInside}

inner : (g : Grid) (p : Point) → 1 ≤ p.x → p.x + 1 < g.nx → 1 ≤ p.y → p.y + 1 < g.ny → 1 ≤ p.z → p.z + 1 < g.nz → is_outer g (index_of g p) ≡ false
inner g p lx hx ly hy lz hz =
    let x : coordinate g 0 (index_of g p) ≡ p.x = x_index g p.x p.y p.z (omega arith) (omega arith) (omega arith) in
    let y : coordinate g 1 (index_of g p) ≡ p.y = y_index g p.x p.y p.z (omega arith) (omega arith) (omega arith) in
    let z : coordinate g 2 (index_of g p) ≡ p.z = z_index g p.x p.y p.z (omega arith) (omega arith) (omega arith) in
    let x0 : eqb p.x 0 ≡ false = ne_eqb _ _ (omega arith) in
    let x1 : eqb p.x (g.nx - 1) ≡ false = ne_eqb _ _ (omega arith) in
    let y0 : eqb p.y 0 ≡ false = ne_eqb _ _ (omega arith) in
    let y1 : eqb p.y (g.ny - 1) ≡ false = ne_eqb _ _ (omega arith) in
    let z0 : eqb p.z 0 ≡ false = ne_eqb _ _ (omega arith) in
    let z1 : eqb p.z (g.nz - 1) ≡ false = ne_eqb _ _ (omega arith) in
    rw (x, y, z, x0, x1, y0, y1, z0, z1) refl

-- a point inside holds no pad
pub free : (v : Volume) (p : Point) (value : ℤ) → IsInside v p → IfSome v.pad (λ pad. is_outer v.grid (index_of v.grid p) ≡ true → value ≡ pad)
free v p value is = by_pad v.pad refl
  where
    by_pad : (pad : Option ℤ) → v.pad ≡ pad → IfSome pad (λ pad. is_outer v.grid (index_of v.grid p) ≡ true → value ≡ pad)
    by_pad None e = tt
    by_pad (Some pad) e = λ outer.
        let l : layer v.pad ≡ 1 = ap layer e in
        let f : is_outer v.grid (index_of v.grid p) ≡ false
        = inner v.grid p (omega (arith, is.low_x)) (omega (arith, is.high_x)) (omega (arith, is.low_y)) (omega (arith, is.high_y)) (omega (arith, is.low_z)) (omega (arith, is.high_z)) in
        absurd cc

-- the sample of a point inside is one of the kind
pub inside_is_inner : (v : Volume) (p : Point) → IsInside v p → IsInner v (index_of v.grid p)
inside_is_inner v p is = by_pad v.pad refl
  where
    by_pad : (pad : Option ℤ) → v.pad ≡ pad → IsInner v (index_of v.grid p)
    by_pad None e = subst (λ (o : Option ℤ). MatchOption o (Unit {0}) (λ _. not (is_outer v.grid (index_of v.grid p)) ≡ true)) (sym e) tt
    by_pad (Some pad) e =
        let l : layer v.pad ≡ 1 = ap layer e in
        let f : is_outer v.grid (index_of v.grid p) ≡ false
        = inner v.grid p (omega (arith, is.low_x)) (omega (arith, is.high_x)) (omega (arith, is.low_y)) (omega (arith, is.high_y)) (omega (arith, is.low_z)) (omega (arith, is.high_z)) in
        subst (λ (o : Option ℤ). MatchOption o (Unit {0}) (λ _. not (is_outer v.grid (index_of v.grid p)) ≡ true)) (sym e) (ap not f)

-- a point of a box between points inside is inside
pub inside_area : (v : Volume) (a : Area) (p : Point) → IsInside v a.low → IsInside v a.high → is_within a p ≡ true → IsInside v p
inside_area v a p low high h =
    let xy = and_parts (nat_le a.low.x p.x && nat_le p.x a.high.x) _ h in
    let x = and_parts (nat_le a.low.x p.x) (nat_le p.x a.high.x) xy.0 in
    let yz = and_parts (nat_le a.low.y p.y && nat_le p.y a.high.y) (nat_le a.low.z p.z && nat_le p.z a.high.z) xy.1 in
    let y = and_parts (nat_le a.low.y p.y) (nat_le p.y a.high.y) yz.0 in
    let z = and_parts (nat_le a.low.z p.z) (nat_le p.z a.high.z) yz.1 in
    record {
      low_x = omega (arith, low.low_x, leb-true _ _ x.0);
      high_x = omega (arith, high.high_x, leb-true _ _ x.1);
      low_y = omega (arith, low.low_y, leb-true _ _ y.0);
      high_y = omega (arith, high.high_y, leb-true _ _ y.1);
      low_z = omega (arith, low.low_z, leb-true _ _ z.0);
      high_z = omega (arith, high.high_z, leb-true _ _ z.1);
    }

-- what is inside depends on the grid and the pad alone
pub inside_same : (v w : Volume) (p : Point) → w.grid ≡ v.grid → w.pad ≡ v.pad → IsInside v p → IsInside w p
inside_same v w p grid pad is = record {
  low_x = rw pad is.low_x;
  high_x = rw (pad, grid) is.high_x;
  low_y = rw pad is.low_y;
  high_y = rw (pad, grid) is.high_y;
  low_z = rw pad is.low_z;
  high_z = rw (pad, grid) is.high_z;
}
