-- Bricks that lie in a box of one value.
use Rattle.std.proofs.Common.{◌≡◌, ℕ, ◌<◌, subst, sym, arith, ℤ, pos}
use Rattle.iso_defs.specs.Bricks.{brick_count, brick_point}
use Rattle.iso_base.specs.Volume.{IsSample, Volume, IsVolume, sample}
use Rattle.iso_base.proofs.VolumeLaws.{sample_in_range}
use Rattle.voxel_list.specs.Areas.{Area}
use Rattle.brick_store.specs.Boxes.{AreOne, IsOfBox}
use Rattle.brick_store.specs.Holding.{points_along}
use Rattle.brick_store.proofs.BoxWriting.{in_box}
use Rattle.brick_store.proofs.BrickNumbers.{is_in}
use Rattle.brick_store.proofs.Standing.{brick_point_in}
use Rattle.span_tree.specs.Spans.{LiesIn, brick_samples, one_span, span_of}
use Rattle.span_tree.proofs.Active.{IsWide, each_listed, inside, listed, wide}
use Rattle.span_tree.proofs.OneValue.{span_of_same}

module _ (v : Volume) (a : Area) (b : ℕ) (value : ℤ) (is : IsVolume v) (low : b < brick_count v.grid) (lies : LiesIn v.grid a b) (one : AreOne v.grid a value v.samples) where
  -- each sample of the brick is that value
  same : (x y z : ℕ) → x < points_along v.grid b 0 → y < points_along v.grid b 1 → z < points_along v.grid b 2
      → sample v.samples (brick_point v.grid b x y z) ≡ value
  same x y z hx hy hz =
      let there = inside v (pos 0) b is low x y z hx hy hz in
      let of : IsOfBox v.grid a b x y z = record {
        x_from = omega (arith, lies.x_from);
        x_to = omega (arith, lies.x_to, hx);
        y_from = omega (arith, lies.y_from);
        y_to = omega (arith, lies.y_to, hy);
        z_from = omega (arith, lies.z_from);
        z_to = omega (arith, lies.z_to, hz);
      } in
      one (brick_point v.grid b x y z) (brick_point_in v.grid b x y z there) (in_box v.grid a b x y z (is_in v.grid b x y z there) of)

  some : (0 < points_along v.grid b 0) × ((0 < points_along v.grid b 1) × (0 < points_along v.grid b 2))
  some = let w : IsWide v.grid b = wide v (pos 0) b is low in (omega (arith, w.x), (omega (arith, w.y), omega (arith, w.z)))

  -- it is a sample
  pub value_is_sample : IsSample value
  value_is_sample =
      subst IsSample (same 0 0 0 some.0 some.1.0 some.1.1)
      (sample_in_range v (brick_point v.grid b 0 0 0) is (brick_point_in v.grid b 0 0 0 (inside v (pos 0) b is low 0 0 0 some.0 some.1.0 some.1.1)))

  -- and the span of the brick
  pub filled_span_is : one_span value ≡ span_of v b
  unfolding span_of
  filled_span_is =
      sym (span_of_same value _ (brick_samples v b) value_is_sample (listed v (pos 0) b is low 0 0 0 some.0 some.1.0 some.1.1)
      (each_listed v (pos 0) b is low (λ w. w ≡ value) same))
