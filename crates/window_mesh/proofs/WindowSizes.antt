-- The sizes of a box of a grid: they are refused for no more than a thin axis.
use Rattle.std.proofs.Common.{◌≡◌, ℕ, ◌+◌, ◌-◌, ◌*◌, ◌≤◌, false, ltb, inl, inr, Result, Ok, Err, refl, sym, ap, ◌∙◌, subst, arith}
use Rattle.std.specs.Prelude.{None, Some}
use Rattle.std.proofs.Math.Nat.{mul-le-mul_left, mul-le-mul_right}
use Rattle.std.proofs.lemmas.Bool.{cases_Bool, le-ltb}
use Rattle.iso_defs.specs.Grid.{Grid, point_count, size}
use Rattle.iso_base.specs.Points.{IsPoint}
use Rattle.iso_base.specs.Volume.{IsGrid, sized}
use Rattle.iso_base.specs.declared.point.Point.{Point}
use Rattle.iso_base.specs.declared.sizes.SizeFault.{SizeFault}
use Rattle.iso_base.specs.declared.sizes.SizeFault.TheVariants.{TooThin, AxisTooLong, TooMany}
use Rattle.window_laws.specs.Windows.{thin_axis}
use Rattle.window_mesh.specs.Crops.{IsFaultOf}
use Rattle.window_mesh.specs.declared.boxes.WindowFault.TheVariants.{Thin}

-- accepted and thick, or refused for the first thin axis
pub data Window (b : Grid) : Type 0 where
  Fits : sized b ≡ Ok b → thin_axis b ≡ None → Window b
  IsThin : (axis : ℕ) → sized b ≡ Err (TooThin axis (size b axis)) → thin_axis b ≡ Some axis → Window b

fewer : (a b c x y z : ℕ) → a ≤ x → b ≤ y → c ≤ z → a * b * c ≤ x * y * z
fewer a b c x y z p q r =
    let h : a * b ≤ x * b = mul-le-mul_right b p in
    let k : x * b ≤ x * y = mul-le-mul_left x q in
    let l : a * b * c ≤ x * y * c = mul-le-mul_right c (omega arith) in
    let m : x * y * c ≤ x * y * z = mul-le-mul_left (x * y) r in
    omega arith

-- a box of a grid is no longer than the grid
pub record IsShort (g b : Grid) : Type 0 where
  pub x : b.nx ≤ g.nx
  pub y : b.ny ≤ g.ny
  pub z : b.nz ≤ g.nz

pub box_is_short : (g : Grid) (corner low high : Point) (a b c : ℕ) → IsPoint g corner → high ≡ corner
    → a ≡ high.x - low.x → b ≡ high.y - low.y → c ≡ high.z - low.z → IsShort g (record { nx = a + 1; ny = b + 1; nz = c + 1 })
box_is_short g corner low high a b c inside e x y z =
    let h : IsPoint g high = subst (IsPoint g) (sym e) inside in
    let hx = h.x in
    let hy = h.y in
    let hz = h.z in
    record { x = omega arith; y = omega arith; z = omega arith }

pub window_sized : (b g : Grid) → IsGrid g → IsShort g b → Window b
window_sized b g is short =
    let lx : ltb 1026 b.nx ≡ false = le-ltb 1026 b.nx (let h = is.x.most in omega (arith, short.x)) in
    let ly : ltb 1026 b.ny ≡ false = le-ltb 1026 b.ny (let h = is.y.most in omega (arith, short.y)) in
    let lz : ltb 1026 b.nz ≡ false = le-ltb 1026 b.nz (let h = is.z.most in omega (arith, short.z)) in
    let few : ltb 160000000 (point_count b) ≡ false
    = le-ltb 160000000 (point_count b) (let h = is.count in omega (arith, fewer b.nx b.ny b.nz g.nx g.ny g.nz short.x short.y short.z)) in
    elim (cases_Bool (ltb b.nx 2)) [
      | inl tx ↦ IsThin 0 (rw tx refl) (rw tx refl)
      | inr fx ↦ elim (cases_Bool (ltb b.ny 2)) [
        | inl ty ↦ IsThin 1 (rw (fx, ty) refl) (rw (fx, ty) refl)
        | inr fy ↦ elim (cases_Bool (ltb b.nz 2)) [
          | inl tz ↦ IsThin 2 (rw (fx, fy, tz) refl) (rw (fx, fy, tz) refl)
          | inr fz ↦ Fits (rw (fx, fy, fz, lx, ly, lz, few) refl) (rw (fx, fy, fz) refl)
        ]
      ]
    ]

module _ (b g : Grid) (is : IsGrid g) (short : IsShort g b) where
  -- sizes that are accepted are thick
  pub accepted : (r : Grid) → sized b ≡ Ok r → (r ≡ b) × (thin_axis b ≡ None)
  accepted r e = elim (window_sized b g is short) [ Fits f t ↦ (same (sym e ∙ f), t) | IsThin a f t ↦ absurd (clash (sym e ∙ f)) ]
    where
      same : ◌≡◌ {A = Result Grid SizeFault} (Ok r) (Ok b) → r ≡ b
      same h = cc

      clash : {a m : ℕ} → ◌≡◌ {A = Result Grid SizeFault} (Ok r) (Err (TooThin a m)) → ⊥
      clash h = cc

  -- sizes that are refused for a thin axis are thin, along that axis first
  pub refused : (axis n : ℕ) → sized b ≡ Err (TooThin axis n) → IsFaultOf b (Thin axis n)
  refused axis n e = elim (window_sized b g is short) [ Fits f t ↦ absurd (clash (sym e ∙ f)) | IsThin a f t ↦ told a t (sym e ∙ f) ]
    where
      clash : ◌≡◌ {A = Result Grid SizeFault} (Err (TooThin axis n)) (Ok b) → ⊥
      clash h = cc

      told : (a : ℕ) → thin_axis b ≡ Some a → ◌≡◌ {A = Result Grid SizeFault} (Err (TooThin axis n)) (Err (TooThin a (size b a))) → IsFaultOf b (Thin axis n)
      told a t h =
          let same : a ≡ axis = cc in
          let count : n ≡ size b a = cc in
          (t ∙ ap Some same, count ∙ ap (size b) same)

  -- and they are refused for nothing else
  pub never_long : (axis n : ℕ) → sized b ≡ Err (AxisTooLong axis n) → ⊥
  never_long axis n e = elim (window_sized b g is short) [ Fits f t ↦ clash (sym e ∙ f) | IsThin a f t ↦ other (sym e ∙ f) ]
    where
      clash : Err (AxisTooLong axis n) ≡ Ok b → ⊥
      clash h = cc

      other : {a m : ℕ} → ◌≡◌ {A = Result Grid SizeFault} (Err (AxisTooLong axis n)) (Err (TooThin a m)) → ⊥
      other h = cc

  pub never_many : (n : ℕ) → sized b ≡ Err (TooMany n) → ⊥
  never_many n e = elim (window_sized b g is short) [ Fits f t ↦ clash (sym e ∙ f) | IsThin a f t ↦ other (sym e ∙ f) ]
    where
      clash : Err (TooMany n) ≡ Ok b → ⊥
      clash h = cc

      other : {a m : ℕ} → ◌≡◌ {A = Result Grid SizeFault} (Err (TooMany n)) (Err (TooThin a m)) → ⊥
      other h = cc
