-- The shifted values of a volume.
use Rattle.std.proofs.Common.{◌≡◌, ℕ, ◌+◌, ◌-◌, ◌*◌, ◌<◌, ◌≤◌, List, [], ◌∷◌, length, get_or, map, take, drop, min, refl, sym, ◌∙◌, ap, ap₂, subst, ℤ, pos, arith, true}
use Rattle.std.proofs.lemmas.List.{get_or-drop, get_or-take, get_or_default, length-drop, length-map, length-take-le}
use Rattle.std.specs.List.{drop-map, take-map}
use Rattle.iso_defs.specs.Grid.{Grid, index}
use Rattle.iso_defs.specs.Cell.{corner_point}
use Rattle.iso_defs.specs.Bricks.{brick_count, in_brick}
use Rattle.iso_defs.proofs.Points.{index_in}
use Rattle.iso_base.specs.Volume.{IsSample, shifted, IsVolume, Volume, sample}
use Rattle.iso_base.proofs.VolumeLaws.{sample_in_range}
use Rattle.brick_store.specs.Copies.{AreAllCopies}
use Rattle.flat_mesh.specs.Cases.{values_at}
use Rattle.flat_mesh.specs.Lattice.{IsLeveled, Leveled}
use Rattle.brick_rows.specs.declared.bricks.BrickRow.{BrickRow}
use Rattle.brick_rows.specs.Bricks.{HoldRow}
use Rattle.brick_rows.specs.Rows.{at_level}
use Rattle.brick_rows.specs.Runs.{IsRun}
use Rattle.brick_rows.proofs.Places.{number_in, offset_point, row_there}

pub leveled : (v : Volume) (level : ℤ) → IsVolume v → IsLeveled (at_level v level)
leveled v level is = record {
  grid = is.grid;
  count = is.count;
  range = λ p d low. subst IsSample (sym (get_or_default v.samples p d (pos 0) low)) (sample_in_range v p is (subst (λ n. p < n) is.count low));
}

-- those of the corners of a cell
pub corners_are : (f : Leveled) (v : Volume) (level : ℤ) (q : ℕ) (a b c d e f' g h : ℤ) → at_level v level ≡ f
    → a ≡ shifted (sample v.samples (corner_point v.grid q 0)) level → b ≡ shifted (sample v.samples (corner_point v.grid q 1)) level
    → c ≡ shifted (sample v.samples (corner_point v.grid q 2)) level → d ≡ shifted (sample v.samples (corner_point v.grid q 3)) level
    → e ≡ shifted (sample v.samples (corner_point v.grid q 4)) level → f' ≡ shifted (sample v.samples (corner_point v.grid q 5)) level
    → g ≡ shifted (sample v.samples (corner_point v.grid q 6)) level → h ≡ shifted (sample v.samples (corner_point v.grid q 7)) level
    → a ∷ b ∷ c ∷ d ∷ e ∷ f' ∷ g ∷ h ∷ [] ≡ values_at f q
unfolding values_at
corners_are f v level q a b c d e f' g h same ea eb ec ed ee ef eg eh =
    subst (λ f. a ∷ b ∷ c ∷ d ∷ e ∷ f' ∷ g ∷ h ∷ [] ≡ values_at f q) same
    (ap₂ ◌∷◌ ea (ap₂ ◌∷◌ eb (ap₂ ◌∷◌ ec (ap₂ ◌∷◌ ed (ap₂ ◌∷◌ ee (ap₂ ◌∷◌ ef (ap₂ ◌∷◌ eg (ap₂ ◌∷◌ eh refl))))))))

-- a part of packed copies holds the samples of that part
pub part_is : {T : Type 0} (value : T → ℤ) (packed : List T) (start count : ℕ)
    → map value (take (start + count - start) (drop start packed)) ≡ take (start + count - start) (drop start (map value packed))
part_is value packed start count =
    sym (take-map value (start + count - start) (drop start packed)) ∙ ap (take (start + count - start)) (sym (drop-map value start packed))

-- a run of samples of a row of a brick, or of one so many further along y and z, among all copies
module _ (v : Volume) (is : IsVolume v) (x y z : ℕ) (hx : 8 * x + 1 < v.grid.nx) (hy : y < v.grid.ny) (hz : z < v.grid.nz) (held : BrickRow) (hold : HoldRow v.grid y z held)
    (j k : ℕ) (deep : y + j < v.grid.ny) (high : z + k < v.grid.nz) (few_j : j ≤ 1) (few_k : k ≤ 1) where
  abbrev brick : ℕ
  brick = held.first + x

  known : brick < brick_count v.grid
  known = number_in v.grid is.grid x y z hx hy hz held hold

  low_y : held.y + j < 9
  low_y = let h = hold.y_at in let t = is.grid.y.most in omega arith

  low_z : held.z + k < 9
  low_z = let h = hold.z_at in let t = is.grid.z.most in omega arith

  module _ (copies : List ℤ) (are : AreAllCopies v.grid v.samples copies) (start count : ℕ) (at : start ≡ 729 * brick + 9 * (held.y + j + 9 * (held.z + k)))
      (few : count ≡ min 9 (v.grid.nx - 8 * x)) where
    abbrev run : List ℤ
    run = take (start + count - start) (drop start copies)

    run_fits : start + count ≤ length copies
    run_fits = let all = are.count in let b = known in let m = low_y in let n = low_z in omega arith

    run_length : length run ≡ min 9 (v.grid.nx - 8 * x)
    run_length =
        let fits = run_fits in
        length-take-le (start + count - start) (drop start copies) (omega (arith, length-drop start copies)) ∙ omega (arith, few)

    run_at : (i : ℕ) → i < length run → get_or run i (pos 0) ≡ sample v.samples (index v.grid (8 * x + i) (y + j) (z + k))
    run_at i low =
        let long = run_length in
        let within : i < count = omega arith in
        let wide : 8 * x + i < v.grid.nx = omega arith in
        let m = low_y in
        let n = low_z in
        let q : ℕ = i + 9 * (held.y + j + 9 * (held.z + k)) in
        let there : in_brick v.grid brick i (held.y + j) (held.z + k) ≡ true = row_there v.grid is.grid x y z hx hy hz held hold i j k wide deep high in
        let place : start + i ≡ 729 * brick + q = omega arith in
        let own = are.each brick known in
        get_or-take (start + count - start) (drop start copies) i (pos 0) (omega arith)
        ∙ (get_or-drop start copies i (pos 0)
        ∙ (ap (sample copies) place
        ∙ (sym (get_or-take 729 (drop (729 * brick) copies) q (pos 0) (omega arith) ∙ get_or-drop (729 * brick) copies q (pos 0))
        ∙ (own.each i (held.y + j) (held.z + k) (omega arith) m n there ∙ ap (sample v.samples) (offset_point v.grid is.grid x y z hx hy hz held hold i j k)))))

    run_is : (level : ℤ) → IsRun (at_level v level) (8 * x) (y + j) (z + k) run
    run_is level = record {
      count = run_length;
      each = run_at;
      range = λ i d low.
          let wide : 8 * x + i < v.grid.nx = omega (arith, run_length) in
          subst IsSample (sym (get_or_default run i d (pos 0) low ∙ run_at i low))
          (sample_in_range v (index v.grid (8 * x + i) (y + j) (z + k)) is (index_in v.grid (8 * x + i) (y + j) (z + k) wide deep high));
    }

-- how many packed samples a run has
pub run_count : {T : Type 0} (value : T → ℤ) (packed : List T) (f : Leveled) (x y z : ℕ) → IsRun f x y z (map value packed) → length packed ≡ min 9 (f.grid.nx - x)
run_count value packed f x y z run = sym (length-map packed value) ∙ run.count

-- the same of a volume at a level
module _ (f : Leveled) (v : Volume) (level : ℤ) (e : at_level v level ≡ f) (is : IsVolume v) (x y z : ℕ) (hx : 8 * x + 1 < f.grid.nx) (hy : y < f.grid.ny) (hz : z < f.grid.nz)
    (held : BrickRow) (hold : HoldRow f.grid y z held) where
  g_is : v.grid ≡ f.grid
  g_is = ap (λ (f : Leveled). f.grid) e

  s_is : v.samples ≡ f.samples
  s_is = ap (λ (f : Leveled). f.samples) e

  wide : 8 * x + 1 < v.grid.nx
  wide = subst (λ (g : Grid). 8 * x + 1 < g.nx) (sym g_is) hx

  deep : y < v.grid.ny
  deep = subst (λ (g : Grid). y < g.ny) (sym g_is) hy

  high : z < v.grid.nz
  high = subst (λ (g : Grid). z < g.nz) (sym g_is) hz

  here : HoldRow v.grid y z held
  here = subst (λ (g : Grid). HoldRow g y z held) (sym g_is) hold

  module _ (j k : ℕ) (hj : y + j < f.grid.ny) (hk : z + k < f.grid.nz) (few_j : j ≤ 1) (few_k : k ≤ 1) where
    deeper : y + j < v.grid.ny
    deeper = subst (λ (g : Grid). y + j < g.ny) (sym g_is) hj

    higher : z + k < v.grid.nz
    higher = subst (λ (g : Grid). z + k < g.nz) (sym g_is) hk

    pub y_low : held.y + j < 9
    y_low = low_y v is x y z wide deep high held here j k deeper higher few_j few_k

    pub z_low : held.z + k < 9
    z_low = low_z v is x y z wide deep high held here j k deeper higher few_j few_k

    module _ (copies : List ℤ) (are : AreAllCopies f.grid f.samples copies) (start count : ℕ) (at : start ≡ 729 * (held.first + x) + 9 * (held.y + j + 9 * (held.z + k)))
        (few : count ≡ min 9 (v.grid.nx - 8 * x)) where
      kept : AreAllCopies v.grid v.samples copies
      kept = subst (λ (f : Leveled). AreAllCopies f.grid f.samples copies) (sym e) are

      pub part_fits : start + count ≤ length copies
      part_fits = run_fits v is x y z wide deep high held here j k deeper higher few_j few_k copies kept start count at few

      pub run_of : IsRun f (8 * x) (y + j) (z + k) (take (start + count - start) (drop start copies))
      run_of =
          subst (λ f. IsRun f (8 * x) (y + j) (z + k) (take (start + count - start) (drop start copies))) e
          (run_is v is x y z wide deep high held here j k deeper higher few_j few_k copies kept start count at few level)
