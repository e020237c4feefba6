-- The rows of a volume in print are read again.
use Rattle.std.proofs.Common.{◌≡◌, ℕ, zero, suc, ◌+◌, ◌*◌, ◌<◌, ◌≤◌, Bool, true, false, List, ◌++◌, length, get_or, take, drop, map, Ok, sym, ap, ◌∙◌, arith, All, ℤ}
use Rattle.std.specs.Prelude.{flat_map}
use Rattle.std.specs.List.{range_with_len}
use Rattle.std.proofs.Math.Nat.{mul-le-mul_left}
use Rattle.std.proofs.lemmas.List.{drop-drop, drop_all, get_or-drop, get_or-take, length-drop, length-take-le, take-append-drop}
use Rattle.std.proofs.lemmas.List.FromFn.{get_or-map-range_with_len, length-map-range_with_len}
use Rattle.iso_defs.specs.Grid.{point_count}
use Rattle.iso_base.specs.Volume.{IsOfKind, Voxels, IsVoxels}
use Rattle.nrrd_text.specs.Again.{AreRows, samples_of}
use Rattle.text_samples.specs.Hex.{hex_samples}
use Rattle.text_samples.specs.Text.{text_samples}
use Rattle.nrrd_text.specs.Writing.{hex_line, text_line}
use Rattle.nrrd_text.proofs.HexAgain.{hex_again}
use Rattle.nrrd_text.proofs.TextAgain.{text_again}
use Rattle.nrrd_read.specs.Nrrd.{samples_by}
use Rattle.nrrd.specs.Writing.{coded_by, coded_line, row_of, rows_of}

-- runs of a list, one behind the other, are the list
runs_joined : (xs : List ℤ) (nx k n : ℕ) → length xs ≡ (k + n) * nx → samples_of (map (λ j. take nx (drop (j * nx) xs)) (range_with_len k n)) ≡ drop (k * nx) xs
runs_joined xs nx k zero e = sym (drop_all (k * nx) xs (omega arith))
runs_joined xs nx k (suc n) e =
    let next : (k + 1) * nx ≡ k * nx + nx = omega arith in
    let all : length xs ≡ (k + 1 + n) * nx = omega arith in
    let rest : drop ((k + 1) * nx) xs ≡ drop nx (drop (k * nx) xs) = ap (λ m. drop m xs) next ∙ sym (drop-drop nx (k * nx) xs) in
    ap (λ (l : List ℤ). take nx (drop (k * nx) xs) ++ l) (runs_joined xs nx (k + 1) n all ∙ rest) ∙ take-append-drop nx (drop (k * nx) xs)

pub rows_joined : (v : Voxels) → IsVoxels v → samples_of (rows_of v) ≡ v.samples
rows_joined v h =
    let count : length v.samples ≡ (0 + v.grid.ny * v.grid.nz) * v.grid.nx = h.count ∙ turned v.grid.nx v.grid.ny v.grid.nz in
    let none : 0 * v.grid.nx ≡ 0 = omega arith in
    runs_joined v.samples v.grid.nx 0 (v.grid.ny * v.grid.nz) count ∙ ap (λ n. drop n v.samples) none
  where
    turned : (a b c : ℕ) → a * b * c ≡ (0 + b * c) * a
    turned a b c = omega arith

-- a row ends within the samples
pub row_ends : (a b c r : ℕ) → r < b * c → r * a + a ≤ a * b * c
row_ends a b c r h =
    let l : a * (r + 1) ≤ a * (b * c) = mul-le-mul_left a (omega arith) in
    omega arith

-- the row of a place
pub row_at : (v : Voxels) (k : ℕ) (d : List ℤ) → k < length (rows_of v) → get_or (rows_of v) k d ≡ row_of v k
row_at v k d lt =
    let n : length (rows_of v) ≡ v.grid.ny * v.grid.nz = length-map-range_with_len (row_of v) 0 (v.grid.ny * v.grid.nz) in
    get_or-map-range_with_len (row_of v) 0 (v.grid.ny * v.grid.nz) k k d (omega (arith, n)) (omega arith)

row_fits : (v : Voxels) (k : ℕ) → IsVoxels v → k < length (rows_of v) → k * v.grid.nx + v.grid.nx ≤ length v.samples
row_fits v k h lt =
    let n : length (rows_of v) ≡ v.grid.ny * v.grid.nz = length-map-range_with_len (row_of v) 0 (v.grid.ny * v.grid.nz) in
    omega (arith, h.count, row_ends v.grid.nx v.grid.ny v.grid.nz k (omega (arith, n)))

length-row : (v : Voxels) (k : ℕ) → IsVoxels v → k < length (rows_of v) → length (row_of v k) ≡ v.grid.nx
length-row v k h lt = length-take-le v.grid.nx (drop (k * v.grid.nx) v.samples) (omega (arith, length-drop (k * v.grid.nx) v.samples, row_fits v k h lt))

each_in_row : (v : Voxels) (k : ℕ) → IsVoxels v → k < length (rows_of v) → All (IsOfKind v.kind) (row_of v k)
each_in_row v k h lt i d low =
    let n : length (row_of v k) ≡ v.grid.nx = length-row v k h lt in
    let at : get_or (row_of v k) i d ≡ get_or v.samples (k * v.grid.nx + i) d
    = get_or-take v.grid.nx (drop (k * v.grid.nx) v.samples) i d (omega (arith, n)) ∙ get_or-drop (k * v.grid.nx) v.samples i d in
    rw at (h.each (k * v.grid.nx + i) d (omega (arith, n, row_fits v k h lt)))

pub are_rows : (v : Voxels) → IsVoxels v → AreRows v.kind (rows_of v)
are_rows v h =
    let n : length (rows_of v) ≡ v.grid.ny * v.grid.nz = length-map-range_with_len (row_of v) 0 (v.grid.ny * v.grid.nz) in
    record {
      some = omega (arith, n, product v.grid.ny v.grid.nz h.grid.y.least h.grid.z.least);
      each = λ k d lt. rw (row_at v k d lt) (omega (arith, length-row v k h lt, h.grid.x.least));
      kinds = λ k d lt. rw (row_at v k d lt) (each_in_row v k h lt);
    }
  where
    product : (a b : ℕ) → 2 ≤ a → 2 ≤ b → 0 < a * b
    product a b x y = let l : a * 1 ≤ a * b = mul-le-mul_left a (omega arith) in omega arith

-- its lines are read as its samples
pub printed_again : (hex : Bool) (v : Voxels) (rest : List ℕ) → IsVoxels v
    → samples_by (coded_by hex) v.kind false (point_count v.grid) (flat_map (coded_line hex v.kind) (rows_of v) ++ rest) ≡ Ok (v.samples, length rest + 1)
printed_again false v rest h =
    let count : point_count v.grid ≡ length (samples_of (rows_of v)) = sym h.count ∙ ap length (sym (rows_joined v h)) in
    ap (λ n. text_samples v.kind n (flat_map text_line (rows_of v) ++ rest)) count ∙ text_again v.kind (rows_of v) rest (are_rows v h)
    ∙ ap (λ (l : List ℤ). Ok (l, length rest + 1)) (rows_joined v h)
printed_again true v rest h =
    let count : point_count v.grid ≡ length (samples_of (rows_of v)) = sym h.count ∙ ap length (sym (rows_joined v h)) in
    ap (λ n. hex_samples v.kind false n (flat_map (hex_line v.kind) (rows_of v) ++ rest)) count ∙ hex_again v.kind (rows_of v) rest (are_rows v h)
    ∙ ap (λ (l : List ℤ). Ok (l, length rest + 1)) (rows_joined v h)
