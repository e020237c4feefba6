-- The numbers of points, row of points after row of points.
use Rattle.std.proofs.Common.{◌≡◌, ℕ, suc, ◌+◌, ◌*◌, ◌/◌, ◌%◌, ◌<◌, ◌≤◌, List, length, get_or, sym, ◌∙◌, ap, subst, arith}
use Rattle.std.proofs.lemmas.Nat.{div-mul-add, mod-mul-add}
use Rattle.std.proofs.Math.Nat.{mul-le-mul_left}
use Rattle.iso_defs.specs.Grid.{index}
use Rattle.flat_mesh.specs.Lattice.{Leveled, heights}
use Rattle.flat_mesh.specs.Rows.{row_start}
use Rattle.flat_mesh.proofs.Known.{flags_low}
use Rattle.mesh_rows.specs.Rows.{AreFlags, IsCaseOf}
use Rattle.sample_rows.specs.Cases.{AreRowCases}
use Rattle.sample_rows.specs.Parts.{AreNumbers}

-- a row of points by its number
pub row_low : (ny nz y z : ℕ) → y < ny → z < nz → y + ny * z < ny * nz
row_low ny nz y z hy hz =
    let k : ny * suc z ≤ ny * nz = mul-le-mul_left ny hz in
    let m : ny * suc z ≡ ny * z + ny = omega arith in
    omega arith

-- a row has its number alone
pub same_row : (ny y z y' z' : ℕ) → y < ny → y' < ny → y + ny * z ≡ y' + ny * z' → (y ≡ y') × (z ≡ z')
same_row ny y z y' z' hy hy' e =
    (sym (rest y z hy) ∙ (ap (λ n. n % ny) e ∙ rest y' z' hy'), sym (part y z hy) ∙ (ap (λ n. n / ny) e ∙ part y' z' hy'))
  where
    turned : (y z : ℕ) → y + ny * z ≡ z * ny + y
    turned y z = omega arith

    rest : (y z : ℕ) → y < ny → (y + ny * z) % ny ≡ y
    rest y z h = ap (λ n. n % ny) (turned y z) ∙ mod-mul-add z ny y h

    part : (y z : ℕ) → y < ny → (y + ny * z) / ny ≡ z
    part y z h = ap (λ n. n / ny) (turned y z) ∙ div-mul-add z ny y h

-- the number of a point by its flags and a case
turned : (f c : ℕ) → f + 8 * c ≡ c * 8 + f
turned f c = omega arith

pub flags_of_number : (f c n : ℕ) → f < 8 → n ≡ f + 8 * c → n % 8 ≡ f
flags_of_number f c n small is = ap (λ n. n % 8) (is ∙ turned f c) ∙ mod-mul-add c 8 f small

pub case_of_number : (f c n : ℕ) → f < 8 → n ≡ f + 8 * c → n / 8 ≡ c
case_of_number f c n small is = ap (λ n. n / 8) (is ∙ turned f c) ∙ div-mul-add c 8 f small

pub numbers_made : (v : Leveled) (y z : ℕ) (flags cases numbers : List ℕ) → length flags ≡ v.grid.nx → AreFlags v y z flags → AreRowCases v y z cases → length numbers ≡ v.grid.nx
    → ((x : ℕ) → x < length flags → get_or numbers x 0 ≡ get_or flags x 0 + 8 * get_or cases x 0) → AreNumbers v y z numbers
numbers_made v y z flags cases numbers count are put width made = record {
  count = width;
  each = λ x low.
      (let is : get_or numbers x 0 ≡ get_or flags x 0 + 8 * get_or cases x 0 = made x (omega (arith, count)) in
      let small : get_or flags x 0 < 8 = subst (λ f. f < 8) (sym (are x low)) (flags_low v.grid (heights v) (row_start v.grid y z + x)) in
      let case : get_or numbers x 0 / 8 ≡ get_or cases x 0 = case_of_number (get_or flags x 0) (get_or cases x 0) (get_or numbers x 0) small is in
      record {
        flags = flags_of_number (get_or flags x 0) (get_or cases x 0) (get_or numbers x 0) small is ∙ are x low;
        cell = λ hx hy hz. subst (IsCaseOf v (index v.grid x y z)) (sym case) (put.each x hx hy hz);
        last = λ e. case ∙ put.last x e;
      });
}
