-- The cases of a row of cells, one after the other.
use Rattle.std.proofs.Common.{◌≡◌, ℕ, ◌+◌, ◌-◌, ◌*◌, ◌<◌, ◌≤◌, ◌∙◌, List, length, get_or, set, sym, ap, subst, arith, inl, inr}
use Rattle.std.proofs.lemmas.Bool.{cases_lt}
use Rattle.std.proofs.lemmas.List.{get_or_default, get_or-set_other, get_or-set_same}
use Rattle.iso_defs.specs.Bricks.{bits_of}
use Rattle.iso_defs.specs.Grid.{index}
use Rattle.flat_mesh.specs.Lattice.{Leveled}
use Rattle.flat_mesh.specs.Cases.{signs_at}
use Rattle.flat_mesh.specs.Rows.{AreSigns, byte_of}
use Rattle.flat_mesh.proofs.Quiet.{all_above, none_above}
use Rattle.flat_mesh.proofs.SignBytes.{byte_is}
use Rattle.mesh_rows.specs.Rows.{AreCases, AreCasesTo, IsCaseOf}
use Rattle.sample_rows.specs.Cases.{AreRowCases, HasNoLoops}

-- one case more
pub set_case : (v : Leveled) (y z x case : ℕ) (old : List ℕ) → x < length old → IsCaseOf v (index v.grid x y z) case → AreCasesTo v y z x old → AreCasesTo v y z (x + 1) (set old x case)
set_case v y z x case old low here before k in_row below = elim (cases_lt k x) [
  | inl earlier ↦ subst (IsCaseOf v (index v.grid k y z)) (sym (get_or-set_other old x k case 0 (λ e. omega arith))) (before k in_row earlier)
  | inr last ↦ (
      let same : k ≡ x = omega arith in
      subst (λ k. IsCaseOf v (index v.grid k y z) (get_or (set old x case) k 0)) (sym same)
      (subst (IsCaseOf v (index v.grid x y z)) (sym (get_or-set_same old x case 0 low)) here))
]

-- all of them
pub all_set : (v : Leveled) (y z x : ℕ) (cases : List ℕ) → v.grid.nx ≤ x + 1 → AreCasesTo v y z x cases → AreCases v y z cases
all_set v y z x cases far are k in_row below = are k in_row (omega arith)

-- cells between four rows of signs that are all alike have no loops
module _ (v : Leveled) (y z sign : ℕ) (near up far both : List ℕ) (n : AreSigns v y z near) (u : AreSigns v (y + 1) z up) (f : AreSigns v y (z + 1) far)
    (b : AreSigns v (y + 1) (z + 1) both) (near_all : (x : ℕ) → x < length near → get_or near x 0 ≡ sign) (up_all : (x : ℕ) → x < length up → get_or up x 0 ≡ sign)
    (far_all : (x : ℕ) → x < length far → get_or far x 0 ≡ sign) (both_all : (x : ℕ) → x < length both → get_or both x 0 ≡ sign) where
  byte_alike : (x : ℕ) → x + 1 < v.grid.nx → byte_of near up far both x ≡ 255 * sign
  byte_alike x h =
      let s0 : get_or near x 0 ≡ sign = near_all x (omega (arith, n.count)) in
      let s1 : get_or near (x + 1) 0 ≡ sign = near_all (x + 1) (omega (arith, n.count)) in
      let s2 : get_or up x 0 ≡ sign = up_all x (omega (arith, u.count)) in
      let s3 : get_or up (x + 1) 0 ≡ sign = up_all (x + 1) (omega (arith, u.count)) in
      let s4 : get_or far x 0 ≡ sign = far_all x (omega (arith, f.count)) in
      let s5 : get_or far (x + 1) 0 ≡ sign = far_all (x + 1) (omega (arith, f.count)) in
      let s6 : get_or both x 0 ≡ sign = both_all x (omega (arith, b.count)) in
      let s7 : get_or both (x + 1) 0 ≡ sign = both_all (x + 1) (omega (arith, b.count)) in
      omega arith

  pub alike_rows : sign ≤ 1 → HasNoLoops v y z
  alike_rows small = record {
    none = λ x h hy hz.
        (let q : ℕ = index v.grid x y z in
        let e : byte_of near up far both x ≡ 255 * sign = byte_alike x h in
        let same : bits_of 8 (255 * sign) ≡ signs_at v q = byte_is v y z near up far both n u f b x (255 * sign) h (sym e) in
        elim (cases_lt sign 1) [
          | inl less ↦ none_above v q (255 * sign) same (omega arith)
          | inr one ↦ all_above v q (255 * sign) same (omega arith)
        ]);
  }

-- with a 0 behind them
pub row_cases : (v : Leveled) (y z : ℕ) (cases : List ℕ) → length cases ≡ v.grid.nx → 0 < v.grid.nx → AreCases v y z cases → get_or cases (v.grid.nx - 1) 0 ≡ 0
    → y + 1 < v.grid.ny → z + 1 < v.grid.nz → AreRowCases v y z cases
row_cases v y z cases count some are zero_last hy hz = record {
  count = count;
  small = λ k d low. elim (cases_lt (k + 1) v.grid.nx) [
    | inl inner ↦ subst (λ c. c < 656) (sym (get_or_default cases k d 0 low)) (are k inner (omega arith)).small
    | inr end ↦ (
        let same : k ≡ v.grid.nx - 1 = omega (arith, low, count) in
        subst (λ c. c < 656) (sym (get_or_default cases k d 0 low ∙ (ap (λ k. get_or cases k 0) same ∙ zero_last))) (omega arith))
  ];
  each = λ x inner _ _. are x inner (omega arith);
  last = λ x e. (let same : x ≡ v.grid.nx - 1 = omega (arith, e) in ap (λ k. get_or cases k 0) same ∙ zero_last);
}
