-- The cases of a row of cells over zeros, from their sign bytes.
use Rattle.std.proofs.Common.{◌≡◌, ◌≢◌, ◌⊎◌, ℕ, ◌+◌, ◌-◌, ◌*◌, ◌%◌, ◌^◌, ◌<◌, ◌≤◌, ◌∙◌, Bool, true, false, ◌||◌, List, [], cond, eqb, length, not, get_or, set, min, refl, sym, subst, ap, ap₂, arith, inl, inr, w64}
use Rattle.std.specs.Int.{bit_at, trailing_zeros}
use Rattle.std.specs.Int.Bits.{bit_xor}
use mir.Val.{bool_byte}
use Rattle.std.proofs.lemmas.Bool.{cases_lt, eqb-true}
use Rattle.std.proofs.lemmas.List.{get_or-set_other, get_or-set_same}
use Rattle.std.proofs.lemmas.Nat.Bits.{bit_at-zero}
use Rattle.iso_defs.specs.Bricks.{bits_of}
use Rattle.iso_defs.specs.Grid.{index}
use Rattle.case_table.specs.Cases.{ambiguous_flags, case_at}
use Rattle.flat_mesh.specs.Cases.{joined_at, signs_at}
use Rattle.flat_mesh.specs.Faces.{loops_at}
use Rattle.flat_mesh.specs.Lattice.{Leveled}
use Rattle.flat_mesh.specs.Rows.{row_start}
use Rattle.flat_mesh.proofs.CellAdds.{IsQuiet}
use Rattle.flat_mesh.proofs.CellCase.{loops_are, none_at}
use Rattle.flat_mesh.proofs.Quiet.{all_above, last_column, none_above}
use Rattle.mesh_rows.specs.Counts.{AreCounts}
use Rattle.mesh_rows.specs.Rows.{AreCasesTo, IsCaseOf}
use Rattle.mesh_rows.specs.declared.counts.Counts.{Counts}
use Rattle.sample_rows.specs.Cases.{AreBytes, AreCasesBut, AreMixed, ArePut}
use Rattle.sample_rows.proofs.Counted.{quiet_counts}
use Rattle.row_bits.proofs.MixedBytes.{mixed, mixed_some}
use Rattle.row_bits.proofs.LowestBit.{later, next_fits, none_below, places, same_bit, lowest_is_set, within}
use Rattle.sample_rows.proofs.QuietCases.{quiet_case}

-- a sign byte that is one of these
pub quiet_byte : (v : Leveled) (q byte : ℕ) → bits_of 8 byte ≡ signs_at v q → mixed byte ≡ 0 → loops_at v q ≡ []
quiet_byte v q byte same none = by (eqb byte 0) (eqb byte 255) refl refl none
  where
    by : (low high : Bool) → eqb byte 0 ≡ low → eqb byte 255 ≡ high → cond {A = ℕ} (low || high) 0 1 ≡ 0 → loops_at v q ≡ []
    by true high e f h = none_above v q byte same (eqb-true byte 0 e)
    by false true e f h = all_above v q byte same (eqb-true byte 255 f)
    by false false e f h = absurd (omega (arith, h))

module _ (v : Leveled) (y z : ℕ) (hy : y + 1 < v.grid.ny) (hz : z + 1 < v.grid.nz) where
  -- cells of a row without loops
  quiet_cells : (a n : ℕ) → a + n ≤ v.grid.nx → ((x : ℕ) → a ≤ x → x < a + n → x + 1 < v.grid.nx → loops_at v (index v.grid x y z) ≡ []) → IsQuiet v (row_start v.grid y z + a) n
  quiet_cells a n within quiet q least most is =
      let x : ℕ = q - row_start v.grid y z in
      let here : index v.grid x y z ≡ q = omega arith in
      elim (cases_lt (x + 1) v.grid.nx) [
        | inl in_row ↦ subst (λ q. loops_at v q ≡ []) here (quiet x (omega arith) (omega arith) in_row)
        | inr last ↦ last_column v y z q (omega arith) (omega arith) (omega arith) (omega arith) q (omega arith) (omega arith) is
      ]

  -- they add nothing to the counts
  quiet_between : (a b : ℕ) (counts : Counts) → a ≤ b → ((x : ℕ) → a ≤ x → x < b → x + 1 < v.grid.nx → loops_at v (index v.grid x y z) ≡ [])
      → AreCounts v (row_start v.grid y z + min a v.grid.nx) counts → AreCounts v (row_start v.grid y z + min b v.grid.nx) counts
  quiet_between a b counts low quiet counted =
      let from : ℕ = min a v.grid.nx in
      let count : ℕ = min b v.grid.nx - min a v.grid.nx in
      quiet_counts v (row_start v.grid y z + from) count
      (quiet_cells from count (omega arith) (λ x least most in_row. quiet x (omega arith) (omega arith) in_row))
      (row_start v.grid y z + min b v.grid.nx) counts (omega arith) counted

-- 64 cells of a row, of which those whose bits are set may have loops
module _ (v : Leveled) (y z low all : ℕ) (hy : y + 1 < v.grid.ny) (hz : z + 1 < v.grid.nz) (mixed : AreMixed v y z low all) where
  -- bits that tell the same, from the lowest that is set on
  abbrev pub Tell : ℕ → Type 0
  Tell n = (k : ℕ) → trailing_zeros w64 n ≤ k → k < 64 → bit_at n k ≡ bit_at all k

  quiet_by : (x k : ℕ) → x ≡ low + k → k < 64 → x + 1 < v.grid.nx → bit_at all k ≡ 0 → loops_at v (index v.grid x y z) ≡ []
  quiet_by x k at few in_row none =
      subst (λ x. loops_at v (index v.grid x y z) ≡ []) (sym at) (mixed.none k few (omega (arith, at, in_row)) none)

  -- up to the first of the cells that may have loops
  pub to_lowest : (counts : Counts) → all < 2 ^ 64 → AreCounts v (row_start v.grid y z + min low v.grid.nx) counts
      → AreCounts v (row_start v.grid y z + min (low + trailing_zeros w64 all) v.grid.nx) counts
  to_lowest counts fits = quiet_between v y z hy hz low (low + trailing_zeros w64 all) counts (omega arith)
      (λ x least most in_row.
      (let k : ℕ = x - low in
      quiet_by x k (omega arith) (omega (arith, places all)) in_row (none_below all k fits (omega arith))))

  module _ (n next : ℕ) (some : 0 < n) (fits : n < 2 ^ 64) (is : next ≡ bit_xor n (1 * 2 ^ trailing_zeros w64 n % 2 ^ 64)) (tell : Tell n) where
    abbrev x : ℕ
    x = low + trailing_zeros w64 n

    -- this is one of the row
    pub in_row : x + 1 < v.grid.nx
    in_row =
        mixed.inside (trailing_zeros w64 n) (within n next some fits is)
        (sym (tell (trailing_zeros w64 n) (omega arith) (within n next some fits is)) ∙ lowest_is_set n next some fits is)

    rest_same : (k : ℕ) → trailing_zeros w64 n < k → k < 64 → bit_at next k ≡ bit_at all k
    rest_same k high few = same_bit n next some fits is k (λ e. omega (arith, e, high)) ∙ tell k (omega arith) few

    pub tell_next : Tell next
    tell_next k least few = rest_same k (omega (arith, least, later n next some fits is)) few

    -- and up to the next one
    pub past_lowest : (new : Counts) → AreCounts v (index v.grid x y z + 1) new
        → AreCounts v (row_start v.grid y z + min (low + trailing_zeros w64 next) v.grid.nx) new
    past_lowest new counted =
        let more : trailing_zeros w64 n < trailing_zeros w64 next = later n next some fits is in
        let here : index v.grid x y z + 1 ≡ row_start v.grid y z + min (x + 1) v.grid.nx = omega (arith, in_row) in
        quiet_between v y z hy hz (x + 1) (low + trailing_zeros w64 next) new (omega (arith, more))
        (λ x' least most inner.
        (let k : ℕ = x' - low in
        quiet_by x' k (omega arith) (omega (arith, places next)) inner
        (sym (rest_same k (omega arith) (omega (arith, places next))) ∙ none_below next k (next_fits n next some fits is) (omega arith))))
        (subst (λ q. AreCounts v q new) here counted)

-- one case more, which is right if its bit is not set
pub case_put : (v : Leveled) (y z low bits next place case : ℕ) (cases : List ℕ) → place < 64 → low + place + 1 < v.grid.nx → length cases ≡ v.grid.nx
    → ((k : ℕ) → k ≢ place → bit_at next k ≡ bit_at bits k) → (bit_at next place ≡ 0 → IsCaseOf v (index v.grid (low + place) y z) case)
    → AreCasesBut v y z low bits cases → AreCasesBut v y z low next (set cases (low + place) case)
case_put v y z low bits next place case cases few in_row len others here but =
    let x : ℕ = low + place in
    let apart : (k : ℕ) → k ≢ x → get_or (set cases x case) k 0 ≡ get_or cases k 0 = λ k other. get_or-set_other cases x k case 0 other in
    record {
      before = λ k inner below. subst (IsCaseOf v (index v.grid k y z)) (sym (apart k (λ e. omega (arith, e, below)))) (but.before k inner below);
      clear = λ k most inner none. elim (same_or_not k place) [
        | inl e ↦ (
            let none_here : bit_at next place ≡ 0 = ap (bit_at next) (sym e) ∙ none in
            subst (λ k. IsCaseOf v (index v.grid (low + k) y z) (get_or (set cases x case) (low + k) 0)) (sym e)
            (subst (IsCaseOf v (index v.grid x y z)) (sym (get_or-set_same cases x case 0 (omega (arith, len, in_row)))) (here none_here)))
        | inr other ↦ (
            subst (IsCaseOf v (index v.grid (low + k) y z)) (sym (apart (low + k) (λ e. other (omega (arith, e)))))
            (but.clear k most inner (sym (others k other) ∙ none)))
      ];
      inside = λ k most one. elim (same_or_not k place) [
        | inl e ↦ omega (arith, e, in_row)
        | inr other ↦ but.inside k most (sym (others k other) ∙ one)
      ];
      zeros = λ k high. apart k (λ e. omega (arith, e, high, few)) ∙ but.zeros k high;
      behind = λ k high. apart k (λ e. omega (arith, e, high, in_row)) ∙ but.behind k high;
    }
  where
    same_or_not : (a b : ℕ) → (a ≡ b) ⊎ (a ≢ b)
    same_or_not a b = elim (cases_lt a b) [
      | inl less ↦ inr (λ e. omega (arith, e, less))
      | inr high ↦ elim (cases_lt b a) [
        | inl more ↦ inr (λ e. omega (arith, e, more))
        | inr level ↦ inl (omega arith)
      ]
    ]

-- by the sign bytes
module _ (v : Leveled) (y z low bits : ℕ) (bytes : List ℕ) (are : AreBytes v y z bytes) (tell : (k : ℕ) → k < 64 → bit_at bits k ≡ mixed (get_or bytes (low + k) 0)) where
  pub mixed_are : ((x : ℕ) → v.grid.nx ≤ x + 1 → get_or bytes x 0 ≡ 0) → AreMixed v y z low bits
  mixed_are rest = record {
    none = λ k few inner none. quiet_byte v (index v.grid (low + k) y z) (get_or bytes (low + k) 0) (are (low + k) inner) (sym (tell k few) ∙ none);
    inside = λ k few one. elim (cases_lt (low + k + 1) v.grid.nx) [
      | inl less ↦ less
      | inr high ↦ absurd (omega (arith, rest (low + k) high, mixed_some (get_or bytes (low + k) 0) (sym (tell k few) ∙ one)))
    ];
  }

-- zeros are right for the others
pub zeros_but : (v : Leveled) (y z low bits : ℕ) (cases : List ℕ) (counts : Counts) → AreMixed v y z low bits → ArePut v y z low cases counts → AreCasesBut v y z low bits cases
zeros_but v y z low bits cases counts mixed put = record {
  before = put.cases_are;
  clear = λ k few inner none. subst (IsCaseOf v (index v.grid (low + k) y z)) (sym (put.zeros (low + k) (omega arith))) (quiet_case v (index v.grid (low + k) y z) (mixed.none k few inner none));
  inside = mixed.inside;
  zeros = λ x high. put.zeros x (omega arith);
  behind = put.behind;
}

-- where no bit is left, all are right
pub all_clear : (v : Leveled) (y z low : ℕ) (cases : List ℕ) → AreCasesBut v y z low 0 cases → AreCasesTo v y z (low + 64) cases
all_clear v y z low cases but x inner below = elim (cases_lt x low) [
  | inl earlier ↦ but.before x inner earlier
  | inr late ↦ (
      let k : ℕ = x - low in
      let here : low + k ≡ x = omega arith in
      subst (λ x. IsCaseOf v (index v.grid x y z) (get_or cases x 0)) here (but.clear k (omega (arith, late, below)) (omega (arith, here, inner)) (bit_at-zero k)))
]

pub put_are : (v : Leveled) (y z low : ℕ) (cases : List ℕ) (counts : Counts) → AreCasesBut v y z low 0 cases
    → AreCounts v (row_start v.grid y z + min (low + 64) v.grid.nx) counts → ArePut v y z (low + 64) cases counts
put_are v y z low cases counts but counted = record { cases_are = all_clear v y z low cases but; zeros = but.zeros; behind = but.behind; counted = counted }

-- a cell none of whose faces is ambiguous
pub clear_case : (v : Leveled) (q signs faces case : ℕ) → bits_of 8 signs ≡ signs_at v q → bits_of 6 faces ≡ ambiguous_flags (bits_of 8 signs) → faces ≡ 0
    → case_at case ≡ (bits_of 8 signs, bits_of 6 0) → case < 656 → IsCaseOf v q case
clear_case v q signs faces case same flags none is small =
    let joined : bits_of 6 0 ≡ joined_at v q = none_at v q signs faces same flags none in
    record {
      small = small;
      loops = loops_are v q case (is ∙ ap₂ (λ (a b : List Bool). (a, b)) same joined);
    }

-- a number for whether another is not 0
pub flag_small : (b : Bool) (bit : ℕ) → bit ≡ bool_byte b → bit < 2
flag_small true bit is = omega (arith, is)
flag_small false bit is = omega (arith, is)

pub flag_none : (n bit : ℕ) → bit ≡ bool_byte (not (eqb n 0)) → bit ≡ 0 → n ≡ 0
flag_none n bit is none = by (eqb n 0) refl
  where
    by : (b : Bool) → eqb n 0 ≡ b → n ≡ 0
    by true e = eqb-true n 0 e
    by false e = absurd (let one : bit ≡ 1 = is ∙ ap (λ b. bool_byte (not b)) e in omega (arith, one, none))
