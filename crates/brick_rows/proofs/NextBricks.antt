-- The next active brick, found by a tree.
use Rattle.std.proofs.Common.{◌≡◌, ℕ, ◌+◌, ◌-◌, ◌*◌, ◌/◌, ◌<◌, ◌≤◌, false, List, get_or, length, min, refl, set, sym, ◌∙◌, ap, subst, arith, inl, inr, ℤ, ◌^◌}
use Rattle.std.proofs.lemmas.Bool.{cases_lt}
use Rattle.std.proofs.lemmas.List.{get_or-set_other, get_or-set_same}
use Rattle.std.proofs.Math.Nat.{mul-le-mul_left, mul-le-mul_right}
use Rattle.iso_defs.specs.Grid.{Grid}
use Rattle.iso_defs.specs.Bricks.{brick_count, bricks_along, is_active}
use Rattle.iso_base.specs.Volume.{field, IsGrid, Volume}
use Rattle.flat_mesh.specs.Lattice.{Leveled, heights}
use Rattle.brick_store.specs.Next.{IsFirst}
use Rattle.brick_rows.specs.declared.active.ActiveSlice.{ActiveSlice}
use Rattle.brick_rows.specs.declared.active.ActiveRow.{ActiveRow}
use Rattle.brick_rows.specs.declared.bricks.BrickRow.{BrickRow}
use Rattle.brick_rows.specs.declared.bricks.PointRow.{PointRow}
use Rattle.brick_rows.specs.Bricks.{AreMarked, AreNextTo, HoldRow, IsMarkedSlice, IsNextFrom, IsPointRow, brick_at, first_brick}
use Rattle.brick_rows.specs.Rows.{at_level}
use Rattle.brick_rows.proofs.Places.{few_bricks, number_in}

pub next_found : (v : Volume) (f : Leveled) (level : ℤ) (from brick : ℕ) → at_level v level ≡ f → IsFirst (is_active v.grid (field v.samples level)) from (brick_count v.grid) brick → IsNextFrom f.grid (heights f) from brick
next_found v f level from brick same n =
    subst (λ (f : Leveled). IsNextFrom f.grid (heights f) from brick) same
    (record { least = n.low; active = λ known. n.passes; none_before = λ b least below known. n.before b least below })

pub none_found : (v : Volume) (f : Leveled) (level : ℤ) (from : ℕ) → at_level v level ≡ f → IsGrid v.grid → from < 2 ^ 32
    → ((b : ℕ) → from ≤ b → b < brick_count v.grid → is_active v.grid (field v.samples level) b ≡ false) → IsNextFrom f.grid (heights f) from 4294967295
none_found v f level from same grid low none =
    let few = few_bricks v.grid grid in
    subst (λ (f : Leveled). IsNextFrom f.grid (heights f) from 4294967295) same
    (record { least = omega arith; active = λ known. absurd (omega arith); none_before = λ b least below known. none b least known })

-- a brick before the next active one is passed
pub next_later : (v : Leveled) (from next : ℕ) → IsNextFrom v.grid (heights v) from next → (next ≡ from → ⊥) → IsNextFrom v.grid (heights v) (from + 1) next
next_later v from next is apart = record {
  least = let low = is.least in let high = cases_lt from next in elim high [ inl h ↦ omega arith | inr h ↦ absurd (apart (omega arith)) ];
  active = is.active;
  none_before = λ b least below known. is.none_before b (omega arith) below known;
}

-- one note more
pub note_more : (v : Leveled) (first x next : ℕ) (old : List ℕ) → x < length old → IsNextFrom v.grid (heights v) (first + x) next → AreNextTo v first x old
    → AreNextTo v first (x + 1) (set old x next)
note_more v first x next old room is notes = record {
  each = λ k low known. elim (cases_lt k x) [
    | inl earlier ↦ subst (IsNextFrom v.grid (heights v) (first + k)) (sym (get_or-set_other old x k next 0 (λ e. omega arith))) (notes.each k earlier known)
    | inr here ↦ (
        let same : k ≡ x = omega arith in
        subst (λ n. IsNextFrom v.grid (heights v) (first + n) (get_or (set old x next) n 0)) (sym same)
        (subst (IsNextFrom v.grid (heights v) (first + x)) (sym (get_or-set_same old x next 0 room)) is))
  ];
}

-- the least active brick from one of a row on
pub noted : (v : Leveled) (is : IsGrid v.grid) (row : ActiveRow) (y z : ℕ) (held : BrickRow) → y < v.grid.ny → z < v.grid.nz → HoldRow v.grid y z held → AreMarked v row
    → row.first ≡ held.first → (x : ℕ) → x < bricks_along v.grid 0 → IsNextFrom v.grid (heights v) (held.first + x) (get_or row.slice.next_from (row.start + x) 0)
noted v is row y z held hy hz hold marks same x low =
    let at : row.first + x ≡ held.first + x = ap (λ n. n + x) same in
    let wide : 8 * x + 1 < v.grid.nx = omega arith in
    subst (λ n. IsNextFrom v.grid (heights v) n (get_or row.slice.next_from (row.start + x) 0)) at
    (marks.next x low (subst (λ n. n < brick_count v.grid) (sym at) (number_in v.grid is x y z wide hy hz held hold)))

-- where a row of bricks stands in its slice
pub row_in_slice : (v : Leveled) (is : IsGrid v.grid) (y z : ℕ) → y < v.grid.ny → z < v.grid.nz
    → (first_brick v.grid 0 z ≤ first_brick v.grid y z) × (first_brick v.grid y z - first_brick v.grid 0 z + bricks_along v.grid 0 ≤ bricks_along v.grid 0 * bricks_along v.grid 1)
row_in_slice v is y z hy hz =
    let g : Grid = v.grid in
    let at : ℕ = brick_at g 1 y in
    let some : at + 1 ≤ bricks_along g 1 = let h = is.y.least in omega arith in
    let none : brick_at g 1 0 ≡ 0 = omega arith in
    let low : bricks_along g 0 * (at + 1) ≤ bricks_along g 0 * bricks_along g 1 = mul-le-mul_left (bricks_along g 0) some in
    let slice : ℕ = bricks_along g 1 * brick_at g 2 z in
    let start : first_brick g 0 z ≡ bricks_along g 0 * slice = ap (λ n. bricks_along g 0 * (n + slice)) none ∙ omega arith in
    let here : first_brick g y z ≡ bricks_along g 0 * at + bricks_along g 0 * slice = omega arith in
    (omega arith, omega arith)

-- a slice's notes say it of a row of its bricks
pub row_marked : (v : Leveled) (is : IsGrid v.grid) (slice : ActiveSlice) (y z first start : ℕ) → y < v.grid.ny → z < v.grid.nz → IsMarkedSlice v slice
    → slice.first ≡ first_brick v.grid 0 z → first ≡ first_brick v.grid y z → start ≡ first - slice.first
    → AreMarked v (record { y = y; z = z; first = first; start = start; slice = slice })
row_marked v is slice y z first start hy hz are begin e at =
    let within = row_in_slice v is y z hy hz in
    let few_x : bricks_along v.grid 0 ≤ 129 = let h = is.x.most in omega arith in
    let few_y : bricks_along v.grid 1 ≤ 129 = let h = is.y.most in omega arith in
    let low = within.0 in
    let room = within.1 in
    record {
      slice = are;
      next = λ x less known.
          let same : slice.first + (start + x) ≡ first + x = omega arith in
          subst (λ n. IsNextFrom v.grid (heights v) n (get_or slice.next_from (start + x) 0)) same
          (are.each (start + x) (omega arith) (subst (λ n. n < brick_count v.grid) (sym same) known));
      start = start_low (bricks_along v.grid 0) (bricks_along v.grid 1) start few_x few_y (omega arith);
      rows = λ y2 z2 hy2 hz2 ey ez. e ∙ eighths v.grid y z y2 z2 (sym ey) (sym ez);
    }
  where
    start_low : (a b start : ℕ) → a ≤ 129 → b ≤ 129 → start + a ≤ a * b → start ≤ 129 * 128
    start_low a b start fa fb h =
        let l : a * b ≤ a * 129 = mul-le-mul_left a fb in omega arith

    eighths : (g : Grid) (y z y2 z2 : ℕ) → y / 8 ≡ y2 / 8 → z / 8 ≡ z2 / 8 → first_brick g y z ≡ first_brick g y2 z2
    eighths g y z y2 z2 ey ez =
        ap (λ n. bricks_along g 0 * (min n (bricks_along g 1 - 1) + bricks_along g 1 * min (z / 8) (bricks_along g 2 - 1))) ey
        ∙ ap (λ n. bricks_along g 0 * (min (y2 / 8) (bricks_along g 1 - 1) + bricks_along g 1 * min n (bricks_along g 2 - 1))) ez

-- they say the same of another row of points that the bricks hold
pub marked_at : (v : Leveled) (row : ActiveRow) (y z : ℕ) → y / 8 ≡ row.y / 8 → z / 8 ≡ row.z / 8 → AreMarked v row → AreMarked v (record row { y = y; z = z })
marked_at v row y z same_y same_z marks = record {
  slice = marks.slice;
  next = marks.next;
  start = marks.start;
  rows = λ y2 z2 hy hz ey ez. marks.rows y2 z2 hy hz (ey ∙ same_y) (ez ∙ same_z);
}

-- the number of its first brick
pub first_is : (v : Leveled) (row : ActiveRow) → row.y < v.grid.ny → row.z < v.grid.nz → AreMarked v row → row.first ≡ first_brick v.grid row.y row.z
first_is v row hy hz marks = marks.rows row.y row.z hy hz refl refl

-- as the row itself has it
pub first_of : (v : Leveled) (active : ActiveRow) (row : PointRow) → AreMarked v active → IsPointRow v.grid row → row.y ≡ active.y → row.z ≡ active.z
    → active.first ≡ row.bricks.first
first_of v active row marks is same_y same_z =
    marks.rows row.y row.z is.y_low is.z_low (ap (λ n. n / 8) same_y) (ap (λ n. n / 8) same_z) ∙ sym is.bricks.first

-- what is known at the coordinates of a row, at the same coordinates
pub at_row : (P : ℕ → ℕ → Type 0) (y z a b : ℕ) → y ≡ a → z ≡ b → P y z → P a b
at_row P y z a b ey ez h = subst (λ n. P n b) ey (subst (λ n. P y n) ez h)

-- a slice has at most so many bricks
pub few_in_slice : (a b : ℕ) → a ≤ 129 → b ≤ 129 → a * b ≤ 16641
few_in_slice a b x y = let l : a * b ≤ 129 * b = mul-le-mul_right b x in omega arith
