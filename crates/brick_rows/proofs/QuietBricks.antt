-- Cells of bricks that are not active have no loops.
use Rattle.std.proofs.Common.{◌≡◌, ℕ, zero, suc, ◌+◌, ◌*◌, ◌/◌, ◌%◌, ◌<◌, Bool, true, false, ◌&&◌, List, [], ◌∷◌, refl, sym, ◌∙◌, ap, arith, inl, inr}
use Rattle.std.specs.List.{list_any}
use Rattle.std.proofs.lemmas.Bool.{cases_Bool}
use Rattle.iso_defs.specs.Lists.{below}
use Rattle.iso_defs.specs.Grid.{Grid, differ, is_above}
use Rattle.iso_defs.specs.Face.{holds_at}
use Rattle.iso_defs.specs.Cell.{case_loops, cell_joined, cell_signs, corner_point}
use Rattle.iso_defs.specs.Bricks.{brick_cell, brick_point, has_cell, in_brick, is_active, is_active_cell, is_mixed}
use Rattle.triangle_laws.proofs.Lists.{any_in}
use Rattle.mesh_laws.proofs.Cells.{range_in}
use Rattle.flat_mesh.specs.Lattice.{Leveled, heights}
use Rattle.flat_mesh.specs.Faces.{loops_at}

pub clash : {A : Type 0} (b : Bool) → b ≡ true → b ≡ false → A
clash true e f = absurd (cc)
clash false e f = absurd (cc)

none_of : (p : ℕ → Bool) (n k : ℕ) → list_any p (below n) ≡ false → k < n → p k ≡ false
none_of p n k none low = elim (cases_Bool (p k)) [
  | inr f ↦ f
  | inl t ↦ clash (list_any p (below n)) (any_in p (below n) k (range_in 0 n k (omega arith) (omega arith)) t) none
]

same_sign : (a b : Bool) → differ a b ≡ false → b ≡ a
same_sign true true h = refl
same_sign true false h = absurd (cc)
same_sign false true h = absurd (cc)
same_sign false false h = refl

alike : (b : Bool) (joined : List Bool) → case_loops (b ∷ b ∷ b ∷ b ∷ b ∷ b ∷ b ∷ b ∷ []) joined ≡ []
alike true joined = refl
alike false joined = refl

no_loops : (a b c d e f g h : Bool) (joined : List Bool) → is_mixed (a ∷ b ∷ c ∷ d ∷ e ∷ f ∷ g ∷ h ∷ []) ≡ false
    → case_loops (a ∷ b ∷ c ∷ d ∷ e ∷ f ∷ g ∷ h ∷ []) joined ≡ []
no_loops a b c d e f g h joined none =
    let signs : List Bool = a ∷ b ∷ c ∷ d ∷ e ∷ f ∷ g ∷ h ∷ [] in
    let at = λ (k : ℕ) (low : k < 8). none_of (λ k. differ (holds_at signs 0) (holds_at signs k)) 8 k none low in
    rw (
      same_sign a b (at 1 (omega arith)),
      same_sign a c (at 2 (omega arith)),
      same_sign a d (at 3 (omega arith)),
      same_sign a e (at 4 (omega arith)),
      same_sign a f (at 5 (omega arith)),
      same_sign a g (at 6 (omega arith)),
      same_sign a h (at 7 (omega arith)),
    ) (alike a joined)

right_of_and : (a b : Bool) → a ≡ true → (a && b) ≡ false → b ≡ false
right_of_and true b e h = h
right_of_and false b e h = absurd (cc)

-- the cell at offsets x, y, z in a brick that is not active
pub unmixed_cell : (v : Leveled) (brick x y z q : ℕ) → is_active v.grid (heights v) brick ≡ false → x < 8 → y < 8 → z < 8
    → in_brick v.grid brick (x + 1) (y + 1) (z + 1) ≡ true → brick_point v.grid brick x y z ≡ q → is_mixed (cell_signs v.grid (heights v) q) ≡ false
unmixed_cell v brick x y z q none hx hy hz there same =
    let g : Grid = v.grid in
    let local : ℕ = x + 8 * (y + 8 * z) in
    let ex : local % 8 ≡ x = omega arith in
    let ey : local / 8 % 8 ≡ y = omega arith in
    let ez : local / 64 ≡ z = omega arith in
    let cell : brick_cell g brick local ≡ q
    = ap (λ n. brick_point g brick n (local / 8 % 8) (local / 64)) ex ∙ (ap (λ n. brick_point g brick x n (local / 64)) ey ∙ (ap (brick_point g brick x y) ez ∙ same)) in
    let has : has_cell g brick local ≡ true
    = ap (λ n. in_brick g brick (n + 1) (local / 8 % 8 + 1) (local / 64 + 1)) ex ∙ (ap (λ n. in_brick g brick (x + 1) (n + 1) (local / 64 + 1)) ey
    ∙ (ap (λ n. in_brick g brick (x + 1) (y + 1) (n + 1)) ez ∙ there)) in
    let cell_quiet : is_active_cell g (heights v) brick local ≡ false = none_of (is_active_cell g (heights v) brick) 512 local none (omega arith) in
    ap (λ q. is_mixed (cell_signs g (heights v) q)) (sym cell) ∙ right_of_and (has_cell g brick local) (is_mixed (cell_signs g (heights v) (brick_cell g brick local))) has cell_quiet

-- a cell without a crossing edge has no loops
pub unmixed_loops : (v : Leveled) (q : ℕ) → is_mixed (cell_signs v.grid (heights v) q) ≡ false → loops_at v q ≡ []
unfolding loops_at
unmixed_loops v q unmixed =
    let at : ℕ → Bool = λ c. is_above (heights v (corner_point v.grid q c)) in
    no_loops (at 0) (at 1) (at 2) (at 3) (at 4) (at 5) (at 6) (at 7) (cell_joined v.grid (heights v) q) unmixed

pub quiet_cell : (v : Leveled) (brick x y z q : ℕ) → is_active v.grid (heights v) brick ≡ false → x < 8 → y < 8 → z < 8
    → in_brick v.grid brick (x + 1) (y + 1) (z + 1) ≡ true → brick_point v.grid brick x y z ≡ q → loops_at v q ≡ []
quiet_cell v brick x y z q none hx hy hz there same = unmixed_loops v q (unmixed_cell v brick x y z q none hx hy hz there same)

-- the corners of a cell without a crossing edge are alike
module _ (v : Leveled) (q : ℕ) (none : is_mixed (cell_signs v.grid (heights v) q) ≡ false) where
  at : ℕ → Bool
  at c = is_above (heights v (corner_point v.grid q c))

  signs : List Bool
  signs = at 0 ∷ at 1 ∷ at 2 ∷ at 3 ∷ at 4 ∷ at 5 ∷ at 6 ∷ at 7 ∷ []

  alike_to : (c : ℕ) → c < 8 → differ (holds_at signs 0) (holds_at signs c) ≡ false
  unfolding at signs
  alike_to c low = none_of (λ k. differ (holds_at signs 0) (holds_at signs k)) 8 c none low

  pub corner_alike : (c : ℕ) → c < 8 → is_above (heights v (corner_point v.grid q c)) ≡ is_above (heights v (corner_point v.grid q 0))
  unfolding at signs
  corner_alike zero low = refl
  corner_alike (suc zero) low = same_sign (at 0) (at 1) (alike_to 1 low)
  corner_alike (suc (suc zero)) low = same_sign (at 0) (at 2) (alike_to 2 low)
  corner_alike (suc (suc (suc zero))) low = same_sign (at 0) (at 3) (alike_to 3 low)
  corner_alike (suc (suc (suc (suc zero)))) low = same_sign (at 0) (at 4) (alike_to 4 low)
  corner_alike (suc (suc (suc (suc (suc zero))))) low = same_sign (at 0) (at 5) (alike_to 5 low)
  corner_alike (suc (suc (suc (suc (suc (suc zero)))))) low = same_sign (at 0) (at 6) (alike_to 6 low)
  corner_alike (suc (suc (suc (suc (suc (suc (suc zero))))))) low = same_sign (at 0) (at 7) (alike_to 7 low)
  corner_alike (suc (suc (suc (suc (suc (suc (suc (suc c)))))))) low = absurd (omega arith)
