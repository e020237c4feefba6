-- Lines of vertices in parts.
use Rattle.std.proofs.Common.{◌≡◌, ◌≢◌, ℕ, zero, suc, ◌+◌, ◌-◌, ◌*◌, ◌/◌, ◌%◌, ◌<◌, ◌≤◌, ◌^◌, Bool, true, false, cond, if◌then◌else◌, eqb, List, [], ◌∷◌, ◌++◌, length, decimal, pos, ◌-ℤ◌, ◌⊎◌, inl, inr, refl, sym, ap, subst, ◌∙◌, append_assoc, arith, eq-zero-or-pos, slice_index, slice_index_or, slice_set}
use Rattle.std.proofs.lemmas.Bool.{eqb-true}
use Rattle.std.proofs.lemmas.Fmt.{decimal_digit}
use Rattle.std.proofs.lemmas.Int.{ints}
use Rattle.std.proofs.lemmas.List.{get_or-set_other, get_or-set_same}
use Rattle.std.proofs.lemmas.Bool.Decides.{eqb_tells}
use Rattle.iso_defs.specs.Place.{Position}
use Rattle.iso_defs.specs.Texts.{decimal_text, line, printed, thousandths, three_digits}
use Rattle.mesh_text.proofs.Pieces.{ten_digits_most}
use Rattle.mesh_lines.specs.Lines.{origin_coordinate, vertex_letter, vertex_line}
use Rattle.mesh_text.specs.Pieces.{parts_line, piece_text, thirds_line}
use Rattle.mesh_text.specs.declared.piece.Piece.{Piece}
use Rattle.mesh_lines.specs.RowLines.{AreCentreTexts, AreFronts, AreTexts, AreWholes, IsPiece, RowPlace, centre_at, edge_at, front_text, is_layer, no_piece, middle_text, size_in_pad, tail_text, whole_at, whole_size, whole_text, y_text, z_text, zeros}
use Rattle.mesh_lines.specs.declared.row_texts.RowParts.{RowParts}
use Rattle.mesh_lines.specs.declared.style.Origin.{Origin}
use Rattle.mesh_lines.specs.declared.style.Origin.TheVariants.{Volume, Pad, Window, PaddedSlab}
use Rattle.mesh_lines.specs.declared.style.Style.{Style}

-- a sign and a number in a pad are not long
pad_sign_and_digits : (n : ℕ) → size_in_pad n < 10 ^ 10 → (if eqb n 0 then 1 else 0) + length (decimal (size_in_pad n)) ≤ 10
pad_sign_and_digits n low = layer (eqb n 0) low
  where
    layer : (b : Bool) → (if b then 1 else n - 1) < 10 ^ 10 → (if b then 1 else 0) + length (decimal (if b then 1 else n - 1)) ≤ 10
    layer true low = omega (arith, ap length (decimal_digit 1 (omega arith)))
    layer false low = omega (arith, ten_digits_most (n - 1) low)

-- a sign and a number are not long
pub sign_and_digits : (origin : Origin) (axis n : ℕ) → whole_size origin axis n < 10 ^ 10 → (if is_layer origin axis n then 1 else 0) + length (decimal (whole_size origin axis n)) ≤ 10
sign_and_digits Volume axis n low = omega (arith, ten_digits_most n low)
sign_and_digits (Window at) axis n low = omega (arith, ten_digits_most (slice_index (at.x ∷ at.y ∷ at.z ∷ []) axis + n) low)
sign_and_digits Pad axis n low = pad_sign_and_digits n low
sign_and_digits (PaddedSlab below) axis n low = either (eqb axis 2) low
  where
    either : (b : Bool) → (if b then below + n else size_in_pad n) < 10 ^ 10
        → (if (if b then false else eqb n 0) then 1 else 0) + length (decimal (if b then below + n else size_in_pad n)) ≤ 10
    either true low = omega (arith, ten_digits_most (below + n) low)
    either false low = pad_sign_and_digits n low

-- a whole number and thousandths beyond it
split_text : (n r : ℕ) → r < 1000 → thousandths (1000 * n + r) ≡ (decimal n ++ 46 ∷ []) ++ three_digits r
split_text n r low =
    let whole : (1000 * n + r) / 1000 ≡ n = omega arith in
    let rest : (1000 * n + r) % 1000 ≡ r = omega arith in
    ap (λ (q : ℕ). decimal q ++ 46 ∷ three_digits ((1000 * n + r) % 1000)) whole
    ∙ (ap (λ (q : ℕ). decimal n ++ 46 ∷ three_digits q) rest ∙ sym (append_assoc (decimal n) (46 ∷ []) (three_digits r)))

-- the same in a pad, where no thousandths stand beyond the layer
pad_text : (n r : ℕ) (b : Bool) → r < 1000 → (b ≡ false) ⊎ (r ≡ 0) → eqb n 0 ≡ b
    → decimal_text (printed true (1000 * n + r)) ≡ (cond b (45 ∷ []) [] ++ (decimal (if b then 1 else n - 1) ++ 46 ∷ [])) ++ three_digits r
pad_text n r true low (inl e) is = absurd (cc)
pad_text n r true low (inr e) is =
    let none : 1000 * n + r ≡ 0 = omega (arith, e, eqb-true n 0 is) in
    ap (λ (m : ℕ). decimal_text (printed true m)) none
    ∙ (ap (λ (l : List ℕ). 45 ∷ l) (split_text 1 0 (omega arith)) ∙ ap (λ (m : ℕ). (45 ∷ (decimal 1 ++ 46 ∷ [])) ++ three_digits m) (sym e))
pad_text n r false low side is =
    let least : 0 < n = positive (eqb_tells n 0) in
    let moved : pos (1000 * n + r) -ℤ pos 1000 ≡ pos (1000 * (n - 1) + r) = omega (arith, ints) in
    ap decimal_text moved ∙ split_text (n - 1) r low
  where
    positive : ((eqb n 0 ≡ true) × (n ≡ 0)) ⊎ ((eqb n 0 ≡ false) × (n ≢ 0)) → 0 < n
    positive (inl e) = absurd (cc)
    positive (inr e) = omega (arith, e.1)

-- and further on in a larger volume
further_text : (below n r : ℕ) → r < 1000 → thousandths (1000 * below + (1000 * n + r)) ≡ (decimal (below + n) ++ 46 ∷ []) ++ three_digits r
further_text below n r low =
    let sum : 1000 * below + (1000 * n + r) ≡ 1000 * (below + n) + r = omega arith in
    ap thousandths sum ∙ split_text (below + n) r low

-- a coordinate, as it is printed, is its whole part and its decimals, where its place has none or does not lie in a pad's layer
pub coordinate_is : (origin : Origin) (axis n r : ℕ) → r < 1000 → (is_layer origin axis n ≡ false) ⊎ (r ≡ 0)
    → decimal_text (origin_coordinate origin axis (1000 * n + r)) ≡ whole_text origin axis n ++ three_digits r
coordinate_is Volume axis n r low side = split_text n r low
coordinate_is Pad axis n r low side = pad_text n r (eqb n 0) low side refl
coordinate_is (Window at) axis n r low side =
    further_text (slice_index (at.x ∷ at.y ∷ at.z ∷ []) axis) n r low
coordinate_is (PaddedSlab below) axis n r low side = either (eqb axis 2) side
  where
    either : (b : Bool) → ((if b then false else eqb n 0) ≡ false) ⊎ (r ≡ 0)
        → decimal_text (if b then pos (1000 * below + (1000 * n + r)) else printed true (1000 * n + r))
        ≡ (cond (if b then false else eqb n 0) (45 ∷ []) [] ++ (decimal (if b then below + n else size_in_pad n) ++ 46 ∷ [])) ++ three_digits r
    either true side = further_text below n r low
    either false side = pad_text n r (eqb n 0) low side refl

-- the parts of a line of three numbers one behind another
flat : (l x y z a b c p q r : List ℕ) → x ≡ a ++ p → y ≡ b ++ q → z ≡ c ++ r
    → line (l ++ (x ++ 32 ∷ (y ++ 32 ∷ z))) ≡ (l ++ a) ++ (p ++ ((32 ∷ b) ++ (q ++ ((32 ∷ c) ++ (r ++ 10 ∷ [])))))
flat l x y z a b c p q r e f g = rw (e, f, g) (simp append_assoc)

-- the line of a vertex on an edge along an axis in its parts
pub edge_parts : (style : Style) (x y z axis r : ℕ) → axis < 3 → r < 1000 → is_layer style.origin axis (whole_at axis x y z) ≡ false
    → front_text style x ++ (middle_text style.origin axis y z ++ (three_digits r ++ tail_text style.origin axis y z))
    ≡ vertex_line style (0, (1000 * x + (if eqb 0 axis then r else 0), 1000 * y + (if eqb 1 axis then r else 0), 1000 * z + (if eqb 2 axis then r else 0)))
unfolding vertex_line
edge_parts style x y z zero r known low side =
    let o : Origin = style.origin in
    sym (flat (vertex_letter style.format) _ _ _ (whole_text o 0 x) (whole_text o 1 y) (whole_text o 2 z) (three_digits r) zeros zeros
    (coordinate_is o 0 x r low (inl side)) (coordinate_is o 1 y 0 (omega arith) (inr refl)) (coordinate_is o 2 z 0 (omega arith) (inr refl)))
edge_parts style x y z (suc zero) r known low side =
    let o : Origin = style.origin in
    sym (flat (vertex_letter style.format) _ _ _ (whole_text o 0 x) (whole_text o 1 y) (whole_text o 2 z) zeros (three_digits r) zeros
    (coordinate_is o 0 x 0 (omega arith) (inr refl)) (coordinate_is o 1 y r low (inl side)) (coordinate_is o 2 z 0 (omega arith) (inr refl)))
edge_parts style x y z (suc (suc zero)) r known low side =
    let o : Origin = style.origin in
    ap (λ (l : List ℕ). front_text style x ++ (zeros ++ 32 ∷ l)) (append_assoc (whole_text o 1 y) (zeros ++ z_text o z) (three_digits r ++ line []))
    ∙ sym (flat (vertex_letter style.format) _ _ _ (whole_text o 0 x) (whole_text o 1 y) (whole_text o 2 z) zeros zeros (three_digits r)
    (coordinate_is o 0 x 0 (omega arith) (inr refl)) (coordinate_is o 1 y 0 (omega arith) (inr refl)) (coordinate_is o 2 z r low (inl side)))
edge_parts style x y z (suc (suc (suc n))) r known low side = absurd (omega arith)

-- the line of a centre in its parts
thirds : (f p b q c r : List ℕ) → line ((f ++ p) ++ ((b ++ q) ++ (c ++ r))) ≡ f ++ (p ++ (b ++ (q ++ (c ++ (r ++ 10 ∷ [])))))
thirds f p b q c r = simp append_assoc

centre_parts : (style : Style) (x y z a b c : ℕ) → a < 1000 → b < 1000 → c < 1000
    → (is_layer style.origin 0 x ≡ false) ⊎ (a ≡ 0) → (is_layer style.origin 1 y ≡ false) ⊎ (b ≡ 0) → (is_layer style.origin 2 z ≡ false) ⊎ (c ≡ 0)
    → line ((front_text style x ++ three_digits a) ++ ((y_text style.origin y ++ three_digits b) ++ (z_text style.origin z ++ three_digits c)))
    ≡ vertex_line style (0, (1000 * x + a, 1000 * y + b, 1000 * z + c))
unfolding vertex_line
centre_parts style x y z a b c la lb lc sx sy sz =
    let o : Origin = style.origin in
    thirds (front_text style x) (three_digits a) (y_text o y) (three_digits b) (z_text o z) (three_digits c)
    ∙ sym (flat (vertex_letter style.format) _ _ _ (whole_text o 0 x) (whole_text o 1 y) (whole_text o 2 z) (three_digits a) (three_digits b) (three_digits c)
    (coordinate_is o 0 x a la sx) (coordinate_is o 1 y b lb sy) (coordinate_is o 2 z c lc sz))

-- the front of one more point
pub fronts_more : (style : Style) (old : List (Piece 16)) (n : ℕ) (piece : Piece 16) → n < length old → AreFronts style n old → IsPiece piece (front_text style n) 14
    → AreFronts style (n + 1) (slice_set old n piece)
fronts_more style old n piece room each one x low =
    elim (eq-zero-or-pos (n - x)) [
      | inl z ↦ let e : x ≡ n = omega (arith, low) in
          let is : slice_index_or (slice_set old n piece) x no_piece ≡ piece = ap (λ (k : ℕ). slice_index_or (slice_set old n piece) k no_piece) e ∙ get_or-set_same old n piece no_piece room in
          subst (λ (p : Piece 16). IsPiece p (front_text style x) 14) (sym is) (subst (λ (k : ℕ). IsPiece piece (front_text style k) 14) (sym e) one)
      | inr g ↦
          let is : slice_index_or (slice_set old n piece) x no_piece ≡ slice_index_or old x no_piece = get_or-set_other old n x piece no_piece (λ e. omega (arith, e, g)) in
          subst (λ (p : Piece 16). IsPiece p (front_text style x) 14) (sym is) (each x (omega arith))
    ]

-- equal parts make equal lines
equal_parts : (a b c d p q r : List ℕ) → a ≡ p → b ≡ q → d ≡ r → a ++ (b ++ (c ++ d)) ≡ p ++ (q ++ (c ++ r))
equal_parts a b c d p q r e f g = rw (e, f, g) refl

equal_thirds : (a b c d e f p q r : List ℕ) → a ≡ p → c ≡ q → e ≡ r → line ((a ++ b) ++ ((c ++ d) ++ (e ++ f))) ≡ line ((p ++ b) ++ ((q ++ d) ++ (r ++ f)))
equal_thirds a b c d e f p q r x y z = rw (x, y, z) refl

-- the text of a coordinate or of the next one
whole_is : (origin : Origin) (axis n : ℕ) (pieces : List (Piece 16)) → AreWholes origin axis n pieces → (k : ℕ) → k ≤ 1
    → IsPiece (slice_index_or pieces k no_piece) (32 ∷ whole_text origin axis (n + k)) 12
whole_is origin axis n pieces h zero few =
    let same : n ≡ n + 0 = omega arith in
    subst (λ (m : ℕ). IsPiece (slice_index_or pieces 0 no_piece) (32 ∷ whole_text origin axis m) 12) same h.lower
whole_is origin axis n pieces h (suc zero) few = h.upper
whole_is origin axis n pieces h (suc (suc k)) few = absurd (omega (arith, few))

-- a place of 1000 is at the next whole coordinate, where it has no decimals
near_side : (origin : Origin) (axis n p k r : ℕ) → p ≤ 1000 → k ≡ p / 1000 → r ≡ p % 1000 → is_layer origin axis n ≡ false → (is_layer origin axis (n + k) ≡ false) ⊎ (r ≡ 0)
near_side origin axis n p k r low upper over inside =
    elim (eq-zero-or-pos (1000 - p)) [
      | inl z ↦ inr (omega (arith, z, low, over))
      | inr g ↦
          let same : n ≡ n + k = omega (arith, g, upper) in
          inl (subst (λ (m : ℕ). is_layer origin axis m ≡ false) same inside)
    ]

-- equal places have equal lines
equal_places : (style : Style) (a b c p q r : ℕ) → a ≡ p → b ≡ q → c ≡ r → vertex_line style (0, (a, b, c)) ≡ vertex_line style (0, (p, q, r))
equal_places style a b c p q r e f g = rw (e, f, g) refl

-- the line of a vertex at a place beyond a point of a row, out of the texts of whole coordinates
module _ (row : RowPlace) (fronts ys zs : List (Piece 16)) (fs : AreFronts row.style (row.count + 1) fronts)
    (ws : AreWholes row.style.origin 1 row.y ys) (vs : AreWholes row.style.origin 2 row.z zs) where
  near_line : (x a b c i j k p q r : ℕ) → x < row.count → a ≤ 1000 → b ≤ 1000 → c ≤ 1000
      → i ≡ a / 1000 → j ≡ b / 1000 → k ≡ c / 1000 → p ≡ a % 1000 → q ≡ b % 1000 → r ≡ c % 1000
      → (is_layer row.style.origin 0 (x + i) ≡ false) ⊎ (p ≡ 0) → (is_layer row.style.origin 1 (row.y + j) ≡ false) ⊎ (q ≡ 0) → (is_layer row.style.origin 2 (row.z + k) ≡ false) ⊎ (r ≡ 0)
      → line ((piece_text (slice_index_or fronts (x + i) no_piece) ++ three_digits p)
      ++ ((piece_text (slice_index_or ys j no_piece) ++ three_digits q) ++ (piece_text (slice_index_or zs k no_piece) ++ three_digits r)))
      ≡ vertex_line row.style (0, (1000 * x + a, 1000 * row.y + b, 1000 * row.z + c))
  near_line x a b c i j k p q r low la lb lc xi yj zk xp yq zr sx sy sz =
      let at_x : 1000 * (x + i) + p ≡ 1000 * x + a = omega (arith, xi, xp) in
      let at_y : 1000 * (row.y + j) + q ≡ 1000 * row.y + b = omega (arith, yj, yq) in
      let at_z : 1000 * (row.z + k) + r ≡ 1000 * row.z + c = omega (arith, zk, zr) in
      equal_thirds _ (three_digits p) _ (three_digits q) _ (three_digits r) _ _ _ (fs (x + i) (omega (arith, low, la, xi))).has
      (whole_is row.style.origin 1 row.y ys ws j (omega (arith, lb, yj))).has (whole_is row.style.origin 2 row.z zs vs k (omega (arith, lc, zk))).has
      ∙ (centre_parts row.style (x + i) (row.y + j) (row.z + k) p q r (omega (arith, xp)) (omega (arith, yq)) (omega (arith, zr)) sx sy sz
      ∙ equal_places row.style _ _ _ _ _ _ at_x at_y at_z)

-- a step to the upper end of an edge in thousandths
step_is : (b : Bool) → (if b then 1 else 0) ≡ (if b then 1000 else 0) / 1000
step_is true = omega arith
step_is false = omega arith

step_over : (b : Bool) → 0 ≡ (if b then 1000 else 0) % 1000
step_over true = omega arith
step_over false = omega arith

step_low : (b : Bool) → (if b then 1000 else 0) ≤ 1000
step_low true = omega arith
step_low false = omega arith

-- the line of the vertex at the upper end of an edge
pub upper_line : (row : RowPlace) (fronts ys zs : List (Piece 16)) (parts : RowParts) → AreTexts row fronts ys zs parts
    → (e x i j k : ℕ) → x ≡ e / 3 → i ≡ (if eqb 0 (e % 3) then 1 else 0) → j ≡ (if eqb 1 (e % 3) then 1 else 0) → k ≡ (if eqb 2 (e % 3) then 1 else 0) → e < 3 * row.count
    → thirds_line (slice_index_or fronts (x + i) no_piece) (slice_index_or ys j no_piece) (slice_index_or zs k no_piece) (0 ∷ 0 ∷ 0 ∷ [])
    ≡ vertex_line row.style (0, edge_at row e 1000)
upper_line row fronts ys zs parts h e x i j k here di dj dk low =
    let at : ℕ → ℕ = λ axis. if eqb axis (e % 3) then 1000 else 0 in
    subst (λ (q : ℕ). thirds_line (slice_index_or fronts (x + i) no_piece) (slice_index_or ys j no_piece) (slice_index_or zs k no_piece) (0 ∷ 0 ∷ 0 ∷ [])
    ≡ vertex_line row.style (0, (1000 * q + at 0, 1000 * row.y + at 1, 1000 * row.z + at 2))) here
    (near_line row fronts ys zs h.fronts_are h.y_texts_are h.z_texts_are x (at 0) (at 1) (at 2) i j k 0 0 0 (omega (arith, here, low))
    (step_low (eqb 0 (e % 3))) (step_low (eqb 1 (e % 3))) (step_low (eqb 2 (e % 3)))
    (di ∙ step_is (eqb 0 (e % 3))) (dj ∙ step_is (eqb 1 (e % 3))) (dk ∙ step_is (eqb 2 (e % 3)))
    (step_over (eqb 0 (e % 3))) (step_over (eqb 1 (e % 3))) (step_over (eqb 2 (e % 3))) (inr refl) (inr refl) (inr refl))

module _ (row : RowPlace) (fronts ys zs : List (Piece 16)) (parts : RowParts) (h : AreTexts row fronts ys zs parts) where
  abbrev front : ℕ → Piece 16
  front x = slice_index_or fronts x no_piece

  abbrev parts_at : List (Piece 32) → ℕ → Piece 32
  parts_at pieces axis = slice_index_or pieces axis no_piece

  -- the line of the vertex on an edge
  pub edge_line : (e p axis x : ℕ) → axis ≡ e % 3 → x ≡ e / 3 → e < 3 * row.count → p < 1000 → slice_index parts.least axis ≤ e
      → parts_line (front x) (parts_at parts.middles axis) p (parts_at parts.tails axis) ≡ vertex_line row.style (0, edge_at row e p)
  edge_line e p axis x along here low place least =
      let known : axis < 3 = omega (arith, along) in
      let inside : is_layer row.style.origin axis (whole_at axis x row.y row.z) ≡ false
      = subst (λ (k : ℕ). is_layer row.style.origin axis (whole_at axis k row.y row.z) ≡ false) (sym here) (h.parts_are.least axis e known (omega (arith, low, h.count)) least) in
      let whole = equal_parts _ _ (three_digits p) _ _ _ _ (h.fronts_are x (omega (arith, here, low))).has (h.parts_are.middles axis known).has (h.parts_are.tails axis known).has
      ∙ edge_parts row.style x row.y row.z axis p known place inside in
      let text : List ℕ = parts_line (front x) (parts_at parts.middles axis) p (parts_at parts.tails axis) in
      let place_at : ℕ → ℕ → Position
      = λ q k. (1000 * q + (if eqb 0 k then p else 0), 1000 * row.y + (if eqb 1 k then p else 0), 1000 * row.z + (if eqb 2 k then p else 0)) in
      subst (λ (q : ℕ). text ≡ vertex_line row.style (0, place_at q (e % 3))) here (subst (λ (k : ℕ). text ≡ vertex_line row.style (0, place_at x k)) along whole)

-- the lines of centres
module _ (row : RowPlace) (fronts ys zs : List (Piece 16)) (inside : ℕ) (h : AreCentreTexts row fronts ys zs inside) where
  -- no coordinate of the cell is in a pad's layer
  clear : (x : ℕ) → x < row.count → inside ≤ 3 * x
      → (is_layer row.style.origin 0 x ≡ false) × ((is_layer row.style.origin 1 row.y ≡ false) × (is_layer row.style.origin 2 row.z ≡ false))
  clear x low begun =
      let few : 3 * x < 3078 = omega (arith, low, h.count) in
      let third : x ≡ 3 * x / 3 = omega arith in (
        ap (is_layer row.style.origin 0) third ∙ h.inside_is 0 (3 * x) (omega arith) few begun,
        (h.inside_is 1 (3 * x) (omega arith) few begun, h.inside_is 2 (3 * x) (omega arith) few begun),
      )

  -- in a cell, below all its upper sides
  pub centre_line : (x : ℕ) (at : List ℕ) → x < row.count → inside ≤ 3 * x → slice_index at 0 < 1000 → slice_index at 1 < 1000 → slice_index at 2 < 1000
      → thirds_line (slice_index_or fronts x no_piece) (slice_index_or ys 0 no_piece) (slice_index_or zs 0 no_piece) at ≡ vertex_line row.style (0, centre_at row x at)
  centre_line x at low begun a b c =
      let out = clear x low begun in
      equal_thirds _ (three_digits (slice_index at 0)) _ (three_digits (slice_index at 1)) _ (three_digits (slice_index at 2)) _ _ _
      (h.fronts_are x (omega (arith, low))).has h.y_texts_are.lower.has h.z_texts_are.lower.has
      ∙ centre_parts row.style x row.y row.z (slice_index at 0) (slice_index at 1) (slice_index at 2) a b c (inl out.0) (inl out.1.0) (inl out.1.1)

  -- and at some of them
  pub near_centre_line : (x : ℕ) (at rest : List ℕ) → x < row.count → inside ≤ 3 * x → slice_index at 0 ≤ 1000 → slice_index at 1 ≤ 1000 → slice_index at 2 ≤ 1000
      → slice_index rest 0 ≡ slice_index at 0 % 1000 → slice_index rest 1 ≡ slice_index at 1 % 1000 → slice_index rest 2 ≡ slice_index at 2 % 1000
      → thirds_line (slice_index_or fronts (x + slice_index at 0 / 1000) no_piece) (slice_index_or ys (slice_index at 1 / 1000) no_piece)
      (slice_index_or zs (slice_index at 2 / 1000) no_piece) rest ≡ vertex_line row.style (0, centre_at row x at)
  near_centre_line x at rest low begun la lb lc p q r =
      let out = clear x low begun in
      let o : Origin = row.style.origin in
      near_line row fronts ys zs h.fronts_are h.y_texts_are h.z_texts_are x (slice_index at 0) (slice_index at 1) (slice_index at 2) _ _ _ _ _ _ low la lb lc refl refl refl p q r
      (near_side o 0 x (slice_index at 0) _ _ la refl p out.0) (near_side o 1 row.y (slice_index at 1) _ _ lb refl q out.1.0) (near_side o 2 row.z (slice_index at 2) _ _ lc refl r out.1.1)
