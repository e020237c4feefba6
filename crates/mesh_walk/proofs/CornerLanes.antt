-- The slots of the corners of a cell's triangles, taken from a table in lanes.
use Rattle.std.proofs.Common.{◌≡◌, ℕ, ◌+◌, ◌-◌, ◌%◌, ◌<◌, ◌≤◌, All, List, [], ◌∷◌, ◌++◌, map, take, drop, length, get_or, replicate, refl, sym, ◌∙◌, ap, ap₂, arith, append_assoc, inl, inr, set, subst, zero, suc, if◌then◌else◌}
use Rattle.std.specs.Simd.Lanes.{chunk, put_chunk, zip2}
use Rattle.std.proofs.Math.Seq.{drop-drop, take-add, take-append-add, take-take}
use Rattle.std.proofs.lemmas.Bool.{cases_lt, le-ltb, lt-ltb}
use Rattle.std.proofs.lemmas.List.{drop-take, drop-map, length-drop, length-map, length-set, length-take-le, map-append, take-map, take_more_set}
use Rattle.std.proofs.lemmas.List.Elements.{All-tail}
use Rattle.std.proofs.lemmas.Simd.{map-map, put_chunk_whole, zip2_splat}
use Rattle.std.proofs.lemmas.Slice.{take-put_mid}
use borrow.Rule.Slice.PartMut.{mid_of, put_mid}
use Rattle.case_faces.specs.Faces.{all_corners, case_corners, corners_to}
use Rattle.case_faces.proofs.Corners.{corners_at, corners_upto}
use Rattle.case_faces.proofs.Tables.{all_are, all_count, all_low, corners_low}
use Rattle.mesh_laws.proofs.Apart.{by_twelve}
use Rattle.iso_defs.specs.Lists.{below}
use Rattle.mesh_walk.specs.Listed.{HasCorners}
use Rattle.mesh_walk.specs.Slots.{corner_slot, edge_slot}
use Rattle.mesh_walk.proofs.SlotRows.{slot_low}

-- a sum of two slots in a lane
abbrev pub lane_sum : ℕ → ℕ → ℕ
lane_sum a b = (a + b) % 65536

-- eight slots of a table from a place on, each so far along
module _ (table : List ℕ) (from far : ℕ) (room : from + 8 ≤ length table) where
  abbrev pub eight : List ℕ
  eight = zip2 lane_sum (chunk 0 8 (mid_of from (from + 8 - from) table)) (replicate 8 far)

  eight_are : eight ≡ map (λ s. lane_sum s far) (take 8 (drop from table))
  eight_are =
      let width : from + 8 - from ≡ 8 = omega arith in
      let long : length (take 8 (drop from table)) ≡ 8 = length-take-le 8 (drop from table) (omega (arith, room, length-drop from table)) in
      ap (λ k. zip2 lane_sum (chunk 0 8 (take k (drop from table))) (replicate 8 far)) width
      ∙ (ap (λ l. zip2 lane_sum l (replicate 8 far)) (take-take 8 8 (drop from table) (omega arith)) ∙ zip2_splat lane_sum (take 8 (drop from table)) 8 far long)

  eight_long : length eight ≡ 8
  eight_long = ap length eight_are ∙ (length-map (take 8 (drop from table)) (λ s. lane_sum s far) ∙ length-take-le 8 (drop from table) (omega (arith, room, length-drop from table)))

  pub eight_put : (list : List ℕ) (at : ℕ) → at + 8 ≤ length list
      → take (at + 8) (put_mid at (at + 8 - at) list (put_chunk 0 (mid_of at (at + 8 - at) list) eight)) ≡ take at list ++ map (λ s. lane_sum s far) (take 8 (drop from table))
  eight_put list at fits =
      let width : at + 8 - at ≡ 8 = omega arith in
      let mid : length (mid_of at (at + 8 - at) list) ≡ length eight
      = ap (λ k. length (take k (drop at list))) width ∙ (length-take-le 8 (drop at list) (omega (arith, fits, length-drop at list)) ∙ sym eight_long) in
      ap (λ l. take (at + 8) (put_mid at (at + 8 - at) list l)) (put_chunk_whole (mid_of at (at + 8 - at) list) eight mid)
      ∙ (take-put_mid at (at + 8 - at) list eight (at + 8) (omega (arith, eight_long)) (omega (arith, fits)) ∙ ap (λ l. take at list ++ l) eight_are)

-- eight more behind some
pub more_put : (f : ℕ → ℕ) (table front list new : List ℕ) (from at m from' at' : ℕ) → from' ≡ from + m → at' ≡ at + m
    → take (at + m) list ≡ front ++ map f (take m (drop from table)) → take (at' + 8) new ≡ take at' list ++ map f (take 8 (drop from' table))
    → take (at + (m + 8)) new ≡ front ++ map f (take (m + 8) (drop from table))
more_put f table front list new from at m from' at' ef ea before here =
    let end : at + (m + 8) ≡ at' + 8 = omega (arith, ea) in
    ap (λ n. take n new) end ∙ (here ∙ (ap₂ (λ (a b : List ℕ). a ++ b) (ap (λ n. take n list) ea ∙ before) (ap (λ n. map f (take 8 (drop n table))) ef)
    ∙ (append_assoc front (map f (take m (drop from table))) (map f (take 8 (drop (from + m) table)))
    ∙ ap (λ l. front ++ l)
    (sym (map-append f (take m (drop from table)) (take 8 (drop (from + m) table)))
    ∙ ap (map f) (sym (take-add m 8 (drop from table) ∙ ap (λ l. take m (drop from table) ++ take 8 l) (drop-drop m from table)))))))

-- two maps that agree where a bound holds
maps_agree : {P : ℕ → Type 0} (f g : ℕ → ℕ) → ((x : ℕ) → P x → f x ≡ g x) → (xs : List ℕ) → All P xs → map f xs ≡ map g xs
maps_agree f g same [] each = refl
maps_agree {P = P} f g same (x ∷ xs) each = ap₂ (λ y ys. y ∷ ys) (same x (each 0 0 (omega arith))) (maps_agree f g same xs (All-tail P x xs each))

-- a corner has a low slot
pub corner_low : (y z c : ℕ) → c < 14 → corner_slot y z c ≤ 12313
corner_low y z c low = elim (cases_lt c 12) [
  | inl edge ↦ omega (arith, ap (λ b. if b then edge_slot y z c else 12300 + c) (lt-ltb c 12 edge), slot_low y z c edge)
  | inr centre ↦ omega (arith, low, ap (λ b. if b then edge_slot y z c else 12300 + c) (le-ltb c 12 centre))
]

-- the slots of the corners of a case stand in the table
module _ (y z n : ℕ) (table : List ℕ) (has : HasCorners y z table) (small : n < 656) where
  pub table_at : take (length (case_corners n)) (drop (length (corners_to n)) table) ≡ map (corner_slot y z) (case_corners n)
  table_at =
      let from : ℕ = length (corners_to n) in
      let count : ℕ = length (case_corners n) in
      let within : from + count ≤ 13272 = omega (arith, corners_upto n small, all_count) in
      sym (drop-take from count table)
      ∙ (ap (drop from) (sym (take-take (from + count) 13272 table within) ∙ ap (take (from + count)) has)
      ∙ (drop-take from count (map (corner_slot y z) all_corners)
      ∙ (ap (take count) (drop-map (corner_slot y z) from all_corners)
      ∙ (take-map (corner_slot y z) count (drop from all_corners) ∙ ap (map (corner_slot y z)) (corners_at n small)))))

  -- and so they are put
  pub corners_put : (list new : List ℕ) (at far : ℕ) → at ≤ length list → far ≤ 3072 → length (case_corners n) ≤ 36
      → take (at + 40) new ≡ take at list ++ map (λ s. lane_sum s far) (take 40 (drop (length (corners_to n)) table))
      → take (at + length (case_corners n)) new ≡ take at list ++ map (λ c. corner_slot y z c + far) (case_corners n)
  corners_put list new at far room near few put =
      let from : ℕ = length (corners_to n) in
      let count : ℕ = length (case_corners n) in
      let rest : List ℕ = map (λ s. lane_sum s far) (take 40 (drop from table)) in
      let front : length (take at list) ≡ at = length-take-le at list room in
      sym (take-take (at + count) (at + 40) new (omega (arith, few)))
      ∙ (ap (take (at + count)) put
      ∙ (ap (λ n. take (n + count) (take at list ++ rest)) (sym front)
      ∙ (take-append-add (take at list) rest count
      ∙ ap (λ l. take at list ++ l)
      (take-map (λ s. lane_sum s far) count (take 40 (drop from table))
      ∙ (ap (map (λ s. lane_sum s far)) (take-take count 40 (drop from table) (omega (arith, few)) ∙ table_at)
      ∙ (map-map (λ s. lane_sum s far) (corner_slot y z) (case_corners n)
      ∙ maps_agree {P = λ c. c < 14} (λ c. lane_sum (corner_slot y z c) far) (λ c. corner_slot y z c + far) (λ c low. whole (corner_slot y z c) far (corner_low y z c low) near) (case_corners n) (corners_low n small)))))))
    where
      whole : (s far : ℕ) → s ≤ 12313 → far ≤ 3072 → (s + far) % 65536 ≡ s + far
      whole s far hs hf = omega arith

-- the first twelve numbers of a list, written out
twelve : (l rest : List ℕ) (e : ℕ) → e < 12 → get_or (get_or l 0 0 ∷ get_or l 1 0 ∷ get_or l 2 0 ∷ get_or l 3 0 ∷ get_or l 4 0 ∷ get_or l 5 0 ∷ get_or l 6 0 ∷ get_or l 7 0 ∷ get_or l 8 0 ∷ get_or l 9 0 ∷ get_or l 10 0 ∷ get_or l 11 0 ∷ rest) e 0 ≡ get_or l e 0
twelve l rest = by_twelve (λ e. get_or (get_or l 0 0 ∷ get_or l 1 0 ∷ get_or l 2 0 ∷ get_or l 3 0 ∷ get_or l 4 0 ∷ get_or l 5 0 ∷ get_or l 6 0 ∷ get_or l 7 0 ∷ get_or l 8 0 ∷ get_or l 9 0 ∷ get_or l 10 0 ∷ get_or l 11 0 ∷ rest) e 0 ≡ get_or l e 0)
    refl refl refl refl refl refl refl refl refl refl refl refl

-- the slots of the edges of a cell and of two centres
pub slots_written : (y z : ℕ) (edges : List ℕ) → ((e : ℕ) → e < 12 → get_or edges e 0 ≡ edge_slot y z e) → (c : ℕ) → c < 14
    → get_or (get_or edges 0 0 ∷ get_or edges 1 0 ∷ get_or edges 2 0 ∷ get_or edges 3 0 ∷ get_or edges 4 0 ∷ get_or edges 5 0 ∷ get_or edges 6 0 ∷ get_or edges 7 0 ∷ get_or edges 8 0 ∷ get_or edges 9 0 ∷ get_or edges 10 0 ∷ get_or edges 11 0 ∷ 12312 ∷ 12313 ∷ []) c 0
    ≡ corner_slot y z c
slots_written y z edges are c low = elim (cases_lt c 12) [
  | inl edge ↦ twelve edges (12312 ∷ 12313 ∷ []) c edge ∙ (are c edge ∙ sym (ap (λ b. if b then edge_slot y z c else 12300 + c) (lt-ltb c 12 edge)))
  | inr centre ↦ elim (cases_lt c 13) [
    | inl first ↦ (let is : 12 ≡ c = omega (arith, centre, first) in subst same is refl)
    | inr second ↦ (let is : 13 ≡ c = omega (arith, low, second) in subst same is refl)
  ]
]
  where
    same : ℕ → Type 0
    same c = get_or (get_or edges 0 0 ∷ get_or edges 1 0 ∷ get_or edges 2 0 ∷ get_or edges 3 0 ∷ get_or edges 4 0 ∷ get_or edges 5 0 ∷ get_or edges 6 0 ∷ get_or edges 7 0 ∷ get_or edges 8 0 ∷ get_or edges 9 0 ∷ get_or edges 10 0 ∷ get_or edges 11 0 ∷ 12312 ∷ 12313 ∷ []) c 0 ≡ corner_slot y z c

-- a table by the slots of corners
pub table_by : (y z : ℕ) (slots table : List ℕ) → ((c : ℕ) → c < 14 → get_or slots c 0 ≡ corner_slot y z c)
    → take 13272 table ≡ map (λ c. get_or slots c 0) all_corners → HasCorners y z table
table_by y z slots table are filled = filled ∙ maps_agree {P = λ c. c < 14} (λ c. get_or slots c 0) (corner_slot y z) are all_corners (subst (All (λ c. c < 14)) all_are all_low)

-- of two numbers that are written as many are kept as are wanted
pub two_put : (list : List ℕ) (at a n : ℕ) → at + 2 ≤ length list → n ≤ 2 → take (at + n) (set (set list at a) (at + 1) (a + 1)) ≡ take at list ++ map (λ i. a + i) (below n)
two_put list at a n room few =
    let once : List ℕ = set list at a in
    let both : take (at + 1 + 1) (set once (at + 1) (a + 1)) ≡ take at list ++ (a ∷ (a + 1) ∷ [])
    = take_more_set once (at + 1) (a + 1) (omega (arith, room, length-set list at a)) ∙ (ap (λ l. l ++ (a + 1) ∷ []) (take_more_set list at a (omega (arith, room))) ∙ append_assoc (take at list) (a ∷ []) ((a + 1) ∷ [])) in
    sym (take-take (at + n) (at + 1 + 1) (set once (at + 1) (a + 1)) (omega (arith, few)))
    ∙ (ap (take (at + n)) both
    ∙ (ap (λ k. take (k + n) (take at list ++ (a ∷ (a + 1) ∷ []))) (sym (length-take-le at list (omega (arith, room))))
    ∙ (take-append-add (take at list) (a ∷ (a + 1) ∷ []) n ∙ ap (λ l. take at list ++ l) (kept n few))))
  where
    kept : (n : ℕ) → n ≤ 2 → take n (a ∷ (a + 1) ∷ []) ≡ map (λ i. a + i) (below n)
    kept zero few = refl
    kept (suc zero) few = let same : a ≡ a + 0 = omega arith in ap (λ b. b ∷ []) same
    kept (suc (suc zero)) few = let same : a ≡ a + 0 = omega arith in ap (λ b. b ∷ (a + 1) ∷ []) same
    kept (suc (suc (suc n))) few = absurd (omega arith)
