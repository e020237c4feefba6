-- The joined faces of eight values, face by face, as the code reads the corners.
use Rattle.std.proofs.Common.{◌≡◌, ◌∙◌, ℕ, zero, suc, ◌/◌, ◌%◌, ◌^◌, ◌<◌, ◌==◌, Bool, true, ◌&&◌, ℤ, pos, List, [], ◌∷◌, map, length, get_or, refl, sym, ap, ap₂, arith, w64, to_z, of_z, unsigned_abs}
use Rattle.std.specs.Prelude.{nat_lt}
use Rattle.std.specs.List.{All}
use Rattle.std.proofs.lemmas.Bool.{and_parts, ltb-true}
use Rattle.std.proofs.lemmas.Int.{to_z-of_z, fits_signed_from_abs}
use Rattle.std.proofs.lemmas.List.{get_or-map}
use Rattle.iso_defs.specs.Lists.{below}
use Rattle.iso_defs.specs.Grid.{is_above}
use Rattle.iso_defs.specs.Face.{holds_at, is_ambiguous}
use Rattle.iso_defs.specs.Cell.{face_corners, face_is_joined, face_signs, signs_of}
use Rattle.iso_defs.specs.Bricks.{bits_of}
use Rattle.face_decider.specs.Cycle.{cycle_joined}
use Rattle.case_table.specs.Cases.{ambiguous_flags}
use Rattle.case_table.proofs.Numbering.{all_under}

-- the values of a face in cycle order
abbrev pub cycle_of : List ℤ → ℕ → List ℤ
cycle_of values f = map (λ c. get_or values c (pos 0)) (face_corners f)

-- and as the code reads them
abbrev pub read_cycle : List ℤ → ℕ → List ℤ
read_cycle values f = map (λ c. to_z w64 (of_z w64 (get_or values c (pos 0)))) (face_corners f)

-- a face by its cycle
abbrev pub joined_cycle : List ℤ → Bool
joined_cycle cycle = is_ambiguous (signs_of cycle) && cycle_joined cycle

joined_by_cycle : (values : List ℤ) (f : ℕ) → f < 6 → signs_of (cycle_of values f) ≡ face_signs (signs_of values) f → joined_cycle (cycle_of values f) ≡ face_is_joined values f
joined_by_cycle values zero h e = ap (λ signs. is_ambiguous signs && cycle_joined (cycle_of values 0)) e
joined_by_cycle values (suc zero) h e = ap (λ signs. is_ambiguous signs && cycle_joined (cycle_of values 1)) e
joined_by_cycle values (suc (suc zero)) h e = ap (λ signs. is_ambiguous signs && cycle_joined (cycle_of values 2)) e
joined_by_cycle values (suc (suc (suc zero))) h e = ap (λ signs. is_ambiguous signs && cycle_joined (cycle_of values 3)) e
joined_by_cycle values (suc (suc (suc (suc zero)))) h e = ap (λ signs. is_ambiguous signs && cycle_joined (cycle_of values 4)) e
joined_by_cycle values (suc (suc (suc (suc (suc zero))))) h e = ap (λ signs. is_ambiguous signs && cycle_joined (cycle_of values 5)) e
joined_by_cycle values (suc (suc (suc (suc (suc (suc f)))))) h e = absurd (omega arith)

-- corners are below 8
corners_low : (f : ℕ) → f < 6 → all_under 8 (face_corners f) ≡ true
corners_low zero h = refl
corners_low (suc zero) h = refl
corners_low (suc (suc zero)) h = refl
corners_low (suc (suc (suc zero))) h = refl
corners_low (suc (suc (suc (suc zero)))) h = refl
corners_low (suc (suc (suc (suc (suc zero))))) h = refl
corners_low (suc (suc (suc (suc (suc (suc f)))))) h = absurd (omega arith)

-- a bit of a byte is a flag
flag_of : (faces f : ℕ) → f < 6 → (faces / 2 ^ f % 2 == 1) ≡ holds_at (bits_of 6 faces) f
flag_of faces zero h = refl
flag_of faces (suc zero) h = refl
flag_of faces (suc (suc zero)) h = refl
flag_of faces (suc (suc (suc zero))) h = refl
flag_of faces (suc (suc (suc (suc zero)))) h = refl
flag_of faces (suc (suc (suc (suc (suc zero))))) h = refl
flag_of faces (suc (suc (suc (suc (suc (suc f)))))) h = absurd (omega arith)

-- what a flag says
pub face_flag : (p : ℕ → Bool) (f : ℕ) → f < 6 → holds_at (map p (below 6)) f ≡ p f
face_flag p zero h = refl
face_flag p (suc zero) h = refl
face_flag p (suc (suc zero)) h = refl
face_flag p (suc (suc (suc zero))) h = refl
face_flag p (suc (suc (suc (suc zero)))) h = refl
face_flag p (suc (suc (suc (suc (suc zero))))) h = refl
face_flag p (suc (suc (suc (suc (suc (suc f)))))) h = absurd (omega arith)

module _ (values : List ℤ) (eight : length values ≡ 8) where
  signs_read : (cs : List ℕ) → all_under 8 cs ≡ true → map is_above (map (λ c. get_or values c (pos 0)) cs) ≡ map (holds_at (signs_of values)) cs
  signs_read [] h = refl
  signs_read (c ∷ cs) h =
      let parts = and_parts (nat_lt c 8) (all_under 8 cs) h in
      let low : c < 8 = ltb-true c 8 parts.0 in
      ap₂ (λ x xs. x ∷ xs) (sym (get_or-map is_above values c (pos 0) _ (omega arith))) (signs_read cs parts.1)

  module _ (small : All (λ v. unsigned_abs v < 2 ^ 44) values) where
    as_read : (cs : List ℕ) → all_under 8 cs ≡ true → map (λ c. to_z w64 (of_z w64 (get_or values c (pos 0)))) cs ≡ map (λ c. get_or values c (pos 0)) cs
    as_read [] h = refl
    as_read (c ∷ cs) h =
        let parts = and_parts (nat_lt c 8) (all_under 8 cs) h in
        let low : c < 8 = ltb-true c 8 parts.0 in
        let bound : unsigned_abs (get_or values c (pos 0)) < 2 ^ 44 = small c (pos 0) (omega arith) in
        ap₂ (λ x xs. x ∷ xs) (to_z-of_z w64 (get_or values c (pos 0)) (fits_signed_from_abs w64 (get_or values c (pos 0)) (omega arith))) (as_read cs parts.1)

    pub joined_is : (f : ℕ) → f < 6 → joined_cycle (read_cycle values f) ≡ face_is_joined values f
    joined_is f h =
        ap joined_cycle (as_read (face_corners f) (corners_low f h))
        ∙ joined_by_cycle values f h (signs_read (face_corners f) (corners_low f h))

    pub known_is : (faces f : ℕ) → f < 6 → bits_of 6 faces ≡ ambiguous_flags (signs_of values) → (faces / 2 ^ f % 2 == 1) ≡ is_ambiguous (signs_of (read_cycle values f))
    known_is faces f h known =
        flag_of faces f h ∙ ap (λ flags. holds_at flags f) known ∙ face_flag (λ f. is_ambiguous (face_signs (signs_of values) f)) f h
        ∙ ap is_ambiguous (sym (signs_read (face_corners f) (corners_low f h))) ∙ ap (λ cycle. is_ambiguous (signs_of cycle)) (sym (as_read (face_corners f) (corners_low f h)))
