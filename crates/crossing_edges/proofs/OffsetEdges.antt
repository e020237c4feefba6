-- The crossing edges of a run of points, by their offsets from its first edge.
use Rattle.std.proofs.Common.{◌≡◌, ℕ, zero, suc, ◌+◌, ◌*◌, ◌/◌, ◌%◌, ◌<◌, ◌≤◌, ℤ, Bool, true, false, cond, List, [], ◌∷◌, ◌++◌, All, map, take, length, get_or, set, refl, sym, subst, ◌∙◌, ap, ap₂, arith, eqb, inl, inr}
use Rattle.std.specs.List.{range_with_len}
use Rattle.std.proofs.lemmas.Bool.{cases_lt}
use Rattle.std.proofs.lemmas.List.{ext_get_or, get_or-map, get_or-set_other, get_or-set_same, get_or-take, get_or_default, length-map, length-take-le, map-append}
use Rattle.std.proofs.lemmas.Simd.{map-map}
use Rattle.iso_defs.specs.Grid.{Grid, is_crossing}
use Rattle.triangle_laws.proofs.Lists.{In, In-filter}
use Rattle.row_bits.specs.Edges.{edges_among, edges_at}
use Rattle.row_bits.proofs.EdgeLists.{among_more, among_none, among_one}
use Rattle.crossing_edges.specs.Flags.{edge_place, flags_at, flags_from, names_in, places_in}
use Rattle.crossing_edges.proofs.Counting.{flag_first, flag_here, flag_second, flag_third, length-flags_from, names_empty, names_next, names_three}

in_place : (xs : List ℕ) (i : ℕ) → i < length xs → In (get_or xs i 0) xs
in_place [] i l = absurd (omega arith)
in_place (x ∷ xs) zero l = inl refl
in_place (x ∷ xs) (suc i) l = inr (in_place xs i (omega arith))

range_within : (a n k : ℕ) → In k (range_with_len a n) → k < a + n
range_within a zero k h = absurd h
range_within a (suc n) k (inl e) = omega (arith, e)
range_within a (suc n) k (inr h) = omega (arith, range_within (a + 1) n k h)

module _ (g : Grid) (s : ℕ → ℤ) (start : ℕ) where
  abbrev name : ℕ → ℕ
  name e = 3 * start + e

  one_name : (n e : ℕ) (b : Bool) → b ≡ is_crossing g s n → n ≡ name e → map name (cond {A = List ℕ} b (e ∷ []) []) ≡ names_in g s n 1
  unfolding names_in
  one_name n e b known at = both b at ∙ ap (λ c. cond {A = List ℕ} c (n ∷ []) []) known
    where
      both : (b : Bool) → n ≡ name e → map name (cond {A = List ℕ} b (e ∷ []) []) ≡ cond {A = List ℕ} b (n ∷ []) []
      both true at = ap (λ n. n ∷ []) (sym at)
      both false at = refl

  point_names : (x flags : ℕ) → flags ≡ flags_at g s (start + x) → map name (edges_at flags x) ≡ names_in g s (3 * (start + x)) 3
  point_names x flags same =
      let p : ℕ = start + x in
      let n : ℕ → List ℕ = λ a. names_in g s a 1 in
      let a : List ℕ = cond (eqb (flags % 2) 1) ((3 * x) ∷ []) [] in
      let b : List ℕ = cond (eqb (flags / 2 % 2) 1) ((3 * x + 1) ∷ []) [] in
      let c : List ℕ = cond (eqb (flags / 4) 1) ((3 * x + 2) ∷ []) [] in
      map-append name a (b ++ c) ∙ (ap (λ l. map name a ++ l) (map-append name b c)
      ∙ (ap₂ (λ k l. k ++ l) (one_name (3 * p) (3 * x) _ (flag_first g s p flags same) (omega arith))
      (ap₂ (λ k l. k ++ l) (one_name (3 * p + 1) (3 * x + 1) _ (flag_second g s p flags same) (omega arith))
      (one_name (3 * p + 2) (3 * x + 2) _ (flag_third g s p flags same) (omega arith)))
      ∙ (sym (append_right (n (3 * p)) (n (3 * p + 1)) (n (3 * p + 2))) ∙ sym (names_three g s p))))
    where
      append_right : (a b c : List ℕ) → a ++ b ++ c ≡ a ++ (b ++ c)
      append_right [] b c = refl
      append_right (x ∷ a) b c = ap (λ l. x ∷ l) (append_right a b c)

  -- those that the flags name
  pub names_among : (flags : List ℕ) (n : ℕ) → ((x : ℕ) → x < n → get_or flags x 0 ≡ flags_at g s (start + x)) → map name (edges_among flags 0 n) ≡ names_in g s (3 * start) (3 * n)
  names_among flags zero are = ap (map name) (among_none flags 0) ∙ (sym (names_empty g s (3 * start)) ∙ ap (names_in g s (3 * start)) none)
    where
      none : 0 ≡ 3 * 0
      none = omega arith
  names_among flags (suc n) are =
      let e : suc n ≡ n + 1 = omega arith in
      let zero_out : 0 + n ≡ n = omega arith in
      ap (λ n. map name (edges_among flags 0 n)) e
      ∙ (ap (map name) (among_more flags 0 n 1 ∙ ap (λ k. edges_among flags 0 n ++ k) (ap (λ x. edges_among flags x 1) zero_out ∙ among_one flags n))
      ∙ (map-append name (edges_among flags 0 n) (edges_at (get_or flags n 0) n)
      ∙ (ap₂ (λ k l. k ++ l) (names_among flags n (λ x low. are x (omega arith))) (point_names n (get_or flags n 0) (are n (omega arith)))
      ∙ (sym (names_next g s start n) ∙ ap (λ n. names_in g s (3 * start) (3 * n)) (sym e)))))

  pub offsets_of : (flags edges : List ℕ) (n : ℕ) → flags ≡ flags_from g s start n → edges ≡ edges_among flags 0 (length flags) → map name edges ≡ names_in g s (3 * start) (3 * n)
  offsets_of flags edges n same listed =
      let len : length flags ≡ n = ap length same ∙ length-flags_from g s start n in
      ap (map name) (listed ∙ ap (edges_among flags 0) len) ∙ names_among flags n (λ x low. flag_here g s start n x flags same low)

  -- each of them begins at one of these points, and is crossing
  pub record IsOffset (n edge : ℕ) : Type 0 where
    pub low : edge < 3 * n
    pub crossing : is_crossing g s (3 * start + edge) ≡ true

  module _ (n : ℕ) (edges : List ℕ) (are : map name edges ≡ names_in g s (3 * start) (3 * n)) where
    pub offset_at : (i : ℕ) → i < length edges → IsOffset n (get_or edges i 0)
    unfolding names_in
    offset_at i low =
        let named : get_or (map name edges) i 0 ≡ name (get_or edges i 0) = get_or-map name edges i 0 0 low in
        let there : In (name (get_or edges i 0)) (map name edges) = subst (λ n. In n (map name edges)) named (in_place (map name edges) i (omega (arith, length-map edges name))) in
        let known : In (name (get_or edges i 0)) (range_with_len (3 * start) (3 * n)) × (is_crossing g s (name (get_or edges i 0)) ≡ true)
        = In-filter (is_crossing g s) (name (get_or edges i 0)) (range_with_len (3 * start) (3 * n)) (subst (In (name (get_or edges i 0))) are there) in
        record { low = omega (arith, range_within (3 * start) (3 * n) _ known.0); crossing = known.1 }

    -- one place for each of them
    pub places_are : (places : List ℕ) → length places ≡ length edges → ((i : ℕ) → i < length edges → get_or places i 0 ≡ edge_place g s (name (get_or edges i 0)))
        → places ≡ places_in g s (3 * start) (3 * n)
    unfolding places_in
    places_are places count each =
        let put : List ℕ = map (λ e. edge_place g s (name e)) edges in
        ext_get_or 0 places put (count ∙ sym (length-map edges _)) (λ i low.
        (let there : i < length edges = omega (arith, count) in
        each i there ∙ sym (get_or-map (λ e. edge_place g s (name e)) edges i 0 0 there)))
        ∙ (sym (map-map (edge_place g s) name edges) ∙ ap (map (edge_place g s)) are)

    -- one place more
    pub place_more : (places : List ℕ) (i place : ℕ) → i < length places → place ≡ edge_place g s (name (get_or edges i 0))
        → ((k : ℕ) → k < i → get_or places k 0 ≡ edge_place g s (name (get_or edges k 0)))
        → (k : ℕ) → k < i + 1 → get_or (set places i place) k 0 ≡ edge_place g s (name (get_or edges k 0))
    place_more places i place there here before k low = elim (cases_lt k i) [
      | inl earlier ↦ get_or-set_other places i k place 0 (λ e. omega arith) ∙ before k earlier
      | inr last ↦ (
          let same : k ≡ i = omega arith in
          subst (λ k. get_or (set places i place) k 0 ≡ edge_place g s (name (get_or edges k 0))) (sym same) (get_or-set_same places i place 0 there ∙ here))
    ]

    -- at the front of a buffer
    pub front_places : (room : List ℕ) → length edges ≤ length room → ((i : ℕ) → i < length edges → get_or room i 0 ≡ edge_place g s (name (get_or edges i 0)))
        → take (length edges) room ≡ places_in g s (3 * start) (3 * n)
    front_places room fits each =
        places_are (take (length edges) room) (length-take-le (length edges) room fits) (λ i low. get_or-take (length edges) room i 0 low ∙ each i low)

    pub places_count : (places : List ℕ) → places ≡ places_in g s (3 * start) (3 * n) → length places ≡ length edges
    unfolding places_in
    places_count places put = ap length put ∙ (length-map (names_in g s (3 * start) (3 * n)) (edge_place g s) ∙ (sym (ap length are) ∙ length-map edges name))

    pub offsets_low : All (λ e. e < 3 * n) edges
    offsets_low i d low = subst (λ e. e < 3 * n) (sym (get_or_default edges i d 0 low)) (offset_at i low).low

    -- and names that are below the bound of names
    pub names_fit : (bound : ℕ) → 3 * start + 3 * n ≤ bound → All (λ e. 3 * start + e < bound) edges
    names_fit bound fits i d low =
        let at = offset_at i low in
        subst (λ e. 3 * start + e < bound) (sym (get_or_default edges i d 0 low)) (omega (arith, at.low, fits))
