-- The active cells of a row are those whose sign bytes tell that they have crossing edges.
use Rattle.std.proofs.Common.{◌≡◌, ℕ, zero, suc, ◌+◌, ◌-◌, ◌<◌, ◌≤◌, ◌∙◌, Bool, true, false, not, cond, ◌++◌, ◌∷◌, [], List, eqb, length, map, get_or, append-nil, refl, sym, subst, ap, ap₂, arith, inl, inr, ◌||◌, zero-add}
use Rattle.std.specs.List.{filter, range_with_len}
use Rattle.std.proofs.lemmas.Bool.{cases_lt, eqb-true, ne_eqb}
use Rattle.std.proofs.lemmas.List.{get_or_past, length-map}
use Rattle.std.proofs.lemmas.List.FromFn.{get_or-map-range_with_len}
use Rattle.iso_defs.specs.Grid.{index}
use Rattle.flat_mesh.specs.Lattice.{Leveled}
use Rattle.mesh_rows.specs.Rows.{AreActive, AreCases, IsCaseOf}
use Rattle.row_bits.specs.Active.{active_among}
use Rattle.row_bits.proofs.ActiveLists.{active_few, active_more}
use Rattle.row_bits.proofs.MixedBytes.{mixed}
use Rattle.row_bits.proofs.SetBits.{filter_none}
use Rattle.sample_rows.specs.Cases.{AreRowBytes, AreRowCases, HaveRoom}
use Rattle.sample_rows.specs.Lists.{mixed_of}
use Rattle.sample_rows.specs.Parts.{AreCells}
use Rattle.sample_rows.proofs.Listed.{active_alike}
use Rattle.sample_rows.proofs.MixedCases.{mixed_case}
use Rattle.sample_rows.proofs.MixedLists.{mixed_here}
use Rattle.sample_rows.proofs.PutCases.{quiet_byte}
use Rattle.sample_rows.proofs.QuietCases.{quiet_case}

-- what two functions say alike of the numbers that pass a test
same_passing : (p : ℕ → Bool) (f g : ℕ → ℕ) (a n : ℕ) → ((k : ℕ) → k < a + n → p k ≡ true → f k ≡ g k) → map f (filter p (range_with_len a n)) ≡ map g (filter p (range_with_len a n))
same_passing p f g a zero same = refl
same_passing p f g a (suc n) same = by (p a) refl (same_passing p f g (a + 1) n (λ k low. same k (omega (arith, low))))
  where
    by : (b : Bool) → p a ≡ b → map f (filter p (range_with_len (a + 1) n)) ≡ map g (filter p (range_with_len (a + 1) n))
        → map f (cond {A = List ℕ} b (a ∷ filter p (range_with_len (a + 1) n)) (filter p (range_with_len (a + 1) n)))
        ≡ map g (cond {A = List ℕ} b (a ∷ filter p (range_with_len (a + 1) n)) (filter p (range_with_len (a + 1) n)))
    by true e rest = ap₂ (λ x l. x ∷ l) (same a (omega arith) e) rest
    by false e rest = rest

-- and of active cells
same_listed : (flags : List ℕ) (f g : ℕ → ℕ) (n : ℕ) → ((k : ℕ) → k < n → eqb (get_or flags k 0) 0 ≡ false → f k ≡ g k) → map f (active_among flags 0 n) ≡ map g (active_among flags 0 n)
unfolding active_among
same_listed flags f g n same =
    same_passing (λ x. not (eqb (get_or flags x 0) 0)) f g 0 n (λ k low passes. same k (omega (arith, low)) (turned (eqb (get_or flags k 0) 0) passes))
  where
    turned : (b : Bool) → not b ≡ true → b ≡ false
    turned true e = absurd (cc)
    turned false e = refl

-- none is active where zeros stand
none_behind : (flags : List ℕ) (a n : ℕ) → ((x : ℕ) → a ≤ x → get_or flags x 0 ≡ 0) → active_among flags a n ≡ []
unfolding active_among
none_behind flags a n none = filter_none (λ x. not (eqb (get_or flags x 0) 0)) a n (λ k least most. ap (λ c. not (eqb c 0)) (none k least))

-- so their count is bounded by where these begin
module _ (flags : List ℕ) (end : ℕ) (none : (x : ℕ) → end ≤ x → get_or flags x 0 ≡ 0) where
  pub up_to_end : (n : ℕ) → end ≤ n → active_among flags 0 n ≡ active_among flags 0 end
  up_to_end n far =
      let all : n ≡ end + (n - end) = omega (arith, far) in
      ap (active_among flags 0) all ∙ (active_more flags 0 end (n - end)
      ∙ (ap (λ l. active_among flags 0 end ++ l) (none_behind flags (0 + end) (n - end) (λ x least. none x (omega (arith, least)))) ∙ append-nil (active_among flags 0 end)))

  pub few_to_end : (n : ℕ) → length (active_among flags 0 n) ≤ end
  few_to_end n = elim (cases_lt n end) [
    | inl less ↦ omega (arith, less, active_few flags 0 n)
    | inr far ↦ omega (arith, ap length (up_to_end n far), active_few flags 0 end)
  ]

-- there stand zeros behind the cells of a row
pub none_mixed : (bytes : List ℕ) (end : ℕ) → ((x : ℕ) → end ≤ x + 1 → get_or bytes x 0 ≡ 0) → (x : ℕ) → end - 1 ≤ x → get_or (mixed_of bytes) x 0 ≡ 0
none_mixed bytes end rest x far = elim (cases_lt x (length bytes)) [
  | inl inside ↦ mixed_here bytes x inside ∙ ap mixed (rest x (omega (arith, far)))
  | inr behind ↦ get_or_past (mixed_of bytes) x 0 (omega (arith, behind, length-map bytes mixed))
]

-- the cases of a row by their sign bytes
module _ (v : Leveled) (y z : ℕ) (bytes cases : List ℕ) (room : HaveRoom v.grid bytes) (small : (x : ℕ) → get_or bytes x 0 < 256)
    (are : AreRowCases v y z cases) (told : AreRowBytes v y z bytes) where
  -- the cases, with 0 where no edge of the cell is crossing
  abbrev shown : ℕ → ℕ
  shown x = cond (eqb (get_or (mixed_of bytes) x 0) 0) 0 (get_or cases x 0)

  abbrev all : List ℕ
  all = map shown (range_with_len 0 v.grid.nx)

  shown_at : (x : ℕ) → x < v.grid.nx → get_or all x 0 ≡ shown x
  shown_at x low = get_or-map-range_with_len shown 0 v.grid.nx x x 0 low (zero-add x)

  inside : (x : ℕ) → x < v.grid.nx → x < length bytes
  inside x low = omega (arith, low, room.count)

  module _ (hy : y + 1 < v.grid.ny) (hz : z + 1 < v.grid.nz) where
    shown_case : (x : ℕ) → x + 1 < v.grid.nx → IsCaseOf v (index v.grid x y z) (shown x)
    shown_case x low = by (eqb (get_or (mixed_of bytes) x 0) 0) refl
      where
        by : (b : Bool) → eqb (get_or (mixed_of bytes) x 0) 0 ≡ b → IsCaseOf v (index v.grid x y z) (cond b 0 (get_or cases x 0))
        by true e = quiet_case v (index v.grid x y z) (quiet_byte v (index v.grid x y z) (get_or bytes x 0) (told hy hz x low)
            (sym (mixed_here bytes x (inside x (omega (arith, low)))) ∙ eqb-true _ 0 e))
        by false e = are.each x low hy hz

    all_are : AreCases v y z all
    all_are x low _ = subst (IsCaseOf v (index v.grid x y z)) (sym (shown_at x (omega (arith, low)))) (shown_case x low)

    same_active : (x : ℕ) → x < v.grid.nx - 1 → eqb (get_or (mixed_of bytes) x 0) 0 ≡ eqb (get_or all x 0) 0
    same_active x low = by (eqb (get_or (mixed_of bytes) x 0) 0) refl ∙ ap (λ c. eqb c 0) (sym (shown_at x (omega (arith, low))))
      where
        one : (b : ℕ) → eqb (mixed b) 0 ≡ false → mixed b ≡ 1
        one b e = of (eqb b 0 || eqb b 255) e
          where
            of : (c : Bool) → eqb (cond {A = ℕ} c 0 1) 0 ≡ false → cond {A = ℕ} c 0 1 ≡ 1
            of true e = absurd (cc)
            of false e = refl

        by : (b : Bool) → eqb (get_or (mixed_of bytes) x 0) 0 ≡ b → b ≡ eqb (cond {A = ℕ} b 0 (get_or cases x 0)) 0
        by true e = refl
        by false e =
            sym (ne_eqb (get_or cases x 0) 0 (mixed_case v (index v.grid x y z) (get_or bytes x 0) (get_or cases x 0) (small x) (told hy hz x (omega (arith, low)))
            (one (get_or bytes x 0) (ap (λ n. eqb n 0) (sym (mixed_here bytes x (inside x (omega (arith, low))))) ∙ e))
            (are.each x (omega (arith, low)) hy hz)))

    pub active_are : (places listed : List ℕ) → places ≡ active_among (mixed_of bytes) 0 (v.grid.nx - 1) → listed ≡ map (λ x. get_or cases x 0) places
        → AreActive v y z places listed
    active_are places listed is with_cases = record {
      all = all;
      all_are = all_are;
      places_are = is ∙ active_alike (mixed_of bytes) all (v.grid.nx - 1) same_active;
      cases_are = with_cases ∙ (ap (map (λ x. get_or cases x 0)) is ∙ (same_shown ∙ ap (map (λ x. get_or all x 0)) (sym is)));
    }
      where
        same_shown : map (λ x. get_or cases x 0) (active_among (mixed_of bytes) 0 (v.grid.nx - 1)) ≡ map (λ x. get_or all x 0) (active_among (mixed_of bytes) 0 (v.grid.nx - 1))
        same_shown =
            same_listed (mixed_of bytes) (λ x. get_or cases x 0) (λ x. get_or all x 0) (v.grid.nx - 1)
            (λ k low e. sym (shown_at k (omega (arith, low)) ∙ ap (λ b. cond {A = ℕ} b 0 (get_or cases k 0)) e))

  -- what the lists of a row are then
  pub cells_listed : (places listed : List ℕ) → 0 < v.grid.nx → places ≡ active_among (mixed_of bytes) 0 (v.grid.nx - 1) → listed ≡ map (λ x. get_or cases x 0) places
      → AreCells v y z places listed
  cells_listed places listed some is with_cases = record {
    same = ap length with_cases ∙ length-map places (λ x. get_or cases x 0);
    few = omega (arith, some, ap length is, active_few (mixed_of bytes) 0 (v.grid.nx - 1));
    active = λ hy hz. active_are hy hz places listed is with_cases;
  }
