-- Active cells with their cases stand for the cases of all cells of a row.
use Rattle.std.proofs.Common.{◌≡◌, ℕ, zero, suc, ◌+◌, ◌-◌, ◌*◌, ◌/◌, ◌<◌, ◌≤◌, Bool, true, false, cond, not, List, ◌∷◌, ◌++◌, drop, take, map, length, get_or, refl, sym, ◌∙◌, ap, ap₂, subst, arith, eqb, if◌then◌else◌}
use Rattle.std.specs.List.{filter, range_with_len}
use Rattle.std.proofs.lemmas.Bool.{eqb-true, eqb-false}
use Rattle.std.proofs.Math.Seq.{drop-append_seam, take-append_seam}
use Rattle.std.proofs.lemmas.List.{length-append, length-drop, length-map, length-take-le, take_all}
use Rattle.std.proofs.lemmas.List.FromFn.{get_or-map-range_with_len, length-range_with_len}
use Rattle.std.proofs.lemmas.List.Sums.{count_by-le-length, length-filter}
use Rattle.iso_defs.specs.Grid.{index}
use Rattle.flat_mesh.specs.Lattice.{Leveled}
use Rattle.mesh_rows.specs.Rows.{AreActive, IsCaseOf}
use Rattle.row_bits.specs.Active.{active_among}
use Rattle.stitch.specs.Cells.{AreListed, case_at, spread}

bool_apart : true ≡ false → ⊥
bool_apart e = omega (arith, ap (λ b. cond {A = ℕ} b 1 0) e)

-- the active cells among n cells from one on, and their cases, by the cases of all
module _ (f : ℕ → ℕ) where
  abbrev is_other : ℕ → Bool
  is_other x = not (eqb (f x) 0)

  abbrev among : ℕ → ℕ → List ℕ
  among a n = filter is_other (range_with_len a n)

  abbrev Case : List ℕ → ℕ → ℕ → Type 0
  Case places x case = case_at places (map f places) x ≡ case

  -- a cell before them has none
  before_by : (a x : ℕ) (l : List ℕ) (b c : Bool) → eqb a x ≡ c → x < a → Case l x 0 → Case (cond {A = List ℕ} b (a ∷ l) l) x 0
  before_by a x l true true e low rest = absurd (let same = eqb-true a x e in omega (arith, low, same))
  before_by a x l true false e low rest = ap (λ c. if c then f a else case_at l (map f l) x) e ∙ rest
  before_by a x l false c e low rest = rest

  before : (a n x : ℕ) → x < a → Case (among a n) x 0
  before a zero x low = refl
  before a (suc n) x low = before_by a x (among (a + 1) n) (is_other a) (eqb a x) refl low (before (a + 1) n x (omega arith))

  -- the case of each is found again
  first_is : (a : ℕ) (b : Bool) → eqb (f a) 0 ≡ b → not b ≡ false → f a ≡ 0
  first_is a true e none = eqb-true (f a) 0 e
  first_is a false e none = absurd (bool_apart none)

  found_by : (a x : ℕ) (l : List ℕ) (b c : Bool) → is_other a ≡ b → eqb a x ≡ c → (x < a + 1 → Case l x 0) → ((a ≡ x → ⊥) → Case l x (f x))
      → Case (cond {A = List ℕ} b (a ∷ l) l) x (f x)
  found_by a x l true true other e none rest = ap (λ c. if c then f a else case_at l (map f l) x) e ∙ ap f (eqb-true a x e)
  found_by a x l true false other e none rest = ap (λ c. if c then f a else case_at l (map f l) x) e ∙ rest (eqb-false a x e)
  found_by a x l false true other e none rest =
      let same = eqb-true a x e in
      none (omega (arith, same)) ∙ (sym (first_is a (eqb (f a) 0) refl other) ∙ ap f same)
  found_by a x l false false other e none rest = rest (eqb-false a x e)

  found : (a n x : ℕ) → a ≤ x → x < a + n → Case (among a n) x (f x)
  found a zero x from to = absurd (omega (arith, from, to))
  found a (suc n) x from to =
      found_by a x (among (a + 1) n) (is_other a) (eqb a x) refl refl (before (a + 1) n x)
      (λ other. found (a + 1) n x (omega (arith, from, other)) (omega (arith, to)))

-- cells that have the same cases are active together, and have the same cases then
module _ (f g : ℕ → ℕ) where
  same_among : (a n : ℕ) → ((x : ℕ) → a ≤ x → x < a + n → f x ≡ g x) → among f a n ≡ among g a n
  same_among a zero same = refl
  same_among a (suc n) same =
      ap₂ (λ b l. cond {A = List ℕ} (not (eqb b 0)) (a ∷ l) l) (same a (omega arith) (omega arith))
      (same_among (a + 1) n (λ x from to. same x (omega (arith, from)) (omega (arith, to))))

  cases_by : (a : ℕ) (l : List ℕ) (b : Bool) → f a ≡ g a → map f l ≡ map g l → map f (cond {A = List ℕ} b (a ∷ l) l) ≡ map g (cond {A = List ℕ} b (a ∷ l) l)
  cases_by a l true first rest = ap₂ (λ y l. y ∷ l) first rest
  cases_by a l false first rest = rest

  same_cases : (a n : ℕ) → ((x : ℕ) → a ≤ x → x < a + n → f x ≡ g x) → map f (among f a n) ≡ map g (among f a n)
  same_cases a zero same = refl
  same_cases a (suc n) same =
      cases_by a (among f (a + 1) n) (is_other f a) (same a (omega arith) (omega arith))
      (same_cases (a + 1) n (λ x from to. same x (omega (arith, from)) (omega (arith, to))))

-- the active cells of a row are listed by the cases that they stand for
pub cells_listed : (v : Leveled) (y z : ℕ) (places cases : List ℕ) → AreActive v y z places cases → AreListed v y z places cases
unfolding active_among
cells_listed v y z places cases are =
    let n : ℕ = v.grid.nx - 1 in
    let f : ℕ → ℕ = λ x. get_or are.all x 0 in
    let g : ℕ → ℕ = λ x. get_or (spread n places cases) x 0 in
    let mapped : cases ≡ map f (among f 0 n) = are.cases_are ∙ ap (map f) are.places_are in
    let same : (x : ℕ) → x < n → f x ≡ g x = λ x low.
    sym (get_or-map-range_with_len (case_at places cases) 0 n x x 0 low (omega arith)
    ∙ (ap₂ (λ p c. case_at p c x) are.places_are mapped ∙ found f 0 n x (omega arith) (omega (arith, low)))) in
    record {
      all_are = λ x within low. subst (IsCaseOf v (index v.grid x y z)) (same x (omega (arith, within))) (are.all_are x within low);
      places_are = are.places_are ∙ same_among f g 0 n (λ x from to. same x (omega (arith, to)));
      cases_are = mapped ∙ (same_cases f g 0 n (λ x from to. same x (omega (arith, to))) ∙ sym (ap (map g) are.places_are));
    }

pub cells_again : (v : Leveled) (y z : ℕ) (places cases : List ℕ) → AreListed v y z places cases → AreActive v y z places cases
cells_again v y z places cases are = record {
  all = spread (v.grid.nx - 1) places cases;
  all_are = are.all_are;
  places_are = are.places_are;
  cases_are = are.cases_are;
}

-- as many as there are places at most
listed_few : (cases : List ℕ) (n : ℕ) → length (active_among cases 0 n) ≤ n
unfolding active_among
listed_few cases n =
    let count = length-filter (λ x. not (eqb (get_or cases x 0) 0)) (range_with_len 0 n) in
    let most = count_by-le-length (λ x. not (eqb (get_or cases x 0) 0)) (range_with_len 0 n) in
    let long = length-range_with_len 0 n in
    omega (arith, count, most, long)

-- a list has the places of active cells, and behind them their cases
module _ (v : Leveled) (y z : ℕ) (list : List ℕ) (are : AreListed v y z (take (length list / 2) list) (drop (length list / 2) list)) where
  abbrev half : ℕ
  half = length list / 2

  long : length (take half list) ≡ half
  long = length-take-le half list (omega arith)

  pub half_few : half ≤ v.grid.nx - 1
  half_few = let same = ap length are.places_are in let few = listed_few (spread (v.grid.nx - 1) (take half list) (drop half list)) (v.grid.nx - 1) in omega (arith, long, same, few)

  pub all_of : length list ≡ 2 * half
  all_of = let same = ap length are.cases_are ∙ length-map (take half list) _ in let d = length-drop half list in omega (arith, same, d, long)

  pub parted : (places cases : List ℕ) → places ≡ take half list → cases ≡ take half (drop half list) → AreActive v y z places cases
  parted places cases first second =
      let behind : cases ≡ drop half list = second ∙ take_all half (drop half list) (let d = length-drop half list in omega (arith, d, all_of)) in
      subst (λ places. AreActive v y z places cases) (sym first)
      (subst (AreActive v y z (take half list)) (sym behind) (cells_again v y z (take half list) (drop half list) are))

-- the reverse
pub joined : (v : Leveled) (y z : ℕ) (list places cases : List ℕ) → list ≡ places ++ cases → AreActive v y z places cases
    → AreListed v y z (take (length list / 2) list) (drop (length list / 2) list)
joined v y z list places cases at are =
    let same : length cases ≡ length places = ap length are.cases_are ∙ length-map places _ in
    let all : length list ≡ length places + length cases = ap length at ∙ length-append places cases in
    let half : length list / 2 ≡ length places = omega (arith, same, all) in
    let first : take (length list / 2) list ≡ places = ap₂ take half at ∙ take-append_seam places cases in
    let second : drop (length list / 2) list ≡ cases = ap₂ drop half at ∙ drop-append_seam places cases in
    subst (λ places. AreListed v y z places (drop (length list / 2) list)) (sym first) (subst (AreListed v y z places) (sym second) (cells_listed v y z places cases are))
