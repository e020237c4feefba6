-- The edges of a row are left behind, one by one.
use Rattle.std.proofs.Common.{◌≡◌, ◌≢◌, ℕ, zero, suc, ◌+◌, ◌*◌, ◌/◌, ◌%◌, ◌<◌, ◌≤◌, Bool, true, false, cond, not, List, [], ◌∷◌, ◌++◌, length, get_or, set, refl, sym, ◌∙◌, ap, subst, inl, inr, arith, eqb}
use Rattle.std.specs.List.{count_by, filter, range_with_len}
use Rattle.std.proofs.lemmas.Bool.{cases_eq, cases_lt, eq-eqb, eqb-true, ne_eqb}
use Rattle.std.proofs.lemmas.List.{get_or-set_other}
use Rattle.std.proofs.lemmas.List.Elements.{filter-append}
use Rattle.std.proofs.lemmas.List.Sums.{count_by-le-length, length-filter}
use Rattle.std.proofs.Math.Nat.{add-mod-mod, mod-add-div, mod-eq_of_lt, mul-add, mul-le-mul_left}
use Rattle.iso_defs.specs.Lists.{below}
use Rattle.iso_defs.specs.Grid.{is_crossing}
use Rattle.triangle_laws.proofs.Counts.{count-append, count-cons}
use Rattle.crossing_edges.specs.Flags.{rank}
use Rattle.flat_mesh.specs.Lattice.{Leveled, heights}
use Rattle.component_labels.specs.Fronts.{none, room, row_name}
use Rattle.component_labels.specs.Labelling.{Known}
use Rattle.part_laws.proofs.Counted.{range_join}
use Rattle.component_walk.specs.declared.edges_behind.Passed.{Passed}
use Rattle.component_walk.specs.Passed.{AreEdges, CanLeave, HasLeft, IsLeft, Leaving, edges_before, row_end}

below_next : (n : ℕ) → below (n + 1) ≡ below n ++ n ∷ []
below_next n = range_join 0 n 1 ∙ ap (λ k. range_with_len 0 n ++ k ∷ []) (let e : 0 + n ≡ n = omega arith in e)

filter_next : (p : ℕ → Bool) (n : ℕ) → filter p (below (n + 1)) ≡ filter p (below n) ++ cond (p n) (n ∷ []) []
filter_next p n = ap (filter p) (below_next n) ∙ filter-append p (below n) (n ∷ [])

count_next : (p : ℕ → Bool) (n : ℕ) → count_by p (below (n + 1)) ≡ count_by p (below n) + cond (p n) 1 0
count_next p n =
    ap (count_by p) (below_next n) ∙ (count-append p (below n) (n ∷ [])
    ∙ ap (λ k. count_by p (below n) + k) (count-cons p n [] ∙ (let z : cond (p n) 1 0 + 0 ≡ cond (p n) 1 0 = omega arith in z)))

none_behind : (xs : List ℕ) → xs ++ [] ≡ xs
none_behind [] = refl
none_behind (x ∷ xs) = ap (λ l. x ∷ l) (none_behind xs)

module _ (v : Leveled) (n : ℕ) where
  abbrev p : ℕ → Bool
  p = is_crossing v.grid (heights v)

  pub before_next : (b : Bool) → p n ≡ b → edges_before v (n + 1) ≡ edges_before v n ++ cond b (n ∷ []) []
  unfolding edges_before
  before_next b e = filter_next p n ∙ ap (λ t. filter p (below n) ++ cond t (n ∷ []) []) e

  pub rank_next : (b : Bool) → p n ≡ b → rank v.grid (heights v) (n + 1) ≡ rank v.grid (heights v) n + cond b 1 0
  unfolding rank
  rank_next b e = count_next p n ∙ ap (λ t. count_by p (below n) + cond t 1 0) e

  pub before_count : length (edges_before v n) ≡ rank v.grid (heights v) n
  unfolding edges_before rank
  before_count = length-filter p (below n)

  pub rank_low : rank v.grid (heights v) n ≤ n
  unfolding rank
  rank_low = let a : count_by p (below n) ≤ length (below n) = count_by-le-length p (below n) in let b : length (below n) ≡ n = length_range 0 n in omega arith
    where
      length_range : (a n : ℕ) → length (range_with_len a n) ≡ n
      length_range a zero = refl
      length_range a (suc n) = ap suc (length_range (a + 1) n)

-- numbers that lie within m of each other and have one remainder by m are one
one_in_window : (m from a b : ℕ) → from ≤ a → a < from + m → from ≤ b → b < from + m → a % m ≡ b % m → a ≡ b
one_in_window m from a b la ha lb hb e =
    let x : a % m + m * (a / m) ≡ a = mod-add-div a m in
    let y : b % m + m * (b / m) ≡ b = mod-add-div b m in
    elim (cases_lt (a / m) (b / m)) [
      | inl l ↦ (
          let z : m * (a / m + 1) ≤ m * (b / m) = mul-le-mul_left m (omega arith) in
          let w : m * (a / m + 1) ≡ m * (a / m) + m * 1 = mul-add m (a / m) 1 in
          absurd (omega arith))
      | inr l ↦ elim (cases_lt (b / m) (a / m)) [
        | inl k ↦ (
            let z : m * (b / m + 1) ≤ m * (a / m) = mul-le-mul_left m (omega arith) in
            let w : m * (b / m + 1) ≡ m * (b / m) + m * 1 = mul-add m (b / m) 1 in
            absurd (omega arith))
        | inr k ↦ (let q : a / m ≡ b / m = omega arith in let r : m * (a / m) ≡ m * (b / m) = ap (λ z. m * z) q in omega arith)
      ]
    ]

row_within : (a b : ℕ) → 0 < 6 * (a * b) → 3 * a ≤ 6 * (a * b)
row_within a b h =
    elim (cases_lt 0 b) [
      | inl some ↦ (let q : a * 1 ≤ a * b = mul-le-mul_left a some in omega (arith, q))
      | inr l ↦ (let z : b ≡ 0 = omega arith in let e : 6 * (a * b) ≡ 6 * (a * 0) = ap (λ t. 6 * (a * t)) z in absurd (omega (arith, e, h)))
    ]

module _ (k : Leaving) (n : ℕ) (labels : Known) (edges : Passed) (h : IsLeft k n labels edges) (inside : n < row_end k) (some : 0 < room k.volume.grid) where
  abbrev R : ℕ
  R = room k.volume.grid

  within : n < row_name k.volume.grid k.row + R
  within = (let w : 3 * k.volume.grid.nx ≤ 6 * (k.volume.grid.nx * k.volume.grid.ny) = row_within k.volume.grid.nx k.volume.grid.ny some in omega (arith, w, inside))

  -- the label that stands at the edge is its own
  pub label_here : get_or labels.marks.labels (n % R) 0 ≡ k.label n
  label_here = h.still n (omega arith) within

  -- a label that stands is counted less often than edges were
  pub count_low : (a : ℕ) → a < length edges.crossings.items → get_or edges.crossings.items a 0 ≤ edges.count
  count_low a low =
      let c : get_or edges.crossings.items a 0 ≡ count_by (λ e. eqb (k.label e) a) (edges_before k.volume n) = h.edges_are.counts a low in
      let m : count_by (λ e. eqb (k.label e) a) (edges_before k.volume n) ≤ length (edges_before k.volume n) = count_by-le-length (λ e. eqb (k.label e) a) (edges_before k.volume n) in
      let l : length (edges_before k.volume n) ≡ rank k.volume.grid (heights k.volume) n = before_count k.volume n in
      omega (arith, c, m, l, h.passed)

  pub passed_low : edges.count < 4294967295
  passed_low = let r : rank k.volume.grid (heights k.volume) n ≤ n = rank_low k.volume n in omega (arith, r, h.passed, h.low, inside)

  abbrev EdgesNext : Passed → Type 0
  EdgesNext edges' = AreEdges k.label (rank k.volume.grid (heights k.volume)) (edges_before k.volume (n + 1)) edges'.crossings.items edges'.order.items × (edges'.count ≡ rank k.volume.grid (heights k.volume) (n + 1))

  -- an edge without a label is not crossing
  pub edges_same : k.label n ≡ none → EdgesNext edges
  edges_same e =
      let no_cross : is_crossing k.volume.grid (heights k.volume) n ≡ false = h.told n h.least inside ∙ ap not (eq-eqb (k.label n) none e) in (
        subst (λ es. AreEdges k.label (rank k.volume.grid (heights k.volume)) es edges.crossings.items edges.order.items) (sym (before_next k.volume n false no_cross ∙ none_behind (edges_before k.volume n))) h.edges_are,
        h.passed ∙ (let z : rank k.volume.grid (heights k.volume) n ≡ rank k.volume.grid (heights k.volume) n + 0 = omega arith in z ∙ sym (rank_next k.volume n false no_cross)),
      )

  -- one with a label is
  pub edges_next : (edges' : Passed) → k.label n ≢ none → edges'.count ≡ edges.count + 1
      → ((f number : ℕ → ℕ) (es : List ℕ) (e : ℕ) → AreEdges f number es edges.crossings.items edges.order.items → f e ≡ k.label n → number e ≡ edges.count
      → AreEdges f number (es ++ e ∷ []) edges'.crossings.items edges'.order.items)
      → EdgesNext edges'
  edges_next edges' d count more =
      let crosses : is_crossing k.volume.grid (heights k.volume) n ≡ true = h.told n h.least inside ∙ ap not (ne_eqb (k.label n) none d) in (
        subst (λ es. AreEdges k.label (rank k.volume.grid (heights k.volume)) es edges'.crossings.items edges'.order.items) (sym (before_next k.volume n true crosses))
            (more k.label (rank k.volume.grid (heights k.volume)) (edges_before k.volume n) n h.edges_are refl (sym h.passed)),
        count ∙ (ap (λ z. z + 1) h.passed ∙ sym (rank_next k.volume n true crosses)),
      )

  -- the label is given up
  pub left_next : (labels' : Known) (edges' : Passed) → labels'.marks.grid ≡ labels.marks.grid → labels'.marks.labels ≡ set labels.marks.labels (n % R) none
      → get_or labels'.marks.labels (n % R) 0 ≡ none → labels'.count ≡ labels.count → labels'.pairs ≡ labels.pairs → length edges'.crossings.items ≡ length edges.crossings.items → EdgesNext edges'
      → IsLeft k (n + 1) labels' edges'
  left_next labels' edges' grid same given count pairs size next = record {
    least = omega (arith, h.least);
    low = h.low;
    grid = grid ∙ h.grid;
    count = count ∙ h.count;
    pairs = pairs ∙ h.pairs;
    gone = λ m l b.
        elim (cases_eq (m % R) (n % R)) [
          | inl e ↦ subst (λ z. get_or labels'.marks.labels z 0 ≡ none) (sym e) given
          | inr d ↦ elim (cases_lt m n) [
            | inl before ↦ ap (λ l. get_or l (m % R) 0) same ∙ (get_or-set_other labels.marks.labels (n % R) (m % R) none 0 d ∙ h.gone m l before)
            | inr a ↦ absurd (d (ap (λ z. z % R) (let e : m ≡ n = omega (arith, a, b) in e)))
          ]
        ];
    still = λ m l b.
        ap (λ l. get_or l (m % R) 0) same
        ∙ (get_or-set_other labels.marks.labels (n % R) (m % R) none 0 (λ e. (let q : m ≡ n = one_in_window R (row_name k.volume.grid k.row) m n (omega (arith, h.least, l)) b h.least within e in omega (arith, q, l)))
        ∙ h.still m (omega (arith, l)) b);
    told = h.told;
    size = size ∙ (h.size ∙ sym count);
    edges_are = next.0;
    passed = next.1;
  }

  -- or there was none
  pub left_still : get_or labels.marks.labels (n % R) 0 ≡ none → IsLeft k (n + 1) labels edges
  left_still given =
      let next : EdgesNext edges = edges_same (sym label_here ∙ given) in
      record {
        least = omega (arith, h.least);
        low = h.low;
        grid = h.grid;
        count = h.count;
        pairs = h.pairs;
        gone = λ m l b. elim (cases_lt m n) [ inl before ↦ h.gone m l before | inr a ↦ subst (λ z. get_or labels.marks.labels (z % R) 0 ≡ none) (let e : n ≡ m = omega (arith, a, b) in e) given ];
        still = λ m l b. h.still m (omega (arith, l)) b;
        told = h.told;
        size = h.size;
        edges_are = next.0;
        passed = next.1;
      }

-- so many edges one behind the other that have no label
pub left_stills : (k : Leaving) (n : ℕ) (labels : Known) (edges : Passed) (j : ℕ) → IsLeft k n labels edges → n + j ≤ row_end k → 0 < room k.volume.grid
    → ((i : ℕ) → i < j → get_or labels.marks.labels ((n + i) % room k.volume.grid) 0 ≡ none) → IsLeft k (n + j) labels edges
left_stills k n labels edges zero h inside some each = subst (λ m. IsLeft k m labels edges) (let e : n ≡ n + 0 = omega arith in e) h
left_stills k n labels edges (suc j) h inside some each =
    subst (λ m. IsLeft k m labels edges) (let e : n + j + 1 ≡ n + suc j = omega arith in e)
    (left_still k (n + j) labels edges (left_stills k n labels edges j h (omega (arith, inside)) some (λ i l. each i (omega (arith, l)))) (omega (arith, inside)) some (each j (omega arith)))

unlabelled : (a : ℕ) → not (eqb a none) ≡ false → a ≡ none
unlabelled a e = eqb-true a none (not_back (eqb a none) e)
  where
    not_back : (b : Bool) → not b ≡ false → b ≡ true
    not_back true e = refl
    not_back false e = sym e

-- so many edges one behind the other that are not crossing: they have no label
pub left_quiet : (k : Leaving) (n : ℕ) (labels : Known) (edges : Passed) (j : ℕ) → IsLeft k n labels edges → n + j ≤ row_end k → 0 < room k.volume.grid
    → ((m : ℕ) → n ≤ m → m < n + j → is_crossing k.volume.grid (heights k.volume) m ≡ false) → IsLeft k (n + j) labels edges
left_quiet k n labels edges j h inside some quiet =
    let w : 3 * k.volume.grid.nx ≤ 6 * (k.volume.grid.nx * k.volume.grid.ny) = row_within k.volume.grid.nx k.volume.grid.ny some in
    left_stills k n labels edges j h inside some
    (λ i l.
    h.still (n + i) (omega arith) (omega (arith, w, inside, l))
    ∙ unlabelled (k.label (n + i)) (sym (h.told (n + i) (omega (arith, h.least)) (omega (arith, inside, l))) ∙ quiet (n + i) (omega arith) (omega (arith, l))))

-- where a place has room behind it, the next places are those of the next names
pub next_place : (m n place j : ℕ) → place ≡ n % m → place + j < m → place + j ≡ (n + j) % m
next_place m n place j e low =
    let whole : (n + j) % m ≡ j + place
    = ap (λ z. z % m) (let c : n + j ≡ j + n = omega arith in c) ∙ (sym (add-mod-mod j n m) ∙ (ap (λ z. (j + z) % m) (sym e) ∙ mod-eq_of_lt (let l : j + place < m = omega arith in l))) in
    (let c : place + j ≡ j + place = omega arith in c) ∙ sym whole

-- none are left behind
pub has_none : (place : ℕ) (l : Known) (e : Passed) → HasLeft place 0 l e l e
has_none place l e = λ k n inside at h. subst (λ m. IsLeft k m l e) (let z : n ≡ n + 0 = omega arith in z) h

-- some are left behind after others
pub has_more : (place a some : ℕ) (l l' l'' : Known) (e e' e'' : Passed) → place + a < room l.marks.grid → HasLeft place a l e l' e' → HasLeft (place + a) some l' e' l'' e''
    → HasLeft place (a + some) l e l'' e''
has_more place a some l l' l'' e e' e'' fits first second = λ k n inside at h.
    (let r : room l.marks.grid ≡ room k.volume.grid = ap room h.grid in
    subst (λ m. IsLeft k m l'' e'') (let z : n + a + some ≡ n + (a + some) = omega arith in z)
    (second k (n + a) (omega (arith, inside)) (next_place (room k.volume.grid) n place a at (omega (arith, r, fits))) (first k n (omega (arith, inside)) at h)))

-- so many that have no label
pub has_still : (place count : ℕ) (l : Known) (e : Passed) → place + count ≤ room l.marks.grid → 0 < room l.marks.grid
    → ((i : ℕ) → i < count → get_or l.marks.labels (place + i) 0 ≡ none) → HasLeft place count l e l e
has_still place count l e fits some each = λ k n inside at h.
    (let r : room l.marks.grid ≡ room k.volume.grid = ap room h.grid in
    left_stills k n l e count h inside (omega (arith, r, some))
    (λ i low. ap (λ p. get_or l.marks.labels p 0) (sym (next_place (room k.volume.grid) n place i at (omega (arith, r, fits, low)))) ∙ each i low))

pub can_more : (place count a some : ℕ) (l l' : Known) (e e' : Passed) → place + count ≤ room l.marks.grid → 0 < some → a + some ≤ count → CanLeave place count l e → HasLeft place a l e l' e'
    → CanLeave (place + a) some l' e'
can_more place count a some l l' e e' fits more few c h =
    let r : room l.marks.grid ≡ room c.leaving.volume.grid = ap room c.left.grid in
    record {
      leaving = c.leaving;
      name = c.name + a;
      inside = omega (arith, c.inside, few);
      at = next_place (room c.leaving.volume.grid) c.name place a c.at (omega (arith, r, fits, more, few));
      left = h c.leaving c.name (omega (arith, c.inside, few)) c.at c.left;
    }

pub room_same : (place count a : ℕ) (l l' : Known) (e e' : Passed) → a ≤ count → CanLeave place count l e → HasLeft place a l e l' e' → room l'.marks.grid ≡ room l.marks.grid
room_same place count a l l' e e' few c h =
    let i : IsLeft c.leaving (c.name + a) l' e' = h c.leaving c.name (omega (arith, c.inside, few)) c.at c.left in
    ap room (i.grid ∙ sym c.left.grid)

-- labels that were not left behind are as they were
pub label_kept : (place count a j : ℕ) (l l' : Known) (e e' : Passed) → place + count ≤ room l.marks.grid → a ≤ j → j < count → CanLeave place count l e → HasLeft place a l e l' e'
    → get_or l'.marks.labels (place + j) 0 ≡ get_or l.marks.labels (place + j) 0
label_kept place count a j l l' e e' fits from low c h =
    let k : Leaving = c.leaving in
    let R : ℕ = room k.volume.grid in
    let r : room l.marks.grid ≡ R = ap room c.left.grid in
    let at : place + j ≡ (c.name + j) % R = next_place R c.name place j c.at (omega (arith, r, fits, low)) in
    let w : 3 * k.volume.grid.nx ≤ 6 * (k.volume.grid.nx * k.volume.grid.ny) = row_within k.volume.grid.nx k.volume.grid.ny (omega (arith, r, fits, low)) in
    let after : IsLeft k (c.name + a) l' e' = h k c.name (omega (arith, c.inside, from, low)) c.at c.left in
    ap (λ p. get_or l'.marks.labels p 0) at
    ∙ (after.still (c.name + j) (omega (arith, from)) (omega (arith, w, c.inside, low))
    ∙ (sym (c.left.still (c.name + j) (omega arith) (omega (arith, w, c.inside, low))) ∙ ap (λ p. get_or l.marks.labels p 0) (sym at)))

-- so many are left behind that have no label, after others
pub has_over : (place count a some : ℕ) (l l' : Known) (e e' : Passed) → place + count ≤ room l.marks.grid → a < count → a + some ≤ count → CanLeave place count l e → HasLeft place a l e l' e'
    → ((k : ℕ) → k < some → get_or l.marks.labels (place + (a + k)) 0 ≡ none) → HasLeft place (a + some) l e l' e'
has_over place count a some l l' e e' fits low few c h each =
    let r : room l'.marks.grid ≡ room l.marks.grid = room_same place count a l l' e e' (omega (arith, low)) c h in
    has_more place a some l l' l' e e' e' (omega (arith, fits, low)) h
    (has_still (place + a) some l' e' (omega (arith, r, fits, few)) (omega (arith, r, fits, low))
    (λ k i.
    ap (λ p. get_or l'.marks.labels p 0) (let z : place + a + k ≡ place + (a + k) = omega arith in z)
    ∙ (label_kept place count a (a + k) l l' e e' fits (omega arith) (omega (arith, i, few)) c h ∙ each k i)))
