-- Slabs in a pad, against grids with a layer at both ends; and the lists of their samples.
use Rattle.std.proofs.Common.{◌≡◌, ℕ, ◌+◌, ◌-◌, ◌*◌, ◌<◌, ◌≤◌, inl, inr, eqb, Bool, true, false, if◌then◌else◌, ℤ, pos, List, length, take, drop, get_or, map, refl, sym, ap, ◌∙◌, subst, arith}
use Rattle.std.specs.Prelude.{◌&&◌, ◌||◌}
use Rattle.std.proofs.lemmas.Bool.{and_cases, and_parts, eqb-false, eqb-true, or_cases, or_parts}
use Rattle.std.proofs.lemmas.List.{ext_get_or, get_or-drop, get_or-map, get_or-take, length-drop, length-map, length-take-le}
use Rattle.std.proofs.lemmas.List.FromFn.{get_or-map-range_with_len, length-map-range_with_len}
use Rattle.iso_defs.specs.Grid.{index, point_count}
use Rattle.iso_defs.proofs.Points.{index_in, x_index, y_index, z_index}
use Rattle.iso_base.specs.Volume.{sample, grown}
use Rattle.voxel_list.proofs.Padding.{AtEnd, moved_sample, outer_sample, outer_x, outer_y, outer_z}
use Rattle.padded_samples.specs.declared.ends.Ends.{Ends}
use Rattle.padded_samples.specs.Pads.{InPad, padded_at, padded_list}
use Rattle.padded_samples.specs.PaddedSlabs.{HoldsPadAround, SlabInPad, both, in_both, is_in_pad, layers, point_in_both, ringed, slab_at, slab_list}

-- the sample of the list at a point
pub listed : (s : SlabInPad) (point : ℕ) → point < point_count (ringed s.ends s.grid) → sample (slab_list s) point ≡ slab_at s point
listed s point low = get_or-map-range_with_len (slab_at s) 0 (point_count (ringed s.ends s.grid)) point point (pos 0) low (omega arith)

pub slab_length : (s : SlabInPad) → length (slab_list s) ≡ point_count (ringed s.ends s.grid)
slab_length s = length-map-range_with_len (slab_at s) 0 (point_count (ringed s.ends s.grid))

-- the sample at a place of a run
pub run_at : (s : SlabInPad) (start n k : ℕ) → k < n → start + n ≤ point_count (ringed s.ends s.grid) → sample (take n (drop start (slab_list s))) k ≡ slab_at s (start + k)
run_at s start n k low room =
    get_or-take n (drop start (slab_list s)) k (pos 0) low ∙ get_or-drop start (slab_list s) k (pos 0) ∙ listed s (start + k) (omega (arith, low, room))

pub run_length : (s : SlabInPad) (start n : ℕ) → start + n ≤ point_count (ringed s.ends s.grid) → length (take n (drop start (slab_list s))) ≡ n
run_length s start n room = length-take-le n (drop start (slab_list s)) (omega (arith, room, length-drop start (slab_list s), slab_length s))

-- the signs of a run
pub signs_are : (f : ℤ → ℕ) (s : SlabInPad) (start n : ℕ) (signs : List ℕ) → start + n ≤ point_count (ringed s.ends s.grid) → length signs ≡ n
    → ((i : ℕ) → i < n → get_or signs i 0 ≡ f (slab_at s (start + i))) → signs ≡ map f (take n (drop start (slab_list s)))
signs_are f s start n signs room len each =
    let run = take n (drop start (slab_list s)) in
    let size : length run ≡ n = run_length s start n room in
    ext_get_or 0 signs (map f run) (len ∙ sym (length-map run f ∙ size))
    (λ i low. (let within : i < n = omega (arith, low, len) in
    each i within ∙ sym (get_or-map f run i (pos 0) 0 (omega (arith, size, within)) ∙ ap f (run_at s start n i within room))))

-- at most one layer at an end
pub at_most_one : (there : Bool) → layers there ≤ 1
at_most_one true = omega arith
at_most_one false = omega arith

-- a point of a slab, so many slices further up
place_in_both : (there : Bool) (a k lift : ℕ) → lift + layers there ≡ 1 → (if there then a else a + k) ≡ a + k * lift
place_in_both true a k lift e = let f : lift + 1 ≡ 1 = e in let g : lift ≡ 0 = omega (arith, f) in none a k ∙ ap (λ (l : ℕ). a + k * l) (sym g)
  where
    none : (a k : ℕ) → a ≡ a + k * 0
    none a k = omega arith
place_in_both false a k lift e = let f : lift + 0 ≡ 1 = e in let g : lift ≡ 1 = omega (arith, f) in one a k ∙ ap (λ (l : ℕ). a + k * l) (sym g)
  where
    one : (a k : ℕ) → a + k ≡ a + k * 1
    one a k = omega arith

module _ (s : SlabInPad) (lift : ℕ) (lifts : lift + layers s.ends.below ≡ 1) where
  pub lifted : (a : ℕ) → point_in_both s a ≡ a + (s.grid.nx + 2) * (s.grid.ny + 2) * lift
  lifted a = place_in_both s.ends.below a ((s.grid.nx + 2) * (s.grid.ny + 2)) lift lifts

  -- the sample at a point, and so many further along its row
  pub at_lifted : (x y z : ℕ) → padded_at (in_both s) (index (grown s.grid) x y (z + lift)) ≡ slab_at s (index (ringed s.ends s.grid) x y z)
  at_lifted x y z = ap (padded_at (in_both s)) (sym (lifted (index (ringed s.ends s.grid) x y z) ∙ place (s.grid.nx + 2) (s.grid.ny + 2)))
    where
      place : (w h : ℕ) → x + w * (y + h * z) + w * h * lift ≡ x + w * (y + h * (z + lift))
      place w h = omega arith

  pub along_lifted : (x y z i : ℕ) → padded_at (in_both s) (index (grown s.grid) x y (z + lift) + i) ≡ slab_at s (index (ringed s.ends s.grid) x y z + i)
  along_lifted x y z i = ap (padded_at (in_both s)) (sym (lifted (index (ringed s.ends s.grid) x y z + i) ∙ place (s.grid.nx + 2) (s.grid.ny + 2)))
    where
      place : (w h : ℕ) → x + w * (y + h * z) + i + w * h * lift ≡ x + w * (y + h * (z + lift)) + i
      place w h = omega arith

  -- the same by rows
  pub row_lifted : (start first i : ℕ) → (s.grid.nx + 2) * first ≡ start
      → padded_at (in_both s) ((s.grid.nx + 2) * (first + (s.grid.ny + 2) * lift) + i) ≡ slab_at s (start + i)
  row_lifted start first i begun =
      ap (padded_at (in_both s)) (place (s.grid.nx + 2) (s.grid.ny + 2) ∙ ap (λ (k : ℕ). k + i + (s.grid.nx + 2) * (s.grid.ny + 2) * lift) begun ∙ sym (lifted (start + i)))
    where
      place : (w h : ℕ) → w * (first + h * lift) + i ≡ w * first + i + w * h * lift
      place w h = omega arith

  -- a slice of the slab is one of the grid with a layer at both ends
  pub slice_lifted : (z : ℕ) → z < s.grid.nz + (layers s.ends.below + layers s.ends.above) → z + lift < s.grid.nz + 2
  slice_lifted z low = omega (arith, low, lifts, at_most_one s.ends.above)

-- a slab with a layer at both ends
pub same_list : (s : SlabInPad) (p : InPad) → in_both s ≡ p → s.ends ≡ both → slab_list s ≡ padded_list p
same_list s p same ends = ap (λ (e : Ends). slab_list (record { grid = s.grid; samples = s.samples; pad = s.pad; ends = e })) ends ∙ ap padded_list same

pub same_grid : (s : SlabInPad) (p : InPad) → in_both s ≡ p → s.ends ≡ both → ringed s.ends s.grid ≡ grown p.grid
same_grid s p same ends = ap (λ (e : Ends). ringed e s.grid) ends ∙ ap (λ (q : InPad). grown q.grid) same

-- along z: in a layer at an end, or a slice of samples
in_layer : (b a : Bool) (n z lift : ℕ) → lift + layers b ≡ 1 → ((b && eqb z 0) || (a && eqb z (n + layers b))) ≡ true → AtEnd (n + 2) (z + lift)
in_layer b a n z lift e t = elim (or_cases (b && eqb z 0) (a && eqb z (n + layers b)) t) [
  | inl l ↦ (let p = and_parts b (eqb z 0) l in
      let one : layers b ≡ 1 = ap layers p.0 in
      inl (omega (arith, eqb-true z 0 p.1, e, one)))
  | inr r ↦ (let p = and_parts a (eqb z (n + layers b)) r in
      inr (omega (arith, eqb-true z (n + layers b) p.1, e)))
]

in_slice : (b a : Bool) (n z lift : ℕ) → lift + layers b ≡ 1 → z < n + (layers b + layers a) → ((b && eqb z 0) || (a && eqb z (n + layers b))) ≡ false
    → (0 < z + lift) × (z + lift < n + 1)
in_slice b a n z lift e low f =
    let p = or_parts (b && eqb z 0) (a && eqb z (n + layers b)) f in (
      elim (and_cases b (eqb z 0) p.0) [
        | inl l ↦ (let none : layers b ≡ 0 = ap layers l in omega (arith, e, none))
        | inr r ↦ (let apart : z ≡ 0 → ⊥ = eqb-false z 0 r in omega (arith, apart))
      ],
      elim (and_cases a (eqb z (n + layers b)) p.1) [
        | inl l ↦ (let none : layers a ≡ 0 = ap layers l in omega (arith, e, low, none))
        | inr r ↦ (let apart : z ≡ n + layers b → ⊥ = eqb-false z (n + layers b) r in omega (arith, e, low, apart, at_most_one a))
      ],
    )

-- along another axis: in the ring, or a point of samples
in_ring : (n x : ℕ) → (eqb x 0 || eqb x (n + 1)) ≡ true → AtEnd (n + 2) x
in_ring n x t = elim (or_cases (eqb x 0) (eqb x (n + 1)) t) [
  | inl l ↦ inl (eqb-true x 0 l)
  | inr r ↦ inr (omega (arith, eqb-true x (n + 1) r))
]

in_row : (n x : ℕ) → x < n + 2 → (eqb x 0 || eqb x (n + 1)) ≡ false → (0 < x) × (x < n + 1)
in_row n x low f =
    let p = or_parts (eqb x 0) (eqb x (n + 1)) f in
    let first : x ≡ 0 → ⊥ = eqb-false x 0 p.0 in
    let last : x ≡ n + 1 → ⊥ = eqb-false x (n + 1) p.1 in
    (omega (arith, first), omega (arith, last, low))

module _ (s : SlabInPad) (x y z : ℕ) (low_x : x < s.grid.nx + 2) (low_y : y < s.grid.ny + 2)
    (low_z : z < s.grid.nz + (layers s.ends.below + layers s.ends.above)) where
  lift : ℕ
  lift = 1 - layers s.ends.below

  lifts : lift + layers s.ends.below ≡ 1
  unfolding lift
  lifts = omega (arith, at_most_one s.ends.below)

  up : z + lift < s.grid.nz + 2
  up = slice_lifted s lift lifts z low_z

  place : ℕ
  place = index (grown s.grid) x y (z + lift)

  here : sample (slab_list s) (index (ringed s.ends s.grid) x y z) ≡ padded_at (in_both s) place
  unfolding place
  here = listed s (index (ringed s.ends s.grid) x y z) (index_in (ringed s.ends s.grid) x y z low_x low_y low_z) ∙ sym (at_lifted s lift lifts x y z)

  abbrev in_x : Bool
  in_x = eqb x 0 || eqb x (s.grid.nx + 1)

  abbrev in_y : Bool
  in_y = eqb y 0 || eqb y (s.grid.ny + 1)

  abbrev in_z : Bool
  in_z = (s.ends.below && eqb z 0) || (s.ends.above && eqb z (s.grid.nz + layers s.ends.below))

  outside : (in_x || (in_y || in_z)) ≡ true → padded_at (in_both s) place ≡ s.pad
  unfolding place
  outside t = outer_sample s.grid s.samples s.pad (index (grown s.grid) x y (z + lift)) (elim (or_cases in_x (in_y || in_z) t) [
    | inl e ↦ outer_x (grown s.grid) _ (subst (AtEnd (s.grid.nx + 2)) (sym (x_index (grown s.grid) x y (z + lift) low_x low_y up)) (in_ring s.grid.nx x e))
    | inr r ↦ elim (or_cases in_y in_z r) [
      | inl e ↦ outer_y (grown s.grid) _ (subst (AtEnd (s.grid.ny + 2)) (sym (y_index (grown s.grid) x y (z + lift) low_x low_y up)) (in_ring s.grid.ny y e))
      | inr e ↦ outer_z (grown s.grid) _ (subst (AtEnd (s.grid.nz + 2)) (sym (z_index (grown s.grid) x y (z + lift) low_x low_y up)) (in_layer s.ends.below s.ends.above s.grid.nz z lift lifts e))
    ]
  ])

  inside : (in_x || (in_y || in_z)) ≡ false → padded_at (in_both s) place ≡ sample s.samples (index s.grid (x - 1) (y - 1) (z - layers s.ends.below))
  unfolding place
  inside f =
      let p = or_parts in_x (in_y || in_z) f in
      let q = or_parts in_y in_z p.1 in
      let at_x = in_row s.grid.nx x low_x p.0 in
      let at_y = in_row s.grid.ny y low_y q.0 in
      let at_z = in_slice s.ends.below s.ends.above s.grid.nz z lift lifts low_z q.1 in
      let a : x ≡ x - 1 + 1 = omega (arith, at_x.0) in
      let b : y ≡ y - 1 + 1 = omega (arith, at_y.0) in
      let c : z + lift ≡ z - layers s.ends.below + 1 = omega (arith, at_z.0, lifts) in
      ap (λ (k : ℕ). padded_at (in_both s) (index (grown s.grid) k y (z + lift))) a
      ∙ ap (λ (k : ℕ). padded_at (in_both s) (index (grown s.grid) (x - 1 + 1) k (z + lift))) b
      ∙ ap (λ (k : ℕ). padded_at (in_both s) (index (grown s.grid) (x - 1 + 1) (y - 1 + 1) k)) c
      ∙ moved_sample s.grid s.samples s.pad (x - 1) (y - 1) (z - layers s.ends.below)
      (omega (arith, at_x.0, at_x.1)) (omega (arith, at_y.0, at_y.1)) (omega (arith, at_z.0, at_z.1, c))

  pub held : sample (slab_list s) (index (ringed s.ends s.grid) x y z)
      ≡ (if is_in_pad s.ends s.grid x y z then s.pad else sample s.samples (index s.grid (x - 1) (y - 1) (z - layers s.ends.below)))
  held = here ∙ chosen (in_x || (in_y || in_z)) outside inside
    where
      chosen : {v a b : ℤ} (t : Bool) → (t ≡ true → v ≡ a) → (t ≡ false → v ≡ b) → v ≡ (if t then a else b)
      chosen true f g = f refl
      chosen false f g = g refl

pub holds_pad : (s : SlabInPad) → HoldsPadAround s
holds_pad s x y z low_x low_y low_z = held s x y z low_x low_y low_z
