-- Bricks all of whose samples are one value.
use Rattle.std.proofs.Common.{◌≡◌, ℕ, ◌+◌, ◌-◌, ◌*◌, ◌^◌, ◌<◌, ◌≤◌, true, List, [], ◌∷◌, take, drop, refl, sym, ◌∙◌, ap, ap₂, subst, arith, inl, inr, ℤ, pos, negsuc}
use Rattle.std.specs.Prelude.{◌≤ℤ◌}
use Rattle.std.specs.List.{fold}
use Rattle.std.specs.Int.{int_max, int_min}
use Rattle.std.proofs.lemmas.Int.{fold-int_max_bounds, fold-int_min_bounds}
use Rattle.std.proofs.lemmas.List.FromFn.{get_or-map-range_with_len}
use Rattle.iso_defs.specs.Grid.{Grid}
use Rattle.iso_defs.proofs.Points.{index_of_point}
use Rattle.iso_base.specs.Volume.{IsGrid, IsSample, Volume, IsVolume, sample}
use Rattle.iso_base.specs.Points.{IsPoint, point_at}
use Rattle.iso_base.specs.declared.point.Point.{Point}
use Rattle.voxel_list.specs.Areas.{Area, IsArea}
use Rattle.brick_store.specs.Boxes.{AreOne, IsBox}
use Rattle.brick_store.proofs.BoxPoints.{x_side, y_side, z_side}
use Rattle.brick_store.proofs.BrickNumbers.{IsIn, brick_in, is_in}
use Rattle.iso_defs.specs.Bricks.{brick_count, brick_point, bricks_along, in_brick}
use Rattle.triangle_laws.proofs.Lists.{In}
use Rattle.brick_store.specs.Copies.{first_brick_along}
use Rattle.brick_store.specs.Holding.{brick_at}
use Rattle.brick_store.proofs.Standing.{IsHome, home_of, point_in}
use Rattle.span_tree.specs.Spans.{IsRightFor, Span, Tree, brick_samples, list_span, no_span, one_span, span_at, span_of, spans_of}
use Rattle.span_tree.proofs.Active.{all_in, inside, listed}
use Rattle.span_tree.specs.Nodes.{IsTree, node_at, tree_of}
use Rattle.span_tree.proofs.Trees.{span_is_node}
use Rattle.span_tree.proofs.SpanLaws.{of_max, of_min}

-- a fold over one value
fold_same : (f : ℤ → ℤ → ℤ) (v : ℤ) (xs : List ℤ) → f v v ≡ v → ((w : ℤ) → In w xs → w ≡ v) → fold f v xs ≡ v
fold_same f v [] same each = refl
fold_same f v (x ∷ xs) same each = ap (λ a. fold f a xs) (ap (f v) (each x (inl refl)) ∙ same) ∙ fold_same f v xs same (λ w i. each w (inr i))

-- the first sample is the least and the greatest
pub least_first : (v : ℤ) → IsSample v → int_min (pos 4294967295) v ≡ v
least_first v is = (let high = is.high in grind arith)

pub greatest_first : (v : ℤ) → IsSample v → int_max (negsuc 2147483647) v ≡ v
greatest_first v is = (let low = is.low in grind arith)

-- the span of some samples that are all one value
pub span_of_same : (v : ℤ) (one : ℤ) (xs : List ℤ) → IsSample v → In one xs → ((w : ℤ) → In w xs → w ≡ v) → list_span xs ≡ one_span v
span_of_same v one [] is there each = absurd there
span_of_same v one (x ∷ xs) is there each =
    let first : x ≡ v = each x (inl refl) in
    ap₂ (λ (l g : ℤ). record { least = l; greatest = g })
    (ap (λ a. fold int_min a xs) (ap (int_min (pos 4294967295)) first ∙ least_first v is)
    ∙ fold_same int_min v xs (of_min (λ z. z ≡ v) v v refl refl) (λ w i. each w (inr i)))
    (ap (λ a. fold int_max a xs) (ap (int_max (negsuc 2147483647)) first ∙ greatest_first v is)
    ∙ fold_same int_max v xs (of_max (λ z. z ≡ v) v v refl refl) (λ w i. each w (inr i)))

-- where the span is that of one value, each sample is that value
same_in_span : (value : ℤ) (xs : List ℤ) → list_span xs ≡ one_span value → (w : ℤ) → In w xs → w ≡ value
same_in_span value xs is w there =
    let least : ℤ = fold int_min (pos 4294967295) xs in
    let greatest : ℤ = fold int_max (negsuc 2147483647) xs in
    let low : least ≤ℤ w = all_in (λ x. least ≤ℤ x) xs w (fold-int_min_bounds (pos 4294967295) xs least refl).1 there in
    let high : w ≤ℤ greatest = all_in (λ x. x ≤ℤ greatest) xs w (fold-int_max_bounds (negsuc 2147483647) xs greatest refl).1 there in
    let first : least ≡ value = ap (λ (s : Span). s.least) is in
    let last : greatest ≡ value = ap (λ (s : Span). s.greatest) is in
    between w (subst (λ n. n ≤ℤ w) first low) (subst (λ n. w ≤ℤ n) last high)
  where
    between : (w : ℤ) → value ≤ℤ w → w ≤ℤ value → w ≡ value
    between w low high = grind arith

-- and so is each sample of a brick
sample_in_span : (v : Volume) (b : ℕ) (value : ℤ) → IsVolume v → b < brick_count v.grid → span_of v b ≡ one_span value
    → (x y z : ℕ) → x < 9 → y < 9 → z < 9 → in_brick v.grid b x y z ≡ true → sample v.samples (brick_point v.grid b x y z) ≡ value
unfolding span_of
sample_in_span v b value is low one x y z hx hy hz there =
    let i : IsIn v.grid b x y z = is_in v.grid b x y z there in
    same_in_span value (brick_samples v b) one _ (listed v (pos 0) b is low x y z (omega (arith, i.x_in)) (omega (arith, i.y_in)) (omega (arith, i.z_in)))

-- the first bricks that hold a point of a box have one value
abbrev pub HaveOne : Grid → Area → ℤ → (ℕ → Span) → Type 0
HaveOne g a value span = (x y z : ℕ) → first_brick_along a.low.x ≤ x → x ≤ first_brick_along a.high.x → first_brick_along a.low.y ≤ y → y ≤ first_brick_along a.high.y → first_brick_along a.low.z ≤ z → z ≤ first_brick_along a.high.z
    → span (brick_at g x y z) ≡ one_span value

-- then all of its samples are that value
pub box_of_one : (v : Volume) (a : Area) (value : ℤ) (spans : List Span) → IsVolume v → IsBox v.grid a → spans ≡ spans_of v
    → HaveOne v.grid a value (span_at spans) → AreOne v.grid a value v.samples
box_of_one v a value spans is box right have p low inside =
    let g : Grid = v.grid in
    let q : Point = point_at g p in
    let first : IsHome g q = home_of g q is.grid (point_in g p is.grid low) in
    let b : ℕ = brick_at g (first_brick_along q.x) (first_brick_along q.y) (first_brick_along q.z) in
    let sx = x_side g a box p low inside in
    let sy = y_side g a box p low inside in
    let sz = z_side g a box p low inside in
    let span : span_at spans b ≡ one_span value
    = have (first_brick_along q.x) (first_brick_along q.y) (first_brick_along q.z) (on _ _ sx.0) (on _ _ sx.1) (on _ _ sy.0) (on _ _ sy.1) (on _ _ sz.0) (on _ _ sz.1) in
    let own : span_of v b ≡ one_span value
    = sym (ap (λ l. span_at l b) right ∙ get_or-map-range_with_len (span_of v) 0 (brick_count g) b b no_span first.brick (omega arith)) ∙ span in
    ap (sample v.samples) (sym (first.point ∙ index_of_point g p low))
    ∙ sample_in_span v b value is first.brick own (q.x - 8 * first_brick_along q.x) (q.y - 8 * first_brick_along q.y) (q.z - 8 * first_brick_along q.z) (omega arith) (omega arith) (omega arith) first.inside
  where
    on : (c d : ℕ) → c ≤ d → first_brick_along c ≤ first_brick_along d
    on c d le = omega (arith, le)

-- the same by the nodes of a tree
pub tree_of_one : (g : Grid) (height half : ℕ) (nodes : List Span) (v : Volume) (a : Area) (value : ℤ) → IsTree g height nodes → IsVolume v → IsArea a → IsPoint g a.high
    → half ≡ 2 ^ height → IsRightFor (tree_of g height nodes) v → HaveOne g a value (λ b. node_at nodes (half + b)) → AreOne v.grid a value v.samples
tree_of_one g height half nodes v a value tree is area high at right have =
    let same : g ≡ v.grid = ap (λ (t : Tree). t.grid) right in
    let grid : IsGrid g = subst IsGrid (sym same) is.grid in
    let spans : List Span = take (brick_count g) (drop (2 ^ height) nodes) in
    let own : HaveOne g a value (span_at spans)
    = λ x y z x0 x1 y0 y1 z0 z1.
    let hx : x < bricks_along g 0 = (let l = grid.x.least in omega (arith, x1, high.x)) in
    let hy : y < bricks_along g 1 = (let l = grid.y.least in omega (arith, y1, high.y)) in
    let hz : z < bricks_along g 2 = (let l = grid.z.least in omega (arith, z1, high.z)) in
    span_is_node (brick_count g) (2 ^ height) nodes tree.room tree.count (brick_at g x y z) (brick_in g x y z hx hy hz)
    ∙ (ap (λ n. node_at nodes (n + brick_at g x y z)) (sym at) ∙ have x y z x0 x1 y0 y1 z0 z1) in
    box_of_one v a value spans is (record { area = area; high = subst (λ g. IsPoint g a.high) same high }) (ap (λ (t : Tree). t.spans) right)
    (subst (λ g. HaveOne g a value (span_at spans)) same own)
