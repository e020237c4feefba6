-- What the nodes of a tree stand for.
use Rattle.std.proofs.Common.{◌≡◌, ℕ, ◌+◌, ◌-◌, ◌*◌, ◌^◌, ◌<◌, ◌≤◌, Bool, false, List, [], ◌∷◌, ◌++◌, length, take, drop, replicate, set, sym, ◌∙◌, ap, ap₂, subst, arith, inl, inr, ℤ, length-set}
use Rattle.std.specs.Prelude.{Option, Some, None}
use Rattle.std.proofs.lemmas.Bool.{cases_eq, cases_lt}
use Rattle.std.proofs.lemmas.List.{append_assoc, ext_get_or, get_or_append_left, get_or-append_right, get_or-drop, get_or-replicate, get_or-set_same, get_or-set_other, get_or-take, length-append, length-drop, length-replicate, length-take-le, take_all, append-nil}
use Rattle.std.proofs.Math.ListN.{drop_of_length-le}
use Rattle.std.proofs.lemmas.List.FromFn.{get_or-map-range_with_len, length-map-range_with_len, map-range_with_len_more}
use Rattle.iso_defs.specs.Grid.{Grid}
use Rattle.iso_defs.specs.Bricks.{brick_count, is_active}
use Rattle.iso_base.specs.Volume.{field, Volume, IsVolume}
use Rattle.brick_store.specs.declared.numbering.BrickId.{BrickId}
use Rattle.span_tree.specs.Spans.{IsRightFor, Span, Tree, no_span, span_at, span_of, spans_of, straddles}
use Rattle.brick_store.specs.Next.{IsFirst, IsNext}
use Rattle.span_tree.specs.Nodes.{IsFirstLeaf, IsNextLeaf, IsTree, first_spans, node_at, tree_of}
use Rattle.span_tree.proofs.Active.{active_straddles}
use Rattle.span_tree.proofs.Searching.{no_span_straddles}

-- the spans of a tree, from its nodes
module _ (count half : ℕ) (nodes : List Span) (room : count ≤ half) (len : length nodes ≡ 2 * half) where
  pub length-spans : length (take count (drop half nodes)) ≡ count
  length-spans = length-take-le count (drop half nodes) (omega (arith, length-drop half nodes))

  pub span_is_node : (b : ℕ) → b < count → span_at (take count (drop half nodes)) b ≡ node_at nodes (half + b)
  span_is_node b low = get_or-take count (drop half nodes) b no_span low ∙ get_or-drop half nodes b no_span

-- one more span behind the others
pub span_put : (v : Volume) (half b : ℕ) (nodes more : List Span) (s : Span) → nodes ≡ replicate half no_span ++ first_spans v b → s ≡ span_of v b
    → more ≡ nodes ++ s ∷ [] → more ≡ replicate half no_span ++ first_spans v (b + 1)
span_put v half b nodes more s before is put =
    put ∙ (ap₂ (λ (l : List Span) (s : Span). l ++ s ∷ []) before is
    ∙ (append_assoc (replicate half no_span) (first_spans v b) (span_of v b ∷ [])
    ∙ ap (λ l. replicate half no_span ++ l) (sym (map-range_with_len_more (span_of v) 0 b b (omega arith)))))

-- the nodes before they are joined
module _ (v : Volume) (half count k n : ℕ) (nodes all : List Span) (before : nodes ≡ replicate half no_span ++ first_spans v count)
    (room : count ≤ half) (size : n ≡ length nodes) (put : all ≡ take (2 * half) nodes ++ replicate (2 * half - n) no_span) where
  front : length (replicate half no_span) ≡ half
  front = length-replicate half no_span

  laid : length nodes ≡ half + count
  laid =
      ap length before ∙ (length-append (replicate half no_span) (first_spans v count)
      ∙ ap₂ ◌+◌ front (length-map-range_with_len (span_of v) 0 count))

  whole : take (2 * half) nodes ≡ nodes
  whole = take_all (2 * half) nodes (omega (arith, laid))

  all_is : all ≡ nodes ++ replicate (2 * half - n) no_span
  all_is = put ∙ ap (λ l. l ++ replicate (2 * half - n) no_span) whole

  pub laid_out : length all ≡ 2 * half
  laid_out =
      ap length all_is ∙ (length-append nodes (replicate (2 * half - n) no_span)
      ∙ (ap (λ m. length nodes + m) (length-replicate (2 * half - n) no_span) ∙ omega (arith, laid, size)))

  pub brick_laid : k < count → node_at all (half + k) ≡ span_of v k
  brick_laid low =
      ap (λ l. node_at l (half + k)) all_is
      ∙ (get_or_append_left nodes (replicate (2 * half - n) no_span) no_span (half + k) (omega (arith, laid))
      ∙ (ap (λ l. node_at l (half + k)) before
      ∙ (get_or-append_right (replicate half no_span) (first_spans v count) half (half + k) no_span front (omega arith)
      ∙ (ap (node_at (first_spans v count)) (less half k)
      ∙ get_or-map-range_with_len (span_of v) 0 count k k no_span low (omega arith)))))
    where
      less : (a k : ℕ) → a + k - a ≡ k
      less a k = omega arith

  pub rest_laid : count ≤ k → k < half → node_at all (half + k) ≡ no_span
  rest_laid high low =
      ap (λ l. node_at l (half + k)) all_is
      ∙ (get_or-append_right nodes (replicate (2 * half - n) no_span) (half + count) (half + k) no_span laid (omega arith)
      ∙ get_or-replicate (2 * half - n) (half + k - (half + count)) no_span no_span (omega (arith, laid, size)))

-- nodes that hold the spans of a volume stand for the right tree
pub tree_right : (v : Volume) (g : Grid) (height : ℕ) (nodes : List Span) → g ≡ v.grid → brick_count v.grid ≤ 2 ^ height → length nodes ≡ 2 * 2 ^ height
    → ((k : ℕ) → k < brick_count v.grid → node_at nodes (2 ^ height + k) ≡ span_of v k) → IsRightFor (tree_of g height nodes) v
tree_right v g height nodes same room len each =
    ap (λ (g : Grid). tree_of g height nodes) same
    ∙ ap (λ (l : List Span). record { grid = v.grid; spans = l })
    (ext_get_or no_span (take (brick_count v.grid) (drop (2 ^ height) nodes)) (spans_of v)
    (length-spans (brick_count v.grid) (2 ^ height) nodes room len ∙ sym (length-map-range_with_len (span_of v) 0 (brick_count v.grid)))
    (λ k h. let low : k < brick_count v.grid = subst (λ n. k < n) (length-spans (brick_count v.grid) (2 ^ height) nodes room len) h in
    span_is_node (brick_count v.grid) (2 ^ height) nodes room len k low
    ∙ (each k low ∙ sym (get_or-map-range_with_len (span_of v) 0 (brick_count v.grid) k k no_span low (omega arith)))))

-- nodes of which one place was written
pub tree_touched : (g : Grid) (height b : ℕ) (old new : List Span) (s : Span) → IsTree g height old → length new ≡ length old → b < brick_count g
    → ((k : ℕ) → length old ≤ 2 * k → node_at new k ≡ node_at (set old (2 ^ height + b) s) k)
    → tree_of g height new ≡ record { grid = g; spans = set (tree_of g height old).spans b s }
tree_touched g height b old new s is len b_low each =
    let n : ℕ = brick_count g in
    let half : ℕ = 2 ^ height in
    let count : length new ≡ 2 * half = len ∙ is.count in
    let old_len : length (take n (drop half old)) ≡ n = length-spans n half old is.room is.count in
    ap (λ (l : List Span). record { grid = g; spans = l })
    (ext_get_or no_span (take n (drop half new)) (set (take n (drop half old)) b s)
    (length-spans n half new is.room count ∙ sym (length-set (take n (drop half old)) b s ∙ old_len))
    (λ k h. let low : k < n = subst (λ m. k < m) (length-spans n half new is.room count) h in
    span_is_node n half new is.room count k low
    ∙ (each (half + k) (omega (arith, is.count)) ∙ elim (cases_eq k b) [
      | inl e ↦ ap (λ k. node_at (set old (half + b) s) (half + k)) e
          ∙ (get_or-set_same old (half + b) s no_span (let r = is.room in omega (arith, is.count))
          ∙ sym (ap (span_at (set (take n (drop half old)) b s)) e ∙ get_or-set_same (take n (drop half old)) b s no_span (omega (arith, old_len))))
      | inr e ↦ get_or-set_other old (half + b) (half + k) s no_span (λ f. e (omega arith))
          ∙ (sym (span_is_node n half old is.room is.count k low) ∙ sym (get_or-set_other (take n (drop half old)) b k s no_span e))
    ])))

-- the place that was found is a brick's
pub leaf_first : (g : Grid) (height : ℕ) (nodes : List Span) (level : ℤ) (from leaf : ℕ) → IsTree g height nodes
    → IsFirstLeaf level nodes (2 ^ height + from) (1 * 2 ^ height) ((1 + 1) * 2 ^ height) leaf
    → IsFirst (λ b. straddles level (span_at (tree_of g height nodes).spans b)) from (length (tree_of g height nodes).spans) (leaf - 2 ^ height)
leaf_first g height nodes level from leaf is found =
    let half : ℕ = 2 ^ height in
    let n : ℕ = brick_count g in
    let b : ℕ = leaf - half in
    let low = found.from_low in
    let high = found.high in
    let place : half + b ≡ leaf = omega arith in
    let in_bricks : b < n = elim (cases_lt b n) [
      | inl lt ↦ lt
      | inr ge ↦ absurd (let none : straddles level (node_at nodes leaf) ≡ false
          = ap (λ k. straddles level (node_at nodes k)) (sym place) ∙ (ap (straddles level) (is.rest b ge (omega arith)) ∙ no_span_straddles level) in
          let yes = found.passes in cc)
    ] in
    record {
      low = omega arith;
      high = subst (λ m. b < m) (sym (length-spans n half nodes is.room is.count)) in_bricks;
      passes = ap (straddles level) (span_is_node n half nodes is.room is.count b in_bricks ∙ ap (node_at nodes) place) ∙ found.passes;
      before = λ k k_from k_low. ap (straddles level) (span_is_node n half nodes is.room is.count k (omega arith))
          ∙ found.before (half + k) (omega arith) (omega arith) (omega arith);
    }

-- where none was found
pub leaf_none : (g : Grid) (height : ℕ) (nodes : List Span) (level : ℤ) (from : ℕ) → IsTree g height nodes
    → IsNextLeaf level nodes (2 ^ height + from) (1 * 2 ^ height) ((1 + 1) * 2 ^ height) None
    → IsNext (λ b. straddles level (span_at (tree_of g height nodes).spans b)) from (length (tree_of g height nodes).spans) None
leaf_none g height nodes level from is none k k_from k_low =
    let half : ℕ = 2 ^ height in
    let n : ℕ = brick_count g in
    let r = is.room in
    let low : k < n = subst (λ m. k < m) (length-spans n half nodes is.room is.count) k_low in
    ap (straddles level) (span_is_node n half nodes is.room is.count k low) ∙ none (half + k) (omega arith) (omega arith) (omega arith)

-- the next one by a test is the next one by another that answers alike
pub next_alike : (p q : ℕ → Bool) (from end : ℕ) (o : Option BrickId) → ((k : ℕ) → k < end → p k ≡ q k) → IsNext p from end o → IsNext q from end o
next_alike p q from end None same none = λ k f l. sym (same k l) ∙ none k f l
next_alike p q from end (Some b) same is = record {
  low = is.low;
  high = is.high;
  passes = sym (same b.0 is.high) ∙ is.passes;
  before = λ k f l. sym (same k (let h = is.high in omega arith)) ∙ is.before k f l;
}

-- where the tree is right, that is the next active brick
pub next_is_active : (t : Tree) (v : Volume) (level : ℤ) (from : ℕ) (o : Option BrickId) → IsVolume v → IsRightFor t v
    → IsNext (λ b. straddles level (span_at t.spans b)) from (length t.spans) o
    → IsNext (is_active v.grid (field v.samples level)) from (brick_count v.grid) o
next_is_active t v level from o is right next =
    let spans : t.spans ≡ spans_of v = ap (λ (t : Tree). t.spans) right in
    let n : ℕ = brick_count v.grid in
    let len : length t.spans ≡ n = ap length spans ∙ length-map-range_with_len (span_of v) 0 n in
    next_alike (λ b. straddles level (span_at t.spans b)) (is_active v.grid (field v.samples level)) from n o
    (λ k h. ap (λ l. straddles level (span_at l k)) spans
    ∙ (ap (straddles level) (get_or-map-range_with_len (span_of v) 0 n k k no_span h (omega arith)) ∙ sym (active_straddles v level k is h)))
    (subst (λ m. IsNext (λ b. straddles level (span_at t.spans b)) from m o) len next)

-- what a slice of a whole list leaves when it is written
pub whole_put : (old new : List Span) (n : ℕ) → length new ≡ n → length old ≡ n → take n (new ++ drop (length new) old) ≡ new
whole_put old new n e f =
    let none : drop (length new) old ≡ [] = drop_of_length-le old (omega arith) in
    rw none (ap (take n) (append-nil new) ∙ take_all n new (omega arith))
