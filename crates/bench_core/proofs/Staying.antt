-- What is kept stays right through a change, without what is kept of the bricks that hold one of its points.
use Rattle.std.proofs.Common.{◌≡◌, ℕ, ◌+◌, ◌*◌, ◌<◌, ◌≤◌, Bool, true, false, cond, not, eqb, leb, List, [], ◌∷◌, length, All, refl, sym, ◌∙◌, ap, subst, arith, inl, inr, ℤ, pos}
use Rattle.std.specs.Prelude.{Option, Some, None, ◌&&◌, slice_set, take, min, max}
use Rattle.std.specs.List.{filter}
use Rattle.std.proofs.lemmas.List.{get_or-set_other, length-take, take_all}
use Rattle.std.proofs.lemmas.List.Filters.{length-filter_both}
use Rattle.std.proofs.lemmas.List.FromFn.{length-range_with_len}
use Rattle.std.proofs.lemmas.List.Elements.{All-nil, All-cons, All-head, All-tail, All-take, All-filter}
use Rattle.std.proofs.lemmas.Bool.{and_parts, cases_Bool, eq-eqb, leb-true, le-leb, or_left, or_right}
use Rattle.iso_defs.specs.Lists.{below, is_in}
use Rattle.iso_defs.specs.Grid.{Grid, coordinate, point_count}
use Rattle.iso_defs.specs.Bricks.{brick_count, brick_point, brick_start, in_brick}
use Rattle.iso_defs.proofs.Points.{x_index, y_index, z_index, index_in}
use Rattle.iso_base.specs.Points.{point_at}
use Rattle.iso_base.specs.Volume.{Volume, IsVolume, sample, shifted}
use Rattle.triangle_laws.proofs.Lists.{In, in_filter}
use Rattle.voxel_list.specs.Areas.{Area, between, is_in_area}
use Rattle.brick_store.proofs.BrickNumbers as numbers
use Rattle.brick_store.proofs.Writing.{in_range}
use Rattle.span_tree.specs.Spans.{Tree, IsRightFor}
use Rattle.span_tree.specs.Touched.{AgreeBut, spans_after}
use Rattle.span_tree.proofs.TouchedAgain.{right_again}
use Rattle.mesh_cache.specs.Cache.{Item, Cache, Limits, empty_cache}
use Rattle.mesh_cache.specs.Economy.{IsRight, Refresh, SameSamples, is_waiting, item_for, waiting}
use Rattle.mesh_cache.proofs.Refreshing.{refresh_bounded, refresh_right}
use Rattle.mesh_cache.proofs.Turns.{all_below}
use Rattle.mesh_cache.proofs.Points.{right_stays}
use Rattle.cached_mesh.specs.declared.room.MeshRoom.{MeshRoom}
use Rattle.cached_mesh.specs.Rooms.{IsRoomFor}
use Rattle.cached_mesh.proofs.Waits.{fewer_wait}
use Rattle.edit_log.specs.declared.change.Change.{Change}
use Rattle.edit_log.specs.declared.change.Change.TheVariants as changes
use Rattle.edit_log.specs.Log.{area_place, replaced}
use Rattle.edit_log.specs.Changes.{Moment, after, area_of, before, moment}
use Rattle.brick_store.proofs.Replacing.{sample-replaced}
use Rattle.bench_core.specs.Machine.{State}
use Rattle.bench_core.specs.Keeping.{Forgets, IsKept, MovesIn, Refreshes, Workbench, bricks_of, holds_some, touched, turn_steps, waiting_bricks, without_bricks, without_points, write_steps}
use Rattle.bench_core.proofs.Touching.{without_none}

-- ---- an empty cache beside a right tree

pub kept_first : (v : Volume) (t : Tree) (limits : Limits) → IsRightFor t v → IsKept v t (empty_cache limits)
kept_first v t limits right = record {
  tree = right;
  items = All-nil (λ (item : Item). item ≡ item_for v.grid v.samples item.level item.brick);
  bricks = All-nil (λ (item : Item). item.brick < brick_count v.grid);
}

-- ---- what is kept of all bricks but these

module _ (v w : Volume) (bricks : List ℕ) (agree : AgreeBut v w bricks) where
  others_same : (items : List Item) → All (λ (item : Item). item.brick < brick_count v.grid) items
      → All (λ (item : Item). SameSamples v.grid v.samples w.samples item.brick) (filter (λ (item : Item). not (is_in item.brick bricks)) items)
  others_same [] h = All-nil (λ (item : Item). SameSamples v.grid v.samples w.samples item.brick)
  others_same (item ∷ items) h =
      go (is_in item.brick bricks) refl (others_same items (All-tail (λ (item : Item). item.brick < brick_count v.grid) item items h))
    where
      clash : (b : Bool) → b ≡ true → b ≡ false → ⊥
      clash true e f = cc
      clash false e f = cc

      rest : List Item
      rest = filter (λ (item : Item). not (is_in item.brick bricks)) items

      go : (b : Bool) → is_in item.brick bricks ≡ b → All (λ (item : Item). SameSamples v.grid v.samples w.samples item.brick) rest
          → All (λ (item : Item). SameSamples v.grid v.samples w.samples item.brick) (cond (not b) (item ∷ rest) rest)
      go true e all = all
      go false e all =
          All-cons (λ (item : Item). SameSamples v.grid v.samples w.samples item.brick) item rest
          (λ x y z hx hy hz inside. agree.samples item.brick x y z (All-head (λ (item : Item). item.brick < brick_count v.grid) item items h)
          (λ t. clash (is_in item.brick bricks) t e) hx hy hz inside)
          all

  pub kept_without : (t : Tree) (cache : Cache) → IsKept v t cache → IsKept w (record t { spans = spans_after w bricks t.spans }) (without_bricks bricks cache)
  kept_without t cache is =
      let free : Item → Bool = λ item. not (is_in item.brick bricks) in
      let items : IsRight v.grid w.samples (filter free cache.items)
      = right_stays v.grid v.samples w.samples (filter free cache.items)
      (All-filter free (λ (item : Item). item ≡ item_for v.grid v.samples item.level item.brick) cache.items is.items)
      (others_same cache.items is.bricks) in
      record {
        tree = right_again t v w bricks is.tree agree;
        items = subst (λ (g : Grid). IsRight g w.samples (filter free cache.items)) agree.grid items;
        bricks = subst (λ (g : Grid). All (λ (item : Item). item.brick < brick_count g) (filter free cache.items)) agree.grid
            (All-filter free (λ (item : Item). item.brick < brick_count v.grid) cache.items is.bricks);
      }

-- the same for the bricks that hold one of these points
pub kept_stays : (v w : Volume) (points : Option Area) (t : Tree) (cache : Cache) → AgreeBut v w (touched v.grid points) → IsKept v t cache
    → IsKept w (record t { spans = spans_after w (touched v.grid points) t.spans }) (without_points v.grid points cache)
kept_stays v w None t cache agree is = subst (λ (c : Cache). IsKept w t c) (sym (without_none cache)) (kept_without v w [] agree t cache is)
kept_stays v w (Some a) t cache agree is = kept_without v w (bricks_of v.grid a) agree t cache is

-- ---- a change of the samples of a box

is_in_list : (k : ℕ) (xs : List ℕ) → In k xs → is_in k xs ≡ true
is_in_list k [] i = absurd i
is_in_list k (x ∷ xs) (inl e) = or_left (eqb x k) (is_in k xs) (eq-eqb x k (sym e))
is_in_list k (x ∷ xs) (inr i) = or_right (eqb x k) (is_in k xs) (is_in_list k xs i)

held : (g : Grid) (a : Area) (b : ℕ) → b < brick_count g → holds_some g a b ≡ true → is_in b (bricks_of g a) ≡ true
unfolding bricks_of
held g a b low h = is_in_list b (bricks_of g a) (in_filter (holds_some g a) b (below (brick_count g)) (in_range 0 (brick_count g) b (omega arith) (omega arith)) h)

-- a brick that has a point of a box holds one
has_held : (g : Grid) (a : Area) (b x y z : ℕ) → x < 9 → y < 9 → z < 9 → in_brick g b x y z ≡ true
    → is_in_area g a (brick_point g b x y z) ≡ true → holds_some g a b ≡ true
has_held g a b x y z hx hy hz inside within =
    let i : numbers.IsIn g b x y z = numbers.is_in g b x y z inside in
    let sx : ℕ = brick_start g b 0 in
    let sy : ℕ = brick_start g b 1 in
    let sz : ℕ = brick_start g b 2 in
    let q : ℕ = brick_point g b x y z in
    let ex : coordinate g 0 q ≡ sx + x = x_index g (sx + x) (sy + y) (sz + z) i.x_in i.y_in i.z_in in
    let ey : coordinate g 1 q ≡ sy + y = y_index g (sx + x) (sy + y) (sz + z) i.x_in i.y_in i.z_in in
    let ez : coordinate g 2 q ≡ sz + z = z_index g (sx + x) (sy + y) (sz + z) i.x_in i.y_in i.z_in in
    let first = and_parts (leb a.low.x (coordinate g 0 q) && leb (coordinate g 0 q) a.high.x) _ within in
    let second = and_parts (leb a.low.y (coordinate g 1 q) && leb (coordinate g 1 q) a.high.y) _ first.1 in
    let along_x = and_parts (leb a.low.x (coordinate g 0 q)) _ first.0 in
    let along_y = and_parts (leb a.low.y (coordinate g 1 q)) _ second.0 in
    let along_z = and_parts (leb a.low.z (coordinate g 2 q)) _ second.1 in
    let rx = reached sx x _ a.low.x a.high.x hx ex along_x.0 along_x.1 in
    let ry = reached sy y _ a.low.y a.high.y hy ey along_y.0 along_y.1 in
    let rz = reached sz z _ a.low.z a.high.z hz ez along_z.0 along_z.1 in
    rw (rx.0, rx.1, ry.0, ry.1, rz.0, rz.1) refl
  where
    reached : (start n c low high : ℕ) → n < 9 → c ≡ start + n → leb low c ≡ true → leb c high ≡ true → (leb start high ≡ true) × (leb low (start + 8) ≡ true)
    reached start n c low high few e l h =
        let from : low ≤ c = leb-true low c l in
        let to : c ≤ high = leb-true c high h in
        (le-leb start high (omega arith), le-leb low (start + 8) (omega arith))

-- samples that are the same off a box
pub box_agrees : (v : Volume) (a : Area) (samples : List ℤ)
    → ((p : ℕ) → p < point_count v.grid → is_in_area v.grid a p ≡ false → sample v.samples p ≡ sample samples p)
    → AgreeBut v (record v { samples = samples }) (bricks_of v.grid a)
box_agrees v a samples off = record {
  grid = refl;
  samples = λ b x y z low free hx hy hz inside.
      let i : numbers.IsIn v.grid b x y z = numbers.is_in v.grid b x y z inside in
      elim (cases_Bool (is_in_area v.grid a (brick_point v.grid b x y z))) [
        | inl e ↦ absurd (free (held v.grid a b low (has_held v.grid a b x y z hx hy hz inside e)))
        | inr e ↦ off (brick_point v.grid b x y z) (index_in v.grid _ _ _ i.x_in i.y_in i.z_in) e
      ];
}

-- one sample
one_same : (v : Volume) (i : ℕ) (value : ℤ) (p : ℕ) → is_in_area v.grid (between (point_at v.grid i) (point_at v.grid i)) p ≡ false
    → sample v.samples p ≡ sample (slice_set v.samples i value) p
one_same v i value p out = sym (get_or-set_other v.samples i p value (pos 0)
    (λ e. clash (is_in_area v.grid (between (point_at v.grid i) (point_at v.grid i)) p) (subst (λ n. is_in_area v.grid (between (point_at v.grid i) (point_at v.grid i)) n ≡ true) (sym e) here) out))
  where
    clash : (b : Bool) → b ≡ true → b ≡ false → ⊥
    clash true e f = cc
    clash false e f = cc

    low : (n : ℕ) → leb (min n n) n ≡ true
    low n = le-leb (min n n) n (omega arith)

    high : (n : ℕ) → leb n (max n n) ≡ true
    high n = le-leb n (max n n) (omega arith)

    here : is_in_area v.grid (between (point_at v.grid i) (point_at v.grid i)) i ≡ true
    here = rw (
      low (coordinate v.grid 0 i),
      high (coordinate v.grid 0 i),
      low (coordinate v.grid 1 i),
      high (coordinate v.grid 1 i),
      low (coordinate v.grid 2 i),
      high (coordinate v.grid 2 i),
    ) refl

one_agrees : (v : Volume) (i : ℕ) (value : ℤ) → AgreeBut v (record v { samples = slice_set v.samples i value }) (bricks_of v.grid (between (point_at v.grid i) (point_at v.grid i)))
one_agrees v i value = box_agrees v (between (point_at v.grid i) (point_at v.grid i)) (slice_set v.samples i value) (λ p low out. one_same v i value p out)

-- samples replaced in a box
others_stay : (v : Volume) (a : Area) (value : ℕ → ℤ) → IsVolume v → (p : ℕ) → p < point_count v.grid → is_in_area v.grid a p ≡ false
    → sample v.samples p ≡ sample (replaced (is_in_area v.grid a) value v.samples) p
others_stay v a value is p low out = sym (sample-replaced (is_in_area v.grid a) value v.samples p (subst (λ n. p < n) (sym is.count) low)
    ∙ ap (λ b. cond b (value p) (sample v.samples p)) out)

replaced_agrees : (v : Volume) (a : Area) (value : ℕ → ℤ) → IsVolume v → AgreeBut v (record v { samples = replaced (is_in_area v.grid a) value v.samples }) (bricks_of v.grid a)
replaced_agrees v a value is = box_agrees v a (replaced (is_in_area v.grid a) value v.samples) (others_stay v a value is)

same_agrees : (v : Volume) → AgreeBut v v []
same_agrees v = record { grid = refl; samples = λ b x y z low free hx hy hz inside. refl }

-- a change that is made, or taken back, leaves the samples off the bricks that hold one of its points
pub after_agrees : (c : Change) (m : Moment) → IsVolume m.volume → AgreeBut m.volume (after c m).volume (touched m.volume.grid (area_of m.volume.grid c))
after_agrees (changes.One index old new) m is = one_agrees m.volume index new
after_agrees (changes.Area a old new) m is = replaced_agrees m.volume a (λ _. new) is
after_agrees (changes.LevelWas old new) m is = same_agrees m.volume

pub before_agrees : (c : Change) (m : Moment) → IsVolume m.volume → AgreeBut m.volume (before c m).volume (touched m.volume.grid (area_of m.volume.grid c))
before_agrees (changes.One index old new) m is = one_agrees m.volume index old
before_agrees (changes.Area a old new) m is = replaced_agrees m.volume a (λ p. sample old (area_place m.volume.grid a p)) is
before_agrees (changes.LevelWas old new) m is = same_agrees m.volume

-- ---- the lists of rows

-- values are the same where samples are
box_moves : (v : Volume) (level : ℤ) (a : Area) (samples : List ℤ)
    → ((p : ℕ) → p < point_count v.grid → is_in_area v.grid a p ≡ false → sample v.samples p ≡ sample samples p)
    → MovesIn (Some a) (moment v level) (moment (record v { samples = samples }) level)
box_moves v level a samples off = record { same_grid = refl; others = λ p low out. ap (λ s. shifted s level) (off p low out) }

-- a change that is made, or taken back, leaves the values off the box of its points
pub after_moves : (c : Change) (m : Moment) → IsVolume m.volume → MovesIn (area_of m.volume.grid c) m (after c m)
after_moves (changes.One index old new) m is = box_moves m.volume m.level (between (point_at m.volume.grid index) (point_at m.volume.grid index)) (slice_set m.volume.samples index new)
    (λ p low out. one_same m.volume index new p out)
after_moves (changes.Area a old new) m is = box_moves m.volume m.level a (replaced (is_in_area m.volume.grid a) (λ _. new) m.volume.samples) (others_stay m.volume a (λ _. new) is)
after_moves (changes.LevelWas old new) m is = refl

pub before_moves : (c : Change) (m : Moment) → IsVolume m.volume → MovesIn (area_of m.volume.grid c) m (before c m)
before_moves (changes.One index old new) m is = box_moves m.volume m.level (between (point_at m.volume.grid index) (point_at m.volume.grid index)) (slice_set m.volume.samples index old)
    (λ p low out. one_same m.volume index old p out)
before_moves (changes.Area a old new) m is = box_moves m.volume m.level a (replaced (is_in_area m.volume.grid a) (λ p. sample old (area_place m.volume.grid a p)) m.volume.samples)
    (others_stay m.volume a (λ p. sample old (area_place m.volume.grid a p)) is)
before_moves (changes.LevelWas old new) m is = refl

-- the room after the lists of a change's rows were let go, with the volume and the level that are there then
pub room_moved : (v w : Volume) (level to : ℤ) (next : Moment) (points area : Option Area) (room room' : MeshRoom)
    → MovesIn points (moment v level) next → moment w to ≡ next → area ≡ points
    → Forgets area room room' → IsRoomFor v level room → IsRoomFor w to room'
room_moved v w level to next points area room room' moves at same forgotten fits =
    by_area points (subst (MovesIn points (moment v level)) (sym at) moves) (subst (λ a. Forgets a room room') same forgotten)
  where
    by_area : (points : Option Area) → MovesIn points (moment v level) (moment w to) → Forgets points room room' → IsRoomFor w to room'
    by_area None moves forgotten = forgotten v w level to moves fits
    by_area (Some a) moves forgotten = forgotten v w level to moves fits

-- ---- what is kept, once a change was followed

-- w is the volume that is there then
pub kept_after : (v w : Volume) (now : Volume) (points : Option Area) (t t' : Tree) (cache cache' : Cache)
    → AgreeBut v now (touched v.grid points) → IsKept v t cache → w ≡ now
    → t' ≡ record t { spans = spans_after w (touched w.grid points) t.spans } → cache' ≡ without_points w.grid points cache
    → IsKept w t' cache' × (cache' ≡ without_points v.grid points cache)
kept_after v w now points t t' cache cache' agree is at tree items =
    let agrees : AgreeBut v w (touched v.grid points) = subst (λ (u : Volume). AgreeBut v u (touched v.grid points)) (sym at) agree in
    let same : w.grid ≡ v.grid = sym agrees.grid in
    let items' : cache' ≡ without_points v.grid points cache = items ∙ ap (λ (g : Grid). without_points g points cache) same in
    let tree' : t' ≡ record t { spans = spans_after w (touched v.grid points) t.spans }
    = tree ∙ ap (λ (g : Grid). record t { spans = spans_after w (touched g points) t.spans }) same in (
      subst (λ (u : Tree). IsKept w u cache') (sym tree')
          (subst (λ (k : Cache). IsKept w (record t { spans = spans_after w (touched v.grid points) t.spans }) k) (sym items') (kept_stays v w points t cache agrees is)),
      items',
    )

-- what is kept after a change was followed, with the volume, the tree and the cache that are there then
pub followed : (v w : Volume) (to : ℤ) (next : Moment) (points area : Option Area) (t t' : Tree) (cache cache' : Cache)
    → AgreeBut v next.volume (touched v.grid points) → IsKept v t cache → moment w to ≡ next → area ≡ points
    → t' ≡ record t { spans = spans_after w (touched w.grid area) t.spans } → cache' ≡ without_points w.grid area cache
    → IsKept w t' cache' × (cache' ≡ without_points v.grid points cache)
followed v w to next points area t t' cache cache' agree is at same tree items =
    kept_after v w next.volume points t t' cache cache' agree is (ap (λ (m : Moment). m.volume) at)
    (tree ∙ ap (λ a. record t { spans = spans_after w (touched w.grid a) t.spans }) same)
    (items ∙ ap (λ a. without_points w.grid a cache) same)

-- a grid that was the volume's is that of the volume that is there then
pub grid_fits : (v w : Volume) (to : ℤ) (next : Moment) (points : Option Area) (g : Grid)
    → AgreeBut v next.volume (touched v.grid points) → g ≡ v.grid → moment w to ≡ next → g ≡ w.grid
grid_fits v w to next points g agree is at = is ∙ (agree.grid ∙ ap (λ (m : Moment). m.volume.grid) (sym at))

-- the tree has the grid of the volume that is there then
pub tree_fits : (v w : Volume) (to : ℤ) (next : Moment) (points : Option Area) (t : Tree) (cache : Cache)
    → AgreeBut v next.volume (touched v.grid points) → IsKept v t cache → moment w to ≡ next → t.grid ≡ w.grid
tree_fits v w to next points t cache agree is at = grid_fits v w to next points t.grid agree (ap (λ (u : Tree). u.grid) is.tree) at

-- ---- a refresh

-- what is kept stays right through a refresh
pub kept_refreshed : (v : Volume) (level : ℤ) (t : Tree) (n : ℕ) (cache now : Cache) → IsKept v t cache
    → Refresh v.grid v.samples level cache (take n (waiting v.grid v.samples level cache.items)) now → IsKept v t now
kept_refreshed v level t n cache now is r = record {
  tree = is.tree;
  items = refresh_right v.grid v.samples level r is.items;
  bricks = refresh_bounded v.grid v.samples level (brick_count v.grid) r
      (All-take (λ brick. brick < brick_count v.grid) n (waiting v.grid v.samples level cache.items)
      (all_below (is_waiting v.grid v.samples level cache.items) (brick_count v.grid)))
      is.bricks;
}

-- what contracts say of it
pub refreshes : (s : State) (old : Workbench) (cache now : Cache) (n before steps : ℕ) → record { state = s; cache = cache } ≡ old
    → Refresh s.volume.grid s.volume.samples s.level cache (take n (waiting s.volume.grid s.volume.samples s.level cache.items)) now
    → before ≤ steps → steps ≤ before + 512 * min n (length (waiting s.volume.grid s.volume.samples s.level cache.items))
    → Refreshes old (record { state = s; cache = now }) (take n (waiting_bricks old)) 512 before steps
refreshes s old cache now n before steps is r later few =
    subst (λ (w : Workbench). Refreshes w (record { state = s; cache = now }) (take n (waiting_bricks w)) 512 before steps) is
    (record { state = refl; cache = r; later = later; few = subst (λ k. steps ≤ before + 512 * k) (sym (length-take n (waiting s.volume.grid s.volume.samples s.level cache.items))) few })

-- no more bricks wait than there are
pub all_waiting : (b : Workbench) (n : ℕ) → brick_count b.state.volume.grid ≤ n → take n (waiting_bricks b) ≡ waiting_bricks b
all_waiting b n most =
    let p : ℕ → Bool = is_waiting b.state.volume.grid b.state.volume.samples b.state.level b.cache.items in
    let all : List ℕ = below (brick_count b.state.volume.grid) in
    let size : length all ≡ brick_count b.state.volume.grid = length-range_with_len 0 (brick_count b.state.volume.grid) in
    let parts : length (filter p all) + length (filter (λ k. not (p k)) all) ≡ length all = length-filter_both p (λ k. not (p k)) (λ k. refl) all in
    take_all n (waiting_bricks b) (omega (arith, parts, size))

-- a write after a refresh of all that waits
pub refreshed_write : (old mid new : Workbench) (before between now : ℕ) → Refreshes old mid (waiting_bricks old) turn_steps before between → new ≡ mid
    → between ≤ now → now ≤ between + 1536 * length (waiting_bricks mid) → Refreshes old new (waiting_bricks old) write_steps before now
refreshed_write old mid new before between now r same least most =
    let s : State = old.state in
    let at : length (waiting_bricks mid) ≡ length (waiting old.state.volume.grid old.state.volume.samples old.state.level mid.cache.items)
    = ap (λ (t : State). length (waiting t.volume.grid t.volume.samples t.level mid.cache.items)) r.state in
    let fewer = fewer_wait s.volume.grid s.volume.samples s.level old.cache mid.cache (waiting_bricks old) r.cache in
    record {
      state = ap (λ (w : Workbench). w.state) same ∙ r.state;
      cache = subst (λ (w : Workbench). Refresh s.volume.grid s.volume.samples s.level old.cache (waiting_bricks old) w.cache) (sym same) r.cache;
      later = omega (arith, r.later, least);
      few = omega (arith, r.few, most, at, fewer);
    }
