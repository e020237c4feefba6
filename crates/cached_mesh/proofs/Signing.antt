-- Slices that are held, of bricks that are kept and of others.
use Rattle.std.proofs.Common.{◌≡◌, ℕ, ◌%◌, ◌<◌, ℤ, List, false, length, set, sym, subst, arith}
use Rattle.std.proofs.lemmas.List.{get_or-set_same}
use Rattle.std.proofs.lemmas.List.Elements.{All-weaker}
use Rattle.iso_base.specs.Volume.{Volume}
use Rattle.brick_mesh.specs.declared.slices.SignSlice.{SignSlice}
use Rattle.brick_mesh.specs.Slices.{IsSliceOf}
use Rattle.mesh_cache.specs.Cache.{Item}
use Rattle.mesh_cache.specs.Economy.{is_fresh}
use Rattle.cached_mesh.specs.Slices.{AreNone, AreSlices}
use Rattle.cached_mesh.specs.declared.held.Held.{Held}
use Rattle.cached_mesh.specs.Held.{AreHeld, HasSigns, HoldsNone, MaySign}
use Rattle.cached_mesh.proofs.Filled.{none_slices}

-- where none is held, each is right
pub none_held : (v : Volume) (level : ℤ) (items : List Item) (held : Held) → HoldsNone held → AreHeld v level items held
none_held v level items held none = record {
  places = none.places;
  signs = none.signs;
  slices = All-weaker AreNone (AreSlices v level items) (λ slices are. none_slices v level items slices are) _ none.slices;
  signed = λ k d low small. absurd (let far = none.signed k d low in omega (arith, far, small));
}

-- the brick of sign bytes that are held is not kept
pub waits_held : (v : Volume) (level : ℤ) (items : List Item) (brick z : ℕ) (slice : SignSlice) → MaySign v level items slice → IsSliceOf brick z slice
    → z < 8 → is_fresh brick level items ≡ false
waits_held v level items brick z slice may is low =
    subst (λ n. is_fresh n level items ≡ false) is.same_brick (may (omega (arith, is.same_slice, low))).waits

-- sign bytes that are put in the place of their brick
pub signed_here : (brick z : ℕ) (signed : List SignSlice) (slice : SignSlice) → length signed ≡ 256 → IsSliceOf brick z slice
    → HasSigns brick z (set signed (brick % 256) slice)
signed_here brick z signed slice long is = record {
  here = λ other. subst (IsSliceOf brick z) (sym (get_or-set_same signed (brick % 256) slice other (omega (arith, long)))) is;
}
