use Rattle.std.proofs.Common.{◌≡◌, ◌*◌, ◌<◌, ◌∙◌, List, ℕ, ap, arith, drop, get_or, length, refl, subst, sym, take}
use Rattle.iso_defs.specs.Grid.{Grid}
use Rattle.crossing_edges.specs.Signs.{flag_of, right_of}
use Rattle.crossing_edges.specs.Slices.{next_to}
use Rattle.crossing_edges.proofs.SliceRows.{flags_of_slices, slice_long}
use Rattle.crossing_edges.proofs.slices.SliceSigns.fill_row.Goals as goal

-- the part of a slice that a row is, by the sizes that were asked for
part_of : (s g : Grid) (slice : List ℕ) (y y' : ℕ) → s ≡ g → y ≡ y' → take s.nx (drop (s.nx * y) slice) ≡ take g.nx (drop (g.nx * y') slice)
part_of s g slice y y' same row = ap (λ (g : Grid). take g.nx (drop (g.nx * y) slice)) same ∙ ap (λ k. take g.nx (drop (g.nx * k) slice)) row

count_of : (s g : Grid) (slice : List ℕ) → s ≡ g → length slice ≡ g.nx * g.ny → length slice ≡ s.nx * s.ny
count_of s g slice same long = long ∙ sym (ap (λ (g : Grid). g.nx * g.ny) same)

pub sign_row-requires-clause-count : goal.sign_row-requires-clause-count
sign_row-requires-clause-count g c =
    let v = c.args.rows.now in
    ap length c.deref.ensures.value
    ∙ count_of c.sizes-sizes.result v.grid c.args.self.now.near.items c.sizes-sizes.ensures.value (slice_long v c.sizes-sizes.ensures.leveled c.args.z c.args.self.now.near.items c.requires.signs.near c.requires.z)

pub sign_row-requires-2-clause-count : goal.sign_row-requires-2-clause-count
sign_row-requires-2-clause-count g c =
    let v = c.args.rows.now in
    ap length c.deref-2.ensures.value
    ∙ count_of c.sizes-sizes.result v.grid c.args.self.now.near.items c.sizes-sizes.ensures.value (slice_long v c.sizes-sizes.ensures.leveled c.args.z c.args.self.now.near.items c.requires.signs.near c.requires.z)

pub sign_row-requires-3-clause-count : goal.sign_row-requires-3-clause-count
sign_row-requires-3-clause-count g c =
    let v = c.args.rows.now in
    let far = c.next_slice-far.result.now in
    count_of c.sizes-sizes.result v.grid far c.sizes-sizes.ensures.value
    (slice_long v c.sizes-sizes.ensures.leveled (next_to c.args.z v.grid.nz) far c.next_slice-far.ensures (omega (arith, c.requires.z)))

pub flag_row-requires-clause-some : goal.flag_row-requires-clause-some
flag_row-requires-clause-some g c =
    let wide : c.sizes-sizes.result.nx ≡ c.args.rows.now.grid.nx = ap (λ (g : Grid). g.nx) c.sizes-sizes.ensures.value in
    omega (arith, c.sign_row.ensures.count, wide, c.sizes-sizes.ensures.leveled.grid.x.least)

pub flag_row-requires-clause-out : goal.flag_row-requires-clause-out
flag_row-requires-clause-out g c =
    c.requires.count ∙ (sym (ap (λ (g : Grid). g.nx) c.sizes-sizes.ensures.value) ∙ sym c.sign_row.ensures.count)

pub returns : goal.returns
returns g c =
    let v = c.args.rows.now in
    let y : ℕ = c.args.y in
    let near : List ℕ = c.args.self.now.near.items in
    let far : List ℕ = c.next_slice-far.result.now in
    let s = c.sizes-sizes.result in
    let same = c.sizes-sizes.ensures.value in
    let tall : c.ny.result ≡ v.grid.ny = c.ny.ensures.value ∙ ap (λ (g : Grid). g.ny) same in
    let row : c.min-next_y.result ≡ next_to y v.grid.ny = omega (arith, c.min-next_y.ensures, tall, c.sizes-sizes.ensures.leveled.grid.y.least) in
    let here : c.sign_row.result.now ≡ take v.grid.nx (drop (v.grid.nx * y) near)
    = c.sign_row.ensures.part ∙ (ap (λ l. take s.nx (drop (s.nx * y) l)) c.deref.ensures.value ∙ part_of s v.grid near y y same refl) in
    let up : c.sign_row-2.result.now ≡ take v.grid.nx (drop (v.grid.nx * next_to y v.grid.ny) near)
    = c.sign_row-2.ensures.part ∙ (ap (λ l. take s.nx (drop (s.nx * c.min-next_y.result) l)) c.deref-2.ensures.value ∙ part_of s v.grid near c.min-next_y.result (next_to y v.grid.ny) same row) in
    let behind : c.sign_row-3.result.now ≡ take v.grid.nx (drop (v.grid.nx * y) far) = c.sign_row-3.ensures.part ∙ part_of s v.grid far y y same refl in
    let out : List ℕ = c.flag_row.new.out in
    flags_of_slices v c.sizes-sizes.ensures.leveled y c.args.z near far c.requires.y c.requires.z c.requires.signs.near c.next_slice-far.ensures out (c.flag_row.auto.out ∙ c.requires.count)
    (subst (λ b. (i : ℕ) → i < length (take v.grid.nx (drop (v.grid.nx * y) near)) → get_or out i 0 ≡ flag_of (get_or (take v.grid.nx (drop (v.grid.nx * y) near)) i 0)
    (right_of (take v.grid.nx (drop (v.grid.nx * y) near)) (length (take v.grid.nx (drop (v.grid.nx * y) near))) i)
    (get_or (take v.grid.nx (drop (v.grid.nx * next_to y v.grid.ny) near)) i 0) (get_or b i 0)) behind
    (subst (λ u. (i : ℕ) → i < length (take v.grid.nx (drop (v.grid.nx * y) near)) → get_or out i 0 ≡ flag_of (get_or (take v.grid.nx (drop (v.grid.nx * y) near)) i 0)
    (right_of (take v.grid.nx (drop (v.grid.nx * y) near)) (length (take v.grid.nx (drop (v.grid.nx * y) near))) i) (get_or u i 0) (get_or c.sign_row-3.result.now i 0)) up
    (subst (λ h. (i : ℕ) → i < length h → get_or out i 0 ≡ flag_of (get_or h i 0) (right_of h (length h) i) (get_or c.sign_row-2.result.now i 0) (get_or c.sign_row-3.result.now i 0)) here
    c.flag_row.ensures)))
