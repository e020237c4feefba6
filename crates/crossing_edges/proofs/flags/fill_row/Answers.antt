use Rattle.std.proofs.Common.{◌≡◌, ◌+◌, ◌*◌, ◌<◌, ◌∙◌, ℕ, List, ap, ap₂, sym, subst, arith, map, cond, length, ltb, get_or}
use Rattle.std.proofs.lemmas.List.FromFn.{get_or-map-range_with_len}
use Rattle.std.specs.List.{range_with_len}
use Rattle.crossing_edges.specs.Signs.{sign_flags, flag_of, right_of}
use Rattle.crossing_edges.proofs.RowFlags.{row_flags}
use Rattle.iso_defs.specs.Grid.{index}
use Rattle.crossing_edges.proofs.flags.fill_row.Goals as goal

pub returns-clause-inside : goal.returns-clause-inside
returns-clause-inside c = λ i low.
    let g = c.args.sizes.now in
    let bits : List ℕ = c.args.bits.now in
    let here = c.row_at.result.now in
    let out : List ℕ = c.flag_row.new.out in
    let len = c.row_at.ensures.length in
    let a : ℕ = g.nx * (c.args.y + g.ny * c.args.z) in
    let count : length out ≡ g.nx = omega arith in
    let made : out ≡ map (sign_flags g bits) (range_with_len a g.nx)
    = row_flags g bits c.row_at.result.now c.row_up.result.now c.row_far.result.now c.args.y c.args.z c.requires.y c.requires.z
    c.row_at.ensures.each
    (λ i h. c.row_up.ensures.each i h ∙ ap (λ v. cond (ltb (c.args.y + 1) g.ny) (get_or bits (index g i c.args.y c.args.z + g.nx) 0) v) (sym (c.row_at.ensures.each i h)))
    (λ i h. c.row_far.ensures.each i h ∙ ap (λ v. cond (ltb (c.args.z + 1) g.nz) (get_or bits (index g i c.args.y c.args.z + g.nx * g.ny) 0) v) (sym (c.row_at.ensures.each i h)))
    out count
    (λ i h. subst (λ n. get_or out i 0 ≡ flag_of (get_or here i 0) (right_of here n i) (get_or c.row_up.result.now i 0) (get_or c.row_far.result.now i 0)) len
    (c.flag_row.ensures i (subst (λ n. i < n) (sym len) h))) in
    let nx : c.nx-nx.result ≡ g.nx = c.nx-nx.ensures.value in
    let start : c.nx-nx.result * (c.args.y + c.ny.result * c.args.z) ≡ a = ap₂ (λ m n. m * (c.args.y + n * c.args.z)) nx c.ny.ensures.value in
    ap (λ n. get_or c.fill_part.new.list (n + i) 0) (sym start) ∙ c.fill_part.ensures.inside i (omega (arith, count)) ∙ (ap (λ l. get_or l i 0) made ∙ get_or-map-range_with_len (sign_flags g bits) a g.nx i (a + i) 0 low (omega arith))
