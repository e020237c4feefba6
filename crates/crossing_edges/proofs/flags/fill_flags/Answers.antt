use Rattle.std.proofs.Common.{◌≡◌, ℕ, ◌+◌, ◌*◌, ◌∙◌, ap, arith}
use Rattle.iso_defs.specs.Grid.{point_count}
use Rattle.crossing_edges.proofs.Overwriting.{all_written, row_more}
use Rattle.crossing_edges.proofs.flags.fill_flags.Goals as goal

pub loop-y-preserved : goal.loop-y-preserved
loop-y-preserved c =
    let g = c.args.sizes.now in
    let a : ℕ = g.nx * (c.loop-y.y + g.ny * c.loop-z.z) in
    let e : ℕ = g.nx * (c.loop-y.y + 1 + g.ny * c.loop-z.z) in
    let end : e ≡ a + g.nx = omega arith in
    record {
      flags = row_more g c.args.bits.now c.loop-y.bits c.fill_row.new.bits a e end c.loop-y.invariant.flags c.loop-y.invariant.signs c.fill_row.ensures.inside c.fill_row.ensures.before;
      signs = λ p late. c.fill_row.ensures.after p (omega arith) ∙ c.loop-y.invariant.signs p (omega arith);
    }

pub loop-z-preserved : goal.loop-z-preserved
loop-z-preserved c =
    let g = c.args.sizes.now in
    let last : c.loop-y.y ≡ g.ny = omega (arith, c.ny-y-end.ensures.value, c.loop-y-test.false, c.loop-y.auto.y-end) in
    let end : g.nx * (c.loop-y.y + g.ny * c.loop-z.z) ≡ g.nx * (g.ny * (c.loop-z.z + 1)) = ap (λ n. g.nx * (n + g.ny * c.loop-z.z)) last ∙ omega arith in
    record { flags = λ p low. c.loop-y.invariant.flags p (omega (arith, end)); signs = λ p late. c.loop-y.invariant.signs p (omega (arith, end)) }

pub returns : goal.returns
returns c =
    let g = c.args.sizes.now in
    let last : c.loop-z.z ≡ g.nz = omega (arith, c.nz-z-end.ensures.value, c.loop-z-test.false, c.loop-z.auto.z-end) in
    let end : g.nx * (g.ny * c.loop-z.z) ≡ point_count g = ap (λ n. g.nx * (g.ny * n)) last ∙ omega arith in
    all_written g c.args.bits.now c.loop-z.bits (c.loop-z.auto.bits ∙ c.requires) (λ p low. c.loop-z.invariant.flags p (omega (arith, end)))
