use Rattle.std.proofs.Common.{◌≡◌, ◌∙◌, ◌+◌, ◌*◌, ◌%◌, ◌/◌, ℕ, ap, arith, sym}
use Rattle.padded_samples.specs.PaddedSlabs.{in_both}
use Rattle.padded_samples.specs.Pads.{InPad, padded_at}
use Rattle.samples.specs.Signs.{sign_of}
use Rattle.padded_samples.proofs.Parts.{one_more_row}
use Rattle.padded_samples.proofs.slab.PaddedSlab.fill_rows.Goals as goal

pub loop-k-init : goal.loop-k-init
loop-k-init g c = λ i low. omega (arith, low)

pub loop-k-preserved : goal.loop-k-preserved
loop-k-preserved g c =
    let p = in_both c.args.self.now in
    let w = p.grid.nx + 2 in
    let f : ℕ → ℕ = λ i. sign_of c.args.level (padded_at p (w * c.args.first + i)) in
    let k = c.loop-k.k in
    let row = c.args.first + k in
    let m : c.nx.result ≡ p.grid.nx = c.nx.ensures.value ∙ ap (λ (q : InPad). q.grid.nx) (ap in_both c.self.view_is) in
    let h : c.ny-height.result ≡ p.grid.ny = c.ny-height.ensures.value ∙ ap (λ (q : InPad). q.grid.ny) (ap in_both c.self.view_is) in
    let split : row % (c.ny-height.result + 2) + (p.grid.ny + 2) * (row / (c.ny-height.result + 2)) ≡ row
    = ap (λ (n : ℕ). row % (c.ny-height.result + 2) + (n + 2) * (row / (c.ny-height.result + 2))) (sym h) ∙ omega arith in
    let place : (i : ℕ) → w * row + i ≡ w * c.args.first + (w * k + i) = λ i. omega arith in
    one_more_row f c.loop-k.into c.fill_row.new.into w k ((c.nx.result + 2) * k) (ap (λ (n : ℕ). (n + 2) * k) m)
    (λ i low. c.fill_row.ensures.inside i low ∙ ap (λ (n : ℕ). sign_of c.args.level (padded_at p (w * n + i))) split
    ∙ ap (λ (n : ℕ). sign_of c.args.level (padded_at p n)) (place i)) c.fill_row.ensures.before c.loop-k.invariant

pub returns : goal.returns
returns g c = λ i low.
    let p = in_both c.args.self.now in
    let all : ℕ = (p.grid.nx + 2) * c.loop-k.k in
    let end : c.loop-k.k ≡ c.args.rows = omega (arith, c.loop-k.auto.k-end, c.loop-k-test.false) in
    let same : all ≡ (p.grid.nx + 2) * c.args.rows = ap (λ (k : ℕ). (p.grid.nx + 2) * k) end in
    c.loop-k.invariant i (omega (arith, low, c.requires.room, same))
