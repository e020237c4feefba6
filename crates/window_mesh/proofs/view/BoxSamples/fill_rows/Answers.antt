use Rattle.std.proofs.Common.{◌≡◌, ◌∙◌, ◌+◌, ◌*◌, ◌%◌, ◌/◌, ◌<◌, ◌≤◌, ℕ, List, ap, arith, get_or, sym}
use Rattle.std.proofs.Math.Nat.{mul-le-mul_left}
use Rattle.iso_defs.specs.Grid.{Grid}
use Rattle.samples.proofs.Lists.{rows_more}
use Rattle.samples.specs.Signs.{sign_of}
use Rattle.window_mesh.specs.Views.{InBox, boxed_at}
use Rattle.window_mesh.proofs.view.BoxSamples.fill_rows.Goals as goal

-- a row behind so many others lies in the list
row_within : (w h d k : ℕ) → k < h * d → w * k + w ≤ w * h * d
row_within w h d k low =
    let l : w * (k + 1) ≤ w * (h * d) = mul-le-mul_left w (omega (arith, low)) in
    omega (arith, l)

-- one more row of a list
one_more_row : (f : ℕ → ℕ) (old new : List ℕ) (w k from : ℕ) → from ≡ w * k → ((i : ℕ) → i < w → get_or new (from + i) 0 ≡ f (w * k + i))
    → ((i : ℕ) → i < from → get_or new i 0 ≡ get_or old i 0) → ((i : ℕ) → i < w * k → get_or old i 0 ≡ f i)
    → (i : ℕ) → i < w * (k + 1) → get_or new i 0 ≡ f i
one_more_row f old new w k from at inside before done i low =
    rows_more f old new w k 0 from k at (omega arith) inside before (λ j l. done j l ∙ ap f (sym (zero w j))) i low ∙ ap f (zero w i)
  where
    zero : (w i : ℕ) → w * 0 + i ≡ i
    zero w i = omega arith

pub fill_row-requires-clause-room : goal.fill_row-requires-clause-room
fill_row-requires-clause-room c =
    let g : Grid = c.args.self.now.window.grid in
    let k = c.loop-number.number in
    let nx : c.nx.result ≡ g.nx = c.nx.ensures.value ∙ ap (λ (g : Grid). g.nx) c.sizes-sizes.ensures.value in
    let ny : c.ny-height.result ≡ g.ny = c.ny-height.ensures.value ∙ ap (λ (g : Grid). g.ny) c.sizes-sizes.ensures.value in
    let nz : c.nz.result ≡ g.nz = c.nz.ensures.value ∙ ap (λ (g : Grid). g.nz) c.sizes-sizes.ensures.value in
    let rows : c.ny-height.result * c.nz.result ≡ g.ny * g.nz = ap (λ (n : ℕ). n * c.nz.result) ny ∙ ap (λ (n : ℕ). g.ny * n) nz in
    let within : g.nx * k + g.nx ≤ g.nx * g.ny * g.nz = row_within g.nx g.ny g.nz k (omega (arith, c.loop-number-test.true, rows)) in
    omega (arith, within, ap (λ (n : ℕ). n * k) nx, c.requires, c.loop-number.auto.into)

pub loop-number-preserved : goal.loop-number-preserved
loop-number-preserved c =
    let b : InBox = c.args.self.now in
    let g : Grid = b.window.grid in
    let k = c.loop-number.number in
    let f : ℕ → ℕ = λ q. sign_of c.args.level (boxed_at b q) in
    let nx : c.nx.result ≡ g.nx = c.nx.ensures.value ∙ ap (λ (g : Grid). g.nx) c.sizes-sizes.ensures.value in
    let ny : c.ny-height.result ≡ g.ny = c.ny-height.ensures.value ∙ ap (λ (g : Grid). g.ny) c.sizes-sizes.ensures.value in
    let h = c.ny-height.result in
    let row : k % h + g.ny * (k / h) ≡ k = ap (λ (n : ℕ). k % h + n * (k / h)) (sym ny) ∙ omega arith in
    let start : 0 + g.nx * (k % h + g.ny * (k / h)) ≡ g.nx * k = none (g.nx * (k % h + g.ny * (k / h))) ∙ ap (λ (n : ℕ). g.nx * n) row in
    one_more_row f c.loop-number.into c.fill_row.new.into g.nx k (c.nx.result * k) (ap (λ (n : ℕ). n * k) nx)
    (λ i low. c.fill_row.ensures.inside i low ∙ ap (λ (n : ℕ). f (n + i)) start) c.fill_row.ensures.before c.loop-number.invariant
  where
    none : (a : ℕ) → 0 + a ≡ a
    none a = omega arith
