use Rattle.std.proofs.Common.{arith, inl, inr}
use Rattle.padded_samples.proofs.PadRows.{pad_row_by_y, pad_row_by_z, inner_row_by}
use Rattle.padded_samples.proofs.rows.inner_row.Goals as goal

pub returns-then-y-eq0-clause-none : goal.returns-then-y-eq0-clause-none
returns-then-y-eq0-clause-none c = λ p same none. pad_row_by_y p c.args.sizes.now same c.args.y c.args.z c.requires.y c.requires.z (inl c.if-y-eq0.true)

pub returns-then-y-ny-clause-none : goal.returns-then-y-ny-clause-none
returns-then-y-ny-clause-none c = λ p same none.
    pad_row_by_y p c.args.sizes.now same c.args.y c.args.z c.requires.y c.requires.z (inr (omega (arith, c.ny-ny.ensures.value, c.if-y-ny.true)))

pub returns-then-z-eq0-clause-none : goal.returns-then-z-eq0-clause-none
returns-then-z-eq0-clause-none c = λ p same none. pad_row_by_z p c.args.sizes.now same c.args.y c.args.z c.requires.y c.requires.z (inl c.if-z-eq0.true)

pub returns-then-z-nz-clause-none : goal.returns-then-z-nz-clause-none
returns-then-z-nz-clause-none c = λ p same none.
    pad_row_by_z p c.args.sizes.now same c.args.y c.args.z c.requires.y c.requires.z (inr (omega (arith, c.nz-nz.ensures.value, c.if-z-nz.true)))

pub returns-clause-some : goal.returns-clause-some
returns-clause-some c = λ p same count.
    inner_row_by p c.args.sizes.now same c.args.y c.args.z c.requires.y c.requires.z count (omega (arith, c.ny-ny.ensures.grid.x.least))
    (omega (arith, c.if-y-eq0.false)) (omega (arith, c.ny-ny.ensures.value, c.if-y-ny.false))
    (omega (arith, c.if-z-eq0.false)) (omega (arith, c.nz-nz.ensures.value, c.if-z-nz.false))
