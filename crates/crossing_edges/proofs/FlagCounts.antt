-- How many edges flags stand for, from a table.
use Rattle.std.proofs.Common.{◌≡◌, ℕ, zero, suc, ◌<◌, get_or, refl, arith}
use Rattle.crossing_edges.specs.Flags.{edges_in}
use Rattle.crossing_edges.specs.declared.counts.TheConstants.{COUNTS}

pub counts_are : (f : ℕ) → f < 8 → get_or COUNTS f 0 ≡ edges_in f
counts_are zero h = refl
counts_are (suc zero) h = refl
counts_are (suc (suc zero)) h = refl
counts_are (suc (suc (suc zero))) h = refl
counts_are (suc (suc (suc (suc zero)))) h = refl
counts_are (suc (suc (suc (suc (suc zero))))) h = refl
counts_are (suc (suc (suc (suc (suc (suc zero)))))) h = refl
counts_are (suc (suc (suc (suc (suc (suc (suc zero))))))) h = refl
counts_are (suc (suc (suc (suc (suc (suc (suc (suc f)))))))) h = absurd (omega arith)
