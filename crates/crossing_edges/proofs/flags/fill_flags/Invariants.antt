use Rattle.std.proofs.Common.{◌≡◌, ℕ, ◌+◌, ◌*◌, ◌<◌, ◌≤◌, get_or}
use Rattle.crossing_edges.specs.Signs.{sign_flags}
use Rattle.crossing_edges.proofs.flags.fill_flags.Given as goal

abbrev pub invariant-loop-z : goal.invariant-loop-z
invariant-loop-z l = record {
  flags : (p : ℕ) → p < l.sizes.nx * (l.sizes.ny * l.z) → get_or l.bits p 0 ≡ sign_flags l.sizes l.fn.bits p;
  signs : (p : ℕ) → l.sizes.nx * (l.sizes.ny * l.z) ≤ p → get_or l.bits p 0 ≡ get_or l.fn.bits p 0;
}

abbrev pub invariant-loop-y : goal.invariant-loop-y
invariant-loop-y l = record {
  flags : (p : ℕ) → p < l.sizes.nx * (l.y + l.sizes.ny * l.z) → get_or l.bits p 0 ≡ sign_flags l.sizes l.fn.bits p;
  signs : (p : ℕ) → l.sizes.nx * (l.y + l.sizes.ny * l.z) ≤ p → get_or l.bits p 0 ≡ get_or l.fn.bits p 0;
}
