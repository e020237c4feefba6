use Rattle.std.proofs.Common.{◌≡◌, ℕ, ◌*◌, ◌<◌, ◌≤◌, get_or, length}
use Rattle.flat_mesh.specs.Rows.{byte_of}
use Rattle.sample_rows.proofs.lanes.fill_many_bytes.Given as goal

abbrev pub invariant-loop-sixteen : goal.invariant-loop-sixteen
invariant-loop-sixteen l = record {
  count : length l.bytes ≡ length l.fn.bytes;
  done : (x : ℕ) → x < 16 * l.sixteen → get_or l.bytes x 0 ≡ byte_of l.near l.up l.far l.both x;
  behind : (x : ℕ) → length l.near ≤ x → get_or l.bytes x 0 ≡ get_or l.fn.bytes x 0;
}
