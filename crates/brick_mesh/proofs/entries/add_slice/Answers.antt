use Rattle.std.proofs.Common.{◌≡◌, ◌∙◌, ◌+◌, ◌-◌, ◌*◌, ◌^◌, ◌<◌, ◌==◌, ◌||◌, ℕ, cond, false, ap, arith, get_or, length, subst, sym, length-append, w64}
use Rattle.std.specs.Int.{trailing_zeros}
use Rattle.iso_defs.specs.Bricks.{brick_cell}
use Rattle.iso_defs.specs.Cell.{cell_signs}
use Rattle.brick_mesh.specs.Block.{BrickAt, IsCell, heights}
use Rattle.brick_mesh.specs.Entries.{entries_from}
use Rattle.row_bits.proofs.UnsetBits.{told_before, told_first, told_low, told_next, told_none}
use Rattle.brick_mesh.proofs.PlaneRuns.{next_run, slice_quiet, still_run}
use Rattle.brick_mesh.proofs.Runs.{entries_few, is_active_in}
use Rattle.brick_mesh.proofs.entries.add_slice.Goals as goal

-- what is known of a cell of a slice whose bit is not set
abbrev IsStill : BrickAt → ℕ → ℕ → Type 0
IsStill b z k = is_active_in b (64 * z + k) ≡ false

pub loop-bits-init : goal.loop-bits-init
loop-bits-init g c =
    let b = c.args.block.now in
    let z = c.args.z in
    let bytes = c.bytes_of_slice-signs.result in
    let bits = c.mixed_at-bits in
    record {
      entries = c.requires.entries ∙ ap (entries_from b 0) (let e : 64 * z ≡ 64 * z + 0 = omega arith in e);
      counted = omega arith;
      told = told_first (IsStill b z) 64 bits.result bits.ensures.bound
          (λ k low unset.
          (let at : 0 + k ≡ k = omega arith in
          slice_quiet b z k bytes c.requires.z low c.bytes_of_slice-signs.ensures
          (subst (λ j. get_or bytes j 0 < 256) at (bits.ensures.small k low))
          (subst (λ j. cond {A = ℕ} (get_or bytes j 0 == 0 || get_or bytes j 0 == 255) 0 1 ≡ 0) at (sym (bits.ensures.bits k low) ∙ unset))));
    }

pub bounds-signs-place : goal.bounds-signs-place
bounds-signs-place g c =
    let n = c.loop-bits.bits in
    let fits : n < 2 ^ 64 = omega (arith, c.loop-bits.auto.bits-fits) in
    let low = told_low (IsStill c.args.block.now c.args.z) 64 c.loop-bits.next n c.loop-bits.invariant.told (omega (arith, c.loop-bits-test.true)) fits in
    omega (arith, low)

pub add_there-requires-clause-cell : goal.add_there-requires-clause-cell
add_there-requires-clause-cell g c =
    let n = c.loop-bits.bits in
    let fits : n < 2 ^ 64 = omega (arith, c.loop-bits.auto.bits-fits) in
    let low = told_low (IsStill c.args.block.now c.args.z) 64 c.loop-bits.next n c.loop-bits.invariant.told (omega (arith, c.loop-bits-test.true)) fits in
    omega (arith, low, c.requires.z)

pub add_there-requires-clause-signs : goal.add_there-requires-clause-signs
add_there-requires-clause-signs g c there =
    let b = c.args.block.now in
    let z : ℕ = c.args.z in
    let n = c.loop-bits.bits in
    let fits : n < 2 ^ 64 = omega (arith, c.loop-bits.auto.bits-fits) in
    let low = told_low (IsStill b z) 64 c.loop-bits.next n c.loop-bits.invariant.told (omega (arith, c.loop-bits-test.true)) fits in
    let place : ℕ = c.loop-bits.next + trailing_zeros w64 n in
    let at : 64 * c.from.result + place ≡ 64 * z + place = omega arith in
    c.bytes_of_slice-signs.ensures place low (subst (IsCell b) at there)
    ∙ ap (λ q. cell_signs b.grid (heights b) (brick_cell b.grid b.brick q)) (sym at)

pub add_there-requires-clause-room : goal.add_there-requires-clause-room
add_there-requires-clause-room g c =
    let n = c.loop-bits.bits in
    let fits : n < 2 ^ 64 = omega (arith, c.loop-bits.auto.bits-fits) in
    let low = told_low (IsStill c.args.block.now c.args.z) 64 c.loop-bits.next n c.loop-bits.invariant.told (omega (arith, c.loop-bits-test.true)) fits in
    omega (arith, low, c.requires.z, ap length c.loop-bits.invariant.entries, entries_few c.args.block.now 0 (64 * c.args.z + c.loop-bits.next))

pub loop-bits-preserved : goal.loop-bits-preserved
loop-bits-preserved g c =
    let b = c.args.block.now in
    let z : ℕ = c.args.z in
    let n = c.loop-bits.bits in
    let next : ℕ = c.loop-bits.next in
    let t : ℕ = trailing_zeros w64 n in
    let some : 0 < n = omega (arith, c.loop-bits-test.true) in
    let fits : n < 2 ^ 64 = omega (arith, c.loop-bits.auto.bits-fits) in
    let cell : ℕ = 64 * c.from.result + (next + t) in
    let at : cell ≡ 64 * z + next + t = omega arith in
    let before = told_before (IsStill b z) 64 next n c.loop-bits.invariant.told some fits in
    let still : (k : ℕ) → k < t → is_active_in b (64 * z + next + k) ≡ false
    = λ k low. subst (λ q. is_active_in b q ≡ false) (let e : 64 * z + (next + k) ≡ 64 * z + next + k = omega arith in e) (before k low) in
    record {
      entries = next_run b (64 * z + next) t cell c.loop-bits.entries.items c.add_there.new.entries.items at still c.loop-bits.invariant.entries c.add_there.ensures.entries
          ∙ ap (entries_from b 0) (let e : 64 * z + next + t + 1 ≡ 64 * z + (next + (t + 1)) = omega arith in e);
      counted = omega (
        arith,
        c.add_there.ensures.counted,
        c.loop-bits.invariant.counted,
        ap length c.add_there.ensures.entries ∙ length-append c.loop-bits.entries.items (entries_from b cell 1),
      );
      told = told_next (IsStill b z) 64 next n c.loop-bits.invariant.told some fits;
    }

pub returns-clause-entries : goal.returns-clause-entries
returns-clause-entries g c =
    let b = c.args.block.now in
    let z : ℕ = c.args.z in
    let next : ℕ = c.loop-bits.next in
    let rest : ℕ = 64 - next in
    let low = c.loop-bits.invariant.told.low in
    let none = told_none (IsStill b z) 64 next c.loop-bits.bits c.loop-bits.invariant.told c.loop-bits-test.false in
    let still : (k : ℕ) → k < rest → is_active_in b (64 * z + next + k) ≡ false
    = λ k few. subst (λ q. is_active_in b q ≡ false) (let e : 64 * z + (next + k) ≡ 64 * z + next + k = omega arith in e) (none k (omega (arith, few))) in
    c.loop-bits.invariant.entries
    ∙ (still_run b (64 * z + next) rest still ∙ ap (entries_from b 0) (let e : 64 * z + next + rest ≡ 64 * z + 64 = omega (arith, low) in e))
