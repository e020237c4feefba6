use Rattle.std.proofs.Common.{arith, ◌≡◌, ◌∙◌, ◌+◌, ◌≤◌, ℕ, ap, length, subst}
use Rattle.samples.specs.Signs.{sign_of}
use Rattle.window_mesh.specs.Views.{InBox, boxed_at}
use Rattle.window_mesh.proofs.Viewing.{boxed_length, signs_are}
use Rattle.window_mesh.proofs.view.BoxSamplesSamples.fill_signs.Goals as goal

pub fill_each-requires : goal.fill_each-requires
fill_each-requires c = subst (λ (n : ℕ). c.args.start + length c.args.into.now ≤ n) (boxed_length c.args.self.now) c.requires

pub returns-then-into-count : goal.returns-then-into-count
returns-then-into-count c =
    let b : InBox = c.args.self.now in
    let n = length c.args.into.now in
    let room = subst (λ (m : ℕ). c.args.start + n ≤ m) (boxed_length b) c.requires in
    signs_are b (sign_of c.args.level) c.args.start n c.fill_rows.new.into room c.fill_rows.auto.into
    (λ i low. c.fill_rows.ensures i low ∙ ap (λ q. sign_of c.args.level (boxed_at b q)) (from_zero i c.args.start c.if-start-eq0.true))
  where
    from_zero : (i start : ℕ) → start ≡ 0 → i ≡ start + i
    from_zero i start e = omega arith

pub returns-else-start-eq0 : goal.returns-else-start-eq0
returns-else-start-eq0 c =
    let b : InBox = c.args.self.now in
    let n = length c.args.into.now in
    let room = subst (λ (m : ℕ). c.args.start + n ≤ m) (boxed_length b) c.requires in
    signs_are b (sign_of c.args.level) c.args.start n c.fill_each.new.into room c.fill_each.auto.into c.fill_each.ensures
