use Rattle.std.proofs.Common.{◌≡◌, ◌≤◌, ◌∙◌, ◌-◌, ap, drop, length, take, arith}
use Rattle.std.proofs.lemmas.List.{length-take}
use Rattle.mesh_text.proofs.Moved.{rest_moved}
use Rattle.mesh_text.proofs.lines.Lines.drop_front.Goals as goal

pub returns : goal.returns
returns c =
    let seen : take c.self.inside.end c.self.inside.bytes ≡ c.args.self.now = c.self.view_is in
    let inside : c.args.count ≤ c.self.inside.end = omega (arith, c.requires, ap length seen, length-take c.self.inside.end c.self.inside.bytes) in
    let room : c.self.inside.end ≤ length c.self.inside.bytes = omega (arith, c.self.invariant.0, c.self.invariant.1) in
    ap (take (c.self.inside.end - c.args.count)) c.copy_within.ensures.after
    ∙ (rest_moved c.self.inside.bytes c.args.count c.self.inside.end inside room ∙ ap (drop c.args.count) seen)
