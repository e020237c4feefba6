use Rattle.std.proofs.Common.{◌≡◌, ◌∙◌, ℕ, ◌+◌, ◌-◌, ◌*◌, List, ap, drop, get_or, arith}
use Rattle.std.proofs.lemmas.List.{get_or-drop, get_or-take}
use Rattle.cached_mesh.proofs.slices.fill_half.Goals as goal

pub returns : goal.returns
returns c = λ k low.
    let all : List ℕ = c.args.all.now in
    let start : ℕ = 64 * c.args.first in
    let count : start + 256 - start ≡ 256 = omega arith in
    ap (λ l. get_or l k 0) c.copy_from_slice.ensures.after
    ∙ (get_or-take (start + 256 - start) (drop start all) k 0 (omega (arith, low, count)) ∙ get_or-drop start all k 0)
