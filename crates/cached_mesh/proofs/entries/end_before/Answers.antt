use Rattle.std.proofs.Common.{◌≡◌, ◌-◌, ℕ, List, get_or, length, ltb-true, sym, arith}
use Rattle.std.proofs.lemmas.Bool.{lt-ltb}
use Rattle.std.proofs.lemmas.Option.{get_or_from_slice_get}
use Rattle.cached_mesh.proofs.entries.end_before.Goals as goal

pub returns-in-Some : goal.returns-in-Some
returns-in-Some c = λ t i low.
    let page : List ℕ = c.args.page.now in
    let end : ℕ = length page - 1 in
    let last : get_or page end 0 ≡ c.in-Some.last.now = get_or_from_slice_get page end c.in-Some.last.now 0 (sym c.in-Some.ensures.value) in
    let less = ltb-true _ _ t in
    ltb-true _ _ (c.requires i end 0 (omega (arith, low)) (omega (arith, low)) (lt-ltb _ _ (omega (arith, last, less, c.slice_of_entry.ensures))))
