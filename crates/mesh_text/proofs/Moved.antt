-- What stands behind a front of a buffer, moved to its front.
use Rattle.std.proofs.Common.{◌≡◌, ℕ, ◌+◌, ◌-◌, ◌≤◌, List, length, take, drop, sym, ◌∙◌, ap, arith}
use Rattle.std.specs.List.{copy_within}
use Rattle.std.proofs.lemmas.List.{drop-take, length-drop, length-take, take-append-le, take_all}

-- what stands behind a front is moved to the front
pub rest_moved : (bytes : List ℕ) (block end : ℕ) → block ≤ end → end ≤ length bytes
    → take (end - block) (copy_within bytes block end 0) ≡ drop block (take end bytes)
rest_moved bytes block end order room =
    let count : ℕ = end - block in
    let rest : List ℕ = take count (drop block bytes) in
    let long : length rest ≡ count = (let a = length-take count (drop block bytes) in let b = length-drop block bytes in omega arith) in
    take-append-le count rest (drop (0 + count) bytes) (omega (arith, long))
    ∙ (take_all count rest (omega (arith, long))
    ∙ (sym (drop-take block count bytes)
    ∙ ap (λ n. drop block (take n bytes)) (let sum : block + count ≡ end = omega arith in sum)))
