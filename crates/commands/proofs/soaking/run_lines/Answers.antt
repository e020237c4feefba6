use Rattle.std.proofs.Common.{◌≡◌, ◌∙◌, List, ℕ, [], ◌∷◌, ◌++◌, ap, refl, sym}
use Rattle.commands.proofs.SoakKinds.{wanting_fill}
use Rattle.commands.proofs.Soaked.{at_line, behind_line, soak_breaks, soaks_both, soaks_none, soaks_still}
use Rattle.commands.proofs.soaking.run_lines.Goals as goal

pub loop-lines-init : goal.loop-lines-init
loop-lines-init g c = ([], refl, soaks_none _)

pub loop-lines-preserved : goal.loop-lines-preserved
loop-lines-preserved g c =
    let so_far = c.loop-lines.invariant in
    let line : List ℕ = c.as_bytes.result.now in
    let next : c.loop-lines.lines ≡ line ∷ c.next_line.new.self
    = c.loop-lines-test.ensures.more ∙ ap (λ (l : List ℕ). l ∷ c.next_line.new.self) (sym (c.as_bytes.ensures.value ∙ c.as_str.ensures.value)) in
    (so_far.0 ++ line ∷ [], behind_line c.args.lines so_far.0 c.loop-lines.lines c.next_line.new.self line so_far.1 next, soaks_both _ _ _ so_far.0 (line ∷ []) so_far.2 c.in-On.ensures)

pub returns-in-Wanting : goal.returns-in-Wanting
returns-in-Wanting g c = λ seed are.
    let so_far = c.loop-lines.invariant in
    let line : List ℕ = c.as_bytes.result.now in
    let next : c.loop-lines.lines ≡ line ∷ c.next_line.new.self
    = c.loop-lines-test.ensures.more ∙ ap (λ (l : List ℕ). l ∷ c.next_line.new.self) (sym (c.as_bytes.ensures.value ∙ c.as_str.ensures.value)) in
    let all : c.args.lines ≡ so_far.0 ++ line ∷ c.next_line.new.self = at_line c.args.lines so_far.0 c.loop-lines.lines c.next_line.new.self line so_far.1 next in
    (so_far.0, line, c.next_line.new.self, all, wanting_fill seed so_far.0 line c.next_line.new.self (sym are ∙ all) c.in-Wanting.ensures.0, soaks_still _ _ _ so_far.0 so_far.2 c.in-Wanting.ensures.1)

pub returns-in-Fault : goal.returns-in-Fault
returns-in-Fault g c = λ seed are.
    let so_far = c.loop-lines.invariant in
    let line : List ℕ = c.as_bytes.result.now in
    let next : c.loop-lines.lines ≡ line ∷ c.next_line.new.self
    = c.loop-lines-test.ensures.more ∙ ap (λ (l : List ℕ). l ∷ c.next_line.new.self) (sym (c.as_bytes.ensures.value ∙ c.as_str.ensures.value)) in
    (so_far.0 ++ line ∷ [], c.next_line.new.self, behind_line c.args.lines so_far.0 c.loop-lines.lines c.next_line.new.self line so_far.1 next, soak_breaks _ _ _ so_far.0 (line ∷ []) so_far.2 c.in-Fault.ensures)
