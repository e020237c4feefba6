use Rattle.std.proofs.Common.{◌≡◌, ◌+◌, ◌++◌, drop, take, arith, ap, sym, ◌∙◌, List, ℕ, [], rules}
use Rattle.std.proofs.lemmas.List.{drop-drop, drop_all}
use Rattle.byte_streams.specs.Memory.{FedBytes}
use Rattle.byte_streams.proofs.memory_source.MemSourceSource.read.Goals as goal

parts : (bytes into rest left : List ℕ) (at n : ℕ) → left ≡ drop at bytes → rest ≡ drop at bytes → rest ≡ take n into ++ drop n rest → left ≡ take n into ++ drop (at + n) bytes
parts bytes into rest left at n e f g = e ∙ sym f ∙ g ∙ ap (λ (l : List ℕ). take n into ++ l) (ap (drop n) f ∙ drop-drop n at bytes)

ended : (bytes rest : List ℕ) (at n : ℕ) → rest ≡ drop at bytes → rest ≡ [] → drop (at + n) bytes ≡ []
ended bytes rest at n f e = sym (drop-drop n at bytes) ∙ ap (drop n) (sym f ∙ e) ∙ drop_all n [] (omega arith)

pub returns-clause-reads : goal.returns-clause-reads
returns-clause-reads c =
    let left : c.args.self.now.left ≡ drop c.self.inside.at c.self.inside.bytes.items = ap (λ (f : FedBytes). f.left) (sym c.self.view_is) in
    let rest : c.split_at.result.1.now ≡ drop c.self.inside.at c.self.inside.bytes.items = c.split_at.ensures.back ∙ ap (drop c.self.inside.at) c.deref-2.ensures.value in
    record {
      bytes = (parts c.self.inside.bytes.items c.copy_front-count.new.into c.split_at.result.1.now c.args.self.now.left c.self.inside.at c.copy_front-count.result left rest c.copy_front-count.ensures.same, λ none _. ended c.self.inside.bytes.items c.split_at.result.1.now c.self.inside.at c.copy_front-count.result rest (c.copy_front-count.ensures.none none));
      counted = search rules;
      cause = search rules;
    }
