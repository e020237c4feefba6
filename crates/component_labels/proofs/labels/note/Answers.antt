use Rattle.std.proofs.Common.{◌≡◌, ◌++◌, ◌∷◌, [], ◌+◌, ◌≤◌, List, ℕ, length, set, sym, subst, arith}
use Rattle.std.proofs.lemmas.List.{length-set}
use Rattle.part_laws.specs.Meets.{least_joined}
use Rattle.component_labels.specs.Labelling.{Adds, AreMet, IsOneOf}
use Rattle.component_labels.proofs.MeetLaws.{both_joined, more_added, more_met}
use Rattle.component_labels.proofs.labels.note.Goals as goal

pub returns : goal.returns
returns c =
    let ps : List (ℕ × ℕ) = c.args.pairs.now.items in
    let low : ℕ = c.args.low in
    let high : ℕ = c.args.high in
    let e : c.extend_from_slice.new.self.items ≡ ps ++ (low, high) ∷ (high, low) ∷ [] = c.in_ok-extend_from_slice.ensures.items in
    let room : length ps + 2 ≤ 4294967294 = omega (arith, c.if-len-gt-MOST_LABELS.false, c.len.ensures) in
    record {
      count = length-set c.args.met.now.items high low;
      known = subst (λ qs. AreMet qs (set c.args.met.now.items high low)) (sym e) (more_met ps c.args.met.now.items low high c.requires.known c.requires.low c.requires.high room);
      pairs = subst (Adds (IsOneOf low high) ps) (sym e) (more_added ps c.args.met.now.items low high c.requires.known c.requires.low c.requires.high room);
      joined = subst (λ qs. least_joined qs low ≡ least_joined qs high) (sym e) (both_joined ps c.args.met.now.items low high c.requires.known c.requires.low c.requires.high room);
    }
