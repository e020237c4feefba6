-- Lines and replies together determine the state.
use Rattle.std.proofs.Common.{◌≡◌, inl, inr, ℕ, Bool, true, false, List, [], ◌∷◌, ◌++◌, Result, Ok, Err, MatchResult, refl, sym, ap, subst, ◌∙◌, codes}
use Rattle.std.specs.Prelude.{Option, Some, None, bytes_eq, is_some}
use Rattle.iso_base.specs.declared.fault.BenchFault.{BenchFault}
use Rattle.iso_base.specs.declared.fault.BenchFault.TheVariants as faults
use Rattle.byte_streams.specs.Seen.{Files}
use Rattle.bench_core.specs.Machine.{State}
use Rattle.bench_core.specs.Texts.{contour_of}
use Rattle.script.specs.declared.command.Command.{Command}
use Rattle.script.specs.declared.command.Command.TheVariants.{Contour}
use Rattle.script.specs.Commands.{read_of}
use Rattle.iso_defs.specs.Texts.{line}
use Rattle.script.specs.Replies.{fault_text, written_text, saved_text}
use Rattle.session.specs.Lines.{LineMeaning}
use Rattle.session.specs.Table.{step_of, writes_of, says_of, Turn, after_writing}
use Rattle.session.specs.Following.{LineTurn, Followed}
use Rattle.session.proofs.Running.{contours_apart}

-- the state after a command, by the machine's step and by whether memory was wanted
abbrev by_step : State → Result State BenchFault → Bool → State
by_step s (Err fault) wanted = s
by_step s (Ok next) true = s
by_step s (Ok next) false = next

abbrev wants : List ℕ → Bool
wants reply = bytes_eq reply (codes "error 1 memory\n")

says_no_want : (s : State) (c : Command) → wants (says_of s c) ≡ false
unfolding written_text saved_text
says_no_want s (Contour k) = contours_apart (is_some s.volume.pad) (contour_of s k) (codes "rror 1 memory\n")
says_no_want s command = refl

memory_wants : wants (line (fault_text faults.Memory)) ≡ true
unfolding fault_text
memory_wants = refl

answers_by : (s : State) (f : Option Files) (c : Command) (r : List ℕ) (s' : State) (f' : Option Files) (step : Result State BenchFault)
    → MatchResult step (λ next. (s' ≡ next) × (r ≡ says_of s c) × (f' ≡ after_writing (writes_of s c) f)) (λ fault. (s' ≡ s) × (r ≡ line (fault_text fault)) × (f' ≡ f)) → s' ≡ by_step s step (wants r)
answers_by s f c r s' f' (Err fault) h = h.0
answers_by s f c r s' f' (Ok next) h = h.0 ∙ ap (by_step s (Ok next)) (sym (says_no_want s c)) ∙ ap (λ (x : List ℕ). by_step s (Ok next) (wants x)) (sym h.1)

still : (s : State) (b : Bool) → by_step s (Ok s) b ≡ s
still s true = refl
still s false = refl

turn_state : (s : State) (f : Option Files) (c : Command) (r : List ℕ) (s' : State) (f' : Option Files) → Turn s f c r s' f' → s' ≡ by_step s (step_of s c) (wants r)
turn_state s f c r s' f' (inl h) = answers_by s f c r s' f' (step_of s c) h
turn_state s f c r s' f' (inr (inl h)) =
    h.same_state ∙ ap (by_step s (Ok h.next)) (sym memory_wants) ∙ ap (λ (x : List ℕ). by_step s (Ok h.next) (wants x)) (sym h.reply_is) ∙ ap (λ (x : Result State BenchFault). by_step s x (wants r)) (sym h.step)
turn_state s f c r s' f' (inr (inr h)) =
    h.same_state ∙ sym (still s (wants r)) ∙ ap (λ (x : Result State BenchFault). by_step s x (wants r)) (sym h.step)

first_of : (a b : List ℕ) (x y : List (List ℕ)) → a ∷ x ≡ b ∷ y → (a ≡ b) × (x ≡ y)
first_of a b x y e = (cc, cc)

-- what one line leaves
line_same : (s : State) (f g : Option Files) (says : LineMeaning) (r1 r2 m1 m2 : List (List ℕ)) (s1 s2 : State) (f1 g2 : Option Files) → r1 ++ m1 ≡ r2 ++ m2 → LineTurn s f says r1 s1 f1 → LineTurn s g says r2 s2 g2 → (s1 ≡ s2) × (m1 ≡ m2)
line_same s f g (Ok None) r1 r2 m1 m2 s1 s2 f1 g2 e a b = (a.1 ∙ sym b.1, sym (ap (λ (r : List (List ℕ)). r ++ m1) a.0) ∙ e ∙ ap (λ (r : List (List ℕ)). r ++ m2) b.0)
line_same s f g (Err fault) r1 r2 m1 m2 s1 s2 f1 g2 e a b =
    let d = first_of _ _ _ _ (sym (ap (λ (r : List (List ℕ)). r ++ m1) a.0) ∙ e ∙ ap (λ (r : List (List ℕ)). r ++ m2) b.0) in (a.1 ∙ sym b.1, d.1)
line_same s f g (Ok (Some c)) r1 r2 m1 m2 s1 s2 f1 g2 e a b =
    let d = first_of a.0 b.0 m1 m2 (sym (ap (λ (r : List (List ℕ)). r ++ m1) a.1) ∙ e ∙ ap (λ (r : List (List ℕ)). r ++ m2) b.1) in
    (turn_state s f c a.0 s1 f1 a.2 ∙ ap (λ (x : List ℕ). by_step s (step_of s c) (wants x)) d.0 ∙ sym (turn_state s g c b.0 s2 g2 b.2), d.1)

pub followed_same : (ls : List (List ℕ)) (s t : State) (f g : Option Files) (rs qs : List (List ℕ)) (s1 s2 : State) (f1 g2 : Option Files) → s ≡ t → rs ≡ qs → Followed s f ls rs s1 f1 → Followed t g ls qs s2 g2 → s1 ≡ s2
followed_same [] s t f g rs qs s1 s2 f1 g2 e d a b = a.1 ∙ e ∙ sym b.1
followed_same (l ∷ ls) s t f g rs qs s1 s2 f1 g2 e d a b =
    let other : LineTurn s g (read_of l) b.0 b.2 b.3 = subst (λ (x : State). LineTurn x g (read_of l) b.0 b.2 b.3) (sym e) b.5 in
    let same = line_same s f g (read_of l) a.0 b.0 a.1 b.1 a.2 b.2 a.3 b.3 (sym a.4 ∙ d ∙ b.4) a.5 other in
    followed_same ls a.2 b.2 a.3 b.3 a.1 b.1 s1 s2 f1 g2 same.0 same.1 a.6 b.6
