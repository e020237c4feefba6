-- Of the lines of the soak script, memory may be wanting for its fills alone.
use Rattle.std.proofs.Common.{◌≡◌, ℕ, zero, suc, ◌+◌, ◌%◌, Bool, true, false, List, [], ◌∷◌, ◌++◌, Ok, Err, refl, length, subst}
use Rattle.std.specs.Prelude.{Option, Some, None, nat_lt, if◌then◌else◌, codes, ◌==◌}
use Rattle.text_lines.specs.Parts.{◌>>=◌}
use Rattle.volume_gen.specs.Steps.{drawn, step}
use Rattle.volume_gen.specs.Soak.{after_edit, edit_line, fill_line, level_line, set_line, soak_lines, turn_lines, work_line, write_lines}
use Rattle.script.specs.Commands.{command_of, corners_on, count_on, ended, fill_of, level_of, level_on, number_on, only_name, or_syntax, read_of, set_of, work_of, writing_of}
use Rattle.script.specs.declared.command.Command.{Command}
use Rattle.script.specs.declared.command.Command.TheVariants.{Fill, Contour, Report, Measure, Window}
use Rattle.script.specs.declared.command.LineFault.TheVariants.{LineTooLong}
use Rattle.session.specs.Lines.{LineMeaning}
use Rattle.commands.specs.SoakLoop.{may_want}
use Rattle.commands.specs.SessionMeshes.{is_fill}

-- a line for which memory is not wanting, or a fill
abbrev is_tame : LineMeaning → Bool
is_tame (Ok (Some (Contour k))) = false
is_tame (Ok (Some Report)) = false
is_tame (Ok (Some Measure)) = false
is_tame (Ok (Some (Window corners format name))) = false
is_tame says = true

tame_fill : (says : LineMeaning) → is_tame says ≡ true → may_want says ≡ true → is_fill says ≡ true
tame_fill (Ok (Some (Fill corners value))) t w = refl
tame_fill (Ok (Some command)) t w = absurd cc
tame_fill (Ok None) t w = absurd cc
tame_fill (Err fault) t w = absurd cc

abbrev Tame : Option Command → Type 0
Tame command = is_tame (or_syntax command) ≡ true

tame_then : {A : Type 0} (o : Option A) (f : A → Option Command) → ((x : A) → Tame (f x)) → Tame (o >>= f)
tame_then None f h = refl
tame_then (Some x) f h = h x

tame_ended : (words : List (List ℕ)) (c : Command) → is_tame (Ok (Some c)) ≡ true → Tame (ended words c)
tame_ended [] c t = t
tame_ended (word ∷ words) c t = refl

tame_set : (words : List (List ℕ)) → Tame (set_of words)
unfolding set_of
tame_set words = tame_then (number_on words) _ (λ x. tame_then (number_on x.1) _ (λ y. tame_then (number_on y.1) _ (λ z. tame_then (number_on z.1) _ (λ v. tame_ended v.1 _ refl))))

tame_box : (words : List (List ℕ)) → Tame (fill_of words)
unfolding fill_of
tame_box words = tame_then (corners_on words) _ (λ corners. tame_then (number_on corners.1) _ (λ v. tame_ended v.1 _ refl))

tame_level : (words : List (List ℕ)) → Tame (level_of words)
unfolding level_of
tame_level words = tame_then (level_on words) _ (λ v. tame_ended v.1 _ refl)

tame_work : (words : List (List ℕ)) → Tame (work_of words)
unfolding work_of
tame_work words = tame_then (count_on words) _ (λ n. tame_ended n.1 _ refl)

tame_read : (b : Bool) (n : ℕ) (o : Option Command) → Tame o → is_tame (if b then Err (LineTooLong n) else or_syntax o) ≡ true
tame_read true n o t = refl
tame_read false n o t = t

abbrev IsTame : List ℕ → Type 0
IsTame line = is_tame (read_of line) ≡ true

tame_set_line : (s : ℕ) → IsTame (set_line s)
unfolding command_of
tame_set_line s = tame_read (nat_lt 4096 (length (set_line s))) (length (set_line s)) (set_of _) (tame_set _)

tame_fill_line : (s : ℕ) → IsTame (fill_line s)
unfolding command_of
tame_fill_line s = tame_read (nat_lt 4096 (length (fill_line s))) (length (fill_line s)) (fill_of _) (tame_box _)

tame_level_line : (s : ℕ) → IsTame (level_line s)
unfolding command_of
tame_level_line s = tame_read (nat_lt 4096 (length (level_line s))) (length (level_line s)) (level_of _) (tame_level _)

tame_work_line : (s : ℕ) → IsTame (work_line s)
unfolding command_of work_line
tame_work_line s = tame_read _ _ (work_of _) (tame_work _)

tame_undo : IsTame (codes "undo")
unfolding command_of
tame_undo = refl

tame_ply : IsTame (codes "ply soak.ply")
unfolding command_of writing_of only_name
tame_ply = refl

tame_if : (b : Bool) (x y : List ℕ) → IsTame x → IsTame y → IsTame (if b then x else y)
tame_if true x y p q = p
tame_if false x y p q = q

tame_edit : (s : ℕ) → IsTame (edit_line s)
unfolding edit_line
tame_edit before =
    let s : ℕ = step before in
    let kind : ℕ = drawn s 8 in
    let late : IsTame (if kind == 6 then level_line s else codes "undo") = tame_if (kind == 6) (level_line s) (codes "undo") (tame_level_line s) tame_undo in
    let middle : IsTame (if kind == 5 then fill_line s else if kind == 6 then level_line s else codes "undo") = tame_if (kind == 5) (fill_line s) (if kind == 6 then level_line s else codes "undo") (tame_fill_line s) late in
    tame_if (nat_lt kind 5) (set_line s) (if kind == 5 then fill_line s else if kind == 6 then level_line s else codes "undo") (tame_set_line s) middle

AllTame : List (List ℕ) → Type 0
AllTame [] = Unit {0}
AllTame (line ∷ lines) = IsTame line × AllTame lines

tame_both : (a b : List (List ℕ)) → AllTame a → AllTame b → AllTame (a ++ b)
unfolding AllTame
tame_both [] b p q = q
tame_both (l ∷ a) b p q = (p.0, tame_both a b p.1 q)

tame_writes : (b : Bool) → AllTame (if b then codes "ply soak.ply" ∷ [] else [])
unfolding AllTame
tame_writes true = (tame_ply, tt)
tame_writes false = tt

tame_turns : (turns turn state : ℕ) → AllTame (turn_lines turns turn state)
unfolding AllTame turn_lines
tame_turns zero turn state = tt
tame_turns (suc turns) turn state =
    (tame_edit state, (tame_work_line (after_edit state), tame_both (write_lines turn) _ (tame_writes (turn % 20 == 19)) (tame_turns turns (turn + 1) (step (after_edit state)))))

tame_at : (a : List (List ℕ)) (l : List ℕ) (b : List (List ℕ)) → AllTame (a ++ l ∷ b) → IsTame l
unfolding AllTame
tame_at [] l b h = h.0
tame_at (x ∷ a) l b h = tame_at a l b h.1

-- a line of the script for which memory was wanting is a fill
pub wanting_fill : (seed : ℕ) (before : List (List ℕ)) (line : List ℕ) (after : List (List ℕ)) → soak_lines seed ≡ before ++ line ∷ after → may_want (read_of line) ≡ true → is_fill (read_of line) ≡ true
wanting_fill seed before line after e w = tame_fill (read_of line) (tame_at before line after (subst AllTame e (tame_turns 200 0 seed))) w
