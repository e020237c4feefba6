-- Lines of a soak that are run one after another.
use Rattle.std.proofs.Common.{◌≡◌, ℕ, ◌+◌, ◌≤◌, Bool, true, false, List, [], ◌∷◌, ◌++◌, Ok, Err, refl, sym, ap, subst, ◌∙◌, append_assoc, arith}
use Rattle.std.specs.Prelude.{Option, Some, None, if◌then◌else◌}
use Rattle.std.specs.Io.KnownBytes.{Appends}
use Rattle.std.proofs.lemmas.List.{append-nil}
use Rattle.byte_streams.specs.Seen.{Files, Tape}
use Rattle.byte_streams.proofs.Known.{Appends-nil, Appends-trans}
use Rattle.bench_core.specs.Machine.{State}
use Rattle.iso_defs.specs.Texts.{line}
use Rattle.script.specs.Commands.{read_of}
use Rattle.script.specs.Replies.{line_fault_text}
use Rattle.script.specs.declared.command.Command.{Command}
use Rattle.session.specs.Following.{LineTurn}
use Rattle.session.specs.Kept.{Kept, KeptLine, Scene}
use Rattle.session.specs.Lines.{LineMeaning}
use Rattle.session.specs.Worlds.{CountsBy, TakesTurn, World, replies_text, scene_of, shelf_errors}
use Rattle.session.proofs.Running.{replies_text-append, kept_both, line_no_error}
use Rattle.commands.specs.SoakLoop.{Shows, SoaksLine, may_want}
use Rattle.commands.specs.SessionMeshes.{is_want}
use Rattle.commands.specs.Soaking.{HasNoWant, RanQuietly, SoakBreaks, Soaks, is_ply, shown, shown_by}
use Rattle.commands.specs.declared.soaking.Pace.{Pace}
use Rattle.commands.specs.declared.soaking.Pace.TheVariants.{On, Wanting, Fault}
use Rattle.commands.proofs.Wanting.{kept_still, line_fault_no_want, same_scene, still_by}

-- ---- lists of replies

no_want_both : (a b : List (List ℕ)) → HasNoWant a → HasNoWant b → HasNoWant (a ++ b)
no_want_both [] b p q = q
no_want_both (r ∷ a) b p q = (p.0, no_want_both a b p.1 q)

errors_both : (xs ys : List (List ℕ)) → shelf_errors (xs ++ ys) ≡ shelf_errors xs + shelf_errors ys
errors_both [] ys = omega arith
errors_both (x ∷ xs) ys = omega (arith, errors_both xs ys)

counts_both : (a b c : ℕ) (xs ys : List (List ℕ)) → CountsBy a b xs → b ≤ c → CountsBy b c ys → CountsBy a c (xs ++ ys)
counts_both a b c xs ys p l q = λ lt.
    let p' : a + shelf_errors xs ≤ b = p (omega arith) in
    let q' : b + shelf_errors ys ≤ c = q lt in
    omega (arith, errors_both xs ys)

-- the replies to one line, and then those to others
shown_first : (s s' : State) (f f' : Option Files) (says : LineMeaning) (first more behind : List (List ℕ)) (k k' : List (List ℕ) → List (List ℕ)) (rest : List (List ℕ))
    → LineTurn s f says first s' f' → k' (more ++ behind) ≡ k more ++ rest → shown_by says ((first ++ more) ++ behind) k' ≡ shown_by says (first ++ more) k ++ rest
shown_first s s' f f' (Ok None) first more behind k k' rest t e =
    ap (λ (r : List (List ℕ)). k' ((r ++ more) ++ behind)) t.0 ∙ e ∙ ap (λ (r : List (List ℕ)). k (r ++ more) ++ rest) (sym t.0)
shown_first s s' f f' (Ok (Some c)) first more behind k k' rest t e =
    ap (λ (r : List (List ℕ)). shown_by (Ok (Some c)) ((r ++ more) ++ behind) k') t.1 ∙ go (is_ply (Ok (Some c)))
    ∙ ap (λ (r : List (List ℕ)). shown_by (Ok (Some c)) (r ++ more) k ++ rest) (sym t.1)
  where
    go : (b : Bool) → (if b then t.0 ∷ k' (more ++ behind) else k' (more ++ behind)) ≡ (if b then t.0 ∷ k more else k more) ++ rest
    go true = ap (λ (r : List (List ℕ)). t.0 ∷ r) e
    go false = e
shown_first s s' f f' (Err fault) first more behind k k' rest t e =
    ap (λ (r : List (List ℕ)). shown_by (Err fault) ((r ++ more) ++ behind) k') t.0 ∙ e
    ∙ ap (λ (r : List (List ℕ)). shown_by (Err fault) (r ++ more) k ++ rest) (sym t.0)

pub shown_both : (ls rs ls' rs' : List (List ℕ)) (w v : Scene) → Kept w ls rs v → shown (ls ++ ls') (rs ++ rs') ≡ shown ls rs ++ shown ls' rs'
shown_both [] rs ls' rs' w v h = ap (λ (r : List (List ℕ)). shown ls' (r ++ rs')) h.0
shown_both (l ∷ ls) rs ls' rs' w v h =
    ap (λ (r : List (List ℕ)). shown_by (read_of l) (r ++ rs') (shown (ls ++ ls'))) h.3
    ∙ shown_first _ _ _ _ (read_of l) h.0 h.1 rs' (shown ls) (shown (ls ++ ls')) (shown ls' rs') h.4.turn (shown_both ls h.1 ls' rs' h.2 v h.5)
    ∙ ap (λ (r : List (List ℕ)). shown_by (read_of l) r (shown ls) ++ shown ls' rs') (sym h.3)

-- ---- more lines

ran_both : (w v x : World) (ls rs ls' rs' : List (List ℕ)) → RanQuietly w v ls rs → RanQuietly v x ls' rs' → RanQuietly w x (ls ++ ls') (rs ++ rs')
ran_both w v x ls rs ls' rs' a b = record {
  kept = kept_both (scene_of w) ls rs (scene_of v) ls' rs' (scene_of x) a.kept b.kept;
  no_want = no_want_both rs rs' a.no_want b.no_want;
  beside = b.beside ∙ a.beside;
  shelf_later = omega (arith, a.shelf_later, b.shelf_later);
  counted = counts_both w.store.faults v.store.faults x.store.faults rs rs' a.counted b.shelf_later b.counted;
}

pub soaks_none : (w : World) → Soaks w w []
soaks_none w = record {
  replies = [];
  ran = record { kept = (refl, refl); no_want = tt; beside = refl; shelf_later = omega arith; counted = λ _. omega arith };
  written = Appends-nil w.tape.taken;
  later = omega arith;
}

pub soaks_both : (w v x : World) (ls ls' : List (List ℕ)) → Soaks w v ls → Soaks v x ls' → Soaks w x (ls ++ ls')
soaks_both w v x ls ls' a b = record {
  replies = a.replies ++ b.replies;
  ran = ran_both w v x ls a.replies ls' b.replies a.ran b.ran;
  written = rw (shown_both ls a.replies ls' b.replies (scene_of w) (scene_of v) a.ran.kept, replies_text-append (shown ls a.replies) (shown ls' b.replies))
      (Appends-trans w.tape.taken v.tape.taken x.tape.taken (replies_text (shown ls a.replies)) (replies_text (shown ls' b.replies)) a.written b.written);
  later = omega (arith, a.later, b.later);
}

-- what leaves everything as it was
pub soaks_still : (w v x : World) (ls : List (List ℕ)) → Soaks w v ls → Soaks v x [] → Soaks w x ls
soaks_still w v x ls a b = subst (λ (m : List (List ℕ)). Soaks w x m) (append-nil ls) (soaks_both w v x ls [] a b)

-- the line that comes next, and those behind it
pub at_line : (all before rest after : List (List ℕ)) (line : List ℕ) → all ≡ before ++ rest → rest ≡ line ∷ after → all ≡ before ++ line ∷ after
at_line all before rest after line e d = e ∙ ap (λ (m : List (List ℕ)). before ++ m) d

pub behind_line : (all before rest after : List (List ℕ)) (line : List ℕ) → all ≡ before ++ rest → rest ≡ line ∷ after → all ≡ (before ++ line ∷ []) ++ after
behind_line all before rest after line e d = at_line all before rest after line e d ∙ sym (append_assoc before (line ∷ []) after)

-- a line before the break is among those before it
pub soak_breaks : (w v x : World) (ls ls' : List (List ℕ)) → Soaks w v ls → SoakBreaks v x ls' → SoakBreaks w x (ls ++ ls')
soak_breaks w v x ls ls' a b = record {
  before = ls ++ b.before;
  line = b.line;
  parts = ap (λ (m : List (List ℕ)). ls ++ m) b.parts ∙ sym (append_assoc ls b.before (b.line ∷ []));
  ply = b.ply;
  replies = a.replies ++ b.replies;
  reply = b.reply;
  ran = subst (λ (r : List (List ℕ)). RanQuietly w x (ls ++ ls') r) (sym (append_assoc a.replies b.replies (b.reply ∷ []))) (ran_both w v x ls a.replies ls' (b.replies ++ b.reply ∷ []) a.ran b.ran);
  front = b.front;
  back = b.back;
  cut = b.cut;
  written = rw (shown_both ls a.replies b.before b.replies (scene_of w) (scene_of v) a.ran.kept, replies_text-append (shown ls a.replies) (shown b.before b.replies), append_assoc (replies_text (shown ls a.replies)) (replies_text (shown b.before b.replies)) b.front)
      (Appends-trans w.tape.taken v.tape.taken x.tape.taken (replies_text (shown ls a.replies)) (replies_text (shown b.before b.replies) ++ b.front) a.written b.written);
  cause = omega (arith, a.later, b.cause);
}

-- ---- one line

of_line : (w v : Scene) (line : List ℕ) (replies : List (List ℕ)) (says : LineMeaning) → says ≡ read_of line → KeptLine w says replies v → KeptLine w (read_of line) replies v
of_line w v line replies says e t = subst (λ (m : LineMeaning). KeptLine w m replies v) e t

one_kept : (w v : Scene) (line : List ℕ) (replies : List (List ℕ)) (says : LineMeaning) → says ≡ read_of line → KeptLine w says replies v → Kept w (line ∷ []) replies v
one_kept w v line replies says e t = (replies, [], v, sym (append-nil replies), of_line w v line replies says e t, (refl, refl))

-- a line that asks for nothing that is shown, and leaves everything as it was
pub quiet_line : (w : World) (line : List ℕ) (says : LineMeaning) (replies : List (List ℕ)) → says ≡ read_of line → KeptLine (scene_of w) says replies (scene_of w) → HasNoWant replies
    → shelf_errors replies ≡ 0 → shown_by says replies (λ _. []) ≡ [] → Soaks w w (line ∷ [])
quiet_line w line says replies e kept want errors none = record {
  replies = replies;
  ran = record { kept = one_kept (scene_of w) (scene_of w) line replies says e kept; no_want = want; beside = refl; shelf_later = omega arith; counted = λ _. omega (arith, errors) };
  written = rw (ap (λ (m : LineMeaning). shown_by m replies (λ _. [])) (sym e) ∙ none) (Appends-nil w.tape.taken);
  later = omega arith;
}

pub no_command : (w : World) (text : List ℕ) (says : LineMeaning) → says ≡ read_of text → ((c : Command) → says ≡ Ok (Some c) → ⊥) → Soaks w w (text ∷ [])
no_command w text (Ok None) e ne = quiet_line w text (Ok None) [] e (record { turn = (refl, refl, refl); keeps = (refl, refl) }) tt refl refl
no_command w text (Ok (Some c)) e ne = absurd (ne c refl)
no_command w text (Err fault) e ne =
    quiet_line w text (Err fault) (line (line_fault_text fault) ∷ []) e (record { turn = (refl, refl, refl); keeps = (refl, refl) }) (line_fault_no_want fault, tt) (line_no_error fault) refl

-- ---- one command

shown_text : (b : Bool) (text : List ℕ) → replies_text (if b then text ∷ [] else []) ≡ (if b then text else [])
shown_text true text = append-nil text
shown_text false text = refl

shown_one : (c : Command) (line text : List ℕ) (b : Bool) → Ok (Some c) ≡ read_of line → b ≡ is_ply (Ok (Some c)) → replies_text (shown (line ∷ []) (text ∷ [])) ≡ (if b then text else [])
shown_one c line text b e d =
    ap (λ (says : LineMeaning). replies_text (shown_by says (text ∷ []) (shown []))) (sym e) ∙ ap (λ (p : Bool). replies_text (if p then text ∷ [] else [])) (sym d) ∙ shown_text b text

ran_one : (w v : World) (c : Command) (line text : List ℕ) → Ok (Some c) ≡ read_of line → TakesTurn w.bench w.steps w.store c text v.bench v.steps v.store → is_want text ≡ false → v.tape.beside ≡ w.tape.beside
    → RanQuietly w v (line ∷ []) (text ∷ [])
ran_one w v c line text e t want beside = record {
  kept = one_kept (scene_of w) (scene_of v) line (text ∷ []) (Ok (Some c)) e (record { turn = (text, refl, t.turn); keeps = (text, refl, t.keeps) });
  no_want = (want, tt);
  beside = beside;
  shelf_later = t.later;
  counted = t.errors;
}

-- the command was run, and its reply was written where it is shown
pub quietly : (w v : World) (c : Command) (line text : List ℕ) (b : Bool) (pace : Pace) → Ok (Some c) ≡ read_of line → TakesTurn w.bench w.steps w.store c text v.bench v.steps v.store → is_want text ≡ false
    → b ≡ is_ply (Ok (Some c)) → Shows w.tape v.tape text b pace → SoaksLine w v line pace
quietly w v c line text b On e t want d h = record {
  replies = text ∷ [];
  ran = ran_one w v c line text e t want h.beside;
  written = rw (shown_one c line text b e d) h.gained;
  later = h.later;
}
quietly w v c line text b Wanting e t want d h = absurd h
quietly w v c line text b Fault e t want d h = record {
  before = [];
  line = line;
  parts = refl;
  ply = ap is_ply (sym e) ∙ sym d ∙ h.0;
  replies = [];
  reply = text;
  ran = ran_one w v c line text e t want h.5;
  front = h.1;
  back = h.2;
  cut = h.3;
  written = h.4;
  cause = h.6;
}

-- memory was wanting for the command
pub wanted : (w v : World) (c : Command) (line text : List ℕ) → Ok (Some c) ≡ read_of line → TakesTurn w.bench w.steps w.store c text v.bench v.steps v.store → is_want text ≡ true → v.tape ≡ w.tape
    → SoaksLine w v line Wanting
wanted w v c line text e t want tape =
    let still = still_by w.bench.state v.bench.state w.store.files v.store.files c text t.turn want in
    let kept = kept_still (scene_of w) (scene_of v) c text t.keeps still.may want in (
      ap may_want (sym e) ∙ still.may,
      record {
        replies = [];
        ran = record {
          kept = (refl, same_scene (scene_of w) (scene_of v) still.state kept.0 still.files_are kept.1);
          no_want = tt;
          beside = ap (λ (x : Tape). x.beside) tape;
          shelf_later = t.later;
          counted = λ _. omega (arith, t.later);
        };
        written = subst (λ (x : Tape). Appends w.tape.taken x.taken []) (sym tape) (Appends-nil w.tape.taken);
        later = omega (arith, ap (λ (x : Tape). x.faults) tape);
      },
    )
