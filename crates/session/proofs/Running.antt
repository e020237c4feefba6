-- Lines that are run one after another.
use Rattle.std.proofs.Common.{◌≡◌, ℕ, ◌+◌, ◌≤◌, Bool, true, false, cond, List, [], ◌∷◌, ◌++◌, Ok, refl, sym, ap, subst, ◌∙◌, append_assoc, arith}
use Rattle.std.specs.Prelude.{None, not, ◌&&◌, bytes_eq, codes, decimal, if◌then◌else◌, length}
use Rattle.std.proofs.lemmas.List.{append-nil}
use Rattle.std.proofs.lemmas.List.Concat.{flat_map-append}
use Rattle.byte_streams.proofs.Known.{Appends-nil, Appends-trans}
use Rattle.script.specs.declared.command.LineFault.{LineFault}
use Rattle.script.specs.declared.command.LineFault.TheVariants.{Syntax, LineTooLong}
use Rattle.iso_base.specs.declared.fault.BenchFault.{BenchFault}
use Rattle.iso_base.specs.declared.fault.BenchFault.TheVariants as faults
use Rattle.iso_base.specs.declared.fault.Written.{Written}
use Rattle.iso_defs.specs.Texts.{line}
use Rattle.plane_contour.specs.Texts.{DrawnLine, contours_text, points_text}
use Rattle.measure.specs.declared.share.Share.{Share}
use Rattle.mesh_report.specs.Report.{Summary}
use Rattle.session.specs.Table.{contour_reply, measures_reply, report_reply}
use Rattle.script.specs.Replies.{fault_text, line_fault_text, written_text, saved_text}
use Rattle.script.specs.Commands.{read_of}
use Rattle.session.specs.Lines.{LineMeaning, is_quit, has_no_quit}
use Rattle.session.specs.Following.{Followed}
use Rattle.session.specs.Kept.{Kept, KeptLine, Scene}
use Rattle.session.specs.Worlds.{Breaks, CountsBy, QuitsLast, Runs, World, is_shelf_error, replies_text, scene_of, shelf_errors}
use Rattle.session.specs.Loop.{Ran, Told}
use Rattle.session.specs.declared.after.After.{After}
use Rattle.session.specs.declared.after.After.TheVariants.{On, Quit, Fault}

pub kept_both : (w : Scene) (ls rs : List (List ℕ)) (m : Scene) (ls' rs' : List (List ℕ)) (v : Scene) → Kept w ls rs m → Kept m ls' rs' v → Kept w (ls ++ ls') (rs ++ rs') v
kept_both w [] rs m ls' rs' v h k = subst (λ (x : Scene). Kept x ls' (rs ++ rs') v) h.1 (subst (λ (r : List (List ℕ)). Kept m ls' (r ++ rs') v) (sym h.0) k)
kept_both w (l ∷ ls) rs m ls' rs' v h k =
    (h.0, h.1 ++ rs', h.2, ap (λ (r : List (List ℕ)). r ++ rs') h.3 ∙ append_assoc h.0 h.1 rs', h.4, kept_both h.2 ls h.1 m ls' rs' v h.5 k)

pub kept_followed : (ls rs : List (List ℕ)) (w v : Scene) → Kept w ls rs v → Followed w.bench.state w.files ls rs v.bench.state v.files
kept_followed [] rs w v h = (h.0, ap (λ (x : Scene). x.bench.state) h.1, ap (λ (x : Scene). x.files) h.1)
kept_followed (l ∷ ls) rs w v h = (h.0, h.1, h.2.bench.state, h.2.files, h.3, h.4.turn, kept_followed ls h.1 h.2 v h.5)

pub replies_text-append : (xs ys : List (List ℕ)) → replies_text (xs ++ ys) ≡ replies_text xs ++ replies_text ys
replies_text-append xs ys = flat_map-append (λ (r : List ℕ). r) xs ys

pub shelf_errors-append : (xs ys : List (List ℕ)) → shelf_errors (xs ++ ys) ≡ shelf_errors xs + shelf_errors ys
shelf_errors-append [] ys = omega arith
shelf_errors-append (x ∷ xs) ys = omega (arith, shelf_errors-append xs ys)

counts_both : (a b c : ℕ) (xs ys : List (List ℕ)) → CountsBy a b xs → b ≤ c → CountsBy b c ys → CountsBy a c (xs ++ ys)
counts_both a b c xs ys p l q = λ lt.
    let p' : a + shelf_errors xs ≤ b = p (omega arith) in
    let q' : b + shelf_errors ys ≤ c = q lt in
    omega (arith, shelf_errors-append xs ys)

pub runs_none : (w : World) → Runs w w []
runs_none w = record { replies = []; kept = (refl, refl); written = Appends-nil w.tape.taken; beside = refl; later = omega arith; shelf_later = omega arith; counted = λ _. omega arith }

pub runs_both : (w v x : World) (ls ls' : List (List ℕ)) → Runs w v ls → Runs v x ls' → Runs w x (ls ++ ls')
runs_both w v x ls ls' a b = record {
  replies = a.replies ++ b.replies;
  kept = kept_both (scene_of w) ls a.replies (scene_of v) ls' b.replies (scene_of x) a.kept b.kept;
  written = rw (replies_text-append a.replies b.replies) (Appends-trans w.tape.taken v.tape.taken x.tape.taken (replies_text a.replies) (replies_text b.replies) a.written b.written);
  beside = b.beside ∙ a.beside;
  later = omega (arith, a.later, b.later);
  shelf_later = omega (arith, a.shelf_later, b.shelf_later);
  counted = counts_both w.store.faults v.store.faults x.store.faults a.replies b.replies a.counted b.shelf_later b.counted;
}

no_quit_step : (p q : Bool) (r : Bool) → (p && q) ≡ true → (q ≡ true → r ≡ true) → (p && r) ≡ true
no_quit_step true q r e h = h e
no_quit_step false q r e h = absurd cc

pub no_quit_both : (a b : List (List ℕ)) → has_no_quit a ≡ true → has_no_quit b ≡ true → has_no_quit (a ++ b) ≡ true
no_quit_both [] b p q = q
no_quit_both (l ∷ a) b p q = no_quit_step (not (is_quit (read_of l))) (has_no_quit a) (has_no_quit (a ++ b)) p (λ e. no_quit_both a b e q)

pub runs_breaks : (w v x : World) (ls ls' : List (List ℕ)) → Runs w v ls → has_no_quit ls ≡ true → Breaks v x ls' → Breaks w x (ls ++ ls')
runs_breaks w v x ls ls' a q b = record {
  before = ls ++ b.before;
  line = b.line;
  parts = ap (λ (m : List (List ℕ)). ls ++ m) b.parts ∙ sym (append_assoc ls b.before (b.line ∷ []));
  no_quit = no_quit_both ls b.before q b.no_quit;
  replies = a.replies ++ b.replies;
  reply = b.reply;
  mid = b.mid;
  kept = kept_both (scene_of w) ls a.replies (scene_of v) b.before b.replies b.mid a.kept b.kept;
  turn = b.turn;
  front = b.front;
  back = b.back;
  cut = b.cut;
  written = rw (replies_text-append a.replies b.replies, append_assoc (replies_text a.replies) (replies_text b.replies) b.front) (Appends-trans w.tape.taken v.tape.taken x.tape.taken (replies_text a.replies) (replies_text b.replies ++ b.front) a.written b.written);
  beside = b.beside ∙ a.beside;
  cause = omega (arith, a.later, b.cause);
  shelf_later = omega (arith, a.shelf_later, b.shelf_later);
  counted = subst (λ (r : List (List ℕ)). CountsBy w.store.faults x.store.faults r) (sym (append_assoc a.replies b.replies (b.reply ∷ []))) (counts_both w.store.faults v.store.faults x.store.faults a.replies (b.replies ++ b.reply ∷ []) a.counted b.shelf_later b.counted);
}

quits_after : (ls run : List (List ℕ)) → has_no_quit ls ≡ true → QuitsLast run → QuitsLast (ls ++ run)
quits_after ls run p q = record {
  before = ls ++ q.before;
  line = q.line;
  parts = ap (λ (m : List (List ℕ)). ls ++ m) q.parts ∙ sym (append_assoc ls q.before (q.line ∷ []));
  no_quit = no_quit_both ls q.before p q.no_quit;
  quit = q.quit;
}

-- more lines, where the session went on
pub ran_both : (w v x : World) (ls ls' : List (List ℕ)) (a : After) → Ran w v ls On → Ran v x ls' a → Ran w x (ls ++ ls') a
ran_both w v x ls ls' On p q = (runs_both w v x ls ls' p.0 q.0, no_quit_both ls ls' p.1 q.1)
ran_both w v x ls ls' Quit p q = (ls ++ q.0, q.1, ap (λ (m : List (List ℕ)). ls ++ m) q.2 ∙ sym (append_assoc ls q.0 q.1), quits_after ls q.0 p.1 q.3, runs_both w v x ls q.0 p.0 q.4)
ran_both w v x ls ls' Fault p q = (ls ++ q.0, q.1, ap (λ (m : List (List ℕ)). ls ++ m) q.2 ∙ sym (append_assoc ls q.0 q.1), runs_breaks w v x ls q.0 p.0 p.1 q.3)

-- more lines make no difference where it ended
abbrev pub IsStop : After → Type 0
IsStop On = ⊥
IsStop Quit = Unit {0}
IsStop Fault = Unit {0}

pub ran_stop : (w v : World) (ls ls' : List (List ℕ)) (a : After) → IsStop a → Ran w v ls a → Ran w v (ls ++ ls') a
ran_stop w v ls ls' On s p = absurd s
ran_stop w v ls ls' Quit s p = (p.0, p.1 ++ ls', ap (λ (m : List (List ℕ)). m ++ ls') p.2 ∙ append_assoc p.0 p.1 ls', p.3, p.4)
ran_stop w v ls ls' Fault s p = (p.0, p.1 ++ ls', ap (λ (m : List (List ℕ)). m ++ ls') p.2 ∙ append_assoc p.0 p.1 ls', p.3)

-- ---- one line

of_line : (w v : Scene) (line : List ℕ) (replies : List (List ℕ)) (says : LineMeaning) → says ≡ read_of line → KeptLine w says replies v → KeptLine w (read_of line) replies v
of_line w v line replies says e t = subst (λ (m : LineMeaning). KeptLine w m replies v) e t

one_kept : (w v : Scene) (line : List ℕ) (replies : List (List ℕ)) (says : LineMeaning) → says ≡ read_of line → KeptLine w says replies v → Kept w (line ∷ []) replies v
one_kept w v line replies says e t = (replies, [], v, sym (append-nil replies), of_line w v line replies says e t, (refl, refl))

no_quit_one : (line : List ℕ) (says : LineMeaning) → says ≡ read_of line → is_quit says ≡ false → has_no_quit (line ∷ []) ≡ true
no_quit_one line says e q = let t : is_quit (read_of line) ≡ false = ap is_quit (sym e) ∙ q in rw t refl

pub ran_told : (w v : World) (line : List ℕ) (says : LineMeaning) (text : List ℕ) (quits : Bool) (a : After) → says ≡ read_of line → is_quit says ≡ quits
    → KeptLine (scene_of w) says (text ∷ []) (scene_of v) → w.store.faults ≤ v.store.faults → CountsBy w.store.faults v.store.faults (text ∷ []) → Told w.tape v.tape text quits a → Ran w v (line ∷ []) a
ran_told w v line says text quits On e q t l n d = (
  record {
    replies = text ∷ [];
    kept = one_kept (scene_of w) (scene_of v) line (text ∷ []) says e t;
    written = rw (append-nil text) d.1.gained;
    beside = d.1.beside;
    later = d.1.later;
    shelf_later = l;
    counted = n;
  },
  no_quit_one line says e (q ∙ d.0),
)
ran_told w v line says text quits Quit e q t l n d = (
  line ∷ [],
  [],
  refl,
  record { before = []; line = line; parts = refl; no_quit = refl; quit = ap is_quit (sym e) ∙ q ∙ d.0 },
  record {
    replies = text ∷ [];
    kept = one_kept (scene_of w) (scene_of v) line (text ∷ []) says e t;
    written = rw (append-nil text) d.1.gained;
    beside = d.1.beside;
    later = d.1.later;
    shelf_later = l;
    counted = n;
  },
)
ran_told w v line says text quits Fault e q t l n d = (
  line ∷ [],
  [],
  refl,
  record {
    before = [];
    line = line;
    parts = refl;
    no_quit = refl;
    replies = [];
    reply = text;
    mid = scene_of w;
    kept = (refl, refl);
    turn = of_line (scene_of w) (scene_of v) line (text ∷ []) says e t;
    front = d.0;
    back = d.1;
    cut = d.2;
    written = d.3;
    beside = d.4;
    cause = d.5;
    shelf_later = l;
    counted = n;
  },
)

pub ran_blank : (w : World) (line : List ℕ) → Ok None ≡ read_of line → Ran w w (line ∷ []) On
ran_blank w line e = (
  record {
    replies = [];
    kept = one_kept (scene_of w) (scene_of w) line [] (Ok None) e (record { turn = (refl, refl, refl); keeps = (refl, refl) });
    written = Appends-nil w.tape.taken;
    beside = refl;
    later = omega arith;
    shelf_later = omega arith;
    counted = λ _. omega arith;
  },
  no_quit_one line (Ok None) e refl,
)

pub line_no_error : (fault : LineFault) → shelf_errors (line (line_fault_text fault) ∷ []) ≡ 0
unfolding line_fault_text
line_no_error Syntax = refl
line_no_error (LineTooLong n) = refl

pub fault_no_error : (fault : BenchFault) → (fault ≡ faults.ShelfFailed → ⊥) → shelf_errors (line (fault_text fault) ∷ []) ≡ 0
unfolding fault_text
fault_no_error faults.ShelfFailed ne = absurd (ne refl)
fault_no_error fault ne = refl

one_or_none : (b : Bool) → cond b 1 0 + 0 ≤ 1
one_or_none true = omega arith
one_or_none false = omega arith

pub one_error : (text : List ℕ) → shelf_errors (text ∷ []) ≤ 1
one_error text = one_or_none (is_shelf_error text)

pub written_no_error : (w : Written) → shelf_errors (line (written_text w) ∷ []) ≡ 0
unfolding written_text
written_no_error w = refl

pub saved_no_error : (n : ℕ) → shelf_errors (line (saved_text n) ∷ []) ≡ 0
unfolding saved_text
saved_no_error n = refl

-- ---- replies that begin with other lines: none begins with an `e`

line_apart : (cycle : Bool) (count points lines rest more : List ℕ) → bytes_eq ((line ((if cycle then codes "cycle " else codes "path ") ++ count) ++ points) ++ lines ++ rest) (101 ∷ more) ≡ false
line_apart true count points lines rest more = refl
line_apart false count points lines rest more = refl

pub contours_apart : (padded : Bool) (ls : List DrawnLine) (more : List ℕ) → bytes_eq (contour_reply padded ls) (101 ∷ more) ≡ false
contours_apart padded [] more = refl
contours_apart padded (l ∷ ls) more = line_apart l.0 (decimal (length l.1)) (points_text padded l.1) (contours_text padded ls) (line (codes "ok")) more

pub contours_no_error : (padded : Bool) (ls : List DrawnLine) → shelf_errors (contour_reply padded ls ∷ []) ≡ 0
contours_no_error padded ls = ap (λ (b : Bool). cond b 1 0 + 0) (contours_apart padded ls (codes "rror 9 shelf\n"))

pub report_no_error : (r : Summary) → shelf_errors (report_reply r ∷ []) ≡ 0
report_no_error r = refl

pub measures_no_error : (shares : List Share) → shelf_errors (measures_reply shares ∷ []) ≡ 0
measures_no_error shares = refl
