-- Texts that are gathered before they are written.
use Rattle.std.proofs.Common.{◌≡◌, ℕ, ◌≤◌, List, [], ◌++◌, Result, Ok, Err, refl, sym, ap, ◌∙◌, append_assoc, arith}
use Rattle.std.proofs.lemmas.List.{append-nil}
use Rattle.std.specs.Io.KnownBytes.{Appends}
use Rattle.byte_streams.specs.Seen.{Tape, Puts, Stages}
use Rattle.byte_streams.proofs.Known.{Appends-nil, Appends-trans}
use Rattle.byte_streams.proofs.Putting.{puts_both, puts_first}

pub staged_all : {T U E : Type 0} (t0 t1 t2 : Tape) (x : U) (r : Result T E) (waiting text : List ℕ) → Puts {E = E} t0 t1 (Ok x) waiting → Puts t1 t2 r text → Stages t0 t2 waiting [] r text
staged_all t0 t1 t2 x (Ok y) waiting text p q =
    let b = puts_both t0 t1 t2 x (Ok y) waiting text p q in
    record { gained = (waiting ++ text, sym (append-nil (waiting ++ text)), b.gained); beside = b.beside; cause = b.cause }
staged_all t0 t1 t2 x (Err e) waiting text p q =
    let b = puts_both t0 t1 t2 x (Err e) waiting text p q in
    record { gained = b.gained; beside = b.beside; cause = b.cause }

pub staged_behind : {T U E : Type 0} (t0 t1 : Tape) (x : U) (y : T) (waiting after text : List ℕ) → Puts {E = E} t0 t1 (Ok x) waiting → after ≡ text → Stages {E = E} t0 t1 waiting after (Ok y) text
staged_behind t0 t1 x y waiting after text p e =
    record { gained = (waiting, ap (λ (l : List ℕ). waiting ++ l) (sym e), p.gained); beside = p.beside; cause = record { later = p.cause.later; failed = tt } }

pub staged_failed : {T U E E' : Type 0} (t0 t1 : Tape) (e : E) (e' : E') (waiting after text : List ℕ) → Puts {T = U} t0 t1 (Err e) waiting → Stages {T = T} t0 t1 waiting after (Err e') text
staged_failed {E' = E'} t0 t1 e e' waiting after text p =
    let b = puts_first {E' = E'} t0 t1 e e' waiting text p in
    record { gained = b.gained; beside = b.beside; cause = b.cause }

-- so far all of the text but the rest was put, and of that some waits
pub record HasStaged (old new : Tape) (whole waiting rest : List ℕ) : Type 0 where
  pub front : List ℕ
  pub parts : whole ≡ front ++ (waiting ++ rest)
  pub gained : Appends old.taken new.taken front
  pub beside : new.beside ≡ old.beside
  pub later : old.faults ≤ new.faults

pub staged_none : (t : Tape) (whole : List ℕ) → HasStaged t t whole [] whole
staged_none t whole = record { front = []; parts = refl; gained = Appends-nil t.taken; beside = refl; later = omega arith }

pub staged_more : {T E : Type 0} (old mid new : Tape) (whole waiting after piece rest : List ℕ) (x : T) → HasStaged old mid whole waiting (piece ++ rest) → Stages {E = E} mid new waiting after (Ok x) piece → HasStaged old new whole after rest
staged_more old mid new whole waiting after piece rest x h s =
    let f = s.gained.0 in
    record {
      front = h.front ++ f;
      parts = h.parts ∙ ap (λ (l : List ℕ). h.front ++ l) (sym (append_assoc waiting piece rest) ∙ ap (λ (l : List ℕ). l ++ rest) s.gained.1 ∙ append_assoc f after rest) ∙ sym (append_assoc h.front f (after ++ rest));
      gained = Appends-trans old.taken mid.taken new.taken h.front f h.gained s.gained.2;
      beside = s.beside ∙ h.beside;
      later = omega (arith, h.later, s.cause.later);
    }

pub staged_not : {T T' E E' : Type 0} (old mid new : Tape) (whole waiting after piece rest : List ℕ) (e : E) (e' : E') → HasStaged old mid whole waiting (piece ++ rest) → Stages {T = T'} mid new waiting after (Err e) piece → Puts {T = T} old new (Err e') whole
staged_not old mid new whole waiting after piece rest e e' h s =
    let f = s.gained.0 in
    let b = s.gained.1 in
    record {
      gained = (
        h.front ++ f,
        b ++ rest,
        h.parts ∙ ap (λ (l : List ℕ). h.front ++ l) (sym (append_assoc waiting piece rest) ∙ ap (λ (l : List ℕ). l ++ rest) s.gained.2 ∙ append_assoc f b rest) ∙ sym (append_assoc h.front f (b ++ rest)),
        Appends-trans old.taken mid.taken new.taken h.front f h.gained s.gained.3,
      );
      beside = s.beside ∙ h.beside;
      cause = record { later = omega (arith, h.later, s.cause.later); failed = omega (arith, h.later, s.cause.failed) };
    }

-- what waits at the end is written
pub staged_end : {T E : Type 0} (old mid new : Tape) (whole waiting : List ℕ) (r : Result T E) → HasStaged old mid whole waiting [] → Puts mid new r waiting → Puts old new r whole
staged_end old mid new whole waiting (Ok x) h p =
    let e : whole ≡ h.front ++ waiting = h.parts ∙ ap (λ (l : List ℕ). h.front ++ l) (append-nil waiting) in
    record {
      gained = rw e (Appends-trans old.taken mid.taken new.taken h.front waiting h.gained p.gained);
      beside = p.beside ∙ h.beside;
      cause = record { later = omega (arith, h.later, p.cause.later); failed = tt };
    }
staged_end old mid new whole waiting (Err d) h p =
    let e : whole ≡ h.front ++ waiting = h.parts ∙ ap (λ (l : List ℕ). h.front ++ l) (append-nil waiting) in
    record {
      gained = (h.front ++ p.gained.0, p.gained.1, e ∙ ap (λ (l : List ℕ). h.front ++ l) p.gained.2 ∙ sym (append_assoc h.front p.gained.0 p.gained.1), Appends-trans old.taken mid.taken new.taken h.front p.gained.0 h.gained p.gained.3);
      beside = p.beside ∙ h.beside;
      cause = record { later = omega (arith, h.later, p.cause.later); failed = omega (arith, h.later, p.cause.failed) };
    }

-- nothing is staged at no cost
pub nothing_staged : {T E : Type 0} (t : Tape) (waiting : List ℕ) (x : T) → Stages {E = E} t t waiting waiting (Ok x) []
nothing_staged t waiting x = record { gained = ([], append-nil waiting, Appends-nil t.taken); beside = refl; cause = record { later = omega arith; failed = tt } }

-- two texts, one after the other
pub stages_both : {T U E : Type 0} (t0 t1 t2 : Tape) (x : U) (r : Result T E) (w0 w1 w2 a b : List ℕ) → Stages {E = E} t0 t1 w0 w1 (Ok x) a → Stages t1 t2 w1 w2 r b → Stages t0 t2 w0 w2 r (a ++ b)
stages_both t0 t1 t2 x (Ok y) w0 w1 w2 a b s q =
    let f = s.gained.0 in
    let h = q.gained.0 in
    record {
      gained = (
        f ++ h,
        sym (append_assoc w0 a b) ∙ ap (λ (l : List ℕ). l ++ b) s.gained.1 ∙ append_assoc f w1 b ∙ ap (λ (l : List ℕ). f ++ l) q.gained.1 ∙ sym (append_assoc f h w2),
        Appends-trans t0.taken t1.taken t2.taken f h s.gained.2 q.gained.2,
      );
      beside = q.beside ∙ s.beside;
      cause = record { later = omega (arith, s.cause.later, q.cause.later); failed = tt };
    }
stages_both t0 t1 t2 x (Err e) w0 w1 w2 a b s q =
    let f = s.gained.0 in
    let h = q.gained.0 in
    record {
      gained = (
        f ++ h,
        q.gained.1,
        sym (append_assoc w0 a b) ∙ ap (λ (l : List ℕ). l ++ b) s.gained.1 ∙ append_assoc f w1 b ∙ ap (λ (l : List ℕ). f ++ l) q.gained.2 ∙ sym (append_assoc f h q.gained.1),
        Appends-trans t0.taken t1.taken t2.taken f h s.gained.2 q.gained.3,
      );
      beside = q.beside ∙ s.beside;
      cause = record { later = omega (arith, s.cause.later, q.cause.later); failed = omega (arith, s.cause.later, q.cause.failed) };
    }

-- the first of two texts failed
pub stages_first : {T U E E' : Type 0} (t0 t1 : Tape) (e : E) (e' : E') (w0 w1 w1' a b : List ℕ) → Stages {T = U} t0 t1 w0 w1 (Err e) a → Stages {T = T} t0 t1 w0 w1' (Err e') (a ++ b)
stages_first t0 t1 e e' w0 w1 w1' a b s = record {
  gained = (
    s.gained.0,
    s.gained.1 ++ b,
    sym (append_assoc w0 a b) ∙ ap (λ (l : List ℕ). l ++ b) s.gained.2 ∙ append_assoc s.gained.0 s.gained.1 b,
    s.gained.3,
  );
  beside = s.beside;
  cause = record { later = s.cause.later; failed = s.cause.failed };
}

-- a text that was staged, and then all that waits was written
pub stages_written : {T U E : Type 0} (t0 t1 t2 : Tape) (x : U) (r : Result T E) (w1 text : List ℕ) → Stages {E = E} t0 t1 [] w1 (Ok x) text → Puts t1 t2 r w1 → Puts t0 t2 r text
stages_written t0 t1 t2 x r w1 text s p =
    let h : HasStaged t0 t1 text w1 [] = record {
      front = s.gained.0;
      parts = s.gained.1 ∙ ap (λ (l : List ℕ). s.gained.0 ++ l) (sym (append-nil w1));
      gained = s.gained.2;
      beside = s.beside;
      later = s.cause.later;
    } in
    staged_end t0 t1 t2 text w1 r h p

-- a text that was not staged was not put
pub stages_not_put : {T U E E' : Type 0} (t0 t1 : Tape) (e : E) (e' : E') (w1 text : List ℕ) → Stages {T = U} t0 t1 [] w1 (Err e) text → Puts {T = T} t0 t1 (Err e') text
stages_not_put t0 t1 e e' w1 text s = record { gained = s.gained; beside = s.beside; cause = record { later = s.cause.later; failed = s.cause.failed } }

-- the same with another value in the answer
pub stages_with : {T U E : Type 0} (t0 t1 : Tape) (x : T) (y : U) (w0 w1 text : List ℕ) → Stages {E = E} t0 t1 w0 w1 (Ok x) text → Stages {E = E} t0 t1 w0 w1 (Ok y) text
stages_with t0 t1 x y w0 w1 text s = record { gained = s.gained; beside = s.beside; cause = record { later = s.cause.later; failed = tt } }

-- a text that was staged, and then not all that waits was written
pub stages_unwritten : {T U V E E' : Type 0} (t0 t1 t2 : Tape) (x : U) (e : E) (e' : E') (w1 text : List ℕ) → Stages {E = E} t0 t1 [] w1 (Ok x) text → Puts {T = V} t1 t2 (Err e) w1 → Puts {T = T} t0 t2 (Err e') text
stages_unwritten {V = V} t0 t1 t2 x e e' w1 text s p =
    let h = stages_written {T = V} t0 t1 t2 x (Err e) w1 text s p in
    record { gained = h.gained; beside = h.beside; cause = record { later = h.cause.later; failed = h.cause.failed } }

-- the rest of a text begins behind what waits
pub staged_first : (t : Tape) (waiting text : List ℕ) → HasStaged t t (waiting ++ text) waiting text
staged_first t waiting text = record { front = []; parts = refl; gained = Appends-nil t.taken; beside = refl; later = omega arith }

-- all of it was gathered, behind what waited before
pub staged_whole : {T E : Type 0} (old new : Tape) (waiting after text : List ℕ) (x : T) → HasStaged old new (waiting ++ text) after [] → Stages {E = E} old new waiting after (Ok x) text
staged_whole old new waiting after text x h =
    record { gained = (h.front, h.parts ∙ ap (λ (l : List ℕ). h.front ++ l) (append-nil after), h.gained); beside = h.beside; cause = record { later = h.later; failed = tt } }

-- a piece of it was not
pub staged_front : {T T' E E' : Type 0} (old mid new : Tape) (before text waiting after after' piece rest : List ℕ) (e : E) (e' : E') → HasStaged old mid (before ++ text) waiting (piece ++ rest) → Stages {T = T'} mid new waiting after (Err e) piece → Stages {T = T} old new before after' (Err e') text
staged_front {T = T} {E' = E'} old mid new before text waiting after after' piece rest e e' h s =
    let p = staged_not {T = T} {E' = E'} old mid new (before ++ text) waiting after piece rest e e' h s in
    record { gained = p.gained; beside = p.beside; cause = p.cause }
