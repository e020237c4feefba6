-- A text that is put into a sink in several writes.
use Rattle.std.proofs.Common.{◌≡◌, ℕ, ◌≤◌, List, [], ◌++◌, take, drop, Result, Ok, Err, refl, sym, ap, ◌∙◌, append_assoc, arith}
use Rattle.std.proofs.lemmas.List.{append-nil, take-append-drop}
use Rattle.std.specs.Io.KnownBytes.{Appends}
use Rattle.byte_streams.specs.Seen.{Tape, Writes, Puts}
use Rattle.byte_streams.proofs.Known.{Appends-nil, Appends-trans}

-- so far all of the text but the rest was put
pub record HasPut (old new : Tape) (whole rest : List ℕ) : Type 0 where
  pub front : List ℕ
  pub parts : whole ≡ front ++ rest
  pub gained : Appends old.taken new.taken front
  pub beside : new.beside ≡ old.beside
  pub later : old.faults ≤ new.faults

pub has_none : (t : Tape) (whole : List ℕ) → HasPut t t whole whole
has_none t whole = record { front = []; parts = refl; gained = Appends-nil t.taken; beside = refl; later = omega arith }

pub has_more : {E : Type 0} (old mid new : Tape) (whole rest after : List ℕ) (n : ℕ) → HasPut old mid whole rest → Writes {E = E} mid new (Ok n) rest → after ≡ drop n rest → HasPut old new whole after
has_more old mid new whole rest after n h w e = record {
  front = h.front ++ take n rest;
  parts = h.parts ∙ ap (λ (l : List ℕ). h.front ++ l) (sym (take-append-drop n rest)) ∙ sym (append_assoc h.front (take n rest) (drop n rest)) ∙ ap (λ (l : List ℕ). (h.front ++ take n rest) ++ l) (sym e);
  gained = Appends-trans old.taken mid.taken new.taken h.front (take n rest) h.gained w.gained;
  beside = w.beside ∙ h.beside;
  later = omega (arith, h.later, w.cause.later);
}

pub has_failed : {T E E' : Type 0} (old mid new : Tape) (whole rest : List ℕ) (e : E) (e' : E') → HasPut old mid whole rest → Writes mid new (Err e) rest → Puts {T = T} old new (Err e') whole
has_failed old mid new whole rest e e' h w = record {
  gained = (
    h.front ++ w.gained.0,
    w.gained.1,
    h.parts ∙ ap (λ (l : List ℕ). h.front ++ l) w.gained.2 ∙ sym (append_assoc h.front w.gained.0 w.gained.1),
    Appends-trans old.taken mid.taken new.taken h.front w.gained.0 h.gained w.gained.3,
  );
  beside = w.beside ∙ h.beside;
  cause = record { later = omega (arith, h.later, w.cause.later); failed = omega (arith, h.later, w.cause.failed) };
}

pub has_all : {T E : Type 0} (old new : Tape) (whole : List ℕ) (x : T) → HasPut old new whole [] → Puts {E = E} old new (Ok x) whole
has_all old new whole x h =
    let e : whole ≡ h.front = h.parts ∙ append-nil h.front in
    record { gained = rw e h.gained; beside = h.beside; cause = record { later = h.later; failed = tt } }

-- one more piece of what is left was put
pub has_put : {T E : Type 0} (old mid new : Tape) (whole piece rest : List ℕ) (x : T) → HasPut old mid whole (piece ++ rest) → Puts {E = E} mid new (Ok x) piece → HasPut old new whole rest
has_put old mid new whole piece rest x h p = record {
  front = h.front ++ piece;
  parts = h.parts ∙ sym (append_assoc h.front piece rest);
  gained = Appends-trans old.taken mid.taken new.taken h.front piece h.gained p.gained;
  beside = p.beside ∙ h.beside;
  later = omega (arith, h.later, p.cause.later);
}

-- a piece of what is left could not be put
pub put_failed : {T T' E E' : Type 0} (old mid new : Tape) (whole piece rest : List ℕ) (e : E) (e' : E') → HasPut old mid whole (piece ++ rest) → Puts {T = T'} mid new (Err e) piece → Puts {T = T} old new (Err e') whole
put_failed old mid new whole piece rest e e' h p = record {
  gained = (
    h.front ++ p.gained.0,
    p.gained.1 ++ rest,
    h.parts ∙ ap (λ (l : List ℕ). h.front ++ (l ++ rest)) p.gained.2 ∙ simp append_assoc,
    Appends-trans old.taken mid.taken new.taken h.front p.gained.0 h.gained p.gained.3,
  );
  beside = p.beside ∙ h.beside;
  cause = record { later = omega (arith, h.later, p.cause.later); failed = omega (arith, h.later, p.cause.failed) };
}

-- nothing is put at no cost
pub put_nothing : {T E : Type 0} (t : Tape) (x : T) → Puts {E = E} t t (Ok x) []
put_nothing t x = record { gained = Appends-nil t.taken; beside = refl; cause = record { later = omega arith; failed = tt } }

-- two texts, one after the other
pub puts_both : {T U E : Type 0} (t0 t1 t2 : Tape) (x : U) (r : Result T E) (a b : List ℕ) → Puts {E = E} t0 t1 (Ok x) a → Puts t1 t2 r b → Puts t0 t2 r (a ++ b)
puts_both t0 t1 t2 x (Ok y) a b p q = record {
  gained = Appends-trans t0.taken t1.taken t2.taken a b p.gained q.gained;
  beside = q.beside ∙ p.beside;
  cause = record { later = omega (arith, p.cause.later, q.cause.later); failed = tt };
}
puts_both t0 t1 t2 x (Err e) a b p q = record {
  gained = (
    a ++ q.gained.0,
    q.gained.1,
    ap (λ (l : List ℕ). a ++ l) q.gained.2 ∙ sym (append_assoc a q.gained.0 q.gained.1),
    Appends-trans t0.taken t1.taken t2.taken a q.gained.0 p.gained q.gained.3,
  );
  beside = q.beside ∙ p.beside;
  cause = record { later = omega (arith, p.cause.later, q.cause.later); failed = omega (arith, p.cause.later, q.cause.failed) };
}

-- the first of two texts failed
pub puts_first : {T U E E' : Type 0} (t0 t1 : Tape) (e : E) (e' : E') (a b : List ℕ) → Puts {T = U} t0 t1 (Err e) a → Puts {T = T} t0 t1 (Err e') (a ++ b)
puts_first t0 t1 e e' a b p = record {
  gained = (p.gained.0, p.gained.1 ++ b, ap (λ (l : List ℕ). l ++ b) p.gained.2 ∙ append_assoc p.gained.0 p.gained.1 b, p.gained.3);
  beside = p.beside;
  cause = record { later = p.cause.later; failed = p.cause.failed };
}
