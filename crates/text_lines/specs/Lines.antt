-- The lines of a text.
use Rattle.std.specs.Prelude.{ℕ, zero, suc, Bool, false, ◌==◌, ◌&&◌, List, [], ◌∷◌, get_or, map, if◌then◌else◌, ◌≡◌, true, Option, Some, None, Result, Ok, Err}
use Rattle.iso_defs.specs.Bytes.{line_feed, carriage_return}

-- a line, and the bytes after it
pub record Line : Type 0 where
  pub text : List ℕ
  pub after : List ℕ

-- whether the next byte is a line feed
abbrev pub begins_feed : List ℕ → Bool
begins_feed [] = false
begins_feed (b ∷ bs) = b == line_feed

-- a byte stands before the first of these lines, or alone in the last line
abbrev pub joined : ℕ → List Line → List Line
joined b [] = record { text = b ∷ []; after = [] } ∷ []
joined b (l ∷ ls) = record { text = b ∷ l.text; after = l.after } ∷ ls

-- all lines: each ends at a line feed or at the end, and a return just before a line feed is dropped
abbrev pub lines_of : List ℕ → List Line
lines_of [] = []
lines_of (b ∷ bs) =
    if b == line_feed then record { text = []; after = bs } ∷ lines_of bs else
    if b == carriage_return && begins_feed bs then lines_of bs else
    joined b (lines_of bs)

-- the texts of all lines
abbrev pub texts_of : List ℕ → List (List ℕ)
texts_of bytes = map (λ (l : Line). l.text) (lines_of bytes)

-- where the text of a line ends whose line feed stands at a place
abbrev pub text_end : List ℕ → ℕ → ℕ
text_end bs zero = zero
text_end bs (suc i) = if get_or bs i 0 == carriage_return then i else suc i

-- the next step, unless this one refused
infixl 10 ◌>>=◌
abbrev pub ◌>>=◌ : {A B E : Type 0} → Result A E → (A → Result B E) → Result B E
(Ok x) >>= f = f x
(Err e) >>= f = Err e

-- every value, or the first refusal
abbrev pub all_or_first : {A E : Type 0} → List (Result A E) → Result (List A) E
all_or_first [] = Ok []
all_or_first (r ∷ rs) = do
  x ← r
  xs ← all_or_first rs
  Ok (x ∷ xs)

-- the fault, or else this
abbrev pub unless_fault : {A E : Type 0} → Option E → Result A E → Result A E
unless_fault None r = r
unless_fault (Some fault) r = Err fault

-- this, where the test fails
abbrev pub IfNot : Bool → Type 0 → Type 0
IfNot true P = Unit {0}
IfNot false P = P

-- a refusal is the one that is read; one for want of memory says nothing
abbrev pub FailsBut : {A E : Type 0} → (E → Bool) → E → Result A E → Type 0
FailsBut is_memory fault read = IfNot (is_memory fault) (read ≡ Err fault)

-- the answer is the one that is read, but that memory may be wanting
abbrev pub AnswersBut : {A E : Type 0} → (E → Bool) → Result A E → Result A E → Type 0
AnswersBut is_memory (Ok x) read = read ≡ Ok x
AnswersBut is_memory (Err fault) read = FailsBut is_memory fault read
