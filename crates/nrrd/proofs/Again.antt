-- Lines that are written behind one another are read again.
use Rattle.std.proofs.Common.{◌≡◌, ℕ, true, false, eqb, List, [], ◌∷◌, ◌++◌, length, refl, ap, ◌∙◌}
use Rattle.std.specs.List.{list_all}
use Rattle.text_lines.specs.Lines.{lines_of}
use Rattle.text_lines.proofs.Written.{is_quiet, line_text}
use Rattle.nrrd_read.specs.Fields.{header_texts, sample_bytes}

-- lines, each behind a line feed, and what follows
abbrev pub text_of : List (List ℕ) → List ℕ → List ℕ
text_of [] body = body
text_of (l ∷ ls) body = l ++ 10 ∷ text_of ls body

-- lines that are not empty and have no line end
abbrev pub AreLines : List (List ℕ) → Type 0
AreLines [] = Unit {0}
AreLines (l ∷ ls) = (list_all is_quiet l ≡ true) × (eqb (length l) 0 ≡ false) × AreLines ls

pub texts_again : (ls : List (List ℕ)) (body : List ℕ) → AreLines ls → header_texts (lines_of (text_of ls (10 ∷ body))) ≡ ls
texts_again [] body h = refl
texts_again (l ∷ ls) body h =
    ap header_texts (line_text l (text_of ls (10 ∷ body)) h.0) ∙ rw h.1 (ap (λ (ts : List (List ℕ)). l ∷ ts) (texts_again ls body h.2))

pub samples_again : (ls : List (List ℕ)) (body : List ℕ) → AreLines ls → sample_bytes (lines_of (text_of ls (10 ∷ body))) ≡ body
samples_again [] body h = refl
samples_again (l ∷ ls) body h =
    ap sample_bytes (line_text l (text_of ls (10 ∷ body)) h.0) ∙ rw h.1 (samples_again ls body h.2)
