-- Texts that are written one behind another.
use Rattle.std.proofs.Common.{◌≡◌, ℕ, ◌+◌, ◌≤◌, List, [], ◌∷◌, ◌++◌, length, take, drop, sym, ap, ◌∙◌, arith, append_assoc, length-append}
use Rattle.std.proofs.lemmas.List.{take_at, take-append-drop, take-take, length-take, length-take-le}
use Rattle.std.proofs.Math.Seq.{take-append-add}
use Rattle.iso_defs.specs.Texts.{line}

-- a text that stands from a place to an end stands behind what is before it
pub behind : (old new text rest : List ℕ) (at end : ℕ) → at ≤ length new → take at new ≡ take at old → drop at new ≡ text ++ rest → at + length text ≡ end
    → take end new ≡ take at old ++ text
behind old new text rest at end le before written e =
    let parts : new ≡ (take at old ++ text) ++ rest = sym (take-append-drop at new) ∙ (ap (λ (l : List ℕ). l ++ drop at new) before ∙ (ap (λ (l : List ℕ). take at old ++ l) written ∙ sym (append_assoc (take at old) text rest))) in
    let short : length (take at old) ≡ at = ap length (sym before) ∙ length-take-le at new le in
    let long : length (take at old ++ text) ≡ end = length-append (take at old) text ∙ (ap (λ (n : ℕ). n + length text) short ∙ e) in
    ap (take end) parts ∙ take_at (take at old ++ text) rest end long

-- three texts with blanks between them, and the end of their line
pub three_chain : (s x y z d1 d2 d3 d4 d5 d6 : List ℕ) → d1 ≡ s ++ x → d2 ≡ d1 ++ 32 ∷ [] → d3 ≡ d2 ++ y → d4 ≡ d3 ++ 32 ∷ [] → d5 ≡ d4 ++ z → d6 ≡ d5 ++ 10 ∷ []
    → d6 ≡ s ++ line (x ++ 32 ∷ (y ++ 32 ∷ z))
three_chain s x y z d1 d2 d3 d4 d5 d6 e1 e2 e3 e4 e5 e6 =
    let flat : d6 ≡ (((((s ++ x) ++ 32 ∷ []) ++ y) ++ 32 ∷ []) ++ z) ++ 10 ∷ [] = cc in
    flat ∙ simp append_assoc

-- the first bytes of an array that is moved as a whole
pub array_front : (old new bytes : List ℕ) (at len : ℕ) → at + 16 ≤ length old → length new ≡ length old → take (at + 16) new ≡ take at old ++ bytes → length (take len bytes) ≤ 12
    → take (at + len) new ≡ take at old ++ take len bytes
array_front old new bytes at len space same moved short =
    let front : length (take at old) ≡ at = length-take-le at old (omega arith) in
    let whole : length bytes ≡ 16 = omega (arith, sym (length-take-le (at + 16) new (omega arith)) ∙ (ap length moved ∙ length-append (take at old) bytes), front) in
    let few : at + len ≤ at + 16 = omega (arith, short, length-take len bytes, whole) in
    sym (take-take (at + len) (at + 16) new few) ∙ (ap (take (at + len)) moved
    ∙ (ap (λ n. take (n + len) (take at old ++ bytes)) (sym front) ∙ take-append-add (take at old) bytes len))
