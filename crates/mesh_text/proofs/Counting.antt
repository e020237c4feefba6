-- Numbers with a blank behind them, one after the other.
use Rattle.std.proofs.Common.{◌≡◌, ℕ, ◌+◌, ◌-◌, ◌*◌, ◌/◌, ◌%◌, ◌<◌, ◌≤◌, ◌^◌, List, [], ◌∷◌, ◌++◌, length, take, drop, set, get_or, decimal, refl, sym, ap, ◌∙◌, append_assoc, length-append, arith}
use Rattle.std.proofs.Math.Seq.{take-append-add}
use Rattle.std.proofs.lemmas.Fmt.{decimal_step, length-decimal-le}
use Rattle.std.proofs.lemmas.List.{get_or-append_right, get_or-drop, get_or-set_same, length-set, length-take-le, take-set-le, take-take, take_at, take_more_set}
use Rattle.iso_defs.specs.Texts.{line, three_digits}
use Rattle.mesh_text.specs.Fours.{rest_text}
use Rattle.mesh_text.specs.Numbers.{IsCounter, IsFront, numbers_line}

-- digits at the front of an array, the blank behind them, and their number in the last byte
pub ended_text : (bytes : List ℕ) (end : ℕ) → length bytes ≡ 16 → end ≤ 11
    → take (get_or (set (set bytes end 32) 15 (end + 1)) 15 0) (set (set bytes end 32) 15 (end + 1)) ≡ take end bytes ++ 32 ∷ []
ended_text bytes end all few =
    let one : List ℕ = set bytes end 32 in
    let long : length one ≡ 16 = length-set bytes end 32 ∙ all in
    ap (λ n. take n (set one 15 (end + 1))) (get_or-set_same one 15 (end + 1) 0 (omega (arith, long)))
    ∙ (take-set-le (end + 1) one 15 (end + 1) (omega (arith, few)) ∙ take_more_set bytes end 32 (omega (arith, all, few)))

-- a text less its last byte, where it ends the bytes so far
last_cut : (d c room : List ℕ) (p q : ℕ) → length d ≡ p → q ≡ p + length c → 1 ≤ length c → take q room ≡ d ++ c → take (q - 1) room ≡ d ++ take (length c - 1) c
last_cut d c room p q at end some is =
    let less : q - 1 ≡ length d + (length c - 1) = omega (arith, at, end, some) in
    sym (take-take (q - 1) q room (omega arith))
    ∙ (ap (take (q - 1)) is ∙ (ap (λ n. take n (d ++ c)) less ∙ take-append-add d c (length c - 1)))

-- three texts, and the end of their line in place of the last blank
pub line_ended : (r0 r1 r2 r3 r4 a b c : List ℕ) (at p1 p2 p3 end : ℕ) → p2 ≤ length r2 → p3 ≡ p2 + length c → 1 ≤ length c → end ≡ p3 - 1 + 1
    → take p1 r1 ≡ take at r0 ++ a → take p2 r2 ≡ take p1 r1 ++ b → take p3 r3 ≡ take p2 r2 ++ c → take end r4 ≡ take (p3 - 1) r3 ++ 10 ∷ []
    → take end r4 ≡ take at r0 ++ numbers_line a b c
line_ended r0 r1 r2 r3 r4 a b c at p1 p2 p3 end room long some last e1 e2 e3 e4 =
    let cut : take (p3 - 1) r3 ≡ take p2 r2 ++ take (length c - 1) c = last_cut (take p2 r2) c r3 p2 p3 (length-take-le p2 r2 room) long some e3 in
    let front : List ℕ = take (length c - 1) c in
    let flat : take end r4 ≡ (((take at r0 ++ a) ++ b) ++ front) ++ 10 ∷ [] = cc in
    flat ∙ simp append_assoc

-- a text less the blank behind it
unblanked : (d : List ℕ) → take (length (d ++ 32 ∷ []) - 1) (d ++ 32 ∷ []) ≡ d
unblanked d = take_at d (32 ∷ []) (length (d ++ 32 ∷ []) - 1) (omega (arith, length-append d (32 ∷ [])))

-- the line of three texts with a blank behind each
pub numbers_ended : (a b d : List ℕ) → numbers_line (a ++ 32 ∷ []) (b ++ 32 ∷ []) (d ++ 32 ∷ []) ≡ line (a ++ 32 ∷ (b ++ 32 ∷ d))
numbers_ended a b d = ap (λ (l : List ℕ). (a ++ 32 ∷ []) ++ ((b ++ 32 ∷ []) ++ line l)) (unblanked d) ∙ simp append_assoc

-- a number of more than three digits ends with the three of its rest
pub three_last : (n : ℕ) → 1000 ≤ n → n < 2 ^ 64 → decimal n ≡ decimal (n / 1000) ++ three_digits (n % 1000)
three_last n lo hi =
    let a : n / 10 / 10 / 10 ≡ n / 1000 = omega arith in
    let b : n / 10 / 10 % 10 ≡ n % 1000 / 100 = omega arith in
    let c : n / 10 % 10 ≡ n % 1000 / 10 % 10 = omega arith in
    let d : n % 10 ≡ n % 1000 % 10 = omega arith in
    rw (
      decimal_step n (omega arith) hi,
      decimal_step (n / 10) (omega arith) (omega arith),
      decimal_step (n / 10 / 10) (omega arith) (omega arith),
      append_assoc,
      append_assoc,
      a,
      b,
      c,
      ← d,
    )

-- the digits before the last three are made
pub front_made : (thousands count : ℕ) (room : List ℕ) → length room ≡ 16 → thousands ≤ 10 ^ 7 → count ≤ length room → take count room ≡ decimal thousands
    → IsFront thousands (set room 15 (count + 4)) count
front_made thousands count room all few within is =
    let short : count ≤ 8 = omega (arith, sym (length-take-le count room within) ∙ ap length is, length-decimal-le 8 thousands (omega arith) (omega (arith, few)) (omega (arith, few))) in
    record {
      front_is = take-set-le count room 15 (count + 4) (omega (arith, short)) ∙ is;
      few = few;
      room = short;
      size = get_or-set_same room 15 (count + 4) 0 (omega (arith, all));
    }

-- a byte behind the four that are set stays
last_kept : (front text : List ℕ) (count : ℕ) → length front ≡ 16 → length text ≡ 4 → count ≤ 8
    → get_or (take count front ++ (text ++ drop (count + 4) front)) 15 0 ≡ get_or front 15 0
last_kept front text count all four few =
    get_or-append_right (take count front) (text ++ drop (count + 4) front) count 15 0 (length-take-le count front (omega (arith, all, few))) (omega (arith, few))
    ∙ (get_or-append_right text (drop (count + 4) front) 4 (15 - count) 0 four (omega (arith, few))
    ∙ (get_or-drop (count + 4) front (15 - count - 4) 0 ∙ ap (λ i. get_or front i 0) (omega (arith, few))))

-- the text of a number out of these and its last three
pub counter_text : (thousands rest count : ℕ) (front bytes : List ℕ) → length front ≡ 16 → 0 < thousands → IsCounter thousands rest front count
    → bytes ≡ take count front ++ (rest_text rest ++ drop (count + 4) front) → take (get_or bytes 15 0) bytes ≡ decimal (1000 * thousands + rest) ++ 32 ∷ []
counter_text thousands rest count front bytes all some is put =
    let n : ℕ = 1000 * thousands + rest in
    let low = is.low in
    let few = is.before.few in
    let room = is.before.room in
    let digits : List ℕ = take count front ++ rest_text rest in
    let long : length digits ≡ count + 4 = length-append (take count front) (rest_text rest) ∙ omega (arith, length-take-le count front (omega (arith, all, room))) in
    let size : get_or bytes 15 0 ≡ count + 4 = ap (λ (l : List ℕ). get_or l 15 0) put ∙ (last_kept front (rest_text rest) count all refl room ∙ is.before.size) in
    let text : take (count + 4) bytes ≡ digits =
    ap (take (count + 4)) (put ∙ sym (append_assoc (take count front) (rest_text rest) (drop (count + 4) front))) ∙ take_at digits (drop (count + 4) front) (count + 4) long in
    let above : n / 1000 ≡ thousands = omega (arith, low) in
    let below : n % 1000 ≡ rest = omega (arith, low) in
    let whole : decimal n ≡ decimal thousands ++ three_digits rest =
    three_last n (omega (arith, some)) (omega (arith, low, few)) ∙ (ap (λ m. decimal m ++ three_digits (n % 1000)) above ∙ ap (λ m. decimal thousands ++ three_digits m) below) in
    ap (λ k. take k bytes) size
    ∙ (text
    ∙ (ap (λ (l : List ℕ). l ++ rest_text rest) is.before.front_is
    ∙ (sym (append_assoc (decimal thousands) (three_digits rest) (32 ∷ [])) ∙ ap (λ (l : List ℕ). l ++ 32 ∷ []) (sym whole))))
