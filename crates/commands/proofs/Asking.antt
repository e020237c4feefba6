-- The words of a whole command line, and those behind the name of a command.
use Rattle.std.proofs.Common.{◌≡◌, ◌⊎◌, inl, inr, ℕ, Bool, true, false, cond, List, [], ◌∷◌, codes, bytes_eq, Option, Some, None, option_map, ℤ, refl, sym, ◌∙◌, ap, subst}
use Rattle.std.proofs.lemmas.Slice.Eq.{bytes_eq-Decides}
use Rattle.text_lines.proofs.Places.{decide}
use Rattle.text_lines.specs.Numbers.{whole_of}
use Rattle.text_lines.specs.Parts.{◌>>=◌}
use Rattle.mesh_text.specs.declared.format.TwoWayFormat.{TwoWayFormat}
use Rattle.arguments.specs.Words.{at_most_one, bricks_in, check_of, command_of, commands, extract_of, format_in, format_value, gen_by, gen_of, level_in, name_value, only_options, pad_in, pages_in, plain_words, points_of, request_of, session_of, sizes_in, soak_of}
use Rattle.arguments.specs.declared.request.Request.{Request}
use Rattle.arguments.specs.declared.request.Request.TheVariants.{Check, Extract, Gen, Help, Points, Session, Soak, Version}
use Rattle.program.specs.Questions.{asks_help, asks_version}

-- ---- from the name of a command on

-- options that ask for something do not ask for help
extract_help : (word : List ℕ) (r : Request) → extract_of (word ∷ []) ≡ Some r → bytes_eq word (codes "--help") ≡ false
unfolding extract_of
extract_help word r e = decide (bytes_eq word (codes "--help"))
    (λ t. absurd (let same : extract_of (codes "--help" ∷ []) ≡ Some r = subst (λ (w : List ℕ). extract_of (w ∷ []) ≡ Some r) ((bytes_eq-Decides word (codes "--help")).0 t) e in cc))
    (λ f. f)

session_help : (word : List ℕ) (r : Request) → session_of (word ∷ []) ≡ Some r → bytes_eq word (codes "--help") ≡ false
unfolding session_of only_options plain_words
session_help word r e = decide (bytes_eq word (codes "--help"))
    (λ t. absurd (let same : session_of (codes "--help" ∷ []) ≡ Some r = subst (λ (w : List ℕ). session_of (w ∷ []) ≡ Some r) ((bytes_eq-Decides word (codes "--help")).0 t) e in cc))
    (λ f. f)

pub asks_extract : (options : List (List ℕ)) (r : Request) → extract_of options ≡ Some r → request_of (codes "extract" ∷ options) ≡ Some r
unfolding request_of command_of
asks_extract [] r e = e
asks_extract (word ∷ []) r e = rw (extract_help word r e) e
asks_extract (one ∷ other ∷ options) r e = e

pub asks_session : (options : List (List ℕ)) (r : Request) → session_of options ≡ Some r → request_of (codes "session" ∷ options) ≡ Some r
unfolding request_of command_of
asks_session [] r e = e
asks_session (word ∷ []) r e = rw (session_help word r e) e
asks_session (one ∷ other ∷ options) r e = e

-- ---- and back to it

-- the place of a request's command among the commands
abbrev command_number : Request → ℕ
command_number (Points level) = 0
command_number (Extract level pad format) = 1
command_number (Session level pad name bricks pages) = 2
command_number (Check format) = 3
command_number (Gen seed sizes) = 4
command_number (Soak seed) = 5
command_number Help = 6
command_number Version = 7

-- whatever is asked for is the command of this number
abbrev Asks : ℕ → Option Request → Type 0
Asks n o = (r : Request) → o ≡ Some r → command_number r ≡ n

same : (a b : Request) → Some a ≡ Some b → a ≡ b
same a b e = cc

none_some : (r : Request) → None ≡ Some r → ⊥
none_some r e = absurd cc

none : (n : ℕ) → Asks n None
none n r e = absurd (none_some r e)

some : (n : ℕ) (a : Request) → command_number a ≡ n → Asks n (Some a)
some n a is r e = sym (ap command_number (same a r e)) ∙ is

bound : {A : Type 0} (n : ℕ) (o : Option A) (f : A → Option Request) → ((x : A) → Asks n (f x)) → Asks n (o >>= f)
bound n None f h = none n
bound n (Some x) f h = h x

mapped : {A : Type 0} (n : ℕ) (o : Option A) (f : A → Request) → ((x : A) → command_number (f x) ≡ n) → Asks n (option_map f o)
mapped n None f h = none n
mapped n (Some x) f h = some n (f x) (h x)

chosen : (n : ℕ) (b : Bool) (o : Option Request) → Asks n o → Asks n (cond b o None)
chosen n true o h = h
chosen n false o h = none n

not_chosen : (n : ℕ) (b : Bool) (o : Option Request) → Asks n o → Asks n (cond b None o)
not_chosen n true o h = none n
not_chosen n false o h = h

points : (words : List (List ℕ)) → Asks 0 (points_of words)
unfolding points_of
points words = chosen 0 _ _ (mapped 0 (level_in words) Points (λ level. refl))

extracts : (words : List (List ℕ)) → Asks 1 (extract_of words)
unfolding extract_of
extracts words =
    not_chosen 1 _ _ (bound 1 (level_in words) _ (λ level. bound 1 (pad_in words) _ (λ pad. bound 1 (format_in words) _ (λ format. some 1 (Extract level pad format) refl))))

sessions : (words : List (List ℕ)) → Asks 2 (session_of words)
unfolding session_of
sessions words =
    chosen 2 _ _ (bound 2 (at_most_one None name_value (plain_words words)) _ (λ name. bound 2 (level_in words) _ (λ level. bound 2 (pad_in words) _ (λ pad.
    bound 2 (bricks_in words) _ (λ bricks. bound 2 (pages_in words) _ (λ pages. some 2 (Session level pad name bricks pages) refl))))))

checks : (words : List (List ℕ)) → Asks 3 (check_of words)
unfolding check_of
checks words = chosen 3 _ _ (mapped 3 (at_most_one None format_value (plain_words words)) Check (λ format. refl))

generated : (words : List (List ℕ)) → Asks 4 (gen_by words)
generated [] = none 4
generated (seed ∷ words) = bound 4 (whole_of seed) _ (λ seed. bound 4 (sizes_in words) _ (λ sizes. some 4 (Gen seed sizes) refl))

generates : (words : List (List ℕ)) → Asks 4 (gen_of words)
unfolding gen_of
generates words = chosen 4 _ _ (generated words)

soaks : (words : List (List ℕ)) → Asks 5 (soak_of words)
unfolding soak_of
soaks words = chosen 5 _ _ (mapped 5 (at_most_one None whole_of (plain_words words)) Soak (λ seed. refl))

-- one of two, by a test; where one has another number than what is asked for, it is the other
other : (n m : ℕ) (b : Bool) (one two : Option Request) (r : Request) → Asks n one → command_number r ≡ m → (n ≡ m → ⊥) → cond b one two ≡ Some r → two ≡ Some r
other n m true one two r h is differ e = absurd (differ (sym (h r e) ∙ is))
other n m false one two r h is differ e = e

-- the one that is named, or another one
this : (b : Bool) (one two : Option Request) (r : Request) → cond b one two ≡ Some r → ((b ≡ true) × (one ≡ Some r)) ⊎ (two ≡ Some r)
this true one two r e = inl (refl, e)
this false one two r e = inr e

extract_named : (command : List ℕ) (words : List (List ℕ)) (r : Request) → command_number r ≡ 1 → command_of (command ∷ words) ≡ Some r
    → (command ≡ codes "extract") × (extract_of words ≡ Some r)
unfolding command_of
extract_named command words r is e =
    let a = other 0 1 (bytes_eq command (codes "points")) _ _ r (points words) is (λ x. absurd cc) e in
    let b = this (bytes_eq command (codes "extract")) _ _ r a in
    elim b [
      | inl h ↦ ((bytes_eq-Decides command (codes "extract")).0 h.0, h.1)
      | inr h ↦
          let c = other 2 1 (bytes_eq command (codes "session")) _ _ r (sessions words) is (λ x. absurd cc) h in
          let d = other 3 1 (bytes_eq command (codes "check")) _ _ r (checks words) is (λ x. absurd cc) c in
          let f = other 4 1 (bytes_eq command (codes "gen")) _ _ r (generates words) is (λ x. absurd cc) d in
          let n : None ≡ Some r = other 5 1 (bytes_eq command (codes "soak")) _ _ r (soaks words) is (λ x. absurd cc) f in
          absurd (none_some r n)
    ]

session_named : (command : List ℕ) (words : List (List ℕ)) (r : Request) → command_number r ≡ 2 → command_of (command ∷ words) ≡ Some r
    → (command ≡ codes "session") × (session_of words ≡ Some r)
unfolding command_of
session_named command words r is e =
    let a = other 0 2 (bytes_eq command (codes "points")) _ _ r (points words) is (λ x. absurd cc) e in
    let b = other 1 2 (bytes_eq command (codes "extract")) _ _ r (extracts words) is (λ x. absurd cc) a in
    elim (this (bytes_eq command (codes "session")) _ _ r b) [
      | inl h ↦ ((bytes_eq-Decides command (codes "session")).0 h.0, h.1)
      | inr h ↦
          let d = other 3 2 (bytes_eq command (codes "check")) _ _ r (checks words) is (λ x. absurd cc) h in
          let f = other 4 2 (bytes_eq command (codes "gen")) _ _ r (generates words) is (λ x. absurd cc) d in
          let n : None ≡ Some r = other 5 2 (bytes_eq command (codes "soak")) _ _ r (soaks words) is (λ x. absurd cc) f in
          absurd (none_some r n)
    ]

-- a command that is asked for is no question about the program
by_command : (words : List (List ℕ)) (r : Request) → (command_number r ≡ 6 → ⊥) → (command_number r ≡ 7 → ⊥) → request_of words ≡ Some r → command_of words ≡ Some r
unfolding request_of
by_command words r no_help no_version e =
    let a = other 6 (command_number r) (asks_help commands words) _ _ r (some 6 Help refl) refl (λ x. no_help (sym x)) e in
    other 7 (command_number r) (asks_version words) _ _ r (some 7 Version refl) refl (λ x. no_version (sym x)) a

none_named : (r : Request) → command_of [] ≡ Some r → ⊥
unfolding command_of
none_named r e = none_some r e

-- where a mesh is asked for, the words are `extract` and its options
pub extract_asked : (words : List (List ℕ)) (level : ℤ) (pad : Option ℤ) (format : TwoWayFormat) → request_of words ≡ Some (Extract level pad format)
    → (options : List (List ℕ)) × (words ≡ codes "extract" ∷ options) × (extract_of options ≡ Some (Extract level pad format))
extract_asked [] level pad format e = absurd (none_named (Extract level pad format) (by_command [] (Extract level pad format) (λ x. absurd cc) (λ x. absurd cc) e))
extract_asked (command ∷ words) level pad format e =
    let n = extract_named command words (Extract level pad format) refl (by_command (command ∷ words) (Extract level pad format) (λ x. absurd cc) (λ x. absurd cc) e) in
    (words, ap (λ (c : List ℕ). c ∷ words) n.0, n.1)

-- where a session is asked for, they are `session` and its options
pub session_asked : (words : List (List ℕ)) (level : ℤ) (pad : Option ℤ) (name : List ℕ) (bricks pages : ℕ) → request_of words ≡ Some (Session level pad name bricks pages)
    → (options : List (List ℕ)) × (words ≡ codes "session" ∷ options) × (session_of options ≡ Some (Session level pad name bricks pages))
session_asked [] level pad name bricks pages e =
    absurd (none_named (Session level pad name bricks pages) (by_command [] (Session level pad name bricks pages) (λ x. absurd cc) (λ x. absurd cc) e))
session_asked (command ∷ words) level pad name bricks pages e =
    let n = session_named command words (Session level pad name bricks pages) refl (by_command (command ∷ words) (Session level pad name bricks pages) (λ x. absurd cc) (λ x. absurd cc) e) in
    (words, ap (λ (c : List ℕ). c ∷ words) n.0, n.1)
