-- The option `--level=V` alone behind a command.
use Rattle.std.proofs.Common.{◌≡◌, ℕ, ◌+◌, ◌≤◌, Bool, true, false, ◌||◌, cond, List, [], ◌∷◌, ◌++◌, length, take, drop, codes, bytes_eq, Option, Some, None, is_some, option_map, refl, sym, ◌∙◌, ap, subst, arith}
use Rattle.std.specs.List.{list_all}
use Rattle.std.proofs.lemmas.Bool.{and_parts, true≢false}
use Rattle.std.proofs.lemmas.List.{take-append-drop}
use Rattle.std.proofs.lemmas.Slice.Eq.{bytes_eq-Decides}
use Rattle.text_lines.proofs.Places.{decide}
use Rattle.arguments.specs.Words.{after_prefix, at_most_one, has_head, level_in, level_value, points_of, values}
use Rattle.arguments.specs.declared.request.Request.{Request}
use Rattle.arguments.specs.declared.request.Request.TheVariants.{Points}
use Rattle.arguments.proofs.Prefixes.{after_prefix-none}
use Rattle.point_command.specs.Words.{level_of_option}

abbrev level_option : List ℕ
level_option = codes "--level="

-- an option with the head
with_head : (text : List ℕ) → points_of ((level_option ++ text) ∷ []) ≡ option_map Points (level_of_option (level_option ++ text))
unfolding points_of values
with_head text = refl

-- a text without it
without_head : (option : List ℕ) → after_prefix level_option option ≡ None → points_of (option ∷ []) ≡ None
unfolding points_of values
without_head option e = rw e refl

-- the words behind `points` ask for what the one option says
pub one_option : (option : List ℕ) → points_of (option ∷ []) ≡ option_map Points (level_of_option option)
one_option option = decide (bytes_eq (take 8 option) level_option)
    (λ t.
    let front : take 8 option ≡ level_option = (bytes_eq-Decides (take 8 option) level_option).0 t in
    let whole : level_option ++ drop 8 option ≡ option = ap (λ l. l ++ drop 8 option) (sym front) ∙ take-append-drop 8 option in
    subst (λ o. points_of (o ∷ []) ≡ option_map Points (level_of_option o)) whole (with_head (drop 8 option)))
    (λ f.
    let none : None ≡ after_prefix level_option option
    = after_prefix-none level_option option (λ rest same. absurd (
    let front : take 8 option ≡ level_option = ap (take 8) same in
    let t : bytes_eq (take 8 option) level_option ≡ true = (bytes_eq-Decides (take 8 option) level_option).1 front in
    true≢false (sym t ∙ f))) in
    rw f (without_head option (sym none)))

-- ---- more words

some_head : (value : Option (List ℕ)) → (is_some value || false) ≡ true → is_some value ≡ true
some_head (Some text) h = refl
some_head None h = h

more_value : (value : Option (List ℕ)) (texts : List (List ℕ)) (n : ℕ) → is_some value ≡ true → n ≤ length texts → (head : List ℕ) (word : List ℕ) (words : List (List ℕ))
    → after_prefix head word ≡ value → values head words ≡ texts → n + 1 ≤ length (values head (word ∷ words))
unfolding values
more_value (Some text) texts n some few head word words e k = rw (e, k) (omega arith)
more_value None texts n some few head word words e k = absurd (true≢false (sym some))

-- where all words are such options, each has a value
each_value : (words : List (List ℕ)) → list_all (has_head (level_option ∷ [])) words ≡ true → length words ≤ length (values level_option words)
each_value [] h = omega arith
each_value (word ∷ words) h =
    let both = and_parts (has_head (level_option ∷ []) word) (list_all (has_head (level_option ∷ [])) words) h in
    let some = some_head (after_prefix level_option word) both.0 in
    let more = more_value (after_prefix level_option word) (values level_option words) (length words) some (each_value words both.1) level_option word words refl refl in
    omega (arith, more)

two_values : (texts : List (List ℕ)) → 2 ≤ length texts → at_most_one None level_value texts ≡ None
two_values [] h = absurd (omega (arith, h))
two_values (text ∷ []) h = absurd (omega (arith, h))
two_values (text ∷ other ∷ texts) h = refl

unless : (b : Bool) (request : Option Request) → (b ≡ true → request ≡ None) → cond b request None ≡ None
unless true request h = h refl
unless false request h = refl

-- more than one word behind `points` asks for nothing
pub more_words : (one other : List ℕ) (words : List (List ℕ)) → points_of (one ∷ other ∷ words) ≡ None
unfolding points_of
more_words one other words =
    let all : List (List ℕ) = one ∷ other ∷ words in
    unless (list_all (has_head (level_option ∷ [])) all) (option_map Points (level_in all))
    (λ h. let each = each_value all h in ap (option_map Points) (two_values (values level_option all) (omega (arith, each))))

-- and so does none
pub no_words : points_of [] ≡ None
unfolding points_of values
no_words = refl
