-- The words that ask for points, as either program reads them.
use Rattle.std.proofs.Common.{◌≡◌, ℕ, Bool, true, false, cond, List, [], ◌∷◌, codes, bytes_eq, Option, Some, None, option_map, ℤ, refl, sym, ◌∙◌, ap}
use Rattle.std.proofs.Common.{◌&&◌, subst}
use Rattle.std.proofs.lemmas.Bool.{true≢false}
use Rattle.std.proofs.lemmas.Slice.Eq.{bytes_eq-Decides}
use Rattle.text_lines.proofs.Places.{decide}
use Rattle.arguments.specs.Words.{command_of, commands, points_of, request_of}
use Rattle.arguments.specs.declared.request.Request.{Request}
use Rattle.arguments.specs.declared.request.Request.TheVariants.{Help, Points, Version}
use Rattle.program.specs.Questions.{asks_help, asks_version, is_among}
use Rattle.point_command.specs.Words.{asked_of, points_level}
use Rattle.point_command.specs.declared.words.Asked.TheVariants as alone
use Rattle.arguments.proofs.OneOption.{more_words, no_words, one_option}
use Rattle.arguments.proofs.OtherRequests.{check_asks, extract_asks, gen_asks, is_points, session_asks, soak_asks}

-- behind the word `points`
pub behind_points : (words : List (List ℕ)) → points_of words ≡ option_map Points (points_level (codes "points" ∷ words))
behind_points [] = no_words
behind_points (option ∷ []) = one_option option
behind_points (one ∷ other ∷ words) = more_words one other words

either : (b : Bool) (one other : Option Request) → is_points one ≡ false → is_points other ≡ false → is_points (cond b one other) ≡ false
either true one other h k = h
either false one other h k = k

-- behind another word
other_request : (command : List ℕ) (words : List (List ℕ)) → bytes_eq command (codes "points") ≡ false → is_points (command_of (command ∷ words)) ≡ false
unfolding command_of
other_request command words f =
    rw f (
    either (bytes_eq command (codes "extract")) _ _ (extract_asks words) (
    either (bytes_eq command (codes "session")) _ _ (session_asks words) (
    either (bytes_eq command (codes "check")) _ _ (check_asks words) (
    either (bytes_eq command (codes "gen")) _ _ (gen_asks words) (
    either (bytes_eq command (codes "soak")) _ _ (soak_asks words) refl)))))

no_level : (command : List ℕ) (words : List (List ℕ)) → bytes_eq command (codes "points") ≡ false → points_level (command ∷ words) ≡ None
no_level command [] f = refl
no_level command (option ∷ []) f = rw f refl
no_level command (one ∷ other ∷ words) f = refl

points_request : (command : List ℕ) (words : List (List ℕ)) → bytes_eq command (codes "points") ≡ true → command_of (command ∷ words) ≡ points_of words
unfolding command_of
points_request command words t = rw t refl

level_of_points : (command : List ℕ) (words : List (List ℕ)) → bytes_eq command (codes "points") ≡ true → points_level (command ∷ words) ≡ points_level (codes "points" ∷ words)
level_of_points command [] t = refl
level_of_points command (option ∷ []) t = rw t refl
level_of_points command (one ∷ other ∷ words) t = refl

same_level : (o : Option ℤ) (level : ℤ) → option_map Points o ≡ Some (Points level) → o ≡ Some level
same_level (Some value) level e = cc
same_level None level e = absurd (cc)

clash : (request : Option Request) (level : ℤ) → is_points request ≡ false → request ≡ Some (Points level) → ⊥
clash request level f e = let t : is_points request ≡ true = ap is_points e in true≢false (sym t ∙ f)

asked : (words : List (List ℕ)) (level : ℤ) → points_level words ≡ Some level → command_of words ≡ Some (Points level)
asked [] level e = absurd (cc)
asked (command ∷ words) level e = decide (bytes_eq command (codes "points"))
    (λ t. points_request command words t ∙ behind_points words ∙ ap (option_map Points) (sym (level_of_points command words t) ∙ e))
    (λ f. absurd (let none = no_level command words f in let same : None ≡ Some level = sym none ∙ e in cc))

taken : (words : List (List ℕ)) (level : ℤ) → command_of words ≡ Some (Points level) → points_level words ≡ Some level
unfolding command_of
taken [] level e = absurd (cc)
taken (command ∷ words) level e = decide (bytes_eq command (codes "points"))
    (λ t. level_of_points command words t ∙ same_level (points_level (codes "points" ∷ words)) level (sym (behind_points words) ∙ sym (points_request command words t) ∙ e))
    (λ f. absurd (clash (command_of (command ∷ words)) level (other_request command words f) e))

-- ---- and no question about the program

other_than : {A : Type 0} (b : Bool) (x y z : Option A) → cond b x y ≡ z → (x ≡ z → ⊥) → (b ≡ false) × (y ≡ z)
other_than true x y z e differ = absurd (differ e)
other_than false x y z e differ = (refl, e)

of_false : {A : Type 0} (b : Bool) (x y : Option A) → b ≡ false → cond b x y ≡ y
of_false b x y f = rw f refl

and_false : (b : Bool) → (b && false) ≡ false
and_false true = refl
and_false false = refl

no_choice : (b : Bool) (level : ℤ) → cond b None None ≡ Some level → ⊥
no_choice true level e = absurd cc
no_choice false level e = absurd cc

-- the words that ask for points are no question
no_help : (commands words : List (List ℕ)) (level : ℤ) → points_level words ≡ Some level → asks_help commands words ≡ false
no_help commands [] level e = refl
no_help commands (word ∷ []) level e = absurd cc
no_help commands (command ∷ option ∷ []) level e = decide (bytes_eq option (codes "--help"))
    (λ t.
    let same : option ≡ codes "--help" = (bytes_eq-Decides option (codes "--help")).0 t in
    absurd (no_choice (bytes_eq command (codes "points")) level (subst (λ (o : List ℕ). points_level (command ∷ o ∷ []) ≡ Some level) same e)))
    (λ f. rw f (and_false (is_among command commands)))
no_help commands (one ∷ other ∷ more ∷ words) level e = refl

no_version : (words : List (List ℕ)) (level : ℤ) → points_level words ≡ Some level → asks_version words ≡ false
no_version [] level e = refl
no_version (word ∷ []) level e = absurd cc
no_version (one ∷ other ∷ words) level e = refl

named_points : (o : Option ℤ) (level : ℤ) → option_map alone.Points o ≡ Some (alone.Points level) → o ≡ Some level
named_points (Some value) level e = cc
named_points None level e = absurd cc

-- what the program of points takes for points, the workbench does
pub asked_there : (words : List (List ℕ)) (level : ℤ) → asked_of words ≡ Some (alone.Points level) → request_of words ≡ Some (Points level)
unfolding request_of
asked_there words level e =
    let no_help_here = other_than (asks_help (codes "points" ∷ []) words) (Some alone.Help) _ (Some (alone.Points level)) e (λ x. absurd cc) in
    let no_version_here = other_than (asks_version words) (Some alone.Version) _ (Some (alone.Points level)) no_help_here.1 (λ x. absurd cc) in
    let is : points_level words ≡ Some level = named_points (points_level words) level no_version_here.1 in
    of_false (asks_help commands words) (Some Help) _ (no_help commands words level is)
    ∙ of_false (asks_version words) (Some Version) (command_of words) no_version_here.0 ∙ asked words level is

-- and the other way round
pub taken_there : (words : List (List ℕ)) (level : ℤ) → request_of words ≡ Some (Points level) → asked_of words ≡ Some (alone.Points level)
unfolding request_of
taken_there words level e =
    let no_help_here = other_than (asks_help commands words) (Some Help) _ (Some (Points level)) e (λ x. absurd cc) in
    let no_version_here = other_than (asks_version words) (Some Version) (command_of words) (Some (Points level)) no_help_here.1 (λ x. absurd cc) in
    let is : points_level words ≡ Some level = taken words level no_version_here.1 in
    of_false (asks_help (codes "points" ∷ []) words) (Some alone.Help) _ (no_help (codes "points" ∷ []) words level is)
    ∙ of_false (asks_version words) (Some alone.Version) _ no_version_here.0 ∙ ap (option_map alone.Points) is
