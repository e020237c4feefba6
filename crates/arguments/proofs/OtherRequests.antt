-- Other commands than `points` ask for no points.
use Rattle.std.proofs.Common.{◌≡◌, ℕ, Bool, true, false, cond, List, [], ◌∷◌, Option, Some, None, option_map, refl}
use Rattle.text_lines.specs.Parts.{◌>>=◌}
use Rattle.text_lines.specs.Numbers.{whole_of}
use Rattle.arguments.specs.Words.{at_most_one, plain_words, bricks_in, check_of, extract_of, format_in, format_value, gen_by, gen_of, level_in, name_value, pad_in, pages_in, session_of, sizes_in, soak_of}
use Rattle.arguments.specs.declared.request.Request.{Request}
use Rattle.arguments.specs.declared.request.Request.TheVariants.{Check, Points, Soak}

abbrev pub is_points : Option Request → Bool
is_points (Some (Points level)) = true
is_points (Some request) = false
is_points None = false

bound : {A : Type 0} (o : Option A) (f : A → Option Request) → ((x : A) → is_points (f x) ≡ false) → is_points (o >>= f) ≡ false
bound None f h = refl
bound (Some x) f h = h x

mapped : {A : Type 0} (o : Option A) (f : A → Request) → ((x : A) → is_points (Some (f x)) ≡ false) → is_points (option_map f o) ≡ false
mapped None f h = refl
mapped (Some x) f h = h x

chosen : (b : Bool) (request : Option Request) → is_points request ≡ false → is_points (cond b request None) ≡ false
chosen true request h = h
chosen false request h = refl

not_chosen : (b : Bool) (request : Option Request) → is_points request ≡ false → is_points (cond b None request) ≡ false
not_chosen true request h = refl
not_chosen false request h = h

pub extract_asks : (words : List (List ℕ)) → is_points (extract_of words) ≡ false
unfolding extract_of
extract_asks words =
    not_chosen _ _ (bound (level_in words) _ (λ level. bound (pad_in words) _ (λ pad. bound (format_in words) _ (λ format. refl))))

pub session_asks : (words : List (List ℕ)) → is_points (session_of words) ≡ false
unfolding session_of
session_asks words =
    chosen _ _ (bound (at_most_one None name_value (plain_words words)) _ (λ name. bound (level_in words) _ (λ level. bound (pad_in words) _ (λ pad.
    bound (bricks_in words) _ (λ bricks. bound (pages_in words) _ (λ pages. refl))))))

pub check_asks : (words : List (List ℕ)) → is_points (check_of words) ≡ false
unfolding check_of
check_asks words = chosen _ _ (mapped (at_most_one None format_value (plain_words words)) Check (λ format. refl))

generated : (words : List (List ℕ)) → is_points (gen_by words) ≡ false
generated [] = refl
generated (seed ∷ words) = bound (whole_of seed) _ (λ seed. bound (sizes_in words) _ (λ sizes. refl))

pub gen_asks : (words : List (List ℕ)) → is_points (gen_of words) ≡ false
unfolding gen_of
gen_asks words = chosen _ _ (generated words)

pub soak_asks : (words : List (List ℕ)) → is_points (soak_of words) ≡ false
unfolding soak_of
soak_asks words = chosen _ _ (mapped (at_most_one None whole_of (plain_words words)) Soak (λ seed. refl))
