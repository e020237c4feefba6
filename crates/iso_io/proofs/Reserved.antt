-- Places that were reserved, the first of which hold files.
use Rattle.std.proofs.Common.{◌≡◌, ◌⊎◌, inl, inr, ◌↔◌, ℕ, ◌+◌, ◌-◌, ◌<◌, ◌≤◌, Bool, true, false, cond, List, [], ◌∷◌, ◌++◌, length, length-set, take, get_or, set, Some, refl, sym, ap, subst, ◌∙◌, arith}
use Rattle.std.specs.Prelude.{Option, unwrap_or, nat_lt, ◌||◌, ◌&&◌, is_some}
use Rattle.std.proofs.lemmas.List.{get_or-map, map-set, map-append, length-map, length-take, take_more_set, get_or-take}
use Rattle.std.proofs.lemmas.Bool.{ltb-false, le-ltb, lt-ltb}
use Rattle.std.proofs.Math.Seq.{take-set-lt}
use Rattle.std.specs.FinMap.{get, insert}
use Rattle.byte_streams.specs.Seen.{files_of}
use Rattle.iso_io.specs.Places.{Place, Places, IsLacking, IsFound, entries_of, places_of, has_place, placed, content_in}
use Rattle.iso_io.proofs.Placing.{found_file, lacking_file, set_file, push_file}

abbrev entry_of : Place → List ℕ × List ℕ
entry_of p = (p.name, p.bytes)

abbrev pair_of : List ℕ → List ℕ → List ℕ × List ℕ
pair_of name bytes = (name, bytes)

abbrev pub some_of : List ℕ → Option (List ℕ)
some_of b = Some b

abbrev key_of : Option (List ℕ) → Bool
key_of o = is_some o

pub entry_at : (ps : List Place) (i : ℕ) (r : Place) → i < length ps → r ≡ get_or ps i r → get_or (entries_of ps) i ([], []) ≡ (r.name, r.bytes)
entry_at ps i r lt e = get_or-map entry_of ps i r ([], []) lt ∙ ap entry_of (sym e)

pub count_of : (ps : List Place) → length (entries_of ps) ≡ length ps
count_of ps = length-map ps entry_of

pub is_within : (ps : List Place) (name : List ℕ) (i n : ℕ) → IsFound (entries_of (take n ps)) name i → (i < n) × (i < length ps)
is_within ps name i n f = (omega (arith, f.within, count_of (take n ps), length-take n ps), omega (arith, f.within, count_of (take n ps), length-take n ps))

entry_found : (all : List Place) (used : ℕ) (name : List ℕ) (i : ℕ) (r : Place) → IsFound (entries_of (take used all)) name i → r ≡ get_or all i r → get_or (entries_of (take used all)) i ([], []) ≡ (r.name, r.bytes)
entry_found all used name i r f e =
    let w = is_within all name i used f in
    let lt : i < length (take used all) = omega (arith, f.within, count_of (take used all)) in
    entry_at (take used all) i r lt (e ∙ sym (get_or-take used all i r w.0))

-- the file of a found place
pub found_bytes : (all : List Place) (used : ℕ) (name : List ℕ) (i : ℕ) (r : Place) → IsFound (entries_of (take used all)) name i → r ≡ get_or all i r → get (files_of (entries_of (take used all))) name ≡ Some r.bytes
found_bytes all used name i r f e = found_file _ name i f ∙ ap (λ (p : List ℕ × List ℕ). some_of p.1) (entry_found all used name i r f e)

not_both : (b : Bool) (n : ℕ) → 255 < n → (b && nat_lt n 256) ≡ false
not_both true n h = le-ltb n 256 (omega arith)
not_both false n h = refl

not_short : (b : Bool) (n : ℕ) → b ≡ true → (b && nat_lt n 256) ≡ false → 255 < n
not_short true n t e = let m : 256 ≤ n = ltb-false n 256 e in omega arith
not_short false n t e = absurd cc

-- whether a name has a place
pub has_found : (all : List Place) (used room : ℕ) (name : List ℕ) (i : ℕ) (r : Place) → IsFound (entries_of (take used all)) name i → r ≡ get_or all i r → has_place (places_of all used room) name ≡ true
has_found all used room name i r f e = ap (λ (o : Option (List ℕ)). key_of o || (nat_lt 0 (length all - used) && nat_lt (length name) 256)) (found_bytes all used name i r f e)

pub has_free : (all : List Place) (used room : ℕ) (name : List ℕ) → IsLacking (entries_of (take used all)) name → has_place (places_of all used room) name ≡ (nat_lt 0 (length all - used) && nat_lt (length name) 256)
has_free all used room name none = ap (λ (o : Option (List ℕ)). key_of o || (nat_lt 0 (length all - used) && nat_lt (length name) 256)) (lacking_file _ name none)

-- the places after the file of one of them was replaced
pub placed_found : (all : List Place) (used room : ℕ) (name bytes : List ℕ) (i : ℕ) (r p : Place) → IsFound (entries_of (take used all)) name i → r ≡ get_or all i r → p.name ≡ r.name → p.bytes ≡ bytes
    → places_of (set all i p) used room ≡ placed (places_of all used room) name bytes
placed_found all used room name bytes i r p f e same now =
    let w = is_within all name i used f in
    let cut : take used (set all i p) ≡ set (take used all) i p = take-set-lt used all i p w.0 in
    let own : p.name ≡ (get_or (entries_of (take used all)) i ([], [])).0 = same ∙ ap (λ (q : List ℕ × List ℕ). q.0) (sym (entry_found all used name i r f e)) in
    let entry : entry_of p ≡ pair_of (get_or (entries_of (take used all)) i ([], [])).0 bytes = λ j. (own j, now j) in
    let files : files_of (entries_of (take used (set all i p))) ≡ insert (files_of (entries_of (take used all))) name bytes =
    ap (λ (l : List Place). files_of (entries_of l)) cut ∙ ap files_of (map-set entry_of (take used all) i p) ∙ set_file (entries_of (take used all)) name bytes i (entry_of p) f entry in
    let free : length (set all i p) - used ≡ cond (key_of (get (files_of (entries_of (take used all))) name)) (length all - used) (length all - used - 1) =
    ap (λ (n : ℕ). n - used) (length-set all i p) ∙ sym (ap (λ (o : Option (List ℕ)). cond (key_of o) (length all - used) (length all - used - 1)) (found_bytes all used name i r f e)) in
    λ j. record { files = files j; free = free j; room = room }

pub placed_new : (all : List Place) (used room : ℕ) (name bytes : List ℕ) (p : Place) → IsLacking (entries_of (take used all)) name → used < length all → p.name ≡ name → p.bytes ≡ bytes
    → places_of (set all used p) (used + 1) room ≡ placed (places_of all used room) name bytes
placed_new all used room name bytes p none lt same now =
    let entry : entry_of p ≡ pair_of name bytes = λ j. (same j, now j) in
    let pushed : entries_of (take (used + 1) (set all used p)) ≡ entries_of (take used all) ++ pair_of name bytes ∷ [] =
    ap entries_of (take_more_set all used p lt) ∙ map-append entry_of (take used all) (p ∷ []) ∙ ap (λ (q : List ℕ × List ℕ). entries_of (take used all) ++ q ∷ []) entry in
    let files : files_of (entries_of (take (used + 1) (set all used p))) ≡ insert (files_of (entries_of (take used all))) name bytes =
    ap files_of pushed ∙ push_file (entries_of (take used all)) name bytes none in
    let less : length (set all used p) - (used + 1) ≡ length all - used - 1 = omega (arith, length-set all used p) in
    let free : length (set all used p) - (used + 1) ≡ cond (key_of (get (files_of (entries_of (take used all))) name)) (length all - used) (length all - used - 1) =
    less ∙ sym (ap (λ (o : Option (List ℕ)). cond (key_of o) (length all - used) (length all - used - 1)) (lacking_file (entries_of (take used all)) name none)) in
    λ j. record { files = files j; free = free j; room = room }

pub no_free : (all : List Place) (used room : ℕ) (name : List ℕ) → used ≡ length all → IsLacking (entries_of (take used all)) name → has_place (places_of all used room) name ≡ false
no_free all used room name e none =
    let zero : length all - used ≡ 0 = omega (arith, e) in
    has_free all used room name none ∙ ap (λ (n : ℕ). nat_lt 0 n && nat_lt (length name) 256) zero

pub long_name : (all : List Place) (used room : ℕ) (name : List ℕ) → 255 < length name → IsLacking (entries_of (take used all)) name → has_place (places_of all used room) name ≡ false
long_name all used room name long none = has_free all used room name none ∙ not_both (nat_lt 0 (length all - used)) (length name) long

pub short_name : (all : List Place) (used room : ℕ) (name : List ℕ) → used < length all → IsLacking (entries_of (take used all)) name → has_place (places_of all used room) name ≡ false → 255 < length name
short_name all used room name lt none e = not_short (nat_lt 0 (length all - used)) (length name) (lt-ltb 0 (length all - used) (omega arith)) (sym (has_free all used room name none) ∙ e)

both_ways : {E A B : Type 0} → (E ↔ A) → (A → B) → (B → A) → E ↔ B
both_ways e f g = (λ x. f (e.0 x), λ y. e.1 (g y))

either : {A B C D : Type 0} → (A → C) → (B → D) → A ⊎ B → C ⊎ D
either f g (inl a) = inl (f a)
either f g (inr b) = inr (g b)

only_right : {A B : Type 0} → (A → ⊥) → A ⊎ B → B
only_right f (inl a) = absurd (f a)
only_right f (inr b) = b

no_false : (b : Bool) → b ≡ true → b ≡ false → ⊥
no_false b t f = cc

-- why a file is not put into its own place, and why not into a free one
pub fails_found : {E : Type 0} (all : List Place) (used room : ℕ) (s : Places) (name : List ℕ) (n i : ℕ) (r : Place) → places_of all used room ≡ s → IsFound (entries_of (take used all)) name i → r ≡ get_or all i r → r.room ≡ room
    → (E ↔ (r.room < n)) → E ↔ ((has_place s name ≡ false) ⊎ (s.room < n))
fails_found {E = E} all used room s name n i r view f e own fails =
    subst (λ (p : Places). E ↔ ((has_place p name ≡ false) ⊎ (p.room < n))) view
    (both_ways fails (λ lt. inr (omega (arith, own, lt))) (λ either. omega (arith, own, only_right (no_false _ (has_found all used room name i r f e)) either)))

pub fails_new : {E : Type 0} (all : List Place) (used room : ℕ) (s : Places) (name : List ℕ) (n : ℕ) (r : Place) → places_of all used room ≡ s → IsLacking (entries_of (take used all)) name → used < length all → r.room ≡ room
    → (E ↔ ((255 < length name) ⊎ (r.room < n))) → E ↔ ((has_place s name ≡ false) ⊎ (s.room < n))
fails_new {E = E} all used room s name n r view none lt own fails =
    subst (λ (p : Places). E ↔ ((has_place p name ≡ false) ⊎ (p.room < n))) view
    (both_ways fails (either (λ long. long_name all used room name long none) (λ more. omega (arith, own, more))) (either (λ no. short_name all used room name lt none no) (λ more. omega (arith, own, more))))

-- the bytes that a name has
pub found_content : (all : List Place) (used room : ℕ) (s : Places) (name : List ℕ) (i : ℕ) (r : Place) → places_of all used room ≡ s → IsFound (entries_of (take used all)) name i → r ≡ get_or all i r → content_in s name ≡ r.bytes
found_content all used room s name i r view f e = ap (λ (p : Places). content_in p name) (sym view) ∙ ap (λ (o : Option (List ℕ)). unwrap_or o []) (found_bytes all used name i r f e)

pub no_content : (all : List Place) (used room : ℕ) (s : Places) (name : List ℕ) → places_of all used room ≡ s → IsLacking (entries_of (take used all)) name → content_in s name ≡ []
no_content all used room s name view none = ap (λ (p : Places). content_in p name) (sym view) ∙ ap (λ (o : Option (List ℕ)). unwrap_or o []) (lacking_file _ name none)

-- why bytes are not put behind those of a file
pub fails_grown : {E : Type 0} (all : List Place) (used room : ℕ) (s : Places) (name : List ℕ) (n i : ℕ) (r : Place) → places_of all used room ≡ s → IsFound (entries_of (take used all)) name i → r ≡ get_or all i r → r.room ≡ room
    → (E ↔ (r.room < length r.bytes + n)) → E ↔ ((has_place s name ≡ false) ⊎ (s.room < length (content_in s name) + n))
fails_grown {E = E} all used room s name n i r view f e own fails =
    subst (λ (l : List ℕ). E ↔ ((has_place s name ≡ false) ⊎ (s.room < length l + n))) (sym (found_content all used room s name i r view f e))
    (fails_found all used room s name (length r.bytes + n) i r view f e own fails)

-- the places after bytes were put behind those of a file
pub placed_grown : (all : List Place) (used room : ℕ) (s : Places) (name bytes : List ℕ) (i : ℕ) (r p : Place) → places_of all used room ≡ s → IsFound (entries_of (take used all)) name i → r ≡ get_or all i r → p.name ≡ r.name → p.bytes ≡ r.bytes ++ bytes
    → places_of (set all i p) used room ≡ placed s name (content_in s name ++ bytes)
placed_grown all used room s name bytes i r p view f e same now =
    let own : p.bytes ≡ content_in s name ++ bytes = now ∙ ap (λ (l : List ℕ). l ++ bytes) (sym (found_content all used room s name i r view f e)) in
    let P : Places → Type 0 = λ q. places_of (set all i p) used room ≡ placed q name (content_in s name ++ bytes) in
    subst P view (placed_found all used room name (content_in s name ++ bytes) i r p f e same own)
