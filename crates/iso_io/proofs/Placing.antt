-- Files in places.
use Rattle.std.proofs.Common.{◌≡◌, ℕ, suc, ◌+◌, ◌<◌, ◌≤◌, Bool, true, false, cond, List, [], ◌∷◌, ◌++◌, length, take, drop, get_or, set, Some, None, refl, sym, ap, subst, ◌∙◌, arith}
use Rattle.std.specs.Prelude.{Option, Result, Ok, Err, OnOk}
use Rattle.std.proofs.lemmas.List.{take_more, take-append-drop, set_split, drop_more, take_all}
use Rattle.std.specs.Ordering.{nat_cmp, eq_by_cmp}
use Rattle.std.specs.Cmp.Lexicographic.{slice_cmp, nat_list_cmp_total}
use Rattle.std.specs.FinMap.{find, get, insert, get-insert, get-from_entries, same_map, from_entries_push, slice_cmp-IsAntisymmetric, nat_cmp-IsAntisymmetric}
use Rattle.byte_streams.specs.Seen.{files_of}
use Rattle.iso_io.specs.Places.{IsLacking, IsFound}
use Rattle.iso_io.proofs.Shelving.{same_name, own_name}

abbrev Entries : Type 0
Entries = List (List ℕ × List ℕ)

abbrev names : List ℕ → List ℕ → Bool
names p q = eq_by_cmp (slice_cmp nat_cmp) p q

abbrev found : List ℕ → Entries → Option (List ℕ)
found name es = find (slice_cmp nat_cmp) name es

not_same : (p q : List ℕ) (b : Bool) → names p q ≡ b → (p ≡ q → ⊥) → b ≡ false
not_same p q true e ne = absurd (ne (same_name p q e))
not_same p q false e ne = refl

other_name : (p q : List ℕ) → (p ≡ q → ⊥) → names p q ≡ false
other_name p q ne = not_same p q (names p q) refl ne

pub lacking_one : (name : List ℕ) (es : Entries) (e : List ℕ × List ℕ) → IsLacking es name → (e.0 ≡ name → ⊥) → IsLacking (es ++ e ∷ []) name
lacking_one name [] e h ne = ap (λ (b : Bool). cond b (Some e.1) None) (other_name name e.0 (λ p. ne (sym p)))
lacking_one name (x ∷ es) e h ne = go (names name x.0) (Some x.1) (found name es) (found name (es ++ e ∷ [])) h (λ g. lacking_one name es e g ne)
  where
    go : (b : Bool) (v o o' : Option (List ℕ)) → cond b v o ≡ None → (o ≡ None → o' ≡ None) → cond b v o' ≡ None
    go true v o o' e h = e
    go false v o o' e h = h e

pub lacking_more : (name : List ℕ) (es : Entries) (i : ℕ) → i < length es → IsLacking (take i es) name → ((get_or es i ([], [])).0 ≡ name → ⊥) → IsLacking (take (i + 1) es) name
lacking_more name es i lt h ne = subst (λ (l : Entries). IsLacking l name) (sym (take_more es i ([], []) lt)) (lacking_one name (take i es) (get_or es i ([], [])) h ne)

pub lacking_all : (name : List ℕ) (es : Entries) (i : ℕ) → length es ≤ i → IsLacking (take i es) name → IsLacking es name
lacking_all name es i le h = subst (λ (l : Entries). IsLacking l name) (take_all i es le) h

-- behind places that lack the name, the first has it
at_front : (name x : List ℕ) (front rest : Entries) → IsLacking front name → found name (front ++ (name, x) ∷ rest) ≡ Some x
at_front name x [] rest h = ap (λ (b : Bool). cond b (Some x) (found name rest)) (own_name name)
at_front name x (e ∷ front) rest h = go (names name e.0) (Some e.1) (found name front) (found name (front ++ (name, x) ∷ rest)) h (λ g. at_front name x front rest g) (λ g. absurd cc)
  where
    go : (b : Bool) (v o o' : Option (List ℕ)) → cond b v o ≡ None → (o ≡ None → o' ≡ Some x) → (v ≡ None → ⊥) → cond b v o' ≡ Some x
    go true v o o' e h k = absurd (k e)
    go false v o o' e h k = h e

elsewhere : (name x y q : List ℕ) (front rest : Entries) → names q name ≡ false → found q (front ++ (name, x) ∷ rest) ≡ found q (front ++ (name, y) ∷ rest)
elsewhere name x y q [] rest h = ap (λ (b : Bool). cond b (Some x) (found q rest)) h ∙ sym (ap (λ (b : Bool). cond b (Some y) (found q rest)) h)
elsewhere name x y q (e ∷ front) rest h = ap (cond (names q e.0) (Some e.1)) (elsewhere name x y q front rest h)

files_at : (name x y : List ℕ) (front rest : Entries) → IsLacking front name → files_of (front ++ (name, x) ∷ rest) ≡ insert (files_of (front ++ (name, y) ∷ rest)) name x
files_at name x y front rest h = same_map nat_list_cmp_total (slice_cmp-IsAntisymmetric nat_cmp-IsAntisymmetric) _ _ (λ q. at q (names q name) refl)
  where
    at : (q : List ℕ) (b : Bool) → names q name ≡ b → get (files_of (front ++ (name, x) ∷ rest)) q ≡ get (insert (files_of (front ++ (name, y) ∷ rest)) name x) q
    at q true e = get-from_entries nat_list_cmp_total (front ++ (name, x) ∷ rest) q ∙ subst (λ (p : List ℕ). found p (front ++ (name, x) ∷ rest) ≡ Some x) (sym (same_name q name e)) (at_front name x front rest h)
        ∙ sym (get-insert nat_list_cmp_total (files_of (front ++ (name, y) ∷ rest)) name x q ∙ ap (λ (b : Bool). cond b (Some x) (get (files_of (front ++ (name, y) ∷ rest)) q)) e)
    at q false e = get-from_entries nat_list_cmp_total (front ++ (name, x) ∷ rest) q ∙ elsewhere name x y q front rest e ∙ sym (get-from_entries nat_list_cmp_total (front ++ (name, y) ∷ rest) q)
        ∙ sym (get-insert nat_list_cmp_total (files_of (front ++ (name, y) ∷ rest)) name x q ∙ ap (λ (b : Bool). cond b (Some x) (get (files_of (front ++ (name, y) ∷ rest)) q)) e)

-- the file of a found place, and the files after it was changed
split_at : (es : Entries) (i : ℕ) → i < length es → es ≡ take i es ++ get_or es i ([], []) ∷ drop (i + 1) es
split_at es i lt = sym (take-append-drop i es) ∙ ap (λ (l : Entries). take i es ++ l) (drop_more es i ([], []) lt)

named_entry : (es : Entries) (i : ℕ) (name : List ℕ) → (get_or es i ([], [])).0 ≡ name → get_or es i ([], []) ≡ (name, (get_or es i ([], [])).1)
named_entry es i name e = λ j. (e j, (get_or es i ([], [])).1)

split_named : (es : Entries) (name : List ℕ) (i : ℕ) → IsFound es name i → es ≡ take i es ++ (name, (get_or es i ([], [])).1) ∷ drop (i + 1) es
split_named es name i f = split_at es i f.within ∙ ap (λ (e : List ℕ × List ℕ). take i es ++ e ∷ drop (i + 1) es) (named_entry es i name f.named)

pub found_file : (es : Entries) (name : List ℕ) (i : ℕ) → IsFound es name i → get (files_of es) name ≡ Some (get_or es i ([], [])).1
found_file es name i f = get-from_entries nat_list_cmp_total es name ∙ ap (found name) (split_named es name i f) ∙ at_front name (get_or es i ([], [])).1 (take i es) (drop (i + 1) es) f.before

pub lacking_file : (es : Entries) (name : List ℕ) → IsLacking es name → get (files_of es) name ≡ None
lacking_file es name h = get-from_entries nat_list_cmp_total es name ∙ h

pub set_file : (es : Entries) (name x : List ℕ) (i : ℕ) (e : List ℕ × List ℕ) → IsFound es name i → e ≡ ((get_or es i ([], [])).0, x) → files_of (set es i e) ≡ insert (files_of es) name x
set_file es name x i e f d =
    let next : suc i ≡ i + 1 = omega arith in
    let s : set es i e ≡ take i es ++ (name, x) ∷ drop (i + 1) es = ap (set es i) (d ∙ (λ j. (f.named j, x))) ∙ set_split es i (name, x) f.within ∙ ap (λ (n : ℕ). take i es ++ (name, x) ∷ drop n es) next in
    ap files_of s ∙ files_at name x (get_or es i ([], [])).1 (take i es) (drop (i + 1) es) f.before ∙ ap (λ (l : Entries). insert (files_of l) name x) (sym (split_named es name i f))

pub push_file : (es : Entries) (name x : List ℕ) → IsLacking es name → files_of (es ++ (name, x) ∷ []) ≡ insert (files_of es) name x
push_file es name x h = from_entries_push nat_list_cmp_total (slice_cmp-IsAntisymmetric nat_cmp-IsAntisymmetric) es name x h

pub on_ok : {T E : Type 0} (r : Result T E) (A B : Type 0) → (A → B) → OnOk r A → OnOk r B
on_ok (Ok x) A B f h = f h
on_ok (Err e) A B f h = record {}
