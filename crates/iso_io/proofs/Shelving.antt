-- Files of a shelf that are started and grow.
use Rattle.std.proofs.Common.{◌≡◌, ◌⊎◌, inl, inr, ℕ, ◌≤◌, Bool, true, false, cond, List, [], ◌∷◌, ◌++◌, length, take_all, Some, None, Result, Ok, Err, refl, sym, ap, subst, ◌∙◌, arith}
use Rattle.std.specs.Prelude.{Option, unwrap_or}
use Rattle.std.specs.Option.{option_map, option_and_then}
use Rattle.std.specs.Ordering.{nat_cmp, eq_by_cmp, is_eq}
use Rattle.std.specs.declared.cmp.Ordering.{Ordering}
use Rattle.std.specs.declared.cmp.Ordering.TheVariants.{Less, Equal, Greater}
use Rattle.std.specs.Cmp.Lexicographic.{slice_cmp, nat_list_cmp_total}
use Rattle.std.specs.Cmp.{eq_by_cmp_equiv}
use Rattle.std.specs.FinMap.{get, insert, remove, get-insert, get-remove, same_map, slice_cmp-IsAntisymmetric, nat_cmp-IsAntisymmetric}
use Rattle.std.specs.Borrow.{GName}
use Rattle.std.specs.Io.KnownBytes.{Appends}
use Rattle.byte_streams.specs.Seen.{Files, Side, Writes, Puts, AppendsFront}
use Rattle.iso_io.specs.Shelves.{Store, content, with_file, with_appended, FilesCut, Has, Starts, Grows, Stores, file_tape, others_of}
use Rattle.byte_streams.proofs.Known.{Appends-nil}

equal : (o : Ordering) → is_eq o ≡ true → o ≡ Equal
equal Less e = absurd cc
equal Equal e = refl
equal Greater e = absurd cc

pub same_name : (p q : List ℕ) → eq_by_cmp (slice_cmp nat_cmp) p q ≡ true → p ≡ q
same_name p q e = slice_cmp-IsAntisymmetric nat_cmp-IsAntisymmetric p q (equal (slice_cmp nat_cmp p q) e)

pub own_name : (p : List ℕ) → eq_by_cmp (slice_cmp nat_cmp) p p ≡ true
own_name p = (eq_by_cmp_equiv nat_list_cmp_total).refl p

pub get_own : (f : Files) (name x : List ℕ) → get (insert f name x) name ≡ Some x
get_own f name x = get-insert nat_list_cmp_total f name x name ∙ ap (λ (b : Bool). cond b (Some x) (get f name)) (own_name name)

same_others : (f g : Files) (name q : List ℕ) (b : Bool) → eq_by_cmp (slice_cmp nat_cmp) q name ≡ b → remove g name ≡ remove f name → cond b (Some q) None ≡ None → get g q ≡ get f q
same_others f g name q true e r h = absurd cc
same_others f g name q false e r h =
    let a = get-remove nat_list_cmp_total g name q ∙ ap (λ (b : Bool). cond b None (get g q)) e in
    let b = get-remove nat_list_cmp_total f name q ∙ ap (λ (b : Bool). cond b None (get f q)) e in
    sym a ∙ ap (λ (m : Files). get m q) r ∙ b

-- files that differ in one name alone
pub with_same_others : (f g : Files) (name x : List ℕ) → remove g name ≡ remove f name → get g name ≡ Some x → g ≡ insert f name x
with_same_others f g name x r e =
    same_map nat_list_cmp_total (slice_cmp-IsAntisymmetric nat_cmp-IsAntisymmetric) g (insert f name x) (λ q. at q (eq_by_cmp (slice_cmp nat_cmp) q name) refl)
  where
    at : (q : List ℕ) (b : Bool) → eq_by_cmp (slice_cmp nat_cmp) q name ≡ b → get g q ≡ get (insert f name x) q
    at q true t = subst (λ (p : List ℕ). get g p ≡ get (insert f name x) p) (sym (same_name q name t)) (e ∙ sym (get_own f name x))
    at q false t = same_others f g name q false t r refl ∙ sym (get-insert nat_list_cmp_total f name x q ∙ ap (λ (b : Bool). cond b (Some x) (get f q)) t)

pub others_stay : (f : Files) (name x : List ℕ) → remove (insert f name x) name ≡ remove f name
others_stay f name x =
    same_map nat_list_cmp_total (slice_cmp-IsAntisymmetric nat_cmp-IsAntisymmetric) (remove (insert f name x) name) (remove f name) (λ q. at q (eq_by_cmp (slice_cmp nat_cmp) q name) refl)
  where
    at : (q : List ℕ) (b : Bool) → eq_by_cmp (slice_cmp nat_cmp) q name ≡ b → get (remove (insert f name x) name) q ≡ get (remove f name) q
    at q true t = get-remove nat_list_cmp_total (insert f name x) name q ∙ ap (λ (b : Bool). cond b None (get (insert f name x) q)) t ∙ sym (get-remove nat_list_cmp_total f name q ∙ ap (λ (b : Bool). cond b None (get f q)) t)
    at q false t = get-remove nat_list_cmp_total (insert f name x) name q ∙ ap (λ (b : Bool). cond b None (get (insert f name x) q)) t
        ∙ get-insert nat_list_cmp_total f name x q ∙ ap (λ (b : Bool). cond b (Some x) (get f q)) t ∙ sym (get-remove nat_list_cmp_total f name q ∙ ap (λ (b : Bool). cond b None (get f q)) t)

-- what a grown shelf looks like as the tape of that file
grown_at : (f : Files) (name bytes : List ℕ) (o : Option (List ℕ)) → get f name ≡ o → Appends o (Some (unwrap_or o [] ++ bytes)) bytes
grown_at f name bytes None e = tt
grown_at f name bytes (Some x) e = refl

grown_taken : (old : Option Files) (name bytes : List ℕ) → Appends (option_and_then (λ (f : Files). get f name) old) (option_and_then (λ (f : Files). get f name) (with_appended name bytes old)) bytes
grown_taken None name bytes = tt
grown_taken (Some f) name bytes = subst (λ (o : Option (List ℕ)). Appends (get f name) o bytes) (sym (get_own f name (content f name ++ bytes))) (grown_at f name bytes (get f name) refl)

abbrev pair_of : List ℕ → Files → Option (List ℕ × Files)
pair_of name f = Some (name, f)

grown_beside : (old : Option Files) (name bytes : List ℕ) → option_map (others_of name) (with_appended name bytes old) ≡ option_map (others_of name) old
grown_beside None name bytes = refl
grown_beside (Some f) name bytes = ap (pair_of name) (others_stay f name (content f name ++ bytes))

taken_by : (loan : GName) (old new : Store) (name bytes : List ℕ) → new.files ≡ with_appended name bytes old.files → Appends (file_tape loan old name).taken (file_tape loan new name).taken bytes
taken_by loan old new name bytes e = subst (λ (o : Option Files). Appends (option_and_then (λ (f : Files). get f name) old.files) (option_and_then (λ (f : Files). get f name) o) bytes) (sym e) (grown_taken old.files name bytes)

abbrev side_of : GName → List ℕ → Option (List ℕ × Files) → Side
side_of loan name others = record { held = (loan, name) ∷ []; others = others }

beside_by : (loan : GName) (old new : Store) (name bytes : List ℕ) → new.files ≡ with_appended name bytes old.files → (file_tape loan new name).beside ≡ (file_tape loan old name).beside
beside_by loan old new name bytes e = ap (side_of loan name) (ap (λ (o : Option Files). option_map (others_of name) o) e ∙ grown_beside old.files name bytes)

pub appended_writes : {T E : Type 0} (loan : GName) (old new : Store) (name bytes : List ℕ) (x : T) → Grows {E = E} old new (Ok x) name bytes → Writes {E = E} (file_tape loan old name) (file_tape loan new name) (Ok (length bytes)) bytes
appended_writes loan old new name bytes x h = record {
  some = λ more. more;
  gained = let le : length bytes ≤ length bytes = omega arith in rw take_all (taken_by loan old new name bytes h.changed);
  beside = beside_by loan old new name bytes h.changed;
  cause = record { later = h.cause.later; failed = tt };
}

same_files : (loan : GName) (old new : Store) (name : List ℕ) → new.files ≡ old.files → Appends (file_tape loan old name).taken (file_tape loan new name).taken []
same_files loan old new name e = subst (λ (o : Option Files). Appends (file_tape loan old name).taken (option_and_then (λ (f : Files). get f name) o) []) (sym e) (Appends-nil (file_tape loan old name).taken)

failed_gain : (loan : GName) (old new : Store) (name bytes : List ℕ) → (new.files ≡ old.files) ⊎ ((front : List ℕ) × (back : List ℕ) × (bytes ≡ front ++ back) × (new.files ≡ with_appended name front old.files)) → AppendsFront (file_tape loan old name).taken (file_tape loan new name).taken bytes
failed_gain loan old new name bytes (inl e) = ([], bytes, refl, same_files loan old new name e)
failed_gain loan old new name bytes (inr p) = (p.0, p.1, p.2, taken_by loan old new name p.0 p.3)

failed_beside : (loan : GName) (old new : Store) (name bytes : List ℕ) → (new.files ≡ old.files) ⊎ ((front : List ℕ) × (back : List ℕ) × (bytes ≡ front ++ back) × (new.files ≡ with_appended name front old.files)) → (file_tape loan new name).beside ≡ (file_tape loan old name).beside
failed_beside loan old new name bytes (inl e) = ap (λ (o : Option Files). side_of loan name (option_map (others_of name) o)) e
failed_beside loan old new name bytes (inr p) = beside_by loan old new name p.0 p.3

pub failed_writes : {T E E' : Type 0} (loan : GName) (old new : Store) (name bytes : List ℕ) (e : E) (e' : E') → Grows {T = T} old new (Err e) name bytes → Writes (file_tape loan old name) (file_tape loan new name) (Err e') bytes
failed_writes loan old new name bytes e e' h = record {
  some = tt;
  gained = failed_gain loan old new name bytes h.changed;
  beside = failed_beside loan old new name bytes h.changed;
  cause = record { later = h.cause.later; failed = h.cause.failed };
}

-- ---- a file that was started and then put

abbrev some_bytes : List ℕ → Option (List ℕ)
some_bytes x = Some x

abbrev some_files : Files → Option Files
some_files m = Some m

sole : (g : Files) (name front : List ℕ) (f : Files) (o : Option (List ℕ)) → get g name ≡ o → remove g name ≡ remove (insert f name []) name → Appends (Some []) o front → g ≡ insert f name front
sole g name front f None e r a = absurd a
sole g name front f (Some y) e r a = with_same_others f g name front (r ∙ others_stay f name []) (e ∙ ap some_bytes a)

second_of : (a b : List ℕ × Files) → Some a ≡ Some b → a.1 ≡ b.1
second_of a b e = cc

gained_at : (fs now : Option Files) (name front : List ℕ)
    → Appends (option_and_then (λ (f : Files). get f name) (with_file name [] fs)) (option_and_then (λ (f : Files). get f name) now) front
    → option_map (others_of name) now ≡ option_map (others_of name) (with_file name [] fs) → now ≡ with_file name front fs
gained_at None None name front a b = refl
gained_at None (Some g) name front a b = absurd cc
gained_at (Some f) None name front a b = absurd cc
gained_at (Some f) (Some g) name front a b =
    let own : Appends (Some []) (get g name) front = subst (λ (o : Option (List ℕ)). Appends o (get g name) front) (get_own f name []) a in
    ap some_files (sole g name front f (get g name) refl (second_of (others_of name g) (others_of name (insert f name [])) b) own)

-- the file is now a text that was put into it
pub gained_file : (loan : GName) (first old new : Store) (name front : List ℕ) → old.files ≡ with_file name [] first.files → Appends (file_tape loan old name).taken (file_tape loan new name).taken front
    → (file_tape loan new name).beside ≡ (file_tape loan old name).beside → new.files ≡ with_file name front first.files
gained_file loan first old new name front e a b = gained_at first.files new.files name front
    (subst (λ (o : Option Files). Appends (option_and_then (λ (f : Files). get f name) o) (option_and_then (λ (f : Files). get f name) new.files) front) e a)
    (ap (λ (side : Side). side.others) b ∙ ap (option_map (others_of name)) e)

pub stored : {T U E E' : Type 0} (loan : GName) (first old new : Store) (name text : List ℕ) (x : U) (y : T) → Starts {E = E'} first old (Ok x) name → Puts {T = T} {E = E} (file_tape loan old name) (file_tape loan new name) (Ok y) text
    → Stores {T = T} {E = E} first new (Ok y) name text
stored loan first old new name text x y s p = record {
  changed = gained_file loan first old new name text s.changed p.gained p.beside;
  cause = record { later = omega (arith, s.cause.later, p.cause.later); failed = tt };
}

pub not_stored : {T U V E E' E'' : Type 0} (loan : GName) (first old new : Store) (name text : List ℕ) (x : U) (e : E) (e' : E') → Starts {E = E''} first old (Ok x) name → Puts {T = V} {E = E} (file_tape loan old name) (file_tape loan new name) (Err e) text
    → Stores {T = T} first new (Err e') name text
not_stored loan first old new name text x e e' s p = record {
  changed = inr (p.gained.0, p.gained.1, p.gained.2, gained_file loan first old new name p.gained.0 s.changed p.gained.3 p.beside);
  cause = record { later = omega (arith, s.cause.later, p.cause.later); failed = omega (arith, s.cause.later, p.cause.failed) };
}

started_cut : (first old : Store) (name text : List ℕ) → (old.files ≡ first.files) ⊎ (old.files ≡ with_file name [] first.files) → FilesCut name text first.files old.files
started_cut first old name text (inl e) = inl e
started_cut first old name text (inr e) = inr ([], text, refl, e)

pub not_started : {T U E E' : Type 0} (first old : Store) (name text : List ℕ) (e : E) (e' : E') → Starts {T = U} first old (Err e) name → Stores {T = T} first old (Err e') name text
not_started first old name text e e' s = record { changed = started_cut first old name text s.changed; cause = record { later = s.cause.later; failed = s.cause.failed } }

-- a file that was started is there
pub has_started : {T E : Type 0} (first old : Store) (name : List ℕ) (x : T) → Starts {E = E} first old (Ok x) name → Has name old.files
has_started first old name x s = subst (Has name) (sym s.changed) (there first.files)
  where
    there : (fs : Option Files) → Has name (with_file name [] fs)
    there None = tt
    there (Some f) = get_own f name [] ∙ ap some_bytes (sym (ap (λ (o : Option (List ℕ)). unwrap_or o []) (get_own f name [])))

-- ---- the same, where a call of the sink tells that it is the same file

abbrev pair_of_loan : GName → List ℕ → GName × List ℕ
pair_of_loan loan name = (loan, name)

same_head : {A : Type 0} (x y : A) (xs ys : List A) → x ∷ xs ≡ y ∷ ys → x ≡ y
same_head x y xs ys e = cc

same_side : (loan loan' : GName) (name name' : List ℕ) (others others' : Option (List ℕ × Files)) → side_of loan' name' others' ≡ side_of loan name others → (loan' ≡ loan) × (name' ≡ name)
same_side loan loan' name name' others others' e =
    let p : pair_of_loan loan' name' ≡ pair_of_loan loan name = same_head _ _ _ _ (ap (λ (s : Side). s.held) e) in
    (ap (λ (q : GName × List ℕ). q.0) p, ap (λ (q : GName × List ℕ). q.1) p)

pub same_loan : {T E : Type 0} (loan loan' : GName) (old new : Store) (name name' text : List ℕ) (r : Result T E) → Puts (file_tape loan old name) (file_tape loan' new name') r text → (loan' ≡ loan) × (name' ≡ name)
same_loan loan loan' old new name name' text r p = same_side loan loan' name name' _ _ p.beside

pub stored_any : {T U E E' : Type 0} (loan loan' : GName) (first old new : Store) (name name' text : List ℕ) (x : U) (r : Result T E) → Starts {E = E'} first old (Ok x) name → Puts (file_tape loan old name) (file_tape loan' new name') r text
    → Stores first new r name text
stored_any {T = T} {E = E} loan loan' first old new name name' text x (Ok y) s p =
    let e = same_loan loan loan' old new name name' text (Ok y) p in
    stored loan first old new name text x y s (subst (λ (l : GName). Puts {T = T} {E = E} (file_tape loan old name) (file_tape l new name) (Ok y) text) e.0 (subst (λ (n : List ℕ). Puts {T = T} {E = E} (file_tape loan old name) (file_tape loan' new n) (Ok y) text) e.1 p))
stored_any {T = T} {E = E} loan loan' first old new name name' text x (Err y) s p =
    let e = same_loan loan loan' old new name name' text (Err y) p in
    not_stored loan first old new name text x y y s (subst (λ (l : GName). Puts {T = T} {E = E} (file_tape loan old name) (file_tape l new name) (Err y) text) e.0 (subst (λ (n : List ℕ). Puts {T = T} {E = E} (file_tape loan old name) (file_tape loan' new n) (Err y) text) e.1 p))
