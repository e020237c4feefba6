-- A set that holds the names of elements, and one element more.
use Rattle.std.proofs.Common.{◌≡◌, ℕ, Bool, true, cond, List, [], ◌∷◌, ◌++◌, bytes_eq, Bor, nat_cmp, refl, sym, ap, ◌∙◌}
use Rattle.std.specs.BTreeSet.{BTreeSet, contains_by, Updates}
use Rattle.std.specs.Cmp.Lexicographic.{slice_cmp}
use Rattle.std.proofs.lemmas.Map.Text.{is_eq-slice_cmp}
use Rattle.text_lines.proofs.Places.{decide}
use Rattle.mesh_read.specs.declared.elements.Element.{Element}
use Rattle.mesh_read.specs.Ply.{has_name}
use Rattle.mesh_read.specs.SeenElements.{seen_elements, HoldsNames}

has_more : (q name : List ℕ) (n : ℕ) (es : List (List ℕ × ℕ)) → has_name q (es ++ (name, n) ∷ []) ≡ cond (bytes_eq name q) true (has_name q es)
has_more q name n [] = decide (bytes_eq name q) (λ t. rw t refl) (λ f. rw f refl)
has_more q name n (e ∷ es) = decide (bytes_eq e.0 q)
    (λ t. rw t (decide (bytes_eq name q) (λ u. rw u refl) (λ f. rw f refl)))
    (λ f. rw f (has_more q name n es))

seen_more : (es : List Element) (e : Element) → seen_elements (es ++ e ∷ []) ≡ seen_elements es ++ (e.name.now, e.count) ∷ []
seen_more [] e = refl
seen_more (x ∷ es) e = ap (λ (l : List (List ℕ × ℕ)). (x.name.now, x.count) ∷ l) (seen_more es e)

pub more_names : (e : Element) (s n : BTreeSet (Bor (List ℕ))) (before es es' : List Element) → Updates (λ x y. slice_cmp nat_cmp x.now y.now) s n e.name true → HoldsNames s (seen_elements before) → es ≡ before → es' ≡ es ++ e ∷ [] → HoldsNames n (seen_elements es')
more_names e s n before es es' updates holds same more = λ q.
    let at : Bor (List ℕ) = record { ref_ptr = (0, 0); now = q } in
    let here = updates.0 at in
    let test = is_eq-slice_cmp e.name.now q in
    here ∙ ap (λ (b : Bool). cond b true (contains_by (λ (k : Bor (List ℕ)). slice_cmp nat_cmp q k.now) s)) test
    ∙ ap (λ (b : Bool). cond (bytes_eq e.name.now q) true b) (holds q)
    ∙ sym (has_more q e.name.now e.count (seen_elements before))
    ∙ ap (has_name q) (sym (seen_more before e))
    ∙ ap (λ (l : List Element). has_name q (seen_elements (l ++ e ∷ []))) (sym same)
    ∙ ap (λ (l : List Element). has_name q (seen_elements l)) (sym more)
