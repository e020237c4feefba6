-- An append that fails takes a front of its piece.
use Rattle.std.proofs.Common.{◌≡◌, ◌⊎◌, inl, inr, ℕ, Bool, true, false, cond, List, ◌++◌, take, drop, Some, sym, ap, min, ◌-◌, length}
use Rattle.std.specs.Prelude.{◌&&◌, nat_lt}
use Rattle.std.proofs.lemmas.List.{take-append-drop}
use Rattle.iso_io.specs.Places.{Places, placed, content_in, has_place, fitting, placed_behind}
use Rattle.iso_io.specs.Shelves.{with_appended}

cut_at : (old : Places) (name bytes front back : List ℕ) (p : Places) (b : Bool) → bytes ≡ front ++ back → p ≡ cond b (placed old name (content_in old name ++ front)) old
    → ((Some p.files ≡ Some old.files) ⊎ ((front : List ℕ) × (back : List ℕ) × (bytes ≡ front ++ back) × (Some p.files ≡ with_appended name front (Some old.files))))
cut_at old name bytes front back p true e h = inr (front, back, e, ap (λ (q : Places). Some q.files) h)
cut_at old name bytes front back p false e h = inl (ap (λ (q : Places). Some q.files) h)

-- the files are as before, or a front of the bytes was put behind this one
pub front_is_cut : (old : Places) (name bytes : List ℕ) (most : ℕ) (p : Places) → p ≡ placed_behind old name (fitting old name most bytes)
    → ((Some p.files ≡ Some old.files) ⊎ ((front : List ℕ) × (back : List ℕ) × (bytes ≡ front ++ back) × (Some p.files ≡ with_appended name front (Some old.files))))
front_is_cut old name bytes most p e =
    let n : ℕ = min most (old.room - length (content_in old name)) in
    cut_at old name bytes (take n bytes) (drop n bytes) p (has_place old name && nat_lt 0 (length (take n bytes))) (sym (take-append-drop n bytes)) e
