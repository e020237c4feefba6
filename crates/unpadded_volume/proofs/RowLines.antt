-- Rows off the pad's layer in print.
use Rattle.std.proofs.Common.{◌≡◌, ℕ, ◌+◌, ◌-◌, ◌*◌, ◌<◌, ◌≤◌, pos, List, [], ◌++◌, length, get_or, take, drop, Ok, Err, sym, ap, subst, ◌∙◌, arith, ℤ}
use Rattle.std.proofs.lemmas.List.{drop_all, get_or-take, get_or-drop, length-take-le, length-drop}
use Rattle.std.proofs.Math.Nat.{mul-le-mul_left}
use Rattle.std.proofs.lemmas.List.FromFn.{length-map-range_with_len}
use Rattle.iso_defs.specs.Grid.{Grid}
use Rattle.iso_base.specs.Volume.{Volume, inner_grid, sample}
use Rattle.byte_streams.specs.Seen.{Tape, Puts, Stages}
use Rattle.byte_streams.proofs.Putting.{puts_both}
use Rattle.byte_streams.proofs.Staging.{stages_unwritten}
use Rattle.nrrd.specs.Writing.{row_of, rows_of}
use Rattle.nrrd.proofs.RowsAgain.{row_at}
use Rattle.unpadded_volume.specs.Held.{AreHeld}
use Rattle.unpadded_volume.specs.Unpadded.{inner_samples, inner_voxels}
use Rattle.unpadded_volume.specs.declared.text_file.Held.{Held}
use Rattle.unpadded_volume.proofs.InnerSamples.{row_fits, row_taken}
use Rattle.unpadded_volume.proofs.Pieces.{row_end}

length-rows : (v : Volume) → length (rows_of (inner_voxels v)) ≡ (inner_grid v).ny * (inner_grid v).nz
length-rows v = length-map-range_with_len (row_of (inner_voxels v)) 0 ((inner_grid v).ny * (inner_grid v).nz)

-- a row by its number is among the rows
pub row_among : (v : Volume) (g : Grid) (number : ℕ) → g ≡ inner_grid v → number < g.ny * g.nz → number < length (rows_of (inner_voxels v))
row_among v g number same low = omega (arith, length-rows v, low, ap (λ (g : Grid). g.ny * g.nz) same)

pub row_printed : (v : Volume) (g : Grid) (number : ℕ) (row : List ℤ) → g ≡ inner_grid v → number < g.ny * g.nz → row ≡ take g.nx (drop (number * g.nx) (inner_samples v))
    → row ≡ get_or (rows_of (inner_voxels v)) number []
row_printed v g number row same low is =
    is ∙ ap (λ (g : Grid). take g.nx (drop (number * g.nx) (inner_samples v))) same ∙ sym (row_at (inner_voxels v) number [] (row_among v g number same low))

-- past the last row
pub no_rows : (v : Volume) (g : Grid) (number : ℕ) → g ≡ inner_grid v → g.ny * g.nz ≤ number → drop number (rows_of (inner_voxels v)) ≡ []
no_rows v g number same past = drop_all number (rows_of (inner_voxels v)) (omega (arith, length-rows v, past, ap (λ (g : Grid). g.ny * g.nz) same))

-- rows were gathered, and then not all that waits was written
pub rows_unwritten : {T U V E E' : Type 0} (t0 t1 t2 : Tape) (x : U) (e : E) (e' : E') (w0 w1 bytes text : List ℕ) → w0 ≡ [] → bytes ≡ w1
    → Stages {E = E} t0 t1 w0 w1 (Ok x) text → Puts {T = V} t1 t2 (Err e) bytes → Puts {T = T} t0 t2 (Err e') text
rows_unwritten {V = V} {E = E} t0 t1 t2 x e e' w0 w1 bytes text none same s p =
    stages_unwritten t0 t1 t2 x e e' w1 text (subst (λ w. Stages {E = E} t0 t1 w w1 (Ok x) text) none s) (subst (λ w. Puts {T = V} t1 t2 (Err e) w) same p)

-- the second of two texts was not put
pub both_failed : {T U V E E' : Type 0} (t0 t1 t2 : Tape) (x : U) (e : E) (e' : E') (a b : List ℕ) → Puts {E = E} t0 t1 (Ok x) a → Puts {T = V} t1 t2 (Err e) b → Puts {T = T} t0 t2 (Err e') (a ++ b)
both_failed {V = V} t0 t1 t2 x e e' a b p q =
    let h = puts_both {T = V} t0 t1 t2 x (Err e) a b p q in
    record { gained = h.gained; beside = h.beside; cause = record { later = h.cause.later; failed = h.cause.failed } }

-- two texts were put
pub both_put : {T U V E : Type 0} (t0 t1 t2 : Tape) (x : U) (y : V) (z : T) (a b : List ℕ) → Puts {E = E} t0 t1 (Ok x) a → Puts {E = E} t1 t2 (Ok y) b → Puts {E = E} t0 t2 (Ok z) (a ++ b)
both_put {E = E} t0 t1 t2 x y z a b p q =
    let h = puts_both {E = E} t0 t1 t2 x (Ok y) a b p q in
    record { gained = h.gained; beside = h.beside; cause = record { later = h.cause.later; failed = tt } }

-- a row of a block of nine rows at most fits
pub held_fits : (first end number width : ℕ) → end ≤ first + 9 → first ≤ number → number < end → width ≤ 1026 → (number - first) * width + width ≤ 9234
held_fits first end number width few from low most =
    let l : width * (number - first + 1) ≤ width * 9 = mul-le-mul_left width (omega arith) in
    omega arith

-- a row that a block holds
pub held_taken : (v : Volume) (g : Grid) (held : Held) (block : List ℤ) (number from n : ℕ) → g ≡ inner_grid v → number < g.ny * g.nz → AreHeld v held block → held.first ≤ number → number < held.end
    → from ≡ (number - held.first) * g.nx → n ≡ g.nx → from + g.nx ≤ length block → take n (drop from block) ≡ take g.nx (drop (number * g.nx) (inner_samples v))
held_taken v g held block number from n same low are first_low end_low ef en fits =
    row_taken (inner_samples v) (take n (drop from block)) (number * g.nx) g.nx (length-take-le n (drop from block) (omega (arith, length-drop from block)) ∙ en) (row_fits v g number same low) (λ i lt.
    get_or-take n (drop from block) i (pos 0) (omega arith)
    ∙ (get_or-drop from block i (pos 0)
    ∙ (are.samples (from + i) (there i lt) ∙ ap (sample (inner_samples v)) (begun (number - held.first) i (omega arith)))))
  where
    width : g.nx ≡ (inner_grid v).nx
    width = ap (λ (g : Grid). g.nx) same

    there : (i : ℕ) → i < g.nx → from + i < (held.end - held.first) * (inner_grid v).nx
    there i lt = subst (λ w. from + i < (held.end - held.first) * w) width (omega (arith, row_end g.nx (number - held.first) (held.end - held.first) (omega arith), ef, lt))

    begun : (d i : ℕ) → held.first + d ≡ number → held.first * (inner_grid v).nx + (from + i) ≡ number * g.nx + i
    begun d i e =
        subst (λ w. held.first * w + (from + i) ≡ number * g.nx + i) width
        (subst (λ m. held.first * g.nx + (from + i) ≡ m * g.nx + i) e (omega (arith, ef, ap (λ k. k * g.nx) (back d e))))
      where
        back : (d : ℕ) → held.first + d ≡ number → number - held.first ≡ d
        back d e = omega arith
