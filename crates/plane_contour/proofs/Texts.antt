-- Texts of contour lines, in pieces.
use Rattle.std.proofs.Common.{◌≡◌, ℕ, zero, suc, ◌+◌, ◌<◌, Bool, List, [], ◌∷◌, ◌++◌, length, drop, get_or, sym, ap, ◌∙◌, subst, arith, All}
use Rattle.std.proofs.lemmas.List.{at_drop_more, drop_more}
use Rattle.std.proofs.lemmas.List.Elements.{All-append}
use Rattle.byte_streams.specs.Seen.{Tape}
use Rattle.byte_streams.proofs.Staging.{HasStaged}
use Rattle.plane_contour.specs.Texts.{DrawnLine, IsNear, Point, contours_text, line_text, point_line, points_text}

one_near : (x : Point) → IsNear x → All IsNear (x ∷ [])
one_near x h zero d l = h
one_near x h (suc k) d l = absurd (omega arith)

-- one point more
pub near_more : (old new : List Point) (x : Point) → new ≡ old ++ x ∷ [] → All IsNear old → IsNear x → All IsNear new
near_more old new x e h k = subst (All IsNear) (sym e) (All-append IsNear old (x ∷ []) h (one_near x k))

-- so far the points before the next one were gathered
pub next_point : (padded : Bool) (old mid : Tape) (whole waiting text : List ℕ) (points : List Point) (i : ℕ) (d : Point) → i < length points → text ≡ point_line padded (get_or points i d)
    → HasStaged old mid whole waiting (points_text padded (drop i points)) → HasStaged old mid whole waiting (text ++ points_text padded (drop (i + 1) points))
next_point padded old mid whole waiting text points i d lt e h =
    subst (HasStaged old mid whole waiting) (at_drop_more (points_text padded) points i d lt ∙ ap (λ (l : List ℕ). l ++ points_text padded (drop (i + 1) points)) (sym e)) h

-- the text of the lines from one of them on
pub lines_from : (padded : Bool) (ls : List DrawnLine) (i : ℕ) (l : DrawnLine) → i < length ls → l ≡ get_or ls i l
    → contours_text padded (drop i ls) ≡ line_text padded l ++ contours_text padded (drop (i + 1) ls)
lines_from padded ls i l h e = ap (contours_text padded) (drop_more ls i l h ∙ ap (λ z. z ∷ drop (i + 1) ls) (sym e))
