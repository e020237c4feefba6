-- Heads in pieces are the heads.
use Rattle.std.proofs.Common.{◌≡◌, ℕ, List, [], ◌∷◌, ◌++◌, sym, ap, ◌∙◌, append_assoc, decimal}
use Rattle.std.specs.Prelude.{codes}
use Rattle.mesh_text.specs.Lines.{points_head, points_head_bytes, ply_head, ply_head_bytes}

-- a number at the end of a line, before two texts
two_tails : (d x e : List ℕ) → ((d ++ 10 ∷ []) ++ x) ++ e ≡ d ++ 10 ∷ (x ++ e)
two_tails d x e = append_assoc (d ++ 10 ∷ []) x e ∙ append_assoc d (10 ∷ []) (x ++ e)

pub points_head_is : (vertices : ℕ) → points_head_bytes vertices ≡ points_head vertices
unfolding points_head points_head_bytes
points_head_is vertices =
    ap (λ (l : List ℕ). codes "ply\nformat ascii 1.0\nelement vertex " ++ l)
    (sym (two_tails (decimal vertices) (codes "property float x\nproperty float y\nproperty float z\n") (codes "end_header\n")))

pub ply_head_is : (vertices faces : ℕ) → ply_head_bytes vertices faces ≡ ply_head vertices faces
unfolding ply_head ply_head_bytes
ply_head_is vertices faces =
    let end : List ℕ = codes "end_header\n" in
    let list : List ℕ = codes "property list uchar int vertex_indices\n" in
    let faces_end : List ℕ = ((decimal faces ++ 10 ∷ []) ++ list) ++ end in
    ap (λ (l : List ℕ). codes "ply\nformat ascii 1.0\nelement vertex " ++ (decimal vertices ++ (codes "\nproperty float x\nproperty float y\nproperty float z\nelement face " ++ l)))
    (sym (two_tails (decimal faces) list end))
    ∙ ap (λ (l : List ℕ). codes "ply\nformat ascii 1.0\nelement vertex " ++ l)
    (sym (two_tails (decimal vertices) (codes "property float x\nproperty float y\nproperty float z\n") (codes "element face " ++ faces_end)))

-- two texts with their numbers, and the end
joined : (t0 t1 t2 t3 a d b e c : List ℕ) → t0 ≡ [] → t1 ≡ t0 ++ (a ++ d) → t2 ≡ t1 ++ (b ++ e) → t3 ≡ t2 ++ c → t3 ≡ a ++ (d ++ (b ++ (e ++ c)))
joined t0 t1 t2 t3 a d b e c e0 e1 e2 e3 =
    let first : t1 ≡ a ++ d = e1 ∙ ap (λ (l : List ℕ). l ++ (a ++ d)) e0 in
    e3 ∙ ap (λ (l : List ℕ). l ++ c) (e2 ∙ ap (λ (l : List ℕ). l ++ (b ++ e)) first)
    ∙ simp append_assoc

pub head_joined : (t0 t1 t2 t3 : List ℕ) (vertices faces : ℕ) → t0 ≡ [] → t1 ≡ t0 ++ (codes "ply\nformat ascii 1.0\nelement vertex " ++ decimal vertices)
    → t2 ≡ t1 ++ (codes "\nproperty float x\nproperty float y\nproperty float z\nelement face " ++ decimal faces)
    → t3 ≡ t2 ++ codes "\nproperty list uchar int vertex_indices\nend_header\n" → t3 ≡ ply_head_bytes vertices faces
unfolding ply_head_bytes
head_joined t0 t1 t2 t3 vertices faces e0 e1 e2 e3 =
    joined t0 t1 t2 t3 (codes "ply\nformat ascii 1.0\nelement vertex ") (decimal vertices)
    (codes "\nproperty float x\nproperty float y\nproperty float z\nelement face ") (decimal faces)
    (codes "\nproperty list uchar int vertex_indices\nend_header\n") e0 e1 e2 e3
