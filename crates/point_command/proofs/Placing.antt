-- Lines of vertices on the edges of a row, one after another.
use Rattle.std.proofs.Common.{◌≡◌, ℕ, ◌+◌, ◌<◌, ◌≤◌, List, ◌∷◌, ◌++◌, length, drop, get_or, Ok, Err, ap, subst, ◌∙◌, arith}
use Rattle.std.proofs.lemmas.List.{drop_more, drop_all}
use Rattle.byte_streams.specs.Seen.{Tape, Stages}
use Rattle.byte_streams.proofs.Staging.{HasStaged, staged_front, staged_more, staged_whole}
use Rattle.mesh_lines.specs.RowLines.{RowPlace}
use Rattle.point_command.specs.Edges.{row_line, row_lines}

module _ (row : RowPlace) (edges places : List ℕ) (same : length places ≡ length edges) where
  abbrev rest_of : ℕ → List ℕ
  rest_of k = row_lines row (drop k edges) (drop k places)

  abbrev line_of : ℕ → List ℕ
  line_of k = row_line row (get_or edges k 0) (get_or places k 0)

  next_lines : (k : ℕ) → k < length edges → rest_of k ≡ line_of k ++ rest_of (k + 1)
  next_lines k low =
      let l : k < length places = omega arith in
      ap (λ (n : List ℕ). row_lines row n (drop k places)) (drop_more edges k 0 low)
      ∙ ap (λ (d : List ℕ). row_lines row (get_or edges k 0 ∷ drop (k + 1) edges) d) (drop_more places k 0 l)

  pub edge_staged : {T E : Type 0} (k : ℕ) (old mid new : Tape) (whole waiting after : List ℕ) (x : T) → k < length edges
      → HasStaged old mid whole waiting (rest_of k) → Stages {E = E} mid new waiting after (Ok x) (line_of k) → HasStaged old new whole after (rest_of (k + 1))
  edge_staged k old mid new whole waiting after x low h s =
      staged_more old mid new whole waiting after (line_of k) (rest_of (k + 1)) x (subst (λ (l : List ℕ). HasStaged old mid whole waiting l) (next_lines k low) h) s

  pub edge_failed : {T T' E E' : Type 0} (k : ℕ) (old mid new : Tape) (before text waiting after after' : List ℕ) (e : E) (e' : E') → k < length edges
      → HasStaged old mid (before ++ text) waiting (rest_of k) → Stages {T = T'} mid new waiting after (Err e) (line_of k) → Stages {T = T} old new before after' (Err e') text
  edge_failed k old mid new before text waiting after after' e e' low h s =
      staged_front old mid new before text waiting after after' (line_of k) (rest_of (k + 1)) e e'
      (subst (λ (l : List ℕ). HasStaged old mid (before ++ text) waiting l) (next_lines k low) h) s

  pub edges_staged : {T E : Type 0} (k : ℕ) (old new : Tape) (waiting after text : List ℕ) (x : T) → length edges ≤ k
      → HasStaged old new (waiting ++ text) after (rest_of k) → Stages {E = E} old new waiting after (Ok x) text
  edges_staged k old new waiting after text x le h =
      staged_whole old new waiting after text x
      (subst (λ (l : List ℕ). HasStaged old new (waiting ++ text) after l) (ap (λ (n : List ℕ). row_lines row n (drop k places)) (drop_all k edges le)) h)
