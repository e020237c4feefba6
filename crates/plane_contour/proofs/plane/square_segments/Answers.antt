use Rattle.std.proofs.Common.{◌≡◌, Bool, true, false, ◌&&◌, List, [], ◌∷◌, sym, ap, ◌∙◌}
use Rattle.iso_defs.specs.Bricks.{bits_of}
use Rattle.iso_defs.specs.Face.{is_ambiguous, is_joined, segments}
use Rattle.iso_defs.specs.Lists.{has_pair}
use Rattle.iso_defs.specs.Grid.{is_above}
use Rattle.plane_contour.proofs.Planes.{exact_above, exact_joined, four_same}
use Rattle.plane_contour.proofs.plane.square_segments.Goals as goal
use Rattle.plane_contour.proofs.plane.square_segments.Goals.{then-is_ambiguous, else-is_ambiguous}

pub returns : goal.returns
returns c =
    let signs : List Bool = is_above c.args.a ∷ is_above c.args.b ∷ is_above c.args.c ∷ is_above c.args.d ∷ [] in
    let joined : Bool = is_joined c.args.a c.args.b c.args.c c.args.d in
    let same : (c.is_above-first.result ∷ c.is_above-second.result ∷ c.is_above-third.result ∷ c.is_above-fourth.result ∷ []) ≡ signs
    = four_same
    (c.is_above-first.ensures ∙ exact_above c.args.a c.requires.a)
    (c.is_above-second.ensures ∙ exact_above c.args.b c.requires.b)
    (c.is_above-third.ensures ∙ exact_above c.args.c c.requires.c)
    (c.is_above-fourth.ensures ∙ exact_above c.args.d c.requires.d) in
    let test : c.is_ambiguous.result ≡ is_ambiguous signs = c.is_ambiguous.ensures ∙ ap is_ambiguous same in
    let bits : bits_of 4 c.sign_number.result ≡ signs = c.sign_number.ensures.bits ∙ same in
    let whole : c.if-is_ambiguous.joined ≡ (is_ambiguous signs && joined) = elim c.if-is_ambiguous.branch [
      | then-is_ambiguous w ↦ (
          let r : w.is_joined-joined.result ≡ joined
          = w.is_joined-joined.ensures ∙ exact_joined c.args.a c.args.b c.args.c c.args.d c.requires.a c.requires.b c.requires.c c.requires.d in
          let t : true ≡ is_ambiguous signs = sym w.if-is_ambiguous.true ∙ test in
          let u : (true && joined) ≡ (is_ambiguous signs && joined) = ap (λ b. b && joined) t in
          w.joined-is ∙ (r ∙ u))
      | else-is_ambiguous w ↦ (
          let t : false ≡ is_ambiguous signs = sym w.if-is_ambiguous.false ∙ test in
          let u : (false && joined) ≡ (is_ambiguous signs && joined) = ap (λ b. b && joined) t in
          w.joined-is ∙ (w.if-is_ambiguous.false ∙ u))
    ] in
    λ i k hi hk. c.face_segments.ensures.segments i k hi hk
    ∙ (ap (λ bs. has_pair (segments bs c.if-is_ambiguous.joined) i k) bits ∙ ap (λ b. has_pair (segments signs b) i k) whole)
