use Rattle.std.proofs.Common.{◌≡◌, ℕ, ◌+◌, ◌*◌, ℤ, pos, true, sym, ap, ◌∙◌, to_z, of_z, w64}
use Rattle.iso_base.specs.declared.edge.EdgeName.{EdgeName}
use Rattle.iso_base.specs.declared.decimal.Thousandth.{Thousandth}
use Rattle.iso_defs.specs.Grid.{edge_lower, edge_upper, is_above, differ}
use Rattle.iso_defs.specs.Place.{place, edge_coordinate}
use Rattle.plane_contour.specs.Planes.{field_of, name_at}
use Rattle.plane_contour.specs.Texts.{Point}
use Rattle.plane_contour.proofs.Planes.{exact}
use Rattle.plane_contour.proofs.Walks.{active_differs, coordinates}
use Rattle.plane_contour.proofs.plane.Plane.point.Goals as goal
use Rattle.plane_contour.proofs.plane.Plane.point.Goals.{then-edge-eq0, else-edge-eq0}

pub place-along-requires-clause-apart : goal.place-along-requires-clause-apart
place-along-requires-clause-apart c =
    let n : ℕ = name_at c.args.self.now.sizes c.args.self.now.k c.args.edge in
    let low : to_z w64 (of_z w64 c.ends-lower.result.0) ≡ field_of c.args.self.now (edge_lower n) = exact c.ends-lower.result.0 c.ends-lower.ensures.low_bound ∙ c.ends-lower.ensures.lower in
    let high : to_z w64 (of_z w64 c.ends-lower.result.1) ≡ field_of c.args.self.now (edge_upper c.args.self.now.sizes n) = exact c.ends-lower.result.1 c.ends-lower.ensures.high_bound ∙ c.ends-lower.ensures.upper in
    let e : differ (is_above (to_z w64 (of_z w64 c.ends-lower.result.0))) (is_above (to_z w64 (of_z w64 c.ends-lower.result.1))) ≡ true
    = ap (λ z. differ (is_above z) (is_above (to_z w64 (of_z w64 c.ends-lower.result.1)))) low
    ∙ (ap (λ z. differ (is_above (field_of c.args.self.now (edge_lower n))) (is_above z)) high ∙ active_differs c.args.self.now n c.requires.active) in
    e

pub returns-clause-value : goal.returns-clause-value
returns-clause-value c =
    let n : ℕ = name_at c.args.self.now.sizes c.args.self.now.k c.args.edge in
    let s : ℕ → ℤ = field_of c.args.self.now in
    let at : ℕ = place (s (edge_lower n)) (s (edge_upper c.args.self.now.sizes n)) in
    let low : to_z w64 (of_z w64 c.ends-lower.result.0) ≡ s (edge_lower n) = exact c.ends-lower.result.0 c.ends-lower.ensures.low_bound ∙ c.ends-lower.ensures.lower in
    let high : to_z w64 (of_z w64 c.ends-lower.result.1) ≡ s (edge_upper c.args.self.now.sizes n) = exact c.ends-lower.result.1 c.ends-lower.ensures.high_bound ∙ c.ends-lower.ensures.upper in
    let along : c.place-along.result ≡ at
    = c.place-along.ensures.value ∙ (ap (λ z. place z (to_z w64 (of_z w64 c.ends-lower.result.1))) low ∙ ap (place (s (edge_lower n))) high) in
    let w : (edge_coordinate c.args.self.now.sizes s n 0 ≡ 1000 * c.args.edge.x + c.if-edge-eq0.x.0) × (edge_coordinate c.args.self.now.sizes s n 1 ≡ 1000 * c.args.edge.y + c.if-edge-eq0.x.1)
    = coordinates c.args.self.now c.args.edge c.requires.plane c.requires.edge c.if-edge-eq0.x.0 c.if-edge-eq0.x.1
    (λ z. elim c.if-edge-eq0.branch [
      | then-edge-eq0 w ↦ (ap (λ (p : ℕ × ℕ). p.0) w.x-is ∙ along, ap (λ (p : ℕ × ℕ). p.1) w.x-is)
      | else-edge-eq0 w ↦ absurd (w.if-edge-eq0.false z)
    ])
    (λ z. elim c.if-edge-eq0.branch [
      | then-edge-eq0 w ↦ absurd (z w.if-edge-eq0.true)
      | else-edge-eq0 w ↦ (ap (λ (p : ℕ × ℕ). p.0) w.x-is, ap (λ (p : ℕ × ℕ). p.1) w.x-is ∙ along)
    ]) in
    let name : c.name.result ≡ record { 0 = n } = ap (λ m. let r : EdgeName = record { 0 = m } in r) c.name.ensures in
    let x : c.thousandths.result ≡ record { 0 = pos (edge_coordinate c.args.self.now.sizes s n 0) } = c.thousandths.ensures.value ∙ ap (λ m. let r : Thousandth = record { 0 = pos m } in r) (sym w.0) in
    let y : c.thousandths-2.result ≡ record { 0 = pos (edge_coordinate c.args.self.now.sizes s n 1) } = c.thousandths-2.ensures.value ∙ ap (λ m. let r : Thousandth = record { 0 = pos m } in r) (sym w.1) in
    ap (λ z. let p : Point = (z, c.thousandths.result, c.thousandths-2.result) in p) name
    ∙ (ap (λ z. let p : Point = (record { 0 = n }, z, c.thousandths-2.result) in p) x
    ∙ ap (λ z. let p : Point = (record { 0 = n }, record { 0 = pos (edge_coordinate c.args.self.now.sizes s n 0) }, z) in p) y)
