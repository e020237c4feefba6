-- A grid is thick where no axis is thin.
use Rattle.std.proofs.Common.{◌≡◌, ltb, inl, inr, refl, sym, ◌∙◌}
use Rattle.std.specs.Prelude.{None, Some}
use Rattle.std.proofs.lemmas.Bool.{cases_Bool, ltb-false}
use Rattle.iso_defs.specs.Grid.{Grid, IsThick}
use Rattle.window_laws.specs.Windows.{thin_axis}

pub thick_of : (g : Grid) → thin_axis g ≡ None → IsThick g
thick_of g none =
    elim (cases_Bool (ltb g.nx 2)) [
      | inl x ↦ absurd (let e : thin_axis g ≡ Some 0 = rw x refl in let c : None ≡ Some 0 = sym none ∙ e in cc)
      | inr x ↦ elim (cases_Bool (ltb g.ny 2)) [
        | inl y ↦ absurd (let e : thin_axis g ≡ Some 1 = rw (x, y) refl in let c : None ≡ Some 1 = sym none ∙ e in cc)
        | inr y ↦ elim (cases_Bool (ltb g.nz 2)) [
          | inl z ↦ absurd (let e : thin_axis g ≡ Some 2 = rw (x, y, z) refl in let c : None ≡ Some 2 = sym none ∙ e in cc)
          | inr z ↦ record { x = ltb-false _ _ x; y = ltb-false _ _ y; z = ltb-false _ _ z }
        ]
      ]
    ]
