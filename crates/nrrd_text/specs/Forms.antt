-- How samples are printed in a line, each by itself.
use Rattle.std.specs.Prelude.{◌≡◌, ℕ, ℤ, List, flat_map}
use Rattle.iso_base.specs.Volume.{IsOfKind}
use Rattle.iso_base.specs.declared.kind.SampleKind.{SampleKind}
use Rattle.iso_base.specs.declared.kind.SampleKind.TheVariants.{U8}
use Rattle.nrrd_text.specs.Writing.{next_number, sample_digits}
use Rattle.nrrd_text.specs.declared.forms.Form.{Form}
use Rattle.nrrd_text.specs.declared.forms.Form.TheVariants.{Numbers, Bytes, Digits}

-- a sample in print
abbrev pub printed : Form → ℤ → List ℕ
printed Numbers v = next_number v
printed Bytes v = next_number v
printed (Digits kind) v = sample_digits kind v

-- the form prints such a sample
abbrev pub IsOfForm : Form → ℤ → Type 0
IsOfForm Numbers v = Unit
IsOfForm Bytes v = IsOfKind U8 v
IsOfForm (Digits kind) v = IsOfKind kind v

-- the form prints the samples of a kind as numbers
pub record PrintsNumbers (kind : SampleKind) (form : Form) : Type 0 where
  pub fits : (v : ℤ) → IsOfKind kind v → IsOfForm form v
  pub text : (values : List ℤ) → flat_map (printed form) values ≡ flat_map next_number values
