-- The forms of assertions, by their sort.
use Rattle.std.specs.Prelude.{◌≡◌, ℕ, List, [], Result}
use Rattle.script_model.specs.Declared.{Bound}
use Rattle.poly_graph.specs.Form.{Form, form_map, no_form}
use Rattle.script_forms.specs.Terms.{Comparison}
use Rattle.script_forms.specs.Atoms.{atom_of}
use Rattle.script_forms.specs.Work.{form_events}
use Rattle.term_build.specs.Built.{BuilderModel, stand_of}
use Rattle.term_build.specs.Settled.{Extends, FormSettled}
use Rattle.term_build.specs.Sketch.{SketchNode, IsFormOf}
use Rattle.term_build.specs.Steps.{Emits}
use Rattle.term_build.specs.Pairs.{DrawsForm}
use Rattle.term_build.specs.declared.stop.Stop.{Stop}
use Rattle.value_build.specs.Making.{MoreLists}
use Rattle.value_build.specs.Values.{Lists}

-- the form is made and settled, under this number
pub record IsFormMade (old new : BuilderModel) (f : Form Comparison) (j : ℕ) : Type 0 where
  pub stand : Extends (stand_of old) (stand_of new)
  pub settled : FormSettled (stand_of new) f
  pub form : IsFormOf new (form_map atom_of f) j

abbrev pub ClaimsBool : BuilderModel → BuilderModel → List SketchNode → ℕ → ℕ → Result (ℕ × ℕ) Stop → Type 0
ClaimsBool m m' ds k n r = (f : Form Comparison) → DrawsForm (stand_of m).trees ds f k → Emits m m' (form_events f) r (λ claim. IsFormMade m m' f claim.0 × (claim.1 ≡ n))

abbrev pub ClaimsReal : BuilderModel → BuilderModel → List (List Bound) → List (List Bound) → Result (ℕ × ℕ) Stop → Type 0
ClaimsReal m m' lists lists' r = Emits m m' (form_events no_form) r (λ claim. IsFormMade m m' no_form claim.0 × MoreLists lists lists' × Lists lists' claim.1 [])
