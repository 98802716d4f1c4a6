-- Forms that are made one after the other, and their numbers.
use Rattle.std.specs.Prelude.{◌≡◌, ℕ, List, [], ◌∷◌, ◌++◌, Some, Result, Ok, Err, slice_get}
use Rattle.script_model.specs.Sexp.{Place}
use Rattle.smt_sexp.specs.Views.{place_of}
use Rattle.script_fault.specs.declared.place.Place as code
use Rattle.poly_graph.specs.Form.{Form, form_map}
use Rattle.script_forms.specs.Terms.{Comparison}
use Rattle.script_forms.specs.Atoms.{atom_of, number_in}
use Rattle.script_forms.specs.Work.{form_events, forms_events}
use Rattle.script_forms.specs.Walk.{Stand, stands, after_events}
use Rattle.term_build.specs.Built.{BuilderModel, stand_of}
use Rattle.term_build.specs.Does.{StopsAs}
use Rattle.term_build.specs.Settled.{FormSettled}
use Rattle.term_build.specs.Sketch.{IsFormOf, equal_with, forms_in, some_equal}
use Rattle.term_build.specs.Steps.{Emits}
use Rattle.term_build.specs.declared.stop.Stop.{Stop}

-- the form is settled, and j is its number
abbrev pub IsFormMade : Stand → Form Comparison → ℕ → Type 0
IsFormMade s f j = FormSettled s f × (slice_get s.forms j ≡ Some (form_map (number_in s.atoms) (form_map atom_of f)))

abbrev pub AreFormsMade : Stand → List (Form Comparison) → List ℕ → Type 0
AreFormsMade s [] [] = Unit {0}
AreFormsMade s (f ∷ fs) (j ∷ js) = IsFormMade s f j × AreFormsMade s fs js
AreFormsMade s [] (j ∷ js) = ⊥
AreFormsMade s (f ∷ fs) [] = ⊥

-- these forms are made, and their numbers come behind those before
pub record Gathered (old new : BuilderModel) (fs : List (Form Comparison)) (js js' : List ℕ) : Type 0 where
  pub walk : (claim : Place) → after_events claim (stand_of old) (forms_events (forms_in fs)) ≡ stands (stand_of new)
  pub more : List ℕ
  pub is : js' ≡ js ++ more
  pub made : AreFormsMade (stand_of new) fs more

abbrev pub Gathers : {X : Type 0} → BuilderModel → BuilderModel → List (Form Comparison) → List ℕ → List ℕ → Result X Stop → Type 0
Gathers old new fs js js' (Ok x) = Gathered old new fs js js'
Gathers old new fs js js' (Err e) = (claim : Place) → StopsAs claim (after_events claim (stand_of old) (forms_events (forms_in fs))) e

-- some of the forms are made, and the others are left
pub record Gathering (old now : BuilderModel) (all left : List (Form Comparison)) (js js' : List ℕ) : Type 0 where
  pub sorts : now.sorts ≡ old.sorts
  pub done : List (Form Comparison)
  pub is : all ≡ done ++ left
  pub gathered : Gathered old now done js js'

-- that the tree of a node equals those of others
abbrev pub MakesEqualTo : {X : Type 0} → BuilderModel → BuilderModel → code.Place → ℕ → List ℕ → List ℕ → List ℕ → Result X Stop → Type 0
MakesEqualTo old new at first others js js' r = Gathers old new (equal_with (stand_of old).trees (place_of at) first others) js js' r

-- that two of several trees are equal
abbrev pub MakesEqual : BuilderModel → BuilderModel → code.Place → List ℕ → Result ℕ Stop → Type 0
MakesEqual old new at ks r = let f = some_equal (stand_of old).trees (place_of at) ks in Emits old new (form_events f) r (IsFormOf new (form_map atom_of f))
