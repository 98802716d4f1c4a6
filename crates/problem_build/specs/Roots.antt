-- The form of a whole script, from those of its assertions.
use Rattle.std.specs.Prelude.{ℕ, List, [], ◌∷◌, Result}
use Rattle.poly_graph.specs.Term.{Atom}
use Rattle.poly_graph.specs.Form.{Forms, no_forms, more_forms, all_form, form_map}
use Rattle.script_forms.specs.Atoms.{number_in}
use Rattle.script_forms.specs.Walk.{make_form}
use Rattle.term_build.specs.Built.{BuilderModel}
use Rattle.term_build.specs.Does.{Does}
use Rattle.term_build.specs.Sketch.{IsFormOf}
use Rattle.term_build.specs.declared.stop.Stop.{Stop}

-- these nodes are these forms
abbrev pub AreFormsOf : BuilderModel → Forms Atom → List ℕ → Type 0
AreFormsOf m no_forms [] = Unit {0}
AreFormsOf m (more_forms f fs) (k ∷ ks) = IsFormOf m f k × AreFormsOf m fs ks
AreFormsOf m _ _ = ⊥

-- of nodes that are these forms: the form of all of them is made
abbrev pub Roots : BuilderModel → BuilderModel → List ℕ → Result ℕ Stop → Type 0
Roots old new ks r = (fs : Forms Atom) → AreFormsOf old fs ks → Does old new (λ claim s. make_form claim s (form_map (number_in s.atoms) (all_form fs))) r (IsFormOf new (all_form fs))
