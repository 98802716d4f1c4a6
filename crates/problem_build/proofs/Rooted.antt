-- The form of all assertions is one more node.
use Rattle.std.proofs.Common.{◌≡◌, ℕ, List, [], ◌∷◌, Some, refl, ap, ap₂, sym, ◌∙◌, subst}
use Rattle.std.specs.Prelude.{Result, Ok, Err}
use Rattle.poly_graph.specs.Term.{Atom}
use Rattle.poly_graph.specs.Form.{Form, Forms, no_form, no_forms, more_forms, all_form, form_map, forms_map}
use Rattle.poly_graph.specs.FormGraph.{picked, graph_forms}
use Rattle.script_forms.specs.Atoms.{number_in}
use Rattle.script_forms.specs.Walk.{make_form}
use Rattle.term_build.specs.Built.{BuilderModel, stand_of}
use Rattle.term_build.specs.Does.{Does, IsForm}
use Rattle.term_build.specs.Sketch.{IsFormOf}
use Rattle.term_build.specs.declared.stop.Stop.{Stop}
use Rattle.term_build.proofs.Lists.{get_index}
use Rattle.problem_build.specs.Roots.{AreFormsOf, Roots}
use Rattle.problem_build.proofs.Parts.{root_atoms}

picked-are : (m : BuilderModel) (fs : Forms Atom) (ks : List ℕ) → AreFormsOf m fs ks → picked (graph_forms m.forms) ks ≡ forms_map (number_in (stand_of m).atoms) fs
picked-are m no_forms [] h = refl
picked-are m (more_forms f fs) (k ∷ ks) h = ap₂ more_forms (get_index (graph_forms m.forms) k (form_map (number_in (stand_of m).atoms) f) no_form h.0) (picked-are m fs ks h.1)
picked-are m no_forms (k ∷ ks) h = elim h [ ]
picked-are m (more_forms f fs) [] h = elim h [ ]

numbered-so : (m m1 : BuilderModel) (f : Form Atom) (r : Result ℕ Stop) → let g = form_map (number_in (stand_of m).atoms) f in
    Does m m1 (λ claim s. make_form claim s g) r (IsForm m1 g) → Does m m1 (λ claim s. make_form claim s (form_map (number_in s.atoms) f)) r (IsFormOf m1 f)
numbered-so m m1 f (Err e) h = h
numbered-so m m1 f (Ok k) h = (
  h.0,
  h.1 ∙ ap (λ xs. Some (form_map (number_in xs) f))
      (sym (root_atoms (record { line = 0; column = 0 }) (stand_of m) (stand_of m1) (form_map (number_in (stand_of m).atoms) f) (h.0 (record { line = 0; column = 0 })))),
)

pub roots_made : (m m1 : BuilderModel) (ks : List ℕ) (r : Result ℕ Stop) → let g = all_form (picked (graph_forms m.forms) ks) in Does m m1 (λ claim s. make_form claim s g) r (IsForm m1 g) → Roots m m1 ks r
roots_made m m1 ks r h fs all = numbered-so m m1 (all_form fs) r
    (subst (λ (g : Form ℕ). Does m m1 (λ claim s. make_form claim s g) r (IsForm m1 g)) (ap all_form (picked-are m fs ks all)) h)
