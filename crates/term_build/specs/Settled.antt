-- What a walk leaves standing, and what it has settled.
use Rattle.std.specs.Prelude.{◌≡◌, ℕ, List, [], ◌∷◌, ◌++◌, true}
use Rattle.std.specs.List.{AllByRecursion}
use Rattle.poly_graph.specs.Term.{Term, Atom}
use Rattle.poly_graph.specs.Form.{Form, Forms, form_atoms, forms_atoms, form_map, forms_map}
use Rattle.script_forms.specs.Terms.{Comparison}
use Rattle.script_forms.specs.Atoms.{already, number_in, atom_of}
use Rattle.script_forms.specs.Work.{Event, reached, made, asked, formed, met, form_events, forms_events}
use Rattle.script_forms.specs.Walk.{Stand, has_tree, has_form}

-- one stand is what another has grown to
pub record Extends (s s' : Stand) : Type 0 where
  pub trees : (ts : List Term) × (s'.trees ≡ s.trees ++ ts)
  pub atoms : (xs : List Atom) × (s'.atoms ≡ s.atoms ++ xs)
  pub forms : (fs : List (Form ℕ)) × (s'.forms ≡ s.forms ++ fs)

-- all atoms of a form stand in the list
abbrev pub AtomsIn : List Atom → List Atom → Type 0
AtomsIn all xs = AllByRecursion (λ (a : Atom). already a all ≡ true) xs

abbrev pub IsSettled : Stand → Event → Type 0
IsSettled s reached = ⊥
IsSettled s (made t) = has_tree t s.trees ≡ true
IsSettled s (asked a) = already a s.atoms ≡ true
IsSettled s (formed f) = (has_form (form_map (number_in s.atoms) f) s.forms ≡ true) × AtomsIn s.atoms (form_atoms f)
IsSettled s (met x) = ⊥

abbrev pub AreSettled : Stand → List Event → Type 0
AreSettled s [] = Unit {0}
AreSettled s (e ∷ es) = IsSettled s e × AreSettled s es

-- the atoms of a form are settled with it
abbrev pub FormSettled : Stand → Form Comparison → Type 0
FormSettled s f = AreSettled s (form_events f) × AtomsIn s.atoms (form_atoms (form_map atom_of f))

abbrev pub FormsSettled : Stand → Forms Comparison → Type 0
FormsSettled s fs = AreSettled s (forms_events fs) × AtomsIn s.atoms (forms_atoms (forms_map atom_of fs))
