-- The parts that a whole walk made are the script's problem.
use Rattle.std.proofs.Common.{◌≡◌, ℕ, suc, ◌+◌, ◌<◌, Bool, true, false, cond, nat_lt, List, length, Option, None, refl, ap, sym, ◌∙◌, subst, slice_index_or}
use Rattle.std.proofs.lemmas.List.{length-map}
use Rattle.script_model.specs.Sexp.{Place}
use Rattle.script_model.specs.Script.{Command, constants_of}
use Rattle.script_model.specs.Declared.{bound_fault, declared_interval}
use Rattle.poly_graph.specs.Term.{graph_terms, Atom}
use Rattle.poly_graph.specs.Form.{Form, no_form, form_map}
use Rattle.poly_graph.specs.Problem.{Axis, no_atom, no_place}
use Rattle.poly_graph.specs.ProblemViews.{problem_of}
use Rattle.script_forms.specs.Atoms.{script_atoms, atoms_in_place, number_in}
use Rattle.script_forms.specs.ProblemOf.{AreAxes, IsProblemOf}
use Rattle.script_forms.specs.Walk.{Stand, Walked, stands, nothing_made, claim_places, works, after_assertions, after_root, goes_on, fault_or, fault_of_bounds, building_fault, last_place, nowhere, if_room, too_many_forms, with_form, make_form, has_form, all_sizes, form_size, most_forms}
use Rattle.script_forms.proofs.Walks.{Walks, assertions_walk}
use Rattle.term_build.specs.Built as built
use Rattle.term_build.specs.Built.{BuilderModel, stand_of, IsMade}
use Rattle.term_build.specs.Sketch.{IsFormOf}
use Rattle.term_build.proofs.Lists.{get_index, index_get}
use Rattle.term_build.proofs.Atoms.{full_at}
use Rattle.problem_build.specs.Laws.{parts_made}

-- the root's form changes no atom
abbrev atoms-in : Stand → Walked → Type 0
atoms-in s (stands s1) = s1.atoms ≡ s.atoms
atoms-in s w = Unit {0}

form-atoms : (b r : Bool) (claim : Place) (s : Stand) (g : Form ℕ) → atoms-in s (cond b (stands s) (if_room r claim too_many_forms (with_form s g)))
form-atoms true r claim s g = refl
form-atoms false true claim s g = refl
form-atoms false false claim s g = tt

pub root_atoms : (claim : Place) (s s1 : Stand) (g : Form ℕ) → make_form claim s g ≡ stands s1 → s1.atoms ≡ s.atoms
root_atoms claim s s1 g e = subst (λ (w : Walked). atoms-in s w) e (form-atoms (has_form g s.forms) (nat_lt (all_sizes s.forms + form_size g) (suc most_forms)) claim s g)

-- an atom of the table with its term
full-of : (m : BuilderModel) (j : ℕ) → j < length m.atoms → slice_index_or (stand_of m).atoms j no_atom ≡ built.full_atom (graph_terms m.nodes) (slice_index_or m.atoms j no_place)
full-of m j h = get_index (stand_of m).atoms j (built.full_atom (graph_terms m.nodes) (slice_index_or m.atoms j no_place)) no_atom (full_at (graph_terms m.nodes) m.atoms j (slice_index_or m.atoms j no_place) (index_get m.atoms j no_place h))

pub parts_problem : (bound : Option ℕ) (script : List Command) (m m1 : BuilderModel) (axes : List Axis) (root : ℕ) → IsMade m1 →
    after_assertions nothing_made (claim_places script) (works script) ≡ stands (stand_of m) → after_root script (stand_of m) ≡ stands (stand_of m1) → IsFormOf m1 (atoms_in_place script) root →
    bound_fault bound script ≡ None → AreAxes (declared_interval bound script) 0 (constants_of script) axes → IsProblemOf bound script (problem_of (parts_made m1 axes root)) × (building_fault bound script ≡ None)
parts_problem bound script m m1 axes root made e f form bounded declared = (
  record {
    unfolds = known.0;
    bounded = bounded;
    axes = declared;
    ordered = made.graph.ordered;
    count = sym (length-map m1.atoms (built.full_atom (graph_terms m1.nodes))) ∙ ap (λ (xs : List Atom). length xs) atoms;
    atoms = λ j b. sym (full-of m1 j b) ∙ ap (λ (xs : List Atom). slice_index_or xs j no_atom) atoms;
    form = get_index (stand_of m1).forms root (form_map (number_in (stand_of m1).atoms) (atoms_in_place script)) no_form form ∙ ap (λ (xs : List Atom). form_map (number_in xs) (atoms_in_place script)) atoms;
  },
  ap (λ w. fault_or (goes_on (after_root script) w) (fault_of_bounds (bound_fault bound script))) e ∙ ap (λ w. fault_or w (fault_of_bounds (bound_fault bound script))) f ∙ ap fault_of_bounds bounded,
)
  where
    known : Walks script (stands (stand_of m))
    known = subst (λ (w : Walked). Walks script w) e (assertions_walk script)

    atoms : (stand_of m1).atoms ≡ script_atoms script
    atoms = root_atoms (last_place nowhere (claim_places script)) (stand_of m) (stand_of m1) (form_map (number_in (stand_of m).atoms) (atoms_in_place script)) f ∙ known.1
