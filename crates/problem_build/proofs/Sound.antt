-- A well-sorted script meets no expression without a sort.
use Rattle.std.proofs.Common.{◌≡◌, ℕ, suc, ◌+◌, Bool, true, false, cond, nat_lt, List, Option, Some, None, subst}
use Rattle.script_model.specs.Sexp.{Place}
use Rattle.script_model.specs.Script.{Command, Constant}
use Rattle.script_model.specs.Declared.{BoundFault, no_bound, bound_too_wide, bound_fault}
use Rattle.poly_graph.specs.Form.{form_map}
use Rattle.script_forms.specs.Terms.{Fault, ill_formed}
use Rattle.script_forms.specs.Atoms.{unfolding_fault, number_in, atoms_in_place}
use Rattle.script_forms.specs.Walk.{Stand, Walked, stands, stops, BuildingFault, unfolds_not, too_large, too_many_nodes, too_many_atoms, too_many_forms, lacks_bound, bound_beyond, goes_on, after_root, after_assertions, nothing_made, claim_places, works, walked, fault_or, fault_of_bounds, building_fault, if_room, has_form, with_form, all_sizes, form_size, most_forms, last_place, nowhere}
use Rattle.script_forms.proofs.Walks.{Walks, assertions_walk}
use Rattle.sort_check.specs.Sorts.{sort_fault}
use Rattle.script_reading.specs.WellSorted.{IfSound}
use Rattle.problem_build.specs.Standing.{MeetsSorts}
use Rattle.script_reading.proofs.WellSorted.{sorted_unfolds}

-- the walk over the assertions
claims-sorted : (script : List Command) (w : Walked) → Walks script w → IfSound (unfolding_fault script) → MeetsSorts w
claims-sorted script (stands s) h k = tt
claims-sorted script (stops at (unfolds_not x)) h k = subst (λ (o : Option Fault). IfSound o) h k
claims-sorted script (stops at too_large) h k = tt
claims-sorted script (stops at too_many_nodes) h k = tt
claims-sorted script (stops at too_many_atoms) h k = tt
claims-sorted script (stops at too_many_forms) h k = tt
claims-sorted script (stops at (lacks_bound x)) h k = tt
claims-sorted script (stops at (bound_beyond x)) h k = tt

pub claims_sorted : (script : List Command) → sort_fault script ≡ None → MeetsSorts (after_assertions nothing_made (claim_places script) (works script))
claims_sorted script e = claims-sorted script (after_assertions nothing_made (claim_places script) (works script)) (assertions_walk script) (sorted_unfolds script e).1

root-not-ill : (script : List Command) (w : Walked) → Walks script w → IfSound (unfolding_fault script) → ((s : Stand) → MeetsSorts (after_root script s)) → MeetsSorts (goes_on (after_root script) w)
root-not-ill script (stands s) h k f = f s
root-not-ill script (stops at (unfolds_not x)) h k f = subst (λ (o : Option Fault). IfSound o) h k
root-not-ill script (stops at too_large) h k f = tt
root-not-ill script (stops at too_many_nodes) h k f = tt
root-not-ill script (stops at too_many_atoms) h k f = tt
root-not-ill script (stops at too_many_forms) h k f = tt
root-not-ill script (stops at (lacks_bound x)) h k f = tt
root-not-ill script (stops at (bound_beyond x)) h k f = tt

-- the root's form meets no fault of unfolding
form-not-ill : (b r : Bool) (at : Place) (s s' : Stand) → MeetsSorts (cond b (stands s) (if_room r at too_many_forms s'))
form-not-ill true r at s s' = tt
form-not-ill false true at s s' = tt
form-not-ill false false at s s' = tt

pub walked_not_ill : (script : List Command) → sort_fault script ≡ None → MeetsSorts (walked script)
walked_not_ill script e = root-not-ill script (after_assertions nothing_made (claim_places script) (works script)) (assertions_walk script) (sorted_unfolds script e).1
    (λ s. let f = form_map (number_in s.atoms) (atoms_in_place script) in form-not-ill (has_form f s.forms) (nat_lt (all_sizes s.forms + form_size f) (suc most_forms)) (last_place nowhere (claim_places script)) s (with_form s f))

abbrev Sound : Option (Place × BuildingFault) → Type 0
Sound (Some (at, unfolds_not x)) = IfSound (Some x)
Sound found = Unit {0}

sound-by : (w : Walked) (x : Option (Constant × BoundFault)) → MeetsSorts w → Sound (fault_or w (fault_of_bounds x))
sound-by (stands s) None h = tt
sound-by (stands s) (Some (c, no_bound)) h = tt
sound-by (stands s) (Some (c, bound_too_wide)) h = tt
sound-by (stops at (unfolds_not x)) y h = h
sound-by (stops at too_large) y h = tt
sound-by (stops at too_many_nodes) y h = tt
sound-by (stops at too_many_atoms) y h = tt
sound-by (stops at too_many_forms) y h = tt
sound-by (stops at (lacks_bound x)) y h = tt
sound-by (stops at (bound_beyond x)) y h = tt

pub sorted_sound : (bound : Option ℕ) (script : List Command) → sort_fault script ≡ None → (at place : Place) → building_fault bound script ≡ Some (at, unfolds_not (ill_formed place)) → ⊥
sorted_sound bound script e at place f = subst (λ (o : Option (Place × BuildingFault)). Sound o) f (sound-by (walked script) (bound_fault bound script) (walked_not_ill script e))
