-- The builder's walk over a script: what it has made, its limits, and its first fault.
use Rattle.std.specs.Prelude.{ℕ, suc, ◌+◌, List, [], ◌∷◌, ◌++◌, length, Bool, true, false, ◌&&◌, Option, Some, None, cond, nat_eq, nat_lt}
use Rattle.script_model.specs.Sexp.{Place}
use Rattle.dyadic.specs.Point.{Sort}
use Rattle.script_model.specs.Script.{Command, claim, minimize, Constant, claims, sorts_of}
use Rattle.script_model.specs.Declared.{numbered, BoundFault, no_bound, bound_too_wide, bound_fault}
use Rattle.poly_graph.specs.Term.{Term, Atom}
use Rattle.poly_graph.specs.Form.{Form, yes_form, no_form, atom_is, bool_is, all_form, any_form, Forms, no_forms, more_forms, form_map}
use Rattle.script_forms.specs.Terms.{Fault, number_too_wide, divisor_not_constant, zero_divisor, ill_formed, same_term}
use Rattle.script_forms.specs.Atoms.{constant_tree, already, number_in, atoms_in_place}
use Rattle.script_forms.specs.Work.{Event, reached, made, asked, formed, met, Work, as_work, assertion_events}

-- ---- what has been made

-- expressions that were reached; trees, atoms and forms, each once, in the order in which they were made
pub record Stand : Type 0 where
  pub size : ℕ
  pub trees : List Term
  pub atoms : List Atom
  pub forms : List (Form ℕ)

abbrev pub nothing_made : Stand
nothing_made = record { size = 0; trees = []; atoms = []; forms = [] }

-- the greatest numbers of each
abbrev pub most_size : ℕ
most_size = 1048576

abbrev pub most_trees : ℕ
most_trees = 1048576

abbrev pub most_atoms : ℕ
most_atoms = 65536

-- of nodes of forms and places of their children
abbrev pub most_forms : ℕ
most_forms = 1048576

-- ---- equal ones are one

abbrev pub has_tree : Term → List Term → Bool
has_tree t [] = false
has_tree t (u ∷ rest) = cond (same_term t u) true (has_tree t rest)

abbrev pub same_bool : Bool → Bool → Bool
same_bool true true = true
same_bool false false = true
same_bool _ _ = false

abbrev mutual
  pub same_form : Form ℕ → Form ℕ → Bool
  same_form yes_form yes_form = true
  same_form no_form no_form = true
  same_form (atom_is j) (atom_is k) = nat_eq j k
  same_form (bool_is i v) (bool_is j w) = nat_eq i j && same_bool v w
  same_form (all_form fs) (all_form gs) = same_forms fs gs
  same_form (any_form fs) (any_form gs) = same_forms fs gs
  same_form _ _ = false

  pub same_forms : Forms ℕ → Forms ℕ → Bool
  same_forms no_forms no_forms = true
  same_forms (more_forms f fs) (more_forms g gs) = same_form f g && same_forms fs gs
  same_forms _ _ = false

abbrev pub has_form : Form ℕ → List (Form ℕ) → Bool
has_form f [] = false
has_form f (g ∷ rest) = cond (same_form f g) true (has_form f rest)

-- a node, and a place for each of its children
abbrev pub places : Forms ℕ → ℕ
places no_forms = 0
places (more_forms f fs) = suc (places fs)

abbrev pub form_size : Form ℕ → ℕ
form_size (all_form fs) = suc (places fs)
form_size (any_form fs) = suc (places fs)
form_size f = 1

abbrev pub all_sizes : List (Form ℕ) → ℕ
all_sizes [] = 0
all_sizes (f ∷ rest) = form_size f + all_sizes rest

-- ---- one event

pub data BuildingFault : Type 0 where
  -- of the unfolding
  unfolds_not : Fault → BuildingFault
  -- there are too many expressions, trees, atoms or nodes of forms
  too_large too_many_nodes too_many_atoms too_many_forms : BuildingFault
  -- of the bounds of the constant of this name
  lacks_bound bound_beyond : List ℕ → BuildingFault

-- how the walk stands, or where it stopped
pub data Walked : Type 0 where
  stands : Stand → Walked
  stops : Place → BuildingFault → Walked

-- where there is room
abbrev pub if_room : Bool → Place → BuildingFault → Stand → Walked
if_room true at f s = stands s
if_room false at f s = stops at f

abbrev pub with_tree : Stand → Term → Stand
with_tree s t = record { size = s.size; trees = s.trees ++ (t ∷ []); atoms = s.atoms; forms = s.forms }

abbrev pub with_atom : Stand → Atom → Stand
with_atom s a = record { size = s.size; trees = s.trees; atoms = s.atoms ++ (a ∷ []); forms = s.forms }

abbrev pub with_form : Stand → Form ℕ → Stand
with_form s f = record { size = s.size; trees = s.trees; atoms = s.atoms; forms = s.forms ++ (f ∷ []) }

abbrev pub larger : Stand → Stand
larger s = record { size = suc s.size; trees = s.trees; atoms = s.atoms; forms = s.forms }

-- where a fault of the unfolding is met
abbrev pub place_of_fault : Fault → Place
place_of_fault (number_too_wide at) = at
place_of_fault (divisor_not_constant at) = at
place_of_fault (zero_divisor at) = at
place_of_fault (ill_formed at) = at

abbrev pub make_tree : Place → Stand → Term → Walked
make_tree at s t = cond (has_tree t s.trees) (stands s) (if_room (nat_lt (length s.trees) most_trees) at too_many_nodes (with_tree s t))

abbrev pub ask_atom : Place → Stand → Atom → Walked
ask_atom at s a = cond (already a s.atoms) (stands s) (if_room (nat_lt (length s.atoms) most_atoms) at too_many_atoms (with_atom s a))

abbrev pub make_form : Place → Stand → Form ℕ → Walked
make_form at s f = cond (has_form f s.forms) (stands s) (if_room (nat_lt (all_sizes s.forms + form_size f) (suc most_forms)) at too_many_forms (with_form s f))

-- an event within the assertion at this place, whose limits are told there
abbrev pub after_event : Place → Stand → Event → Walked
after_event at s reached = if_room (nat_lt s.size most_size) at too_large (larger s)
after_event at s (made t) = make_tree at s t
after_event at s (asked a) = ask_atom at s a
after_event at s (formed f) = make_form at s (form_map (number_in s.atoms) f)
after_event at s (met x) = stops (place_of_fault x) (unfolds_not x)

-- ---- the walk

abbrev pub goes_on : (Stand → Walked) → Walked → Walked
goes_on f (stands s) = f s
goes_on f (stops at x) = stops at x

abbrev pub after_events : Place → Stand → List Event → Walked
after_events at s [] = stands s
after_events at s (e ∷ rest) = goes_on (λ s'. after_events at s' rest) (after_event at s e)

-- the works of a script's assertions; a constant is no work until it is named
abbrev pub constant_work : ℕ → Sort → Work
constant_work axis sort = record { events = []; outcome = constant_tree axis sort }

abbrev pub works : List Command → List Work
works script = claims as_work [] (numbered constant_work 0 (sorts_of script)) script

-- the places of the assertions, goals among them
abbrev pub claim_places : List Command → List Place
claim_places [] = []
claim_places (claim at e ∷ rest) = at ∷ claim_places rest
claim_places (minimize at t ∷ rest) = at ∷ claim_places rest
claim_places (_ ∷ rest) = claim_places rest

-- the assertions in order, each at its place
abbrev pub after_assertions : Stand → List Place → List Work → Walked
after_assertions s (at ∷ places) (w ∷ ws) = goes_on (λ s'. after_assertions s' places ws) (after_events at s (assertion_events w))
after_assertions s _ _ = stands s

abbrev pub nowhere : Place
nowhere = record { line = 0; column = 0 }

abbrev pub last_place : Place → List Place → Place
last_place at [] = at
last_place at (b ∷ rest) = last_place b rest

-- the form of all assertions is made last, at the last of them
abbrev pub after_root : List Command → Stand → Walked
after_root script s = make_form (last_place nowhere (claim_places script)) s (form_map (number_in s.atoms) (atoms_in_place script))

-- what the builder makes of a script, or where it stops
abbrev pub walked : List Command → Walked
walked script = goes_on (after_root script) (after_assertions nothing_made (claim_places script) (works script))

-- ---- the first fault

abbrev pub of_bound : Constant × BoundFault → Place × BuildingFault
of_bound (c, no_bound) = (c.at, lacks_bound c.name)
of_bound (c, bound_too_wide) = (c.at, bound_beyond c.name)

abbrev pub fault_of_bounds : Option (Constant × BoundFault) → Option (Place × BuildingFault)
fault_of_bounds None = None
fault_of_bounds (Some f) = Some (of_bound f)

abbrev pub fault_or : Walked → Option (Place × BuildingFault) → Option (Place × BuildingFault)
fault_or (stops at f) later = Some (at, f)
fault_or (stands s) later = later

-- the first fault of the building of a script: of the walk, and then of the bounds, axis by axis
abbrev pub building_fault : Option ℕ → List Command → Option (Place × BuildingFault)
building_fault bound script = fault_or (walked script) (fault_of_bounds (bound_fault bound script))
