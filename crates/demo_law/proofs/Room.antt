-- A walk goes on while there is room for what its events may add.
use Rattle.std.proofs.Common.{◌≡◌, ℕ, suc, ◌+◌, ◌<◌, ◌≤◌, List, [], ◌∷◌, ◌++◌, Bool, true, false, cond, nat_lt, length, refl, ap, sym, subst, arith}
use Rattle.std.proofs.lemmas.List.{length-append}
use Rattle.std.proofs.lemmas.Bool.{le-leb}
use Rattle.script_model.specs.Sexp.{Place}
use Rattle.poly_graph.specs.Term.{Term, Atom}
use Rattle.poly_graph.specs.Form.{Form, yes_form, no_form, atom_is, bool_is, all_form, any_form, Forms, no_forms, more_forms, form_map, forms_map}
use Rattle.script_forms.specs.Atoms.{already, number_in}
use Rattle.script_forms.specs.Work.{Event, reached, made, asked, formed, met}
use Rattle.script_forms.specs.Walk.{Stand, Walked, stands, larger, with_tree, with_atom, with_form, most_size, most_trees, most_atoms, most_forms, has_tree, has_form, places, form_size, all_sizes, if_room, make_tree, ask_atom, make_form, after_event, after_events, goes_on, BuildingFault, too_large, too_many_nodes, too_many_atoms, too_many_forms}

-- what an event may add to expressions, trees and forms
abbrev pub weight : List Event → ℕ
weight [] = 0
weight (formed f ∷ rest) = form_size (form_map (λ a. 0) f) + weight rest
weight (e ∷ rest) = suc (weight rest)

-- how many atoms are asked for
abbrev pub asks : List Event → ℕ
asks [] = 0
asks (asked a ∷ rest) = suc (asks rest)
asks (e ∷ rest) = asks rest

-- no fault is met
abbrev pub is_clear : List Event → Bool
is_clear [] = true
is_clear (met x ∷ rest) = false
is_clear (e ∷ rest) = is_clear rest

-- there is room for n more of each, and for k atoms
pub record Room (s : Stand) (n k : ℕ) : Type 0 where
  pub size : s.size + n ≤ most_size
  pub trees : length s.trees + n ≤ most_trees
  pub forms : all_sizes s.forms + n ≤ most_forms
  pub atoms : length s.atoms + k ≤ most_atoms

-- the walk stands, with that room
abbrev pub StandsIn : Walked → ℕ → ℕ → Type 0
StandsIn w n k = (s : Stand) × (w ≡ stands s) × Room s n k

-- ---- sizes

places_alike : (g h : Atom → ℕ) (fs : Forms Atom) → places (forms_map g fs) ≡ places (forms_map h fs)
places_alike g h no_forms = refl
places_alike g h (more_forms f fs) = ap suc (places_alike g h fs)

-- the size of a form does not depend on how its atoms are numbered
size_alike : (g h : Atom → ℕ) (f : Form Atom) → form_size (form_map g f) ≡ form_size (form_map h f)
size_alike g h yes_form = refl
size_alike g h no_form = refl
size_alike g h (atom_is a) = refl
size_alike g h (bool_is axis v) = refl
size_alike g h (all_form fs) = ap suc (places_alike g h fs)
size_alike g h (any_form fs) = ap suc (places_alike g h fs)

sizes_more : (fs : List (Form ℕ)) (f : Form ℕ) → all_sizes (fs ++ (f ∷ [])) ≡ all_sizes fs + form_size f
sizes_more [] f = omega arith
sizes_more (g ∷ fs) f = omega (arith, sizes_more fs f)

-- ---- one event

fits_in : (at : Place) (f : BuildingFault) (s : Stand) (n most : ℕ) → n < most → if_room (nat_lt n most) at f s ≡ stands s
fits_in at f s n most lt = ap (λ (t : Bool). if_room t at f s) (le-leb (suc n) most lt)

made_in : (at : Place) (s : Stand) (t : Term) (n k : ℕ) → Room s (suc n) k → StandsIn (make_tree at s t) n k
made_in at s t n k r = by (has_tree t s.trees)
  where
    by : (b : Bool) → StandsIn (cond b (stands s) (if_room (nat_lt (length s.trees) most_trees) at too_many_nodes (with_tree s t))) n k
    by true = (s, refl, record { size = omega (arith, r.size); trees = omega (arith, r.trees); forms = omega (arith, r.forms); atoms = r.atoms })
    by false = (
      with_tree s t,
      fits_in at too_many_nodes (with_tree s t) (length s.trees) most_trees (omega (arith, r.trees)),
      record {
        size = omega (arith, r.size);
        trees = omega (arith, r.trees, length-append s.trees (t ∷ []));
        forms = omega (arith, r.forms);
        atoms = r.atoms;
      },
    )

asked_in : (at : Place) (s : Stand) (a : Atom) (n k : ℕ) → Room s (suc n) (suc k) → StandsIn (ask_atom at s a) n k
asked_in at s a n k r = by (already a s.atoms)
  where
    by : (b : Bool) → StandsIn (cond b (stands s) (if_room (nat_lt (length s.atoms) most_atoms) at too_many_atoms (with_atom s a))) n k
    by true = (s, refl, record { size = omega (arith, r.size); trees = omega (arith, r.trees); forms = omega (arith, r.forms); atoms = omega (arith, r.atoms) })
    by false = (
      with_atom s a,
      fits_in at too_many_atoms (with_atom s a) (length s.atoms) most_atoms (omega (arith, r.atoms)),
      record {
        size = omega (arith, r.size);
        trees = omega (arith, r.trees);
        forms = omega (arith, r.forms);
        atoms = omega (arith, r.atoms, length-append s.atoms (a ∷ []));
      },
    )

pub formed_in : (at : Place) (s : Stand) (f : Form ℕ) (n k : ℕ) → Room s (form_size f + n) k → StandsIn (make_form at s f) n k
formed_in at s f n k r = by (has_form f s.forms)
  where
    by : (b : Bool) → StandsIn (cond b (stands s) (if_room (nat_lt (all_sizes s.forms + form_size f) (suc most_forms)) at too_many_forms (with_form s f))) n k
    by true = (s, refl, record { size = omega (arith, r.size); trees = omega (arith, r.trees); forms = omega (arith, r.forms); atoms = r.atoms })
    by false = (
      with_form s f,
      fits_in at too_many_forms (with_form s f) (all_sizes s.forms + form_size f) (suc most_forms) (omega (arith, r.forms)),
      record {
        size = omega (arith, r.size);
        trees = omega (arith, r.trees);
        forms = omega (arith, r.forms, sizes_more s.forms f);
        atoms = r.atoms;
      },
    )

reached_in : (at : Place) (s : Stand) (n k : ℕ) → Room s (suc n) k → StandsIn (if_room (nat_lt s.size most_size) at too_large (larger s)) n k
reached_in at s n k r = (
  larger s,
  fits_in at too_large (larger s) s.size most_size (omega (arith, r.size)),
  record {
    size = omega (arith, r.size);
    trees = omega (arith, r.trees);
    forms = omega (arith, r.forms);
    atoms = r.atoms;
  },
)

-- ---- events

-- where the walk stands after the first of them, it goes on from there
pub then_in : (f : Stand → Walked) (w : Walked) (n k m l : ℕ) → StandsIn w n k → ((s : Stand) → Room s n k → StandsIn (f s) m l) → StandsIn (goes_on f w) m l
then_in f w n k m l h go = subst (λ (v : Walked). StandsIn (goes_on f v) m l) (sym h.1) (go h.0 h.2)

pub stand_after : (at : Place) (es : List Event) (s : Stand) (n k : ℕ) → is_clear es ≡ true → Room s (weight es + n) (asks es + k) → StandsIn (after_events at s es) n k
stand_after at [] s n k clear r = (s, refl, record { size = omega (arith, r.size); trees = omega (arith, r.trees); forms = omega (arith, r.forms); atoms = omega (arith, r.atoms) })
stand_after at (reached ∷ es) s n k clear r =
    then_in (λ s'. after_events at s' es) (after_event at s reached) (weight es + n) (asks es + k) n k
    (reached_in at s (weight es + n) (asks es + k) (roomy s r)) (λ s' r'. stand_after at es s' n k clear r')
  where
    roomy : (s : Stand) → Room s (suc (weight es) + n) (asks es + k) → Room s (suc (weight es + n)) (asks es + k)
    roomy s r = record { size = omega (arith, r.size); trees = omega (arith, r.trees); forms = omega (arith, r.forms); atoms = r.atoms }
stand_after at (made t ∷ es) s n k clear r =
    then_in (λ s'. after_events at s' es) (make_tree at s t) (weight es + n) (asks es + k) n k
    (made_in at s t (weight es + n) (asks es + k) (roomy s r)) (λ s' r'. stand_after at es s' n k clear r')
  where
    roomy : (s : Stand) → Room s (suc (weight es) + n) (asks es + k) → Room s (suc (weight es + n)) (asks es + k)
    roomy s r = record { size = omega (arith, r.size); trees = omega (arith, r.trees); forms = omega (arith, r.forms); atoms = r.atoms }
stand_after at (asked a ∷ es) s n k clear r =
    then_in (λ s'. after_events at s' es) (ask_atom at s a) (weight es + n) (asks es + k) n k
    (asked_in at s a (weight es + n) (asks es + k) (roomy s r)) (λ s' r'. stand_after at es s' n k clear r')
  where
    roomy : (s : Stand) → Room s (suc (weight es) + n) (suc (asks es) + k) → Room s (suc (weight es + n)) (suc (asks es + k))
    roomy s r = record { size = omega (arith, r.size); trees = omega (arith, r.trees); forms = omega (arith, r.forms); atoms = omega (arith, r.atoms) }
stand_after at (formed f ∷ es) s n k clear r =
    then_in (λ s'. after_events at s' es) (make_form at s (form_map (number_in s.atoms) f)) (weight es + n) (asks es + k) n k
    (formed_in at s (form_map (number_in s.atoms) f) (weight es + n) (asks es + k) (roomy s r)) (λ s' r'. stand_after at es s' n k clear r')
  where
    roomy : (s : Stand) → Room s (form_size (form_map (λ a. 0) f) + weight es + n) (asks es + k) → Room s (form_size (form_map (number_in s.atoms) f) + (weight es + n)) (asks es + k)
    roomy s r = let same = size_alike (number_in s.atoms) (λ a. 0) f in
        record { size = omega (arith, r.size, same); trees = omega (arith, r.trees, same); forms = omega (arith, r.forms, same); atoms = r.atoms }
stand_after at (met x ∷ es) s n k clear r = absurd (cc)
