-- How many expressions are reached.
use Rattle.std.proofs.Common.{◌≡◌, ℕ, suc, ◌+◌, ◌<◌, ◌≤◌, arith, List, [], ◌∷◌, length, Bool, true, false, cond, refl, ap, sym, subst, nat_lt}
use Rattle.std.proofs.lemmas.Bool.{ltb-true}
use Rattle.std.specs.Prelude.{Ok}
use Rattle.script_model.specs.Sexp.{Place}
use Rattle.poly_graph.specs.Form.{form_map}
use Rattle.script_forms.specs.Atoms.{already, number_in}
use Rattle.script_forms.specs.Work.{Event, reached, made, asked, formed, met}
use Rattle.script_forms.specs.Walk.{Stand, Walked, stands, stops, BuildingFault, too_large, too_many_nodes, too_many_atoms, too_many_forms, if_room, has_tree, with_tree, with_atom, has_form, with_form, larger, after_event, goes_on, after_events, most_size, most_trees, most_atoms, most_forms, form_size, all_sizes, nowhere}
use Rattle.term_build.specs.Built.{BuilderModel, stand_of}
use Rattle.term_build.specs.Steps.{Emits}

-- ---- no event makes them fewer

abbrev NotFewer : ℕ → Walked → Type 0
NotFewer n (stands s) = n ≤ s.size
NotFewer n (stops at x) = Unit {0}

at-room : (b : Bool) (at : Place) (f : BuildingFault) (n : ℕ) (s : Stand) → n ≤ s.size → NotFewer n (if_room b at f s)
at-room true at f n s h = h
at-room false at f n s h = tt

at-choice : (b : Bool) (n : ℕ) (s : Stand) (w : Walked) → n ≤ s.size → NotFewer n w → NotFewer n (cond b (stands s) w)
at-choice true n s w h k = h
at-choice false n s w h k = k

at-event : (at : Place) (n : ℕ) (s : Stand) (e : Event) → n ≤ s.size → NotFewer n (after_event at s e)
at-event at n s reached h = at-room (nat_lt s.size most_size) at too_large n (larger s) (omega arith)
at-event at n s (made t) h = at-choice (has_tree t s.trees) n s (if_room (nat_lt (length s.trees) most_trees) at too_many_nodes (with_tree s t)) h
    (at-room (nat_lt (length s.trees) most_trees) at too_many_nodes n (with_tree s t) h)
at-event at n s (asked a) h = at-choice (already a s.atoms) n s (if_room (nat_lt (length s.atoms) most_atoms) at too_many_atoms (with_atom s a)) h
    (at-room (nat_lt (length s.atoms) most_atoms) at too_many_atoms n (with_atom s a) h)
at-event at n s (formed f) h = let g = form_map (number_in s.atoms) f in
    at-choice (has_form g s.forms) n s (if_room (nat_lt (all_sizes s.forms + form_size g) (suc most_forms)) at too_many_forms (with_form s g)) h
    (at-room (nat_lt (all_sizes s.forms + form_size g) (suc most_forms)) at too_many_forms n (with_form s g) h)
at-event at n s (met x) h = tt

going-on : (n : ℕ) (w : Walked) (f : Stand → Walked) → NotFewer n w → ((s : Stand) → n ≤ s.size → NotFewer n (f s)) → NotFewer n (goes_on f w)
going-on n (stands s) f h k = k s h
going-on n (stops at x) f h k = tt

at-events : (at : Place) (n : ℕ) (es : List Event) (s : Stand) → n ≤ s.size → NotFewer n (after_events at s es)
at-events at n [] s h = h
at-events at n (e ∷ es) s h = going-on n (after_event at s e) (λ s'. after_events at s' es) (at-event at n s e h) (λ s' k. at-events at n es s' k)

pub emits_size : {X : Type 0} (P : X → Type 0) (m m1 : BuilderModel) (es : List Event) (x : X) → Emits m m1 es (Ok x) P → m.size ≤ m1.size
emits_size P m m1 es x h = subst (λ (w : Walked). NotFewer m.size w) (h.0 nowhere) (at-events nowhere m.size es (stand_of m) (omega arith))

-- ---- an expression that is reached is one more

abbrev pub IsReached : BuilderModel → BuilderModel → Type 0
IsReached m m1 = (claim : Place) → after_event claim (stand_of m) reached ≡ stands (stand_of m1)

abbrev size-of : Walked → ℕ
size-of (stands s) = s.size
size-of (stops at x) = 0

one-more : (s s1 : Stand) (b : Bool) → nat_lt s.size most_size ≡ b → if_room b nowhere too_large (larger s) ≡ stands s1 → (s.size < most_size) × (s1.size ≡ suc s.size)
one-more s s1 true e f = (ltb-true s.size most_size e, ap (λ w. size-of w) (sym f))
one-more s s1 false e f = cc

pub reached_size : (m m1 : BuilderModel) → IsReached m m1 → (m.size < most_size) × (m1.size ≡ suc m.size)
reached_size m m1 h = one-more (stand_of m) (stand_of m1) (nat_lt m.size most_size) refl (h nowhere)
