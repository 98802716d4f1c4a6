-- The trees that are made of the first assertions begin those of all.
use Rattle.std.proofs.Common.{◌≡◌, ℕ, List, [], ◌∷◌, ◌++◌, length, Bool, true, false, cond, refl, ap, sym, ◌∙◌, subst, arith}
use Rattle.poly_graph.specs.Term.{Term}
use Rattle.poly_graph.specs.Form.{Form, form_map}
use Rattle.script_model.specs.Script.{Command}
use Rattle.script_model.specs.Sexp.{Place}
use Rattle.script_forms.specs.Atoms.{number_in, atoms_in_place}
use Rattle.script_forms.specs.Work.{Work, assertion_events}
use Rattle.script_forms.specs.Walk.{Stand, Walked, stands, stops, after_events, after_assertions, after_root, claim_places, goes_on, last_place, nowhere, if_room, with_form, BuildingFault}
use Rattle.script_reading.specs.Built.{trees_made}
use Rattle.term_build.specs.Settled.{Extends}
use Rattle.term_build.proofs.Settled.{Reaches, extends_self, extends_on, reaches_events}

reaches-on : (s s1 : Stand) (w : Walked) → Extends s s1 → Reaches s1 w → Reaches s w
reaches-on s s1 (stands s2) h k = extends_on s s1 s2 h k
reaches-on s s1 (stops at x) h k = tt

reaches-goes : (s : Stand) (w : Walked) (f : Stand → Walked) → Reaches s w → ((s1 : Stand) → Reaches s1 (f s1)) → Reaches s (goes_on f w)
reaches-goes s (stands s1) f h k = reaches-on s s1 (f s1) h (k s1)
reaches-goes s (stops at x) f h k = tt

pub reaches_assertions : (s : Stand) (places : List Place) (ws : List Work) → Reaches s (after_assertions s places ws)
reaches_assertions s [] ws = extends_self s
reaches_assertions s (at ∷ places) [] = extends_self s
reaches_assertions s (at ∷ places) (w ∷ ws) =
    reaches-goes s (after_events at s (assertion_events w)) (λ s1. after_assertions s1 places ws) (reaches_events at s (assertion_events w)) (λ s1. reaches_assertions s1 places ws)

goes-both : (w : Walked) (f g h : Stand → Walked) → ((s : Stand) → f s ≡ goes_on h (g s)) → goes_on f w ≡ goes_on h (goes_on g w)
goes-both (stands s) f g h e = e s
goes-both (stops at x) f g h e = refl

pub assertions_both : (s : Stand) (places later : List Place) (ws more : List Work) → length places ≡ length ws →
    after_assertions s (places ++ later) (ws ++ more) ≡ goes_on (λ s1. after_assertions s1 later more) (after_assertions s places ws)
assertions_both s [] later [] more e = refl
assertions_both s [] later (w ∷ ws) more e = absurd (omega (arith, e))
assertions_both s (at ∷ places) later [] more e = absurd (omega (arith, e))
assertions_both s (at ∷ places) later (w ∷ ws) more e =
    goes-both (after_events at s (assertion_events w)) (λ s1. after_assertions s1 (places ++ later) (ws ++ more)) (λ s1. after_assertions s1 places ws) (λ s1. after_assertions s1 later more)
    (λ s1. assertions_both s1 places later ws more (omega (arith, e)))

-- ---- the form of all assertions makes no tree

abbrev Keeps : Stand → Walked → Type 0
Keeps s (stands s1) = s1.trees ≡ s.trees
Keeps s (stops at x) = Unit {0}

room-keeps : (b : Bool) (at : Place) (x : BuildingFault) (s : Stand) (f : Form ℕ) → Keeps s (if_room b at x (with_form s f))
room-keeps true at x s f = refl
room-keeps false at x s f = tt

form-keeps : (known room : Bool) (at : Place) (x : BuildingFault) (s : Stand) (f : Form ℕ) → Keeps s (cond known (stands s) (if_room room at x (with_form s f)))
form-keeps true room at x s f = refl
form-keeps false room at x s f = room-keeps room at x s f

root-keeps : (script : List Command) (s : Stand) → Keeps s (after_root script s)
root-keeps script s = form-keeps _ _ (last_place nowhere (claim_places script)) _ s (form_map (number_in s.atoms) (atoms_in_place script))

-- ---- the trees of a walk that goes on

-- these are all of the first ones, or none
begin-made : (s : Stand) (w : Walked) (ts more : List Term) → Keeps s w → ts ≡ s.trees ++ more → (later : List Term) × (ts ≡ trees_made w ++ later)
begin-made s (stands s1) ts more h e = (more, e ∙ ap (λ us. us ++ more) (sym h))
begin-made s (stops at x) ts more h e = (ts, refl)

begin-reached : (p q : List Command) (s : Stand) (w : Walked) (t : Stand) → Reaches s w → goes_on (after_root q) w ≡ stands t → (later : List Term) × (t.trees ≡ trees_made (after_root p s) ++ later)
begin-reached p q s (stands s1) t h e =
    let same : t.trees ≡ s1.trees = subst (λ (w : Walked). Keeps s1 w) e (root-keeps q s1) in
    begin-made s (after_root p s) t.trees h.trees.0 (root-keeps p s) (same ∙ h.trees.1)
begin-reached p q s (stops at x) t h e = cc

pub trees_begin : (p q : List Command) (w : Walked) (f : Stand → Walked) (t : Stand) → ((s : Stand) → Reaches s (f s)) → goes_on (after_root q) (goes_on f w) ≡ stands t →
    (later : List Term) × (t.trees ≡ trees_made (goes_on (after_root p) w) ++ later)
trees_begin p q (stands s) f t h e = begin-reached p q s (f s) t (h s) e
trees_begin p q (stops at x) f t h e = cc
