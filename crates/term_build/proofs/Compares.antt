-- The forms of comparisons.
use Rattle.std.proofs.Common.{◌≡◌, ℕ, ◌<◌, [], ◌∷◌, length, Bool, true, false, cond, Some, None, refl, ap, ap₂, sym, ◌∙◌, subst, arith}
use Rattle.std.specs.Prelude.{Result, Ok, Err}
use Rattle.dyadic.specs.Fraction.{Fraction, zero_fraction}
use Rattle.script_model.specs.Sexp.{Place}
use Rattle.poly_graph.specs.Term.{Term, constant, variable, negate, add, multiply, square, Kind, Atom}
use Rattle.poly_graph.specs.Form.{Form, atom_is, form_map}
use Rattle.poly_graph.proofs.Graphs.{length_terms}
use Rattle.script_forms.specs.Terms.{Comparison, Unfolded, term, is_zero, is_nought, subtract_tree, comparison_tree}
use Rattle.script_forms.specs.Unfolded.{term_in}
use Rattle.script_forms.specs.Atoms.{number_in, atom_of, already}
use Rattle.script_forms.specs.Work.{asked, formed, subtract_events, comparison_events, form_events}
use Rattle.script_forms.specs.Walk.{Stand, ask_atom, make_form}
use Rattle.term_build.specs.Built.{BuilderModel, stand_of, full_atom}
use Rattle.term_build.specs.Does.{Does, IsAtom, IsForm}
use Rattle.term_build.specs.Sketch.{comparison_of, IsAtomForm}
use Rattle.term_build.specs.Steps.{tree_of, Emits, IsTreeOf, as_constant}
use Rattle.term_build.specs.declared.stop.Stop.{Stop}
use Rattle.term_build.proofs.Settled.{extends_to, number_later}
use Rattle.term_build.specs.Settled.{Extends}
use Rattle.term_build.proofs.Lists.{index_get}
use Rattle.term_build.proofs.Emits.{emits_then, emits_stop, stops_so, stands_on, tree_is, tree_below}

pub zero_known : (t : Term) (q : Fraction) → Some q ≡ as_constant t → is_nought q ≡ is_zero t
zero_known (constant p) q e = let f : q ≡ p = cc in ap is_nought f
zero_known (variable i) q e = cc
zero_known (negate t) q e = cc
zero_known (add t u) q e = cc
zero_known (multiply t u) q e = cc
zero_known (square t) q e = cc

pub zero_not : (t : Term) → None ≡ as_constant t → false ≡ is_zero t
zero_not (constant p) e = cc
zero_not (variable i) e = refl
zero_not (negate t) e = refl
zero_not (add t u) e = refl
zero_not (multiply t u) e = refl
zero_not (square t) e = refl

-- where the right one is 0
pub term_left : (m : BuilderModel) (at : Place) (l r : ℕ) (kind : Kind) → l < length m.nodes → true ≡ is_zero (tree_of m r) → let c = comparison_of (stand_of m).trees at l r kind in Emits m m (comparison_events c) (Ok l) (IsTreeOf m (comparison_tree c))
term_left m at l r kind below e = let t = tree_of m l in let u = tree_of m r in
    subst (λ (b : Bool). Emits m m (cond b [] (subtract_events at t u)) (Ok l) (IsTreeOf m (cond b (term t) (subtract_tree at t u)))) e
    ((λ claim. refl), (t, refl, index_get (stand_of m).trees l (constant zero_fraction) (omega (arith, below, length_terms m.nodes))))

pub term_both : (m m1 : BuilderModel) (at : Place) (l r : ℕ) (kind : Kind) (x : Result ℕ Stop) → false ≡ is_zero (tree_of m r) → Emits m m1 (subtract_events at (tree_of m l) (tree_of m r)) x (IsTreeOf m1 (subtract_tree at (tree_of m l) (tree_of m r))) →
    let c = comparison_of (stand_of m).trees at l r kind in Emits m m1 (comparison_events c) x (IsTreeOf m1 (comparison_tree c))
term_both m m1 at l r kind x e h = let t = tree_of m l in let u = tree_of m r in
    subst (λ (b : Bool). Emits m m1 (cond b [] (subtract_events at t u)) x (IsTreeOf m1 (cond b (term t) (subtract_tree at t u)))) e h

-- ---- one event

pub emits_ask : (m m1 : BuilderModel) (a : Atom) (r : Result ℕ Stop) → Does m m1 (λ claim s. ask_atom claim s a) r (IsAtom m1 a) → Emits m m1 (asked a ∷ []) r (IsAtom m1 a)
emits_ask m m1 a (Ok k) h = ((λ claim. stands_on (ask_atom claim (stand_of m) a) ∙ h.0 claim), h.1)
emits_ask m m1 a (Err x) h = λ claim. stops_so claim _ (ask_atom claim (stand_of m) a) x (stands_on (ask_atom claim (stand_of m) a)) (h claim)

pub emits_form : (m m1 : BuilderModel) (f : Form Atom) (g : Form ℕ) (r : Result ℕ Stop) → g ≡ form_map (number_in (stand_of m).atoms) f → Does m m1 (λ claim s. make_form claim s g) r (IsForm m1 g) → Emits m m1 (formed f ∷ []) r (IsForm m1 g)
emits_form m m1 f g (Ok k) e h = ((λ claim. stands_on (make_form claim (stand_of m) (form_map (number_in (stand_of m).atoms) f)) ∙ ap (make_form claim (stand_of m)) (sym e) ∙ h.0 claim), h.1)
emits_form m m1 f g (Err x) e h = λ claim. stops_so claim _ (make_form claim (stand_of m) g) x (stands_on (make_form claim (stand_of m) (form_map (number_in (stand_of m).atoms) f)) ∙ ap (make_form claim (stand_of m)) (sym e)) (h claim)

-- ---- an atom's form

form-then : (m1 m2 : BuilderModel) (a : Atom) (k : ℕ) (r : Result ℕ Stop) → IsAtom m1 a k → Emits m1 m2 (formed (atom_is a) ∷ []) r (IsForm m2 (atom_is k)) → Emits m1 m2 (formed (atom_is a) ∷ []) r (IsAtomForm m2 a)
form-then m1 m2 a k (Err x) i h = h
form-then m1 m2 a k (Ok j) i h = (h.0, h.1 ∙ ap (λ n. Some (atom_is n)) (sym (numbers_stay (stand_of m1) (stand_of m2) a (extends_to (record { line = 0; column = 0 }) (stand_of m1) (stand_of m2) (formed (atom_is a) ∷ []) (h.0 (record { line = 0; column = 0 }))) i.2 ∙ i.1)))
  where
    numbers_stay : (s s' : Stand) (a : Atom) → Extends s s' → already a s.atoms ≡ true → number_in s'.atoms a ≡ number_in s.atoms a
    numbers_stay s s' a x h = ap (λ all. number_in all a) x.atoms.1 ∙ number_later a s.atoms x.atoms.0 h

pub atom_form_done : (m m1 m2 : BuilderModel) (a : Atom) (k : ℕ) (r : Result ℕ Stop) → Does m m1 (λ claim s. ask_atom claim s a) (Ok k) (IsAtom m1 a) → Does m1 m2 (λ claim s. make_form claim s (atom_is k)) r (IsForm m2 (atom_is k)) →
    Emits m m2 (asked a ∷ formed (atom_is a) ∷ []) r (IsAtomForm m2 a)
atom_form_done m m1 m2 a k r h i = emits_then (IsAtom m1 a) (IsAtomForm m2 a) m m1 m2 (asked a ∷ []) (formed (atom_is a) ∷ []) k r (emits_ask m m1 a (Ok k) h)
    (form-then m1 m2 a k r h.1 (emits_form m1 m2 (atom_is a) (atom_is k) r (ap atom_is (sym h.1.1)) i))

pub atom_form_stopped : (m m1 : BuilderModel) (a : Atom) (x : Stop) → Does m m1 (λ claim s. ask_atom claim s a) (Err x) (IsAtom m1 a) → Emits m m1 (asked a ∷ formed (atom_is a) ∷ []) (Err x) (IsAtomForm m1 a)
atom_form_stopped m m1 a x h = emits_stop (IsAtom m1 a) (IsAtomForm m1 a) m m1 m1 (asked a ∷ []) (formed (atom_is a) ∷ []) x (emits_ask m m1 a (Err x) h)

-- ---- a comparison

pub compare_done : (m m1 m2 : BuilderModel) (c : Comparison) (kind : Kind) (k : ℕ) (r : Result ℕ Stop) → c.kind ≡ kind → Emits m m1 (comparison_events c) (Ok k) (IsTreeOf m1 (comparison_tree c)) →
    Emits m1 m2 (asked (full_atom (stand_of m1).trees (k, kind)) ∷ formed (atom_is (full_atom (stand_of m1).trees (k, kind))) ∷ []) r (IsAtomForm m2 (full_atom (stand_of m1).trees (k, kind))) →
    Emits m m2 (form_events (atom_is c)) r (IsAtomForm m2 (atom_of c))
compare_done m m1 m2 c kind k r e h i =
    let t = h.1 in
    let same : full_atom (stand_of m1).trees (k, kind) ≡ atom_of c = ap₂ (λ x l. (x, l)) (tree_is m1 t.0 k t.2 ∙ sym (ap term_in t.1)) (sym e) in
    emits_then (IsTreeOf m1 (comparison_tree c)) (IsAtomForm m2 (atom_of c)) m m1 m2 (comparison_events c) (asked (atom_of c) ∷ formed (atom_is (atom_of c)) ∷ []) k r h
    (subst (λ (a : Atom). Emits m1 m2 (asked a ∷ formed (atom_is a) ∷ []) r (IsAtomForm m2 a)) same i)

pub compare_stopped : (m m1 : BuilderModel) (c : Comparison) (x : Stop) → Emits m m1 (comparison_events c) (Err x) (IsTreeOf m1 (comparison_tree c)) → Emits m m1 (form_events (atom_is c)) (Err x) (IsAtomForm m1 (atom_of c))
compare_stopped m m1 c x h = emits_stop (IsTreeOf m1 (comparison_tree c)) (IsAtomForm m1 (atom_of c)) m m1 m1 (comparison_events c) (asked (atom_of c) ∷ formed (atom_is (atom_of c)) ∷ []) x h

pub term_there : (m : BuilderModel) (u : Unfolded) (k : ℕ) → IsTreeOf m u k → k < length m.nodes
term_there m u k h = tree_below m h.0 k h.2
