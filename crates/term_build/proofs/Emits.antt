-- Events one after the other.
use Rattle.std.proofs.Common.{◌≡◌, ℕ, zero, suc, ◌<◌, ◌≤◌, List, [], ◌∷◌, ◌++◌, map, length, Bool, true, false, cond, IsTrue, Some, None, refl, ap, sym, ◌∙◌, subst, arith, slice_index_or, nat_eq, eqb→eq, append_assoc, append-nil, length-append}
use Rattle.std.specs.Prelude.{slice_get, IsFalse, Result, Ok, Err, MatchResult, IsErr, IsErrAnd}
use Rattle.std.specs.Bool.{passes}
use Rattle.std.proofs.lemmas.Bool.{eq-eqb}
use borrow.Author.Differences.{ints}
use Rattle.dyadic.specs.Fraction.{Fraction, zero_fraction, sum_of, product_of}
use Rattle.dyadic.specs.Lowest.{reduced, sum_fits, product_fits}
use Rattle.dyadic.specs.Views.{fraction_of_frac}
use Rattle.dyadic.specs.declared.frac.Frac.{Frac}
use Rattle.script_model.specs.Sexp.{Place}
use Rattle.smt_sexp.specs.Views.{place_of}
use Rattle.script_fault.specs.declared.limit.Limit.TheVariants.{Bytes, Depth, Axes, Size, Nodes, Atoms, Forms, Levels, Checks}
use Rattle.script_fault.specs.declared.place.Place as code
use Rattle.smt_script.specs.Views.{sort_of}
use Rattle.smt_script.specs.declared.command.Sort as code_sort
use Rattle.poly_graph.specs.Term.{Term, constant, variable, negate, add, multiply, square, Node, constant_node, variable_node, negate_node, add_node, multiply_node, square_node, node_term, graph_terms}
use Rattle.poly_graph.specs.Form.{form_map}
use Rattle.dyadic.specs.Point.{Sort, real_sort, bool_sort}
use Rattle.poly_graph.specs.Problem.{IsConstant, HasSort}
use Rattle.poly_graph.proofs.Graphs.{length_terms}
use Rattle.script_forms.specs.Terms.{Unfolded, term, refused, constant_or, add_tree, multiply_tree, subtract_tree, negate_tree, same_term, number_too_wide, zero_divisor, is_nought, inverse_of, divide_tree}
use Rattle.script_forms.specs.Unfolded.{term_in}
use Rattle.script_forms.proofs.Means.{same_term_is}
use Rattle.script_forms.proofs.Numbered.{term_self}
use Rattle.poly_graph.proofs.Same.{one_number}
use Rattle.script_forms.specs.Atoms.{already, number_in}
use Rattle.script_forms.specs.Work.{Event, reached, made, asked, formed, met, ending, add_events, multiply_events, subtract_events, divide_events}
use Rattle.script_forms.specs.Walk.{Stand, Walked, stands, stops, if_room, BuildingFault, unfolds_not, place_of_fault, make_tree, with_tree, with_atom, with_form, larger, has_tree, has_form, after_event, after_events, goes_on}
use Rattle.term_build.specs.Built.{BuilderModel, stand_of, IsMade}
use Rattle.term_build.specs.Does.{Does, StopsAs, IsTree, fault_of}
use Rattle.term_build.specs.Steps.{tree_of, Emits, IsTreeOf, as_constant, node_constant, as_variable, node_variable, both_of, constants, Folds, added, multiplied}
use Rattle.term_build.specs.declared.stop.Stop.{Stop}
use Rattle.term_build.specs.declared.stop.Stop.TheVariants as stop
use Rattle.term_build.specs.declared.stop.Fault.{Fault}
use Rattle.term_build.specs.declared.stop.Fault.TheVariants.{NumberTooWide, DivisorNotConstant, ZeroDivisor, IllFormed}
use Rattle.term_build.proofs.Trees.{tree_at}
use Rattle.term_build.proofs.Lists.{get_index, get_below, get_before, index_before}

-- ---- one after the other

pub stands_on : (w : Walked) → goes_on (λ s. stands s) w ≡ w
stands_on (stands s) = refl
stands_on (stops at x) = refl

on-both : (f g : Stand → Walked) (w : Walked) → goes_on (λ s. goes_on g (f s)) w ≡ goes_on g (goes_on f w)
on-both f g (stands s) = refl
on-both f g (stops at x) = refl

rest-of : (claim : Place) (es fs : List Event) → ((s : Stand) → after_events claim s (es ++ fs) ≡ goes_on (λ s'. after_events claim s' fs) (after_events claim s es)) → (w : Walked) →
    goes_on (λ s'. after_events claim s' (es ++ fs)) w ≡ goes_on (λ s'. after_events claim s' fs) (goes_on (λ s'. after_events claim s' es) w)
rest-of claim es fs f (stands s) = f s
rest-of claim es fs f (stops at x) = refl

pub events_both : (claim : Place) (s : Stand) (es fs : List Event) → after_events claim s (es ++ fs) ≡ goes_on (λ s'. after_events claim s' fs) (after_events claim s es)
events_both claim s [] fs = refl
events_both claim s (e ∷ es) fs = rest-of claim es fs (λ s'. events_both claim s' es fs) (after_event claim s e)

-- what this walk stopped with
pub stops_so : (claim : Place) (w w' : Walked) (e : Stop) → w ≡ w' → StopsAs claim w' e → StopsAs claim w e
stops_so claim w w' e h k = subst (λ (x : Walked). StopsAs claim x e) (sym h) k

pub stopped_on : (claim : Place) (w : Walked) (f : Stand → Walked) (e : Stop) → StopsAs claim w e → StopsAs claim (goes_on f w) e
unfolding Rattle.term_build.specs.Does.IsBeyond
stopped_on claim w f (stop.Fault at x) h = ap (goes_on f) h
stopped_on claim w f (stop.TooMany Size) h = ap (goes_on f) h
stopped_on claim w f (stop.TooMany Nodes) h = ap (goes_on f) h
stopped_on claim w f (stop.TooMany Atoms) h = ap (goes_on f) h
stopped_on claim w f (stop.TooMany Forms) h = ap (goes_on f) h
stopped_on claim w f (stop.TooMany Bytes) h = h
stopped_on claim w f (stop.TooMany Depth) h = h
stopped_on claim w f (stop.TooMany Axes) h = h
stopped_on claim w f (stop.TooMany Levels) h = h
stopped_on claim w f (stop.TooMany Checks) h = h
stopped_on claim w f stop.Memory h = tt

pub emits_then : {X Y : Type 0} (P : X → Type 0) (Q : Y → Type 0) (m m1 m2 : BuilderModel) (es fs : List Event) (k : X) (r : Result Y Stop) → Emits m m1 es (Ok k) P → Emits m1 m2 fs r Q → Emits m m2 (es ++ fs) r Q
emits_then P Q m m1 m2 es fs k (Ok y) h i = ((λ claim. events_both claim (stand_of m) es fs ∙ ap (goes_on (λ s'. after_events claim s' fs)) (h.0 claim) ∙ i.0 claim), i.1)
emits_then P Q m m1 m2 es fs k (Err e) h i = λ claim. stops_so claim _ (after_events claim (stand_of m1) fs) e (events_both claim (stand_of m) es fs ∙ ap (goes_on (λ s'. after_events claim s' fs)) (h.0 claim)) (i claim)

pub emits_stop : {X Y : Type 0} (P : X → Type 0) (Q : Y → Type 0) (m m1 m2 : BuilderModel) (es fs : List Event) (e : Stop) → Emits m m1 es (Err e) P → Emits m m2 (es ++ fs) (Err e) Q
emits_stop P Q m m1 m2 es fs e h = λ claim. stops_so claim _ (goes_on (λ s'. after_events claim s' fs) (after_events claim (stand_of m) es)) e (events_both claim (stand_of m) es fs)
    (stopped_on claim (after_events claim (stand_of m) es) (λ s'. after_events claim s' fs) e (h claim))

-- what holds of a number holds
pub emits_more : {X : Type 0} (P Q : X → Type 0) (m m1 : BuilderModel) (es : List Event) (r : Result X Stop) → ((x : X) → P x → Q x) → Emits m m1 es r P → Emits m m1 es r Q
emits_more P Q m m1 es (Ok x) f h = (h.0, f x h.1)
emits_more P Q m m1 es (Err e) f h = h

-- ---- one tree

pub emits_make : (m m1 : BuilderModel) (t : Term) (u : Unfolded) (r : Result ℕ Stop) → u ≡ term t → Does m m1 (λ claim s. make_tree claim s t) r (IsTree m1 t) → Emits m m1 (ending u) r (IsTreeOf m1 u)
emits_make m m1 t u r e h = subst (λ (v : Unfolded). Emits m m1 (ending v) r (IsTreeOf m1 v)) (sym e) (go r h)
  where
    go : (r : Result ℕ Stop) → Does m m1 (λ claim s. make_tree claim s t) r (IsTree m1 t) → Emits m m1 (made t ∷ []) r (IsTreeOf m1 (term t))
    go (Ok k) h = ((λ claim. stands_on (make_tree claim (stand_of m) t) ∙ h.0 claim), (t, refl, h.1))
    go (Err x) h = λ claim. stops_so claim _ (make_tree claim (stand_of m) t) x (stands_on (make_tree claim (stand_of m) t)) (h claim)

-- the same of the one event
pub emits_made : (m m1 : BuilderModel) (t : Term) (r : Result ℕ Stop) → Does m m1 (λ claim s. make_tree claim s t) r (IsTree m1 t) → Emits m m1 (made t ∷ []) r (IsTree m1 t)
emits_made m m1 t (Ok k) h = ((λ claim. stands_on (make_tree claim (stand_of m) t) ∙ h.0 claim), h.1)
emits_made m m1 t (Err x) h = λ claim. stops_so claim _ (make_tree claim (stand_of m) t) x (stands_on (make_tree claim (stand_of m) t)) (h claim)

place-of : (at : Place) (k : Fault) → place_of_fault (fault_of at k) ≡ at
place-of at NumberTooWide = refl
place-of at DivisorNotConstant = refl
place-of at ZeroDivisor = refl
place-of at IllFormed = refl

pub emits_fault : {X : Type 0} (P : X → Type 0) (m m1 : BuilderModel) (u : Unfolded) (at : code.Place) (k : Fault) → u ≡ refused (fault_of (place_of at) k) → Emits m m1 (ending u) (Err (stop.Fault at k)) P
emits_fault P m m1 u at k e = λ claim. ap (λ v. after_events claim (stand_of m) (ending v)) e ∙ ap (λ p. stops p (unfolds_not (fault_of (place_of at) k))) (place-of (place_of at) k)

-- ---- constants

pub frac_constant : (q : Frac) → IsConstant (fraction_of_frac q)
frac_constant q = (omega (arith, ints, q.lowest.positive), q.lowest.in_lowest_terms, q.lowest.few_digits, q.lowest.few_digits_below)

pub add_is : (at : Place) (t u : Term) → add_tree at t u ≡ added at t u (constants t u)
add_is at (constant p) (constant q) = refl
add_is at _ _ = refl

pub multiply_is : (at : Place) (t u : Term) → multiply_tree at t u ≡ multiplied at t u (constants t u)
multiply_is at (constant p) (constant q) = refl
multiply_is at _ _ = refl

true-is : (b : Bool) → IsTrue b → b ≡ true
true-is true h = refl
true-is false h = cc

pub folds_ok : (at : Place) (r : Frac) (fits : Bool) (q : Fraction) → IsTrue fits → fraction_of_frac r ≡ reduced q → constant_or at fits q ≡ term (constant (fraction_of_frac r))
folds_ok at r true q h e = ap (λ (x : Fraction). term (constant x)) (sym e)
folds_ok at r false q h e = cc

pub folds_not : (at : Place) (fits : Bool) (q : Fraction) → IsFalse fits → constant_or at fits q ≡ refused (number_too_wide at)
folds_not at true q h = cc
folds_not at false q h = refl

-- ---- trees stay

abbrev pub Grows : List Term → List Term → Type 0
Grows ts us = (vs : List Term) × (us ≡ ts ++ vs)

-- where the walk goes on, the trees before stand first
abbrev pub Keeps : List Term → Walked → Type 0
Keeps ts (stands s) = Grows ts s.trees
Keeps ts (stops at x) = Unit {0}

keeps-room : (b : Bool) (claim : Place) (x : BuildingFault) (ts : List Term) (s : Stand) → Grows ts s.trees → Keeps ts (if_room b claim x s)
keeps-room true claim x ts s h = h
keeps-room false claim x ts s h = tt

keeps-cond : (b : Bool) (ts : List Term) (v w : Walked) → Keeps ts v → Keeps ts w → Keeps ts (cond b v w)
keeps-cond true ts v w h k = h
keeps-cond false ts v w h k = k

grows-none : (ts : List Term) → Grows ts ts
grows-none ts = ([], sym (append-nil ts))

keeps-event : (claim : Place) (s : Stand) (e : Event) → Keeps s.trees (after_event claim s e)
keeps-event claim s reached = keeps-room _ claim _ s.trees (larger s) (grows-none s.trees)
keeps-event claim s (made t) = keeps-cond (has_tree t s.trees) s.trees (stands s) _ (grows-none s.trees) (keeps-room _ claim _ s.trees (with_tree s t) (t ∷ [], refl))
keeps-event claim s (asked a) = keeps-cond (already a s.atoms) s.trees (stands s) _ (grows-none s.trees) (keeps-room _ claim _ s.trees (with_atom s a) (grows-none s.trees))
keeps-event claim s (formed f) = let g = form_map (number_in s.atoms) f in
    keeps-cond (has_form g s.forms) s.trees (stands s) _ (grows-none s.trees) (keeps-room _ claim _ s.trees (with_form s g) (grows-none s.trees))
keeps-event claim s (met x) = tt

keeps-on : (ts : List Term) (w : Walked) (f : Stand → Walked) → Keeps ts w → ((s : Stand) → Keeps s.trees (f s)) → Keeps ts (goes_on f w)
keeps-on ts (stops at x) f h k = tt
keeps-on ts (stands s) f h k = further ts s.trees (f s) h (k s)
  where
    further : (ts us : List Term) (w : Walked) → Grows ts us → Keeps us w → Keeps ts w
    further ts us (stops at x) g h = tt
    further ts us (stands s) g h = (g.0 ++ h.0, h.1 ∙ ap (λ xs. xs ++ h.0) g.1 ∙ append_assoc ts g.0 h.0)

pub keeps_events : (claim : Place) (s : Stand) (es : List Event) → Keeps s.trees (after_events claim s es)
keeps_events claim s [] = grows-none s.trees
keeps_events claim s (e ∷ es) = keeps-on s.trees (after_event claim s e) (λ s'. after_events claim s' es) (keeps-event claim s e) (λ s'. keeps_events claim s' es)

pub grown : {X : Type 0} (P : X → Type 0) (m m1 : BuilderModel) (es : List Event) (k : X) → Emits m m1 es (Ok k) P → Grows (stand_of m).trees (stand_of m1).trees
grown P m m1 es k h = let claim : Place = record { line = 0; column = 0 } in subst (λ (w : Walked). Keeps (stand_of m).trees w) (h.0 claim) (keeps_events claim (stand_of m) es)

-- a tree keeps its node
pub tree_stays : (m m1 : BuilderModel) (t : Term) (k : ℕ) → Grows (stand_of m).trees (stand_of m1).trees → IsTree m t k → IsTree m1 t k
tree_stays m m1 t k g h = ap (λ ts. slice_get ts k) g.1 ∙ get_before (stand_of m).trees g.0 k t h

pub tree_is : (m : BuilderModel) (t : Term) (k : ℕ) → IsTree m t k → tree_of m k ≡ t
tree_is m t k h = get_index (stand_of m).trees k t (constant zero_fraction) h

pub tree_below : (m : BuilderModel) (t : Term) (k : ℕ) → IsTree m t k → k < length m.nodes
tree_below m t k h = omega (arith, get_below (stand_of m).trees k t h, length_terms m.nodes)

pub same_tree : (m m1 : BuilderModel) (k : ℕ) → Grows (stand_of m).trees (stand_of m1).trees → k < length m.nodes → tree_of m1 k ≡ tree_of m k
same_tree m m1 k g h = ap (λ ts. slice_index_or ts k (constant zero_fraction)) g.1 ∙ index_before (stand_of m).trees g.0 k (constant zero_fraction) (omega (arith, h, length_terms m.nodes))

pub more_nodes : (m m1 : BuilderModel) → Grows (stand_of m).trees (stand_of m1).trees → length m.nodes ≤ length m1.nodes
more_nodes m m1 g = omega (arith, length_terms m.nodes, length_terms m1.nodes, ap (λ (ts : List Term). length ts) g.1, length-append (stand_of m).trees g.0)

-- ---- the constants of nodes

node-constant : (ts : List Term) (n : Node) → node_constant n ≡ as_constant (node_term ts n)
node-constant ts (constant_node q) = refl
node-constant ts (variable_node axis) = refl
node-constant ts (negate_node a) = refl
node-constant ts (add_node a b) = refl
node-constant ts (multiply_node a b) = refl
node-constant ts (square_node a) = refl

pub constant_seen : (m m' : BuilderModel) (k : ℕ) (n : Node) → m ≡ m' → IsMade m → slice_get m.nodes k ≡ Some n → node_constant n ≡ as_constant (tree_of m' k)
constant_seen m m' k n e h i = node-constant (graph_terms m.nodes) n ∙ ap as_constant (sym (get_index (graph_terms m.nodes) k (node_term (graph_terms m.nodes) n) (constant zero_fraction) (tree_at m.nodes h.graph k n i)))
    ∙ ap (λ (x : BuilderModel). as_constant (tree_of x k)) e

node-variable : (ts : List Term) (n : Node) → node_variable n ≡ as_variable (node_term ts n)
node-variable ts (constant_node q) = refl
node-variable ts (variable_node axis) = refl
node-variable ts (negate_node a) = refl
node-variable ts (add_node a b) = refl
node-variable ts (multiply_node a b) = refl
node-variable ts (square_node a) = refl

pub variable_seen : (m m' : BuilderModel) (k : ℕ) (n : Node) → m ≡ m' → IsMade m → slice_get m.nodes k ≡ Some n → node_variable n ≡ as_variable (tree_of m' k)
variable_seen m m' k n e h i = node-variable (graph_terms m.nodes) n ∙ ap as_variable (sym (get_index (graph_terms m.nodes) k (node_term (graph_terms m.nodes) n) (constant zero_fraction) (tree_at m.nodes h.graph k n i)))
    ∙ ap (λ (x : BuilderModel). as_variable (tree_of x k)) e

pub constants_by : (t u : Term) → both_of (as_constant t) (as_constant u) ≡ constants t u
constants_by (constant p) (constant q) = refl
constants_by _ _ = refl

-- ---- steps of constants

pub add_folded : (m m1 : BuilderModel) (at : Place) (t u : Term) (p q : Fraction) (r : Result ℕ Stop) → Some (p, q) ≡ constants t u → Emits m m1 (ending (constant_or at (sum_fits p q) (sum_of p q))) r (IsTreeOf m1 (constant_or at (sum_fits p q) (sum_of p q))) →
    Emits m m1 (add_events at t u) r (IsTreeOf m1 (add_tree at t u))
add_folded m m1 at t u p q r e h = subst (λ (v : Unfolded). Emits m m1 (ending v) r (IsTreeOf m1 v)) (ap (added at t u) e ∙ sym (add_is at t u)) h

pub multiply_folded : (m m1 : BuilderModel) (at : Place) (t u : Term) (p q : Fraction) (r : Result ℕ Stop) → Some (p, q) ≡ constants t u → Emits m m1 (ending (constant_or at (product_fits p q) (product_of p q))) r (IsTreeOf m1 (constant_or at (product_fits p q) (product_of p q))) →
    Emits m m1 (multiply_events at t u) r (IsTreeOf m1 (multiply_tree at t u))
multiply_folded m m1 at t u p q r e h = subst (λ (v : Unfolded). Emits m m1 (ending v) r (IsTreeOf m1 v)) (ap (multiplied at t u) e ∙ sym (multiply_is at t u)) h

pub folds_of : {E : Type 0} (r : Result Frac E) (fits : Bool) (q : Fraction) → MatchResult r (λ x. IsTrue fits × (fraction_of_frac x ≡ reduced q)) (λ x. IsFalse fits) → Folds r fits q
folds_of (Ok x) fits q h = h
folds_of (Err x) fits q h = h

-- one and the same tree or not
pub same_if : (m : BuilderModel) (a b : ℕ) → IsMade m → a < length m.nodes → b < length m.nodes → same_term (tree_of m a) (tree_of m b) ≡ nat_eq a b
same_if m a b h k l = go (nat_eq a b) refl (same_term (tree_of m a) (tree_of m b)) refl
  where
    go : (x : Bool) → nat_eq a b ≡ x → (y : Bool) → same_term (tree_of m a) (tree_of m b) ≡ y → y ≡ x
    go true e true f = refl
    go false e false f = refl
    go true e false f = sym f ∙ ap (λ i. same_term (tree_of m a) (tree_of m i)) (sym (eqb→eq a b (passes _ e))) ∙ term_self (tree_of m a)
    go false e true f = sym (eq-eqb a b (one_number m.nodes h.graph a b k l (same_term_is (tree_of m a) (tree_of m b) f))) ∙ e

pub same_seen : (m m' : BuilderModel) (a b : ℕ) → m ≡ m' → IsMade m → a < length m'.nodes → b < length m'.nodes → nat_eq a b ≡ same_term (tree_of m' a) (tree_of m' b)
same_seen m m' a b e h k l = sym (same_if m a b h (subst (λ (x : BuilderModel). a < length x.nodes) (sym e) k) (subst (λ (x : BuilderModel). b < length x.nodes) (sym e) l)) ∙ ap (λ (x : BuilderModel). same_term (tree_of x a) (tree_of x b)) e

-- a product of trees that are not both constants
pub multiply_apart : (m m1 : BuilderModel) (at : Place) (t u x : Term) (r : Result ℕ Stop) → None ≡ constants t u → x ≡ cond (same_term t u) (square t) (multiply t u) → Does m m1 (λ claim s. make_tree claim s x) r (IsTree m1 x) →
    Emits m m1 (multiply_events at t u) r (IsTreeOf m1 (multiply_tree at t u))
multiply_apart m m1 at t u x r e f h = emits_make m m1 x (multiply_tree at t u) r (multiply_is at t u ∙ ap (multiplied at t u) (sym e) ∙ ap (λ y. term y) (sym f)) h

-- a difference is a sum with the opposite
subtract-then : (m m1 m2 : BuilderModel) (at : Place) (a b k : ℕ) (t : Term) (r : Result ℕ Stop) → a < length m.nodes → term (negate_tree (tree_of m b)) ≡ term t → IsTree m1 t k →
    Emits m m1 (made t ∷ []) (Ok k) (IsTreeOf m1 (term t)) → Emits m1 m2 (add_events at (tree_of m1 a) (tree_of m1 k)) r (IsTreeOf m2 (add_tree at (tree_of m1 a) (tree_of m1 k))) →
    Emits m m2 (subtract_events at (tree_of m a) (tree_of m b)) r (IsTreeOf m2 (subtract_tree at (tree_of m a) (tree_of m b)))
subtract-then m m1 m2 at a b k t r below e is h i =
    let left = same_tree m m1 a (grown (IsTreeOf m1 (term t)) m m1 (made t ∷ []) k h) below in
    let right : tree_of m1 k ≡ negate_tree (tree_of m b) = tree_is m1 t k is ∙ sym (ap (λ (u : Unfolded). term_in u) e) in
    emits_then (IsTreeOf m1 (term t)) (IsTreeOf m2 (subtract_tree at (tree_of m a) (tree_of m b))) m m1 m2 (made (negate_tree (tree_of m b)) ∷ []) (ending (subtract_tree at (tree_of m a) (tree_of m b))) k r
    (subst (λ (x : Term). Emits m m1 (made x ∷ []) (Ok k) (IsTreeOf m1 (term t))) (sym (ap (λ (u : Unfolded). term_in u) e)) h)
    (subst (λ (x : Term). Emits m1 m2 (add_events at x (negate_tree (tree_of m b))) r (IsTreeOf m2 (add_tree at x (negate_tree (tree_of m b))))) left
    (subst (λ (x : Term). Emits m1 m2 (add_events at (tree_of m1 a) x) r (IsTreeOf m2 (add_tree at (tree_of m1 a) x))) right i))

pub subtract_done : (m m1 m2 : BuilderModel) (at : Place) (a b k : ℕ) (r : Result ℕ Stop) → a < length m.nodes →
    Emits m m1 (ending (term (negate_tree (tree_of m b)))) (Ok k) (IsTreeOf m1 (term (negate_tree (tree_of m b)))) →
    Emits m1 m2 (add_events at (tree_of m1 a) (tree_of m1 k)) r (IsTreeOf m2 (add_tree at (tree_of m1 a) (tree_of m1 k))) →
    Emits m m2 (subtract_events at (tree_of m a) (tree_of m b)) r (IsTreeOf m2 (subtract_tree at (tree_of m a) (tree_of m b)))
subtract_done m m1 m2 at a b k r below h i = let x = negate_tree (tree_of m b) in
    subtract-then m m1 m2 at a b k x r below refl (subst (λ (y : Term). IsTree m1 y k) (sym (ap (λ (u : Unfolded). term_in u) h.1.1)) h.1.2) h i

pub subtract_stopped : (m m1 : BuilderModel) (at : Place) (a b : ℕ) (e : Stop) → Emits m m1 (ending (term (negate_tree (tree_of m b)))) (Err e) (IsTreeOf m1 (term (negate_tree (tree_of m b)))) →
    Emits m m1 (subtract_events at (tree_of m a) (tree_of m b)) (Err e) (IsTreeOf m1 (subtract_tree at (tree_of m a) (tree_of m b)))
subtract_stopped m m1 at a b e h = emits_stop (IsTreeOf m1 (term (negate_tree (tree_of m b)))) (IsTreeOf m1 (subtract_tree at (tree_of m a) (tree_of m b))) m m1 m1 (made (negate_tree (tree_of m b)) ∷ []) (ending (subtract_tree at (tree_of m a) (tree_of m b))) e h

-- what `?` hands on
pub err_is : {X : Type 0} (r : Result X Stop) (e : Stop) → IsErr r × IsErrAnd r (λ x. x ≡ e) → r ≡ Err e
err_is (Err x) e h = ap (λ y. Err y) h.1
err_is (Ok x) e h = absurd h.1

-- a product of one tree, or of two
pub product_done : (m m1 : BuilderModel) (at : Place) (a b : ℕ) (n : Node) (r : Result ℕ Stop) (same : Bool) → None ≡ constants (tree_of m a) (tree_of m b) → same ≡ same_term (tree_of m a) (tree_of m b) → n ≡ cond same (square_node a) (multiply_node a b) →
    Does m m1 (λ claim s. make_tree claim s (node_term (graph_terms m.nodes) n)) r (IsTree m1 (node_term (graph_terms m.nodes) n)) →
    Emits m m1 (multiply_events at (tree_of m a) (tree_of m b)) r (IsTreeOf m1 (multiply_tree at (tree_of m a) (tree_of m b)))
product_done m m1 at a b n r same apart e f h = multiply_apart m m1 at (tree_of m a) (tree_of m b) (node_term (graph_terms m.nodes) n) r apart
    (ap (node_term (graph_terms m.nodes)) f ∙ node-cond (graph_terms m.nodes) a b same ∙ ap (λ c. cond c (square (tree_of m a)) (multiply (tree_of m a) (tree_of m b))) e) h
  where
    node-cond : (ts : List Term) (a b : ℕ) (c : Bool) → node_term ts (cond c (square_node a) (multiply_node a b)) ≡ cond c (square (slice_index_or ts a (constant zero_fraction))) (multiply (slice_index_or ts a (constant zero_fraction)) (slice_index_or ts b (constant zero_fraction)))
    node-cond ts a b true = refl
    node-cond ts a b false = refl

-- ---- the sorts of the constants

head-sort : (s x : Sort) (sorts : List Sort) → x ≡ s → HasSort x (s ∷ sorts) zero
head-sort real_sort x sorts e = rw e tt
head-sort bool_sort x sorts e = rw e tt

sort-there : (raw : List code_sort.Sort) (axis : ℕ) (x d : code_sort.Sort) → axis < length (map sort_of raw) → x ≡ slice_index_or raw axis d → HasSort (sort_of x) (map sort_of raw) axis
sort-there [] axis x d h e = absurd (omega (arith, h))
sort-there (s ∷ raw) zero x d h e = head-sort (sort_of s) (sort_of x) (map sort_of raw) (ap sort_of e)
sort-there (s ∷ raw) (suc axis) x d h e = later (sort_of s) (sort_of x) (map sort_of raw) axis (sort-there raw axis x d (omega (arith, h)) e)
  where
    later : (s x : Sort) (sorts : List Sort) (axis : ℕ) → HasSort x sorts axis → HasSort x (s ∷ sorts) (suc axis)
    later s real_sort sorts axis h = h
    later s bool_sort sorts axis h = h

pub sort_seen : (m m' : BuilderModel) (raw : List code_sort.Sort) (axis : ℕ) (x d : code_sort.Sort) → m ≡ m' → m.sorts ≡ map sort_of raw → axis < length m'.sorts → x ≡ slice_index_or raw axis d → HasSort (sort_of x) m'.sorts axis
sort_seen m m' raw axis x d e f h i = let g : m'.sorts ≡ map sort_of raw = ap (λ (y : BuilderModel). y.sorts) (sym e) ∙ f in
    subst (λ (sorts : List Sort). HasSort (sort_of x) sorts axis) (sym g) (sort-there raw axis x d (subst (λ (sorts : List Sort). axis < length sorts) g h) i)

-- ---- quotients

constant-is : (u : Term) (q : Fraction) → Some q ≡ as_constant u → u ≡ constant q
constant-is (constant p) q e = let f : p ≡ q = cc in ap constant f
constant-is (variable i) q e = cc
constant-is (negate t) q e = cc
constant-is (add t u) q e = cc
constant-is (multiply t u) q e = cc
constant-is (square t) q e = cc

not-nought : (b : Bool) (i j : Fraction) → Some i ≡ cond b None (Some j) → (b ≡ false) × (i ≡ j)
not-nought true i j e = cc
not-nought false i j e = (refl, cc)

-- by this constant, where it is 0 or not
abbrev quotient : Place → Term → Fraction → Bool → Unfolded
quotient at t q b = cond b (refused (zero_divisor at)) (multiply_tree at t (constant (inverse_of q)))

abbrev quotient-events : Place → Term → Fraction → Bool → List Event
quotient-events at t q b = cond b [] (made (constant (inverse_of q)) ∷ []) ++ ending (quotient at t q b)

divide-by : (m m2 : BuilderModel) (at : Place) (t u : Term) (q i : Fraction) (r : Result ℕ Stop) → Some q ≡ as_constant u → Some i ≡ cond (is_nought q) None (Some (inverse_of q)) →
    Emits m m2 (made (constant i) ∷ ending (multiply_tree at t (constant i))) r (IsTreeOf m2 (multiply_tree at t (constant i))) → Emits m m2 (divide_events at t u) r (IsTreeOf m2 (divide_tree at t u))
divide-by m m2 at t u q i r e f h = let n = not-nought (is_nought q) i (inverse_of q) f in
    subst (λ (x : Term). Emits m m2 (divide_events at t x) r (IsTreeOf m2 (divide_tree at t x))) (sym (constant-is u q e))
    (subst (λ (b : Bool). Emits m m2 (quotient-events at t q b) r (IsTreeOf m2 (quotient at t q b))) (sym n.0)
    (subst (λ (j : Fraction). Emits m m2 (made (constant j) ∷ ending (multiply_tree at t (constant j))) r (IsTreeOf m2 (multiply_tree at t (constant j)))) n.1 h))

pub divide_done : (m m1 m2 : BuilderModel) (at : Place) (a b k : ℕ) (q i : Fraction) (r : Result ℕ Stop) → Some q ≡ as_constant (tree_of m b) → Some i ≡ cond (is_nought q) None (Some (inverse_of q)) → a < length m.nodes →
    Does m m1 (λ claim s. make_tree claim s (constant i)) (Ok k) (IsTree m1 (constant i)) → Emits m1 m2 (multiply_events at (tree_of m1 a) (tree_of m1 k)) r (IsTreeOf m2 (multiply_tree at (tree_of m1 a) (tree_of m1 k))) →
    Emits m m2 (divide_events at (tree_of m a) (tree_of m b)) r (IsTreeOf m2 (divide_tree at (tree_of m a) (tree_of m b)))
divide_done m m1 m2 at a b k q i r e f below h l =
    let one = emits_made m m1 (constant i) (Ok k) h in
    let left = same_tree m m1 a (grown (IsTree m1 (constant i)) m m1 (made (constant i) ∷ []) k one) below in
    let right : tree_of m1 k ≡ constant i = tree_is m1 (constant i) k h.1 in
    divide-by m m2 at (tree_of m a) (tree_of m b) q i r e f
    (emits_then (IsTree m1 (constant i)) (IsTreeOf m2 (multiply_tree at (tree_of m a) (constant i))) m m1 m2 (made (constant i) ∷ []) (ending (multiply_tree at (tree_of m a) (constant i))) k r one
    (subst (λ (x : Term). Emits m1 m2 (multiply_events at x (constant i)) r (IsTreeOf m2 (multiply_tree at x (constant i)))) left
    (subst (λ (x : Term). Emits m1 m2 (multiply_events at (tree_of m1 a) x) r (IsTreeOf m2 (multiply_tree at (tree_of m1 a) x))) right l)))

pub divide_stopped : (m m1 : BuilderModel) (at : Place) (a b : ℕ) (q i : Fraction) (x : Stop) → Some q ≡ as_constant (tree_of m b) → Some i ≡ cond (is_nought q) None (Some (inverse_of q)) →
    Does m m1 (λ claim s. make_tree claim s (constant i)) (Err x) (IsTree m1 (constant i)) → Emits m m1 (divide_events at (tree_of m a) (tree_of m b)) (Err x) (IsTreeOf m1 (divide_tree at (tree_of m a) (tree_of m b)))
divide_stopped m m1 at a b q i x e f h = divide-by m m1 at (tree_of m a) (tree_of m b) q i (Err x) e f
    (emits_stop (IsTree m1 (constant i)) (IsTreeOf m1 (multiply_tree at (tree_of m a) (constant i))) m m1 m1 (made (constant i) ∷ []) (ending (multiply_tree at (tree_of m a) (constant i))) x (emits_made m m1 (constant i) (Err x) h))

-- a tree that was made leaves the others in place
pub made_grows : (m m1 : BuilderModel) (t : Term) (k : ℕ) → Does m m1 (λ claim s. make_tree claim s t) (Ok k) (IsTree m1 t) → Grows (stand_of m).trees (stand_of m1).trees
made_grows m m1 t k h = grown (IsTree m1 t) m m1 (made t ∷ []) k (emits_made m m1 t (Ok k) h)
