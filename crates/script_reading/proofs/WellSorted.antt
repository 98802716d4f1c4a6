-- Well-sorted scripts unfold to formulas, or to faults of constant steps and divisions.
use Rattle.std.proofs.Common.{◌≡◌, ℕ, suc, List, [], ◌∷◌, ◌++◌, length, Bool, true, false, ◌&&◌, ◌||◌, cond, Option, Some, None, nat_eq, nat_le, bytes_eq, codes, refl, ap, sym, ◌∙◌, subst, true≢false}
use Rattle.std.specs.List.{AllByRecursion}
use Rattle.dyadic.specs.Point.{Sort, real_sort, bool_sort}
use Rattle.script_model.specs.Sexp.{Place, Sexp, place_of}
use Rattle.script_model.specs.Reading.{Operator, truth, falsehood, negation, conjunction, disjunction, implication, exclusive, equality, distinctness, choice, minus, plus, times, divide, at_most_op, below_op, at_least_op, above_op, Reason, malformed, left_out, unknown, Label, Names, value, meaning}
use Rattle.script_model.specs.Script.{Command, declare, define, claim, minimize, check, ineffective, Parameter, bound_to, defined, claims, goal_claim, sorts_of}
use Rattle.script_model.specs.Declared.{numbered}
use Rattle.script_model.proofs.Related.{Each, Alike, AlikeNames, Respects, meaning_alike, append_alike}
use Rattle.poly_graph.specs.Form.{form_atoms}
use Rattle.script_forms.specs.Terms.{Fault, ill_formed, Comparison, Unfolded, term, formula, refused, either, comparison_tree}
use Rattle.script_forms.specs.Unfolded.{as_tree, checked, unless_refused, first_fault, takes, are_terms, are_formulas, unfolded_operation, at_most_two, at_least_two, at_most_terms, at_least_terms, is_real_tree, picks_terms, choice_tree}
use Rattle.script_forms.specs.Atoms.{constant_tree, trees, fault_of, comparison_fault, or_next, comparisons_fault, tree_fault, trees_fault, unfolding_fault}
use Rattle.sort_check.specs.Sorts.{Sorted, of_sort, ill, mismatched, SortFault, unknown_symbol, redeclared, sort_mismatch, left_out_form, first_ill, or_first, is_real, is_bool, all_of, if_takes, operator_sort, is_taken, first_of_two, binding_sort, placed_call, because, sorting, same_sort, is_of, fit, signature, parameter_names, Finding, wants, then_on, new_name, taken_parameter, room_for, sort_fault_from, sort_fault}
use Rattle.script_reading.specs.WellSorted.{IsSound, IfSound, IsClaim}
use Rattle.script_reading.proofs.Shapes.{IsRealTree, IsFormula, sum_real, product_real, quotient_real, subtraction_real, comparison_real, implies_formula, xor_formula, not_formula, chain_formula, equality_formula, distinctness_formula, compare_formula, picked_real, choice_tree_formula}

-- the tree is of the sort, or has a fault that well-sorted expressions may meet
abbrev pub HasSort : Sort → Unfolded → Type 0
HasSort real_sort u = IsRealTree u
HasSort bool_sort u = IsClaim u

abbrev pub Fits : Sorted → Unfolded → Type 0
Fits (of_sort s) u = HasSort s u
Fits (ill at x) u = Unit {0}
Fits mismatched u = Unit {0}

-- ---- faults of arguments

refused-has : (s : Sort) (x : Fault) → IsSound x → HasSort s (refused x)
refused-has real_sort x h = h
refused-has bool_sort x h = h

refused-fits : (s : Sorted) (x : Fault) → IsSound x → Fits s (refused x)
refused-fits (of_sort s) x h = refused-has s x h
refused-fits (ill at f) x h = tt
refused-fits mismatched x h = tt

sound-of : (s : Sort) (x : Fault) → HasSort s (refused x) → IsSound x
sound-of real_sort x h = h
sound-of bool_sort x h = h

-- the first fault of arguments that all have sorts
first-sound : (ss : List Sorted) (us : List Unfolded) → Each Fits ss us → first_ill ss ≡ None → (o : Option Fault) → first_fault us ≡ o → IfSound o
first-sound ss us h e None k = tt
first-sound [] [] h e (Some x) k = cc
first-sound (of_sort s ∷ ss) (refused y ∷ us) h e (Some x) k = subst IfSound k (sound-of s y h.0)
first-sound (of_sort s ∷ ss) (term t ∷ us) h e (Some x) k = first-sound ss us h.1 e (Some x) k
first-sound (of_sort s ∷ ss) (formula f g ∷ us) h e (Some x) k = first-sound ss us h.1 e (Some x) k
first-sound (of_sort s ∷ ss) (either c d a b ∷ us) h e (Some x) k = first-sound ss us h.1 e (Some x) k
first-sound (ill at f ∷ ss) (u ∷ us) h e (Some x) k = cc
first-sound (mismatched ∷ ss) (u ∷ us) h e (Some x) k = cc
first-sound [] (u ∷ us) h e (Some x) k = elim h [ ]
first-sound (s ∷ ss) [] h e (Some x) k = elim h [ ]

ill-fits : (ss : List Sorted) (x : Sorted) (u : Unfolded) → first_ill ss ≡ Some x → Fits x u
ill-fits [] x u e = cc
ill-fits (of_sort s ∷ ss) x u e = ill-fits ss x u e
ill-fits (ill at f ∷ ss) (of_sort s) u e = cc
ill-fits (ill at f ∷ ss) (ill at' f') u e = tt
ill-fits (ill at f ∷ ss) mismatched u e = tt
ill-fits (mismatched ∷ ss) (of_sort s) u e = cc
ill-fits (mismatched ∷ ss) (ill at f) u e = tt
ill-fits (mismatched ∷ ss) mismatched u e = tt

unless-fits : (s : Sorted) (u : Unfolded) (o : Option Fault) → IfSound o → (o ≡ None → Fits s u) → Fits s (unless_refused o u)
unless-fits s u None h f = f refl
unless-fits s u (Some x) h f = refused-fits s x h

-- arguments and then the whole
arguments-fit : (ss : List Sorted) (us : List Unfolded) (s : Sorted) (u : Unfolded) (o : Option Sorted) → first_ill ss ≡ o → Each Fits ss us →
    (first_ill ss ≡ None → first_fault us ≡ None → Fits s u) → Fits (or_first o s) (checked us u)
arguments-fit ss us s u (Some x) e h f = ill-fits ss x (checked us u) e
arguments-fit ss us s u None e h f = unless-fits s u (first_fault us) (first-sound ss us h e (first_fault us) refl) (λ k. f e k)

-- ---- arguments of one sort

both : (x y : Bool) → x && y ≡ true → (x ≡ true) × (y ≡ true)
both true y h = (refl, h)
both false y h = cc

both-true : (x y : Bool) → x ≡ true → y ≡ true → x && y ≡ true
both-true true y h k = k
both-true false y h k = h

bools : (ss : List Sorted) (us : List Unfolded) → Each Fits ss us → first_fault us ≡ None → all_of is_bool ss ≡ true → are_formulas us ≡ true
bools [] [] h k e = refl
bools (of_sort bool_sort ∷ ss) (formula f g ∷ us) h k e = bools ss us h.1 k e
bools (of_sort bool_sort ∷ ss) (term t ∷ us) h k e = elim h.0 [ ]
bools (of_sort bool_sort ∷ ss) (either c d a b ∷ us) h k e = elim h.0 [ ]
bools (s ∷ ss) (refused x ∷ us) h k e = cc
bools (of_sort real_sort ∷ ss) (u ∷ us) h k e = cc
bools (ill at f ∷ ss) (u ∷ us) h k e = cc
bools (mismatched ∷ ss) (u ∷ us) h k e = cc
bools [] (u ∷ us) h k e = elim h [ ]
bools (s ∷ ss) [] h k e = elim h [ ]

reals : (ss : List Sorted) (us : List Unfolded) → Each Fits ss us → first_fault us ≡ None → all_of is_real ss ≡ true → are_terms us ≡ true
reals [] [] h k e = refl
reals (of_sort real_sort ∷ ss) (term t ∷ us) h k e = reals ss us h.1 k e
reals (of_sort real_sort ∷ ss) (formula f g ∷ us) h k e = elim h.0 [ ]
reals (of_sort real_sort ∷ ss) (either c d a b ∷ us) h k e = both-true (is_real_tree a && is_real_tree b) (are_terms us) h.0 (reals ss us h.1 k e)
reals (s ∷ ss) (refused x ∷ us) h k e = cc
reals (of_sort bool_sort ∷ ss) (u ∷ us) h k e = cc
reals (ill at f ∷ ss) (u ∷ us) h k e = cc
reals (mismatched ∷ ss) (u ∷ us) h k e = cc
reals [] (u ∷ us) h k e = elim h [ ]
reals (s ∷ ss) [] h k e = elim h [ ]

lengths : (ss : List Sorted) (us : List Unfolded) → Each Fits ss us → length ss ≡ length us
lengths [] [] h = refl
lengths (s ∷ ss) (u ∷ us) h = ap suc (lengths ss us h.1)
lengths [] (u ∷ us) h = elim h [ ]
lengths (s ∷ ss) [] h = elim h [ ]

formula-claims : (u : Unfolded) → IsFormula u → IsClaim u
formula-claims (formula f g) h = tt
formula-claims (term t) h = elim h [ ]
formula-claims (refused x) h = elim h [ ]
formula-claims (either c d a b) h = elim h [ ]

by-test : (at : Place) (b c : Bool) (s : Sort) (u x : Unfolded) → (b ≡ true → c ≡ true) → (b ≡ true → HasSort s u) → Fits (if_takes at b s) (cond c u x)
by-test at false c s u x f g = tt
by-test at true true s u x f g = g refl
by-test at true false s u x f g = absurd (true≢false (sym (f refl)))

with-length : (x x' y y' : Bool) → (x ≡ true → x' ≡ true) → y ≡ y' → x && y ≡ true → x' && y' ≡ true
with-length true true y y' f e h = sym e ∙ h
with-length true false y y' f e h = absurd (true≢false (sym (f refl)))
with-length false x' y y' f e h = cc

either-of : (x y x' y' : Bool) → (x ≡ true → x' ≡ true) → (y ≡ true → y' ≡ true) → x || y ≡ true → x' || y' ≡ true
either-of true y true y' f g h = refl
either-of true y false y' f g h = absurd (true≢false (sym (f refl)))
either-of false y true y' f g h = refl
either-of false y false y' f g h = g h

all-three : (x y z : Bool) → x && y && z ≡ true → x && (y && (z && true)) ≡ true
all-three true true true h = refl
all-three true true false h = cc
all-three true false z h = cc
all-three false y z h = cc

module _ (at : Place) (ss : List Sorted) (us : List Unfolded) (h : Each Fits ss us) (k : first_fault us ≡ None) where
  -- an operator on Bools, and on Reals, of a number of arguments that `long` tells
  on-bools : (op : Operator) (n : ℕ → Bool) → takes op us ≡ (are_formulas us && n (length us)) → (are_formulas us ≡ true → IsClaim (unfolded_operation at op us)) →
      Fits (if_takes at (all_of is_bool ss && n (length ss)) bool_sort) (cond (takes op us) (unfolded_operation at op us) (refused (ill_formed at)))
  on-bools op n t f = by-test at (all_of is_bool ss && n (length ss)) (takes op us) bool_sort (unfolded_operation at op us) (refused (ill_formed at))
      (λ e. t ∙ with-length (all_of is_bool ss) (are_formulas us) (n (length ss)) (n (length us)) (bools ss us h k) (ap n (lengths ss us h)) e)
      (λ e. f (bools ss us h k (both (all_of is_bool ss) (n (length ss)) e).0))

  on-reals : (op : Operator) (s : Sort) (n : ℕ → Bool) → takes op us ≡ (are_terms us && n (length us)) → (are_terms us ≡ true → HasSort s (unfolded_operation at op us)) →
      Fits (if_takes at (all_of is_real ss && n (length ss)) s) (cond (takes op us) (unfolded_operation at op us) (refused (ill_formed at)))
  on-reals op s n t f = by-test at (all_of is_real ss && n (length ss)) (takes op us) s (unfolded_operation at op us) (refused (ill_formed at))
      (λ e. t ∙ with-length (all_of is_real ss) (are_terms us) (n (length ss)) (n (length us)) (reals ss us h k) (ap n (lengths ss us h)) e)
      (λ e. f (reals ss us h k (both (all_of is_real ss) (n (length ss)) e).0))

  on-either : (op : Operator) (n : ℕ → Bool) → takes op us ≡ ((are_formulas us || are_terms us) && n (length us)) → IsClaim (unfolded_operation at op us) →
      Fits (if_takes at ((all_of is_bool ss || all_of is_real ss) && n (length ss)) bool_sort) (cond (takes op us) (unfolded_operation at op us) (refused (ill_formed at)))
  on-either op n t f = by-test at ((all_of is_bool ss || all_of is_real ss) && n (length ss)) (takes op us) bool_sort (unfolded_operation at op us) (refused (ill_formed at))
      (λ e. t ∙ with-length (all_of is_bool ss || all_of is_real ss) (are_formulas us || are_terms us) (n (length ss)) (n (length us))
      (either-of (all_of is_bool ss) (all_of is_real ss) (are_formulas us) (are_terms us) (bools ss us h k) (reals ss us h k)) (ap n (lengths ss us h)) e)
      (λ e. f)

  on-none : (op : Operator) → takes op us ≡ nat_eq (length us) 0 → IsClaim (unfolded_operation at op us) →
      Fits (if_takes at (nat_eq (length ss) 0) bool_sort) (cond (takes op us) (unfolded_operation at op us) (refused (ill_formed at)))
  on-none op t f = by-test at (nat_eq (length ss) 0) (takes op us) bool_sort (unfolded_operation at op us) (refused (ill_formed at))
      (λ e. t ∙ ap (λ n. nat_eq n 0) (sym (lengths ss us h)) ∙ e) (λ e. f)

abbrev Tree : Place → Operator → List Unfolded → Unfolded
Tree at op us = cond (takes op us) (unfolded_operation at op us) (refused (ill_formed at))

-- where it takes them for one of two reasons
takes-first : (x y : Bool) → x ≡ true → x || y ≡ true
takes-first true y h = refl
takes-first false y h = cc

takes-second : (x y : Bool) → y ≡ true → x || y ≡ true
takes-second true y h = refl
takes-second false y h = h

three-true : (x y z : Bool) → x && y && z ≡ true → (x ≡ true) × (y ≡ true) × (z ≡ true)
three-true true true true h = (refl, refl, refl)
three-true true true false h = cc
three-true true false z h = cc
three-true false y z h = cc

pick-fits : (at : Place) (x : Bool) (s : Sorted) (us : List Unfolded) → (x ≡ true → picks_terms us ≡ true) → (x ≡ true → IsRealTree (choice_tree us)) → Fits s (Tree at choice us) →
    Fits (cond x (of_sort real_sort) s) (Tree at choice us)
pick-fits at true s us f g h = picked (takes choice us) (takes-second (are_formulas us && nat_eq (length us) 3) (picks_terms us) (f refl))
  where
    picked : (b : Bool) → b ≡ true → IsRealTree (cond b (choice_tree us) (refused (ill_formed at)))
    picked true e = g refl
    picked false e = cc
pick-fits at false s us f g h = h

is-formula : (s : Sorted) (u : Unfolded) (us : List Unfolded) → is_bool s ≡ true → Fits s u → first_fault (u ∷ us) ≡ None → are_formulas (u ∷ []) ≡ true
is-formula s u us e h k = bools (s ∷ []) (u ∷ []) (h, tt) (alone-none u us k) (both-true (is_bool s) true e refl)
  where
    alone-none : (u : Unfolded) (us : List Unfolded) → first_fault (u ∷ us) ≡ None → first_fault (u ∷ []) ≡ None
    alone-none (term t) us k = refl
    alone-none (formula f g) us k = refl
    alone-none (either c d a b) us k = refl
    alone-none (refused x) us k = cc

tail-none : (u : Unfolded) (us : List Unfolded) → first_fault (u ∷ us) ≡ None → first_fault us ≡ None
tail-none (term t) us k = k
tail-none (formula f g) us k = k
tail-none (either c d a b) us k = k
tail-none (refused x) us k = cc

-- the arms of a Real `ite` are Real
arms-picked : (c a b : Sorted) (us : List Unfolded) → Each Fits (c ∷ a ∷ b ∷ []) us → first_fault us ≡ None → is_bool c && is_real a && is_real b ≡ true →
    (picks_terms us ≡ true) × IsRealTree (choice_tree us)
arms-picked c a b (formula f g ∷ y ∷ z ∷ []) h k e =
    let t = three-true (is_bool c) (is_real a) (is_real b) e in
    let r = reals (a ∷ b ∷ []) (y ∷ z ∷ []) h.1 k (both-true (is_real a) (is_real b && true) t.1 (both-true (is_real b) true t.2 refl)) in
    let s = both (is_real_tree y) (is_real_tree z && true) r in
    (both-true (are_terms (y ∷ z ∷ [])) true r refl, picked_real (formula f g) y z s.0 (both (is_real_tree z) true s.1).0)
arms-picked c a b (term t ∷ us) h k e = let i = is-formula c (term t) us (three-true (is_bool c) (is_real a) (is_real b) e).0 h.0 k in cc
arms-picked c a b (refused x ∷ us) h k e = cc
arms-picked c a b (either f g x y ∷ us) h k e = let i = is-formula c (either f g x y) us (three-true (is_bool c) (is_real a) (is_real b) e).0 h.0 k in cc
arms-picked c a b [] h k e = elim h [ ]
arms-picked c a b (formula f g ∷ []) h k e = elim h.1 [ ]
arms-picked c a b (formula f g ∷ y ∷ []) h k e = elim h.1.1 [ ]
arms-picked c a b (formula f g ∷ y ∷ z ∷ x ∷ us) h k e = elim h.1.1.1 [ ]

choice-fits : (at : Place) (ss : List Sorted) (us : List Unfolded) → Each Fits ss us → first_fault us ≡ None → Fits (operator_sort at choice ss) (Tree at choice us)
choice-fits at (c ∷ a ∷ b ∷ []) us h k = pick-fits at (is_bool c && is_real a && is_real b) (if_takes at (is_bool c && is_bool a && is_bool b) bool_sort) us
    (λ e. (arms-picked c a b us h k e).0) (λ e. (arms-picked c a b us h k e).1)
    (by-test at (is_bool c && is_bool a && is_bool b) (takes choice us) bool_sort (unfolded_operation at choice us) (refused (ill_formed at))
    (λ e. takes-first (are_formulas us && nat_eq (length us) 3) (picks_terms us)
    (with-length true (are_formulas us) true (nat_eq (length us) 3) (λ z. bools (c ∷ a ∷ b ∷ []) us h k (all-three (is_bool c) (is_bool a) (is_bool b) e))
    (ap (λ n. nat_eq n 3) (lengths (c ∷ a ∷ b ∷ []) us h)) refl))
    (λ e. formula-claims _ (choice_tree_formula us (bools (c ∷ a ∷ b ∷ []) us h k (all-three (is_bool c) (is_bool a) (is_bool b) e)))))
choice-fits at [] us h k = tt
choice-fits at (c ∷ []) us h k = tt
choice-fits at (c ∷ a ∷ []) us h k = tt
choice-fits at (c ∷ a ∷ b ∷ d ∷ ss) us h k = tt

operator-fits : (at : Place) (op : Operator) (ss : List Sorted) (us : List Unfolded) → Each Fits ss us → first_fault us ≡ None → Fits (operator_sort at op ss) (Tree at op us)
operator-fits at truth ss us h k = on-none at ss us h k truth refl tt
operator-fits at falsehood ss us h k = on-none at ss us h k falsehood refl tt
operator-fits at negation ss us h k = on-bools at ss us h k negation (λ n. nat_eq n 1) refl (λ e. formula-claims _ (not_formula us))
operator-fits at conjunction ss us h k = on-bools at ss us h k conjunction (λ n. nat_le 1 n) refl (λ e. tt)
operator-fits at disjunction ss us h k = on-bools at ss us h k disjunction (λ n. nat_le 1 n) refl (λ e. tt)
operator-fits at implication ss us h k = on-bools at ss us h k implication (λ n. nat_le 2 n) refl (λ e. formula-claims _ (implies_formula us e))
operator-fits at exclusive ss us h k = on-bools at ss us h k exclusive (λ n. nat_le 2 n) refl (λ e. formula-claims _ (xor_formula us e))
operator-fits at equality ss us h k = on-either at ss us h k equality (λ n. nat_le 2 n) refl (formula-claims _ (equality_formula at us))
operator-fits at distinctness ss us h k = on-either at ss us h k distinctness (λ n. nat_le 2 n) refl (formula-claims _ (distinctness_formula at us))
operator-fits at choice ss us h k = choice-fits at ss us h k
operator-fits at minus ss us h k = on-reals at ss us h k minus real_sort (λ n. nat_le 1 n) refl (λ e. subtraction_real at us e)
operator-fits at plus ss us h k = on-reals at ss us h k plus real_sort (λ n. nat_le 1 n) refl (λ e. sum_real at us e)
operator-fits at times ss us h k = on-reals at ss us h k times real_sort (λ n. nat_le 1 n) refl (λ e. product_real at us e)
operator-fits at divide ss us h k = on-reals at ss us h k divide real_sort (λ n. nat_le 2 n) refl (λ e. quotient_real at us e)
operator-fits at at_most_op ss us h k = on-reals at ss us h k at_most_op bool_sort (λ n. nat_le 2 n) refl (λ e. formula-claims _ (chain_formula (at_most_two at) (compare_formula (at_most_terms at) (λ t u. tt)) us))
operator-fits at below_op ss us h k = on-reals at ss us h k below_op bool_sort (λ n. nat_le 2 n) refl (λ e. formula-claims _ (chain_formula (at_most_two at) (compare_formula (at_most_terms at) (λ t u. tt)) us))
operator-fits at at_least_op ss us h k = on-reals at ss us h k at_least_op bool_sort (λ n. nat_le 2 n) refl (λ e. formula-claims _ (chain_formula (at_least_two at) (compare_formula (at_least_terms at) (λ t u. tt)) us))
operator-fits at above_op ss us h k = on-reals at ss us h k above_op bool_sort (λ n. nat_le 2 n) refl (λ e. formula-claims _ (chain_formula (at_least_two at) (compare_formula (at_least_terms at) (λ t u. tt)) us))

-- ---- bindings, calls, and what has no meaning

name-fits : (b : Bool) (at : Place) (x : SortFault) (s t : Sorted) (u : Unfolded) → Fits (first_of_two s t) u → Fits (first_of_two (cond b (ill at x) s) t) u
name-fits true at x s t u h = tt
name-fits false at x s t u h = h

binding-fits : (before : List (List ℕ)) (names : List Label) (ss : List Sorted) (us : List Unfolded) (s : Sorted) (u : Unfolded) → Each Fits ss us →
    (first_ill ss ≡ None → Fits s u) → Fits (binding_sort before names ss s) u
binding-fits before (x ∷ names) (of_sort t ∷ ss) (v ∷ us) s u h f =
    name-fits (is_taken before x.name) x.at (redeclared x.name) (of_sort t) (binding_sort (x.name ∷ before) names ss s) u
    (binding-fits (x.name ∷ before) names ss us s u h.1 f)
binding-fits before (x ∷ names) (ill at y ∷ ss) (v ∷ us) s u h f =
    name-fits (is_taken before x.name) x.at (redeclared x.name) (ill at y) (binding_sort (x.name ∷ before) names ss s) u tt
binding-fits before (x ∷ names) (mismatched ∷ ss) (v ∷ us) s u h f =
    name-fits (is_taken before x.name) x.at (redeclared x.name) mismatched (binding_sort (x.name ∷ before) names ss s) u tt
binding-fits before names [] [] s u h f = plain before names
  where
    plain : (before : List (List ℕ)) (names : List Label) → Fits (binding_sort before names [] s) u
    plain before [] = f refl
    plain before (x ∷ names) = f refl
binding-fits before [] (t ∷ ss) us s u h f = rest-fit (t ∷ ss) (first_ill (t ∷ ss)) refl f
  where
    rest-fit : (ts : List Sorted) (o : Option Sorted) → first_ill ts ≡ o → (first_ill ts ≡ None → Fits s u) → Fits (or_first o s) u
    rest-fit ts (Some y) e g = ill-fits ts y u e
    rest-fit ts None e g = g e
binding-fits before [] [] (v ∷ us) s u h f = elim h [ ]
binding-fits before (x ∷ names) [] (v ∷ us) s u h f = elim h [ ]
binding-fits before (x ∷ names) (t ∷ ss) [] s u h f = elim h [ ]

-- a `let` whose expressions have a fault has it too
refused-binding : (before : List (List ℕ)) (names : List Label) (ss : List Sorted) (s : Sorted) (y : Fault) → (first_ill ss ≡ None → IsSound y) → Fits (binding_sort before names ss s) (refused y)
refused-binding before (x ∷ names) (of_sort t ∷ ss) s y f =
    name-fits (is_taken before x.name) x.at (redeclared x.name) (of_sort t) (binding_sort (x.name ∷ before) names ss s) (refused y)
    (refused-binding (x.name ∷ before) names ss s y f)
refused-binding before (x ∷ names) (ill at z ∷ ss) s y f =
    name-fits (is_taken before x.name) x.at (redeclared x.name) (ill at z) (binding_sort (x.name ∷ before) names ss s) (refused y) tt
refused-binding before (x ∷ names) (mismatched ∷ ss) s y f =
    name-fits (is_taken before x.name) x.at (redeclared x.name) mismatched (binding_sort (x.name ∷ before) names ss s) (refused y) tt
refused-binding before (x ∷ names) [] s y f = refused-fits s y (f refl)
refused-binding before [] ss s y f = rest-fit ss (first_ill ss) refl f
  where
    rest-fit : (ts : List Sorted) (o : Option Sorted) → first_ill ts ≡ o → (first_ill ts ≡ None → IsSound y) → Fits (or_first o s) (refused y)
    rest-fit ts (Some z) e g = ill-fits ts z (refused y) e
    rest-fit ts None e g = refused-fits s y (g e)

bind-fits : (names : List Label) (ss : List Sorted) (us : List Unfolded) (s : Sorted) (u : Unfolded) → Each Fits ss us → Fits s u → Fits (binding_sort [] names ss s) (checked us u)
bind-fits names ss us s u h k = go (first_fault us) refl
  where
    go : (o : Option Fault) → first_fault us ≡ o → Fits (binding_sort [] names ss s) (unless_refused o u)
    go None e = binding-fits [] names ss us s u h (λ z. k)
    go (Some y) e = refused-binding [] names ss s y (λ z. first-sound ss us h z (Some y) e)

placed-fits : (at : Place) (s : Sorted) (u : Unfolded) → Fits s u → Fits (placed_call at s) u
placed-fits at (of_sort s) u h = h
placed-fits at (ill at' f) u h = tt
placed-fits at mismatched u h = tt

because-fits : (at : Place) (why : Reason) (u : Unfolded) → Fits (because at why) u
because-fits at malformed u = tt
because-fits at left_out u = tt
because-fits at (unknown x) u = go (bytes_eq x (codes "sqrt"))
  where
    go : (b : Bool) → Fits (cond b (ill at left_out_form) (ill at (unknown_symbol x))) u
    go true = tt
    go false = tt

pub fits_respects : Respects Fits sorting as_tree
fits_respects = record {
  literal = λ at digits more_digits. tt;
  named = λ at s u h. h;
  annotated = λ at s u h. h;
  apply = λ at op ss us h. arguments-fit ss us (operator_sort at op ss) (Tree at op us) (first_ill ss) refl h (λ e k. operator-fits at op ss us h k);
  bind = λ at names ss us s u h k. bind-fits names ss us s u h k;
  call = λ at ss us s u h k. arguments-fit ss us (placed_call at s) u (first_ill ss) refl h (λ e f. placed-fits at s u k);
  nothing = λ at why. because-fits at why (refused (ill_formed at));
}

-- ---- commands

same-sorts : (s t : Sort) → same_sort s t ≡ true → s ≡ t
same-sorts real_sort real_sort h = refl
same-sorts bool_sort bool_sort h = refl
same-sorts real_sort bool_sort h = cc
same-sorts bool_sort real_sort h = cc

none-then : (x y : Finding) → then_on x y ≡ None → (x ≡ None) × (y ≡ None)
none-then None y h = (refl, h)
none-then (Some x) y h = cc

abbrev mismatch : Place → Finding
mismatch at = Some (at, sort_mismatch)

wanted : (at : Place) (s : Sort) (x : Sorted) (u : Unfolded) → wants at s x ≡ None → Fits x u → HasSort s u
wanted at s (of_sort t) u e h = go (same_sort s t) refl e
  where
    go : (b : Bool) → same_sort s t ≡ b → cond b None (mismatch at) ≡ None → HasSort s u
    go true k f = subst (λ (x : Sort). HasSort x u) (sym (same-sorts s t k)) h
    go false k f = cc
wanted at s (ill at' f) u e h = cc
wanted at s mismatched u e h = cc

constant-has : (axis : ℕ) (s : Sort) → HasSort s (constant_tree axis s)
constant-has axis real_sort = tt
constant-has axis bool_sort = tt

-- a goal's term is Real, and so the goal stands among the assertions as a Bool
real-is : (at : Place) (x : Sorted) → wants at real_sort x ≡ None → x ≡ of_sort real_sort
real-is at (of_sort real_sort) e = refl
real-is at (of_sort bool_sort) e = cc
real-is at (ill at' f) e = cc
real-is at mismatched e = cc

abbrev goal-sort : Place → Sorted → Sorted
goal-sort at x = sorting.apply at disjunction (sorting.apply at at_most_op (x ∷ of_sort real_sort ∷ []) ∷ of_sort bool_sort ∷ [])

goal-wanted : (ns : Names Sorted) (at : Place) (t : Sexp) → wants (place_of t) real_sort (meaning sorting ns t) ≡ None → wants at bool_sort (meaning sorting ns (goal_claim at t)) ≡ None
goal-wanted ns at t e = ap (λ x. wants at bool_sort (goal-sort at x)) (real-is (place_of t) (meaning sorting ns t) e)

is-of : (s : Sort) (x : Sorted) (u : Unfolded) → is_of s x ≡ true → Fits x u → HasSort s u
is-of s (of_sort t) u e h = subst (λ (x : Sort). HasSort x u) (sym (same-sorts s t e)) h
is-of s (ill at f) u e h = cc
is-of s mismatched u e h = cc

parameters-alike : (params : List Parameter) (ss : List Sorted) (us : List Unfolded) → Each Fits ss us → fit params ss ≡ true → AlikeNames Fits (parameter_names params) (bound_to params us)
parameters-alike [] [] [] h e = tt
parameters-alike (p ∷ params) (s ∷ ss) (u ∷ us) h e = let b = both (is_of p.sort s) (fit params ss) e in (refl, is-of p.sort s u b.0 h.0, parameters-alike params ss us h.1 b.1)
parameters-alike [] (s ∷ ss) us h e = cc
parameters-alike (p ∷ params) [] us h e = cc
parameters-alike [] [] (u ∷ us) h e = elim h [ ]
parameters-alike (p ∷ params) (s ∷ ss) [] h e = elim h [ ]

module _ (ns : Names Sorted) (ms : Names Unfolded) (a : AlikeNames Fits ns ms) where
  definition-fits : (params : List Parameter) (s : Sort) (body : Sexp) → wants (place_of body) s (meaning sorting (parameter_names params ++ ns) body) ≡ None →
      Alike Fits (signature params s) (defined as_tree ms params body)
  definition-fits params s body e ss us h = go (fit params ss) refl
    where
      go : (b : Bool) → fit params ss ≡ b → Fits (cond b (of_sort s) mismatched) (meaning as_tree (bound_to params us ++ ms) body)
      go false f = tt
      go true f = wanted (place_of body) s (meaning sorting (parameter_names params ++ ns) body) (meaning as_tree (bound_to params us ++ ms) body) e
          (meaning_alike Fits sorting as_tree fits_respects (parameter_names params ++ ns) (bound_to params us ++ ms) body
          (append_alike Fits (parameter_names params) ns (bound_to params us) ms (parameters-alike params ss us h f) a))

  claim-fits : (e : Sexp) → wants (place_of e) bool_sort (meaning sorting ns e) ≡ None → IsClaim (meaning as_tree ms e)
  claim-fits e k = wanted (place_of e) bool_sort (meaning sorting ns e) (meaning as_tree ms e) k (meaning_alike Fits sorting as_tree fits_respects ns ms e a)

claims-fit : (count axis : ℕ) (ns : Names Sorted) (ms : Names Unfolded) → AlikeNames Fits ns ms → (script : List Command) → sort_fault_from count ns script ≡ None →
    AllByRecursion IsClaim (claims as_tree ms (numbered constant_tree axis (sorts_of script)) script)
claims-fit count axis ns ms a [] e = tt
claims-fit count axis ns ms a (declare at x s ∷ rest) e =
    claims-fit (suc count) (suc axis) ((x, value (of_sort s)) ∷ ns) ((x, value (constant_tree axis s)) ∷ ms) (refl, constant-has axis s, a) rest
    (none-then (room_for count at) _ (none-then (new_name at x ns) _ e).1).1
claims-fit count axis ns ms a (define at f params s body ∷ rest) e =
    let k = none-then (taken_parameter [] params) _ (none-then (new_name at f ns) _ e).1 in
    let l = none-then (wants (place_of body) s (meaning sorting (parameter_names params ++ ns) body)) _ k.1 in
    claims-fit count axis ((f, signature params s) ∷ ns) ((f, defined as_tree ms params body) ∷ ms) (refl, definition-fits ns ms a params s body l.0, a) rest l.1
claims-fit count axis ns ms a (claim at b ∷ rest) e =
    let k = none-then (wants (place_of b) bool_sort (meaning sorting ns b)) _ e in
    (claim-fits ns ms a b k.0, claims-fit count axis ns ms a rest k.1)
claims-fit count axis ns ms a (minimize at t ∷ rest) e =
    let k = none-then (wants (place_of t) real_sort (meaning sorting ns t)) _ e in
    (claim-fits ns ms a (goal_claim at t) (goal-wanted ns at t k.0), claims-fit count axis ns ms a rest k.1)
claims-fit count axis ns ms a (check at ∷ rest) e = claims-fit count axis ns ms a rest e
claims-fit count axis ns ms a (ineffective at ∷ rest) e = claims-fit count axis ns ms a rest e

-- ---- the script

next-sound : (x y : Option Fault) → IfSound x → IfSound y → IfSound (or_next x y)
next-sound None y h k = k
next-sound (Some x) y h k = h

tree-fault-sound : (u : Unfolded) → IsRealTree u → IfSound (fault_of u)
tree-fault-sound (term t) h = tt
tree-fault-sound (refused x) h = h
tree-fault-sound (formula f g) h = tt
tree-fault-sound (either c d a b) h = tt

comparisons-sound : (cs : List Comparison) → IfSound (comparisons_fault cs)
comparisons-sound [] = tt
comparisons-sound (c ∷ cs) = next-sound (comparison_fault c) (comparisons_fault cs) (tree-fault-sound (comparison_tree c) (comparison_real c)) (comparisons-sound cs)

claim-sound : (u : Unfolded) → IsClaim u → IfSound (tree_fault u)
claim-sound (formula f g) h = comparisons-sound (form_atoms f)
claim-sound (refused x) h = h
claim-sound (term t) h = elim h [ ]
claim-sound (either c d a b) h = elim h [ ]

claims-sound : (us : List Unfolded) → AllByRecursion IsClaim us → IfSound (trees_fault us)
claims-sound [] h = tt
claims-sound (u ∷ us) h = next-sound (tree_fault u) (trees_fault us) (claim-sound u h.0) (claims-sound us h.1)

pub sorted_unfolds : (script : List Command) → sort_fault script ≡ None → AllByRecursion IsClaim (trees script) × IfSound (unfolding_fault script)
sorted_unfolds script e = let k = claims-fit 0 0 [] [] tt script e in (k, claims-sound (trees script) k)
