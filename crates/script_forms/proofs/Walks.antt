-- Where the walk over a script ends it met no fault of unfolding, and its atoms are those of the script.
use Rattle.std.proofs.Common.{◌≡◌, ℕ, List, [], ◌∷◌, ◌++◌, map, length, Bool, true, false, ◌&&◌, cond, Option, Some, None, refl, ap, sym, ◌∙◌, append-nil, nat_lt, suc, ◌+◌}
use Rattle.std.proofs.Math.Nat.{suc_inj, suc-ne-zero}
use Rattle.script_model.specs.Sexp.{Place}
use Rattle.script_model.specs.Reading.{Operator, truth, falsehood, negation, conjunction, disjunction, implication, exclusive, equality, distinctness, choice, minus, plus, times, divide, at_most_op, below_op, at_least_op, above_op, value, Names, Meanings, unknown}
use Rattle.script_model.specs.Meaning.{neighbours, pairs}
use Rattle.script_forms.proofs.Means.{both_true}
use Rattle.script_forms.proofs.Powers.{factors_terms}
use Rattle.dyadic.specs.Lowest.{sum_fits, product_fits}
use Rattle.dyadic.specs.Fraction.{Fraction, sum_of, product_of}
use Rattle.script_model.specs.Script.{Command, declare, define, claim, minimize, check, ineffective, claims, sorts_of, defined, Constant}
use Rattle.script_model.specs.Declared.{numbered, BoundFault, bound_fault}
use Rattle.dyadic.specs.Point.{Sort, real_sort, bool_sort}
use Rattle.script_model.proofs.Related.{Each, Respects, claims_alike}
use Rattle.poly_graph.specs.Term.{Term, constant, multiply, square, Atom}
use Rattle.poly_graph.specs.Form.{Form, yes_form, no_form, atom_is, bool_is, all_form, any_form, Forms, no_forms, more_forms, form_atoms, forms_atoms, form_map, forms_map}
use Rattle.script_forms.specs.Terms.{Fault, ill_formed, Comparison, Unfolded, term, formula, refused, is_zero, is_nought, add_tree, multiply_tree, divide_tree, subtract_tree, step, steps, all_steps, subtraction_tree, either, arms, lift_tree, negate_tree, hold_either, behind_first, divisor_not_constant, constant_or, inverse_of, zero_divisor, Times, once, twice, twice_and_once, once_more, power, repeats, gathered, factors, product_tree}
use Rattle.script_forms.specs.Unfolded.{as_tree, truth_of, takes, first_fault, unless_refused, checked, unfolded_operation, operation_tree, forms_of, chain, at_most_two, at_least_two, equal_two, not_of, xor_of, equality_form, distinctness_form, implies_of, xor_from, is_real_tree, are_terms, at_most_terms, at_least_terms, equal_terms, lift_form, compare_two, differ_two, and_of, different, choice_two, choice_tree}
use Rattle.script_forms.specs.Atoms.{fault_of, comparison_fault, or_next, comparisons_fault, tree_fault, trees_fault, unfolding_fault, trees, atom_of, firsts, already, constant_tree, script_atoms, number_in}
use Rattle.script_forms.specs.Work.{Event, reached, made, asked, formed, met, Work, outcome_of, events_of, ending, subtract_events, divide_events, add_events, multiply_events, inverse_events, step_events, steps_events, all_events, subtraction_events, power_events, powers_events_from, powers_events, product_events, operation_events, unless_met, operator_events, as_work, comparison_events, form_events, forms_events, assertion_events, lift_events, compare_events, together}
use Rattle.script_forms.specs.Walk.{Stand, nothing_made, Walked, stands, stops, BuildingFault, unfolds_not, if_room, has_tree, with_tree, with_atom, has_form, with_form, larger, after_event, goes_on, after_events, constant_work, works, claim_places, after_assertions, after_root, walked, most_size, most_trees, most_atoms, most_forms, form_size, all_sizes, too_large, too_many_nodes, too_many_atoms, too_many_forms, lacks_bound, bound_beyond, fault_of_bounds, fault_or, building_fault}

-- ---- what the events tell: the first fault that is met, and the atoms that are asked for

abbrev pub first_met : List Event → Option Fault
first_met [] = None
first_met (met x ∷ rest) = Some x
first_met (_ ∷ rest) = first_met rest

abbrev pub asked_in : List Event → List Atom
asked_in [] = []
asked_in (asked a ∷ rest) = a ∷ asked_in rest
asked_in (_ ∷ rest) = asked_in rest

met-both : (xs ys : List Event) → first_met (xs ++ ys) ≡ or_next (first_met xs) (first_met ys)
met-both [] ys = refl
met-both (met x ∷ xs) ys = refl
met-both (reached ∷ xs) ys = met-both xs ys
met-both (made t ∷ xs) ys = met-both xs ys
met-both (asked a ∷ xs) ys = met-both xs ys
met-both (formed f ∷ xs) ys = met-both xs ys

asked-both : (xs ys : List Event) → asked_in (xs ++ ys) ≡ asked_in xs ++ asked_in ys
asked-both [] ys = refl
asked-both (asked a ∷ xs) ys = ap (λ zs. a ∷ zs) (asked-both xs ys)
asked-both (reached ∷ xs) ys = asked-both xs ys
asked-both (made t ∷ xs) ys = asked-both xs ys
asked-both (met x ∷ xs) ys = asked-both xs ys
asked-both (formed f ∷ xs) ys = asked-both xs ys

or-none : (x : Option Fault) → or_next x None ≡ x
or-none None = refl
or-none (Some x) = refl

or-assoc : (x y z : Option Fault) → or_next (or_next x y) z ≡ or_next x (or_next y z)
or-assoc None y z = refl
or-assoc (Some x) y z = refl

-- ---- the work of an expression tells its outcome's fault, and asks for no atom

pub record Tells (u : Unfolded) (w : Work) : Type 0 where
  pub outcome : w.outcome ≡ u
  pub fault : first_met w.events ≡ fault_of u
  pub quiet : asked_in w.events ≡ []

ending-met : (u : Unfolded) → first_met (ending u) ≡ fault_of u
ending-met (term t) = refl
ending-met (refused x) = refl
ending-met (formula p n) = refl
ending-met (either c d a b) = refl

ending-quiet : (u : Unfolded) → asked_in (ending u) ≡ []
ending-quiet (term t) = refl
ending-quiet (refused x) = refl
ending-quiet (formula p n) = refl
ending-quiet (either c d a b) = refl

-- a list of such works
outcomes : (us : List Unfolded) (ws : List Work) → Each Tells us ws → map outcome_of ws ≡ us
outcomes [] [] h = refl
outcomes (u ∷ us) (w ∷ ws) h = ap (λ x. x ∷ map outcome_of ws) h.0.outcome ∙ ap (λ xs. u ∷ xs) (outcomes us ws h.1)
outcomes [] (w ∷ ws) h = elim h [ ]
outcomes (u ∷ us) [] h = elim h [ ]

first-step : (u : Unfolded) (us : List Unfolded) → first_fault (u ∷ us) ≡ or_next (fault_of u) (first_fault us)
first-step (term t) us = refl
first-step (formula p n) us = refl
first-step (refused x) us = refl
first-step (either c d a b) us = refl

events-met : (us : List Unfolded) (ws : List Work) → Each Tells us ws → first_met (events_of ws) ≡ first_fault us
events-met [] [] h = refl
events-met (u ∷ us) (w ∷ ws) h = met-both w.events (events_of ws) ∙ ap (λ x. or_next x (first_met (events_of ws))) h.0.fault
    ∙ ap (λ x. or_next (fault_of u) x) (events-met us ws h.1) ∙ sym (first-step u us)
events-met [] (w ∷ ws) h = elim h [ ]
events-met (u ∷ us) [] h = elim h [ ]

events-quiet : (us : List Unfolded) (ws : List Work) → Each Tells us ws → asked_in (events_of ws) ≡ []
events-quiet [] [] h = refl
events-quiet (u ∷ us) (w ∷ ws) h = asked-both w.events (events_of ws) ∙ ap (λ x. x ++ asked_in (events_of ws)) h.0.quiet ∙ events-quiet us ws h.1
events-quiet [] (w ∷ ws) h = elim h [ ]
events-quiet (u ∷ us) [] h = elim h [ ]

-- the fault of a checked tree
checked-fault : (x : Option Fault) (u : Unfolded) → fault_of (unless_refused x u) ≡ or_next x (fault_of u)
checked-fault None u = refl
checked-fault (Some x) u = refl

-- ---- steps

-- these events tell what this step comes to
abbrev Fits : (Term → Term → Unfolded) → (Term → Term → List Event) → Type 0
Fits f g = (t u : Term) → (first_met (g t u) ≡ fault_of (f t u)) × (asked_in (g t u) ≡ [])

add-fits : (at : Place) → Fits (add_tree at) (add_events at)
add-fits at t u = (ending-met (add_tree at t u), ending-quiet (add_tree at t u))

multiply-fits : (at : Place) → Fits (multiply_tree at) (multiply_events at)
multiply-fits at t u = (ending-met (multiply_tree at t u), ending-quiet (multiply_tree at t u))

subtract-fits : (at : Place) → Fits (subtract_tree at) (subtract_events at)
subtract-fits at t u = (ending-met (subtract_tree at t u), ending-quiet (subtract_tree at t u))

inverse-met : (b : Bool) (t : Term) → first_met (cond b [] (made t ∷ [])) ≡ None
inverse-met true t = refl
inverse-met false t = refl

inverse-quiet : (b : Bool) (t : Term) → asked_in (cond b [] (made t ∷ [])) ≡ []
inverse-quiet true t = refl
inverse-quiet false t = refl

inverses-met : (u : Term) → first_met (inverse_events u) ≡ None
inverses-met (constant q) = inverse-met (is_nought q) _
inverses-met _ = refl

inverses-quiet : (u : Term) → asked_in (inverse_events u) ≡ []
inverses-quiet (constant q) = inverse-quiet (is_nought q) _
inverses-quiet _ = refl

divide-fits : (at : Place) → Fits (divide_tree at) (divide_events at)
divide-fits at t u = (
  met-both (inverse_events u) (ending (divide_tree at t u)) ∙ ap (λ x. or_next x (first_met (ending (divide_tree at t u)))) (inverses-met u) ∙ ending-met (divide_tree at t u),
  asked-both (inverse_events u) (ending (divide_tree at t u)) ∙ ap (λ x. x ++ asked_in (ending (divide_tree at t u))) (inverses-quiet u) ∙ ending-quiet (divide_tree at t u),
)

-- ---- what is done with each arm of a Real `ite`

arms-fault : (c d : Form Comparison) (a b : Unfolded) → or_next (fault_of a) (fault_of b) ≡ fault_of (arms c d a b)
arms-fault c d (refused x) b = refl
arms-fault c d (term t) (refused x) = refl
arms-fault c d (term t) (term u) = refl
arms-fault c d (term t) (formula p n) = refl
arms-fault c d (term t) (either f g x y) = refl
arms-fault c d (formula p n) (refused x) = refl
arms-fault c d (formula p n) (term u) = refl
arms-fault c d (formula p n) (formula p' n') = refl
arms-fault c d (formula p n) (either f g x y) = refl
arms-fault c d (either f g x y) (refused z) = refl
arms-fault c d (either f g x y) (term u) = refl
arms-fault c d (either f g x y) (formula p' n') = refl
arms-fault c d (either f g x y) (either f' g' x' y') = refl

lift-met : (f : Term → Unfolded) (g : Term → List Event) → ((t : Term) → first_met (g t) ≡ fault_of (f t)) → (u : Unfolded) → is_real_tree u ≡ true → first_met (lift_events g u) ≡ fault_of (lift_tree f u)
lift-met f g h (term t) r = h t
lift-met f g h (either c d a b) r = let e = both_true (is_real_tree a) (is_real_tree b) r in
    met-both (lift_events g a) (lift_events g b) ∙ ap (λ x. or_next x (first_met (lift_events g b))) (lift-met f g h a e.0)
    ∙ ap (or_next (fault_of (lift_tree f a))) (lift-met f g h b e.1) ∙ arms-fault c d (lift_tree f a) (lift_tree f b)
lift-met f g h (formula p n) r = cc
lift-met f g h (refused x) r = cc

lift-quiet : (g : Term → List Event) → ((t : Term) → asked_in (g t) ≡ []) → (u : Unfolded) → asked_in (lift_events g u) ≡ []
lift-quiet g h (term t) = h t
lift-quiet g h (either c d a b) = asked-both (lift_events g a) (lift_events g b) ∙ ap (λ x. x ++ asked_in (lift_events g b)) (lift-quiet g h a) ∙ lift-quiet g h b
lift-quiet g h (formula p n) = refl
lift-quiet g h (refused x) = refl

lift-silent : (g : Term → List Event) → ((t : Term) → first_met (g t) ≡ None) → (u : Unfolded) → first_met (lift_events g u) ≡ None
lift-silent g h (term t) = h t
lift-silent g h (either c d a b) = met-both (lift_events g a) (lift_events g b) ∙ ap (λ x. or_next x (first_met (lift_events g b))) (lift-silent g h a) ∙ lift-silent g h b
lift-silent g h (formula p n) = refl
lift-silent g h (refused x) = refl

-- a Real tree, or a fault
abbrev pub RealTop : Unfolded → Type 0
RealTop (refused x) = Unit {0}
RealTop u = is_real_tree u ≡ true

both-real : (x y : Bool) → x ≡ true → y ≡ true → x && y ≡ true
both-real true y h k = k
both-real false y h k = h

top-of : (u : Unfolded) → is_real_tree u ≡ true → RealTop u
top-of (term t) r = r
top-of (either c d a b) r = r
top-of (formula p n) r = r
top-of (refused x) r = cc

arms-top : (c d : Form Comparison) (a b : Unfolded) → RealTop a → RealTop b → RealTop (arms c d a b)
arms-top c d (refused x) b h k = tt
arms-top c d (term t) (refused x) h k = tt
arms-top c d (term t) (term u) h k = refl
arms-top c d (term t) (either f g x y) h k = k
arms-top c d (either f g x y) (refused z) h k = tt
arms-top c d (either f g x y) (term u) h k = both-real (is_real_tree x && is_real_tree y) true h refl
arms-top c d (either f g x y) (either f' g' x' y') h k = both-real (is_real_tree x && is_real_tree y) (is_real_tree x' && is_real_tree y') h k
arms-top c d (formula p n) b h k = cc
arms-top c d (term t) (formula p n) h k = cc
arms-top c d (either f g x y) (formula p n) h k = cc

lift-top : (f : Term → Unfolded) → ((t : Term) → RealTop (f t)) → (u : Unfolded) → RealTop u → RealTop (lift_tree f u)
lift-top f h (term t) r = h t
lift-top f h (refused x) r = tt
lift-top f h (either c d a b) r = let e = both_true (is_real_tree a) (is_real_tree b) r in arms-top c d (lift_tree f a) (lift_tree f b) (lift-top f h a (top-of a e.0)) (lift-top f h b (top-of b e.1))
lift-top f h (formula p n) r = cc

-- a step of two trees is a Real tree or a fault
abbrev pub RealSteps : (Term → Term → Unfolded) → Type 0
RealSteps f = (t u : Term) → RealTop (f t u)

constant-top : (at : Place) (b : Bool) (q : Fraction) → RealTop (constant_or at b q)
constant-top at true q = refl
constant-top at false q = tt

add-top : (at : Place) → RealSteps (add_tree at)
add-top at (constant p) (constant q) = constant-top at (sum_fits p q) (sum_of p q)
add-top at _ _ = refl

multiply-top : (at : Place) → RealSteps (multiply_tree at)
multiply-top at (constant p) (constant q) = constant-top at (product_fits p q) (product_of p q)
multiply-top at _ _ = refl

quotient-top : (b : Bool) (x : Fault) (u : Unfolded) → RealTop u → RealTop (cond b (refused x) u)
quotient-top true x u h = tt
quotient-top false x u h = h

divide-top : (at : Place) → RealSteps (divide_tree at)
divide-top at t (constant q) = quotient-top (is_nought q) (zero_divisor at) (multiply_tree at t (constant (inverse_of q))) (multiply-top at t (constant (inverse_of q)))
divide-top at t _ = tt

real-none : (u : Unfolded) → is_real_tree u ≡ true → fault_of u ≡ None
real-none (term t) r = refl
real-none (either c d a b) r = refl
real-none (formula p n) r = refl
real-none (refused x) r = cc

-- ---- a step at two trees

step-met : (f : Term → Term → Unfolded) (g : Term → Term → List Event) → Fits f g → (t u : Unfolded) → RealTop t → is_real_tree u ≡ true →
    or_next (fault_of t) (first_met (step_events g t u)) ≡ fault_of (step f t u)
step-met f g h (term t) u r s = lift-met (f t) (g t) (λ y. (h t y).0) u s
step-met f g h (refused x) u r s = refl
step-met f g h (either c d a b) u r s = lift-met (λ x. lift_tree (f x) u) (λ x. lift_events (g x) u) (λ x. lift-met (f x) (g x) (λ y. (h x y).0) u s) (either c d a b) r
step-met f g h (formula p n) u r s = cc

step-top : (f : Term → Term → Unfolded) → RealSteps f → (t u : Unfolded) → RealTop t → is_real_tree u ≡ true → RealTop (step f t u)
step-top f h t u r s = lift-top (λ x. lift_tree (f x) u) (λ x. lift-top (f x) (h x) u (top-of u s)) t r

step-quiet : (f : Term → Term → Unfolded) (g : Term → Term → List Event) → Fits f g → (t u : Unfolded) → asked_in (step_events g t u) ≡ []
step-quiet f g h t u = lift-quiet (λ x. lift_events (g x) u) (λ x. lift-quiet (g x) (λ y. (h x y).1) u) t

head-none : (u : Unfolded) (us : List Unfolded) → first_fault (u ∷ us) ≡ None → fault_of u ≡ None
head-none (term t) us e = refl
head-none (formula p n) us e = refl
head-none (refused x) us e = cc
head-none (either c d a b) us e = refl

tail-none : (u : Unfolded) (us : List Unfolded) → first_fault (u ∷ us) ≡ None → first_fault us ≡ None
tail-none (term t) us e = e
tail-none (formula p n) us e = e
tail-none (refused x) us e = cc
tail-none (either c d a b) us e = e

steps-met : (f : Term → Term → Unfolded) (g : Term → Term → List Event) → Fits f g → RealSteps f → (t : Unfolded) → RealTop t → (us : List Unfolded) → are_terms us ≡ true →
    or_next (fault_of t) (first_met (steps_events f g t us)) ≡ fault_of (steps f t us)
steps-met f g h k t r [] e = or-none (fault_of t)
steps-met f g h k t r (u ∷ us) e = let b = both_true (is_real_tree u) (are_terms us) e in
    ap (or_next (fault_of t)) (met-both (step_events g t u) (steps_events f g (step f t u) us))
    ∙ sym (or-assoc (fault_of t) (first_met (step_events g t u)) (first_met (steps_events f g (step f t u) us)))
    ∙ ap (λ x. or_next x (first_met (steps_events f g (step f t u) us))) (step-met f g h t u r b.0)
    ∙ steps-met f g h k (step f t u) (step-top f k t u r b.0) us b.1

steps-quiet : (f : Term → Term → Unfolded) (g : Term → Term → List Event) → Fits f g → (t : Unfolded) (us : List Unfolded) → asked_in (steps_events f g t us) ≡ []
steps-quiet f g h t [] = refl
steps-quiet f g h t (u ∷ us) = asked-both (step_events g t u) (steps_events f g (step f t u) us)
    ∙ ap (λ x. x ++ asked_in (steps_events f g (step f t u) us)) (step-quiet f g h t u) ∙ steps-quiet f g h (step f t u) us

all-met : (f : Term → Term → Unfolded) (g : Term → Term → List Event) → Fits f g → RealSteps f → (us : List Unfolded) → are_terms us ≡ true → first_met (all_events f g us) ≡ fault_of (all_steps f us)
all-met f g h k [] e = refl
all-met f g h k (t ∷ us) e = let b = both_true (is_real_tree t) (are_terms us) e in
    sym (ap (λ x. or_next x (first_met (steps_events f g t us))) (real-none t b.0)) ∙ steps-met f g h k t (top-of t b.0) us b.1

all-quiet : (f : Term → Term → Unfolded) (g : Term → Term → List Event) → Fits f g → (us : List Unfolded) → asked_in (all_events f g us) ≡ []
all-quiet f g h [] = refl
all-quiet f g h (t ∷ us) = steps-quiet f g h t us

subtract-top : (at : Place) → RealSteps (subtract_tree at)
subtract-top at t u = add-top at t (negate_tree u)

subtraction-met : (at : Place) (us : List Unfolded) → are_terms us ≡ true → first_met (subtraction_events at us) ≡ fault_of (subtraction_tree at us)
subtraction-met at [] e = refl
subtraction-met at (u ∷ []) e = lift-met (λ t. term (negate_tree t)) (λ t. made (negate_tree t) ∷ []) (λ t. refl) u (both_true (is_real_tree u) true e).0
subtraction-met at (u ∷ v ∷ us) e = all-met (subtract_tree at) (subtract_events at) (subtract-fits at) (subtract-top at) (u ∷ v ∷ us) e

subtraction-quiet : (at : Place) (us : List Unfolded) → asked_in (subtraction_events at us) ≡ []
subtraction-quiet at [] = refl
subtraction-quiet at (u ∷ []) = lift-quiet (λ t. made (negate_tree t) ∷ []) (λ t. refl) u
subtraction-quiet at (u ∷ v ∷ us) = all-quiet (subtract_tree at) (subtract_events at) (subtract-fits at) (u ∷ v ∷ us)

power-met : (n : Times) (t : Term) → first_met (power_events n t) ≡ None
power-met once t = refl
power-met (twice n) t = met-both (power_events n t) (made (square (power n t)) ∷ []) ∙ ap (λ x. or_next x None) (power-met n t)
power-met (twice_and_once n) t = met-both (power_events n t) (made (square (power n t)) ∷ made (multiply t (square (power n t))) ∷ []) ∙ ap (λ x. or_next x None) (power-met n t)

power-quiet : (n : Times) (t : Term) → asked_in (power_events n t) ≡ []
power-quiet once t = refl
power-quiet (twice n) t = asked-both (power_events n t) (made (square (power n t)) ∷ []) ∙ ap (λ x. x ++ []) (power-quiet n t)
power-quiet (twice_and_once n) t = asked-both (power_events n t) (made (square (power n t)) ∷ made (multiply t (square (power n t))) ∷ []) ∙ ap (λ x. x ++ []) (power-quiet n t)

-- no fault is met, and no atom asked for
abbrev IsSilent : List Event → Type 0
IsSilent es = (first_met es ≡ None) × (asked_in es ≡ [])

silent-cond : (b : Bool) (es fs : List Event) → IsSilent es → IsSilent fs → IsSilent (cond b es fs)
silent-cond true es fs h k = h
silent-cond false es fs h k = k

silent-both : (es fs : List Event) → IsSilent es → IsSilent fs → IsSilent (es ++ fs)
silent-both es fs h k = (met-both es fs ∙ ap (λ x. or_next x (first_met fs)) h.0 ∙ k.0, asked-both es fs ∙ ap (λ x. x ++ asked_in fs) h.1 ∙ k.1)

powers-from-silent : (t : Term) (n : Times) (us : List Unfolded) → IsSilent (powers_events_from t n us)
powers-from-silent t n [] = (power-met n t, power-quiet n t)
powers-from-silent t n (term u ∷ us) = silent-cond (repeats t u) (powers_events_from t (once_more n) us) (power_events n t ++ powers_events_from u once us)
    (powers-from-silent t (once_more n) us) (silent-both (power_events n t) (powers_events_from u once us) (power-met n t, power-quiet n t) (powers-from-silent u once us))
powers-from-silent t n (formula f g ∷ us) = (power-met n t, power-quiet n t)
powers-from-silent t n (refused x ∷ us) = (power-met n t, power-quiet n t)
powers-from-silent t n (either c d a b ∷ us) = (power-met n t, power-quiet n t)

powers-silent : (us : List Unfolded) → IsSilent (cond (hold_either us) [] (powers_events (gathered us)))
powers-silent us = silent-cond (hold_either us) [] (powers_events (gathered us)) (refl, refl) (go (gathered us))
  where
    go : (us : List Unfolded) → IsSilent (powers_events us)
    go [] = (refl, refl)
    go (term t ∷ us) = powers-from-silent t once us
    go (formula f g ∷ us) = (refl, refl)
    go (refused x ∷ us) = (refl, refl)
    go (either c d a b ∷ us) = (refl, refl)

product-met : (at : Place) (us : List Unfolded) → are_terms us ≡ true → first_met (product_events at us) ≡ fault_of (product_tree at us)
product-met at us e = let es = cond (hold_either us) [] (powers_events (gathered us)) in let fs = all_events (multiply_tree at) (multiply_events at) (factors us) in
    met-both es fs ∙ ap (λ x. or_next x (first_met fs)) (powers-silent us).0 ∙ all-met (multiply_tree at) (multiply_events at) (multiply-fits at) (multiply-top at) (factors us) (factors_terms us e)

product-quiet : (at : Place) (us : List Unfolded) → asked_in (product_events at us) ≡ []
product-quiet at us = let es = cond (hold_either us) [] (powers_events (gathered us)) in let fs = all_events (multiply_tree at) (multiply_events at) (factors us) in
    asked-both es fs ∙ ap (λ x. x ++ asked_in fs) (powers-silent us).1 ∙ all-quiet (multiply_tree at) (multiply_events at) (multiply-fits at) (factors us)

divided-met : (at : Place) (b : Bool) (us : List Unfolded) → are_terms us ≡ true →
    first_met (cond b (met (divisor_not_constant at) ∷ []) (all_events (divide_tree at) (divide_events at) us)) ≡ fault_of (cond b (refused (divisor_not_constant at)) (all_steps (divide_tree at) us))
divided-met at true us e = refl
divided-met at false us e = all-met (divide_tree at) (divide_events at) (divide-fits at) (divide-top at) us e

divided-quiet : (at : Place) (b : Bool) (us : List Unfolded) → asked_in (cond b (met (divisor_not_constant at) ∷ []) (all_events (divide_tree at) (divide_events at) us)) ≡ []
divided-quiet at true us = refl
divided-quiet at false us = all-quiet (divide_tree at) (divide_events at) (divide-fits at) us

-- ---- comparisons make no tree and meet no fault

compare-silent : (u v : Unfolded) → first_met (compare_events u v) ≡ None
compare-silent u v = lift-silent (λ t. lift_events (λ x. []) v) (λ t. lift-silent (λ x. []) (λ x. refl) v) u

compare-quiet : (u v : Unfolded) → asked_in (compare_events u v) ≡ []
compare-quiet u v = lift-quiet (λ t. lift_events (λ x. []) v) (λ t. lift-quiet (λ x. []) (λ x. refl) v) u

join-silent : (xs ys : List Event) → first_met xs ≡ None → first_met ys ≡ None → first_met (xs ++ ys) ≡ None
join-silent xs ys h k = met-both xs ys ∙ ap (λ x. or_next x (first_met ys)) h ∙ k

join-quiet : (xs ys : List Event) → asked_in xs ≡ [] → asked_in ys ≡ [] → asked_in (xs ++ ys) ≡ []
join-quiet xs ys h k = asked-both xs ys ∙ ap (λ x. x ++ asked_in ys) h ∙ k

chain-silent : (us : List Unfolded) → first_met (together (neighbours compare_events us)) ≡ None
chain-silent [] = refl
chain-silent (u ∷ []) = refl
chain-silent (u ∷ v ∷ us) = join-silent (compare_events u v) (together (neighbours compare_events (v ∷ us))) (compare-silent u v) (chain-silent (v ∷ us))

chain-quiet : (us : List Unfolded) → asked_in (together (neighbours compare_events us)) ≡ []
chain-quiet [] = refl
chain-quiet (u ∷ []) = refl
chain-quiet (u ∷ v ∷ us) = join-quiet (compare_events u v) (together (neighbours compare_events (v ∷ us))) (compare-quiet u v) (chain-quiet (v ∷ us))

each-silent : (u : Unfolded) (us : List Unfolded) (ess : List (List Event)) → first_met (together ess) ≡ None → first_met (together (map (compare_events u) us ++ ess)) ≡ None
each-silent u [] ess h = h
each-silent u (v ∷ us) ess h = join-silent (compare_events u v) (together (map (compare_events u) us ++ ess)) (compare-silent u v) (each-silent u us ess h)

each-quiet : (u : Unfolded) (us : List Unfolded) (ess : List (List Event)) → asked_in (together ess) ≡ [] → asked_in (together (map (compare_events u) us ++ ess)) ≡ []
each-quiet u [] ess h = h
each-quiet u (v ∷ us) ess h = join-quiet (compare_events u v) (together (map (compare_events u) us ++ ess)) (compare-quiet u v) (each-quiet u us ess h)

pairs-silent : (us : List Unfolded) → first_met (together (pairs compare_events us)) ≡ None
pairs-silent [] = refl
pairs-silent (u ∷ us) = each-silent u us (pairs compare_events us) (pairs-silent us)

pairs-quiet : (us : List Unfolded) → asked_in (together (pairs compare_events us)) ≡ []
pairs-quiet [] = refl
pairs-quiet (u ∷ us) = each-quiet u us (pairs compare_events us) (pairs-quiet us)

form-sound : (f : Term → Unfolded) → ((t : Term) → fault_of (f t) ≡ None) → (u : Unfolded) → fault_of (lift_form f u) ≡ None
form-sound f h (either c d a b) = refl
form-sound f h (term t) = h t
form-sound f h (formula p n) = h _
form-sound f h (refused x) = h _

compare-sound : (f : Term → Term → Unfolded) → ((t u : Term) → fault_of (f t u) ≡ None) → (u v : Unfolded) → fault_of (compare_two f u v) ≡ None
compare-sound f h u v = form-sound (λ t. lift_form (f t) v) (λ t. form-sound (f t) (h t) v) u

-- ---- operators of Bools make no tree and meet no fault

chain-sound : (us : List Unfolded) → first_fault us ≡ None → fault_of (chain us) ≡ None
chain-sound [] e = refl
chain-sound (u ∷ []) e = head-none u [] e
chain-sound (u ∷ v ∷ us) e = refl

neighbours-sound : (f : Unfolded → Unfolded → Unfolded) → ((a b : Unfolded) → fault_of (f a b) ≡ None) → (us : List Unfolded) → first_fault (neighbours f us) ≡ None
neighbours-sound f h [] = refl
neighbours-sound f h (u ∷ []) = refl
neighbours-sound f h (u ∷ v ∷ us) = first-step (f u v) (neighbours f (v ∷ us)) ∙ ap (λ x. or_next x (first_fault (neighbours f (v ∷ us)))) (h u v) ∙ neighbours-sound f h (v ∷ us)

implies-sound : (us : List Unfolded) → first_fault us ≡ None → fault_of (implies_of us) ≡ None
implies-sound [] e = refl
implies-sound (u ∷ []) e = head-none u [] e
implies-sound (u ∷ v ∷ us) e = refl

xor-sound : (u : Unfolded) (us : List Unfolded) → fault_of u ≡ None → fault_of (xor_from u us) ≡ None
xor-sound u [] e = e
xor-sound u (v ∷ us) e = xor-sound (xor_of u v) us refl

exclusive-sound : (at : Place) (us : List Unfolded) → first_fault us ≡ None → fault_of (unfolded_operation at exclusive us) ≡ None
exclusive-sound at [] e = refl
exclusive-sound at (u ∷ us) e = xor-sound u us (head-none u us e)

equality-sound : (at : Place) (us : List Unfolded) → fault_of (equality_form at us) ≡ None
equality-sound at [] = refl
equality-sound at (formula p n ∷ us) = chain-sound (neighbours (λ a b. not_of (xor_of a b)) (formula p n ∷ us)) (neighbours-sound (λ a b. not_of (xor_of a b)) (λ a b. refl) (formula p n ∷ us))
equality-sound at (term t ∷ us) = chain-sound (neighbours (equal_two at) (term t ∷ us)) (neighbours-sound (equal_two at) (compare-sound (equal_terms at) (λ t u. refl)) (term t ∷ us))
equality-sound at (either c d a b ∷ us) = chain-sound (neighbours (equal_two at) (either c d a b ∷ us)) (neighbours-sound (equal_two at) (compare-sound (equal_terms at) (λ t u. refl)) (either c d a b ∷ us))
equality-sound at (refused x ∷ us) = chain-sound (neighbours (equal_two at) (refused x ∷ us)) (neighbours-sound (equal_two at) (compare-sound (equal_terms at) (λ t u. refl)) (refused x ∷ us))

cond-sound : (b : Bool) (u v : Unfolded) → fault_of u ≡ None → fault_of v ≡ None → fault_of (cond b u v) ≡ None
cond-sound true u v h k = h
cond-sound false u v h k = k

distinctness-sound : (at : Place) (us : List Unfolded) → fault_of (distinctness_form at us) ≡ None
distinctness-sound at [] = refl
distinctness-sound at (formula p n ∷ us) = refl
distinctness-sound at (term t ∷ us) = cond-sound (hold_either (term t ∷ us)) (and_of (pairs (differ_two at) (term t ∷ us))) (different (pairs (equal_two at) (term t ∷ us))) refl refl
distinctness-sound at (refused x ∷ us) = cond-sound (hold_either (refused x ∷ us)) (and_of (pairs (differ_two at) (refused x ∷ us))) (different (pairs (equal_two at) (refused x ∷ us))) refl refl
distinctness-sound at (either c d a b ∷ us) = refl

pick-sound : (c a b : Unfolded) → fault_of (choice_two c a b) ≡ None
pick-sound c (formula p n) b = refl
pick-sound c (term t) b = refl
pick-sound c (refused x) b = refl
pick-sound c (either f g x y) b = refl

choice-sound : (us : List Unfolded) → fault_of (choice_tree us) ≡ None
choice-sound [] = refl
choice-sound (c ∷ []) = refl
choice-sound (c ∷ a ∷ []) = refl
choice-sound (c ∷ a ∷ b ∷ us) = pick-sound c a b

negation-sound : (at : Place) (us : List Unfolded) → fault_of (unfolded_operation at negation us) ≡ None
negation-sound at [] = refl
negation-sound at (u ∷ us) = refl

operation-met : (at : Place) (op : Operator) (us : List Unfolded) → first_fault us ≡ None → takes op us ≡ true → first_met (operation_events at op us) ≡ fault_of (unfolded_operation at op us)
operation-met at truth us e t = refl
operation-met at falsehood us e t = refl
operation-met at negation us e t = sym (negation-sound at us)
operation-met at conjunction us e t = refl
operation-met at disjunction us e t = refl
operation-met at implication us e t = sym (implies-sound us e)
operation-met at exclusive us e t = sym (exclusive-sound at us e)
operation-met at equality us e t = chain-silent us ∙ sym (equality-sound at us)
operation-met at distinctness us e t = pairs-silent us ∙ sym (distinctness-sound at us)
operation-met at choice us e t = sym (choice-sound us)
operation-met at minus us e t = subtraction-met at us (both_true (are_terms us) _ t).0
operation-met at plus us e t = all-met (add_tree at) (add_events at) (add-fits at) (add-top at) us (both_true (are_terms us) _ t).0
operation-met at times us e t = product-met at us (both_true (are_terms us) _ t).0
operation-met at divide us e t = divided-met at (hold_either (behind_first us)) us (both_true (are_terms us) _ t).0
operation-met at at_most_op us e t = chain-silent us ∙ sym (chain-sound (neighbours (at_most_two at) us) (neighbours-sound (at_most_two at) (compare-sound (at_most_terms at) (λ t u. refl)) us))
operation-met at below_op us e t = chain-silent us ∙ sym (chain-sound (neighbours (at_most_two at) us) (neighbours-sound (at_most_two at) (compare-sound (at_most_terms at) (λ t u. refl)) us))
operation-met at at_least_op us e t = chain-silent us ∙ sym (chain-sound (neighbours (at_least_two at) us) (neighbours-sound (at_least_two at) (compare-sound (at_least_terms at) (λ t u. refl)) us))
operation-met at above_op us e t = chain-silent us ∙ sym (chain-sound (neighbours (at_least_two at) us) (neighbours-sound (at_least_two at) (compare-sound (at_least_terms at) (λ t u. refl)) us))

operation-quiet : (at : Place) (op : Operator) (us : List Unfolded) → asked_in (operation_events at op us) ≡ []
operation-quiet at minus us = subtraction-quiet at us
operation-quiet at plus us = all-quiet (add_tree at) (add_events at) (add-fits at) us
operation-quiet at times us = product-quiet at us
operation-quiet at divide us = divided-quiet at (hold_either (behind_first us)) us
operation-quiet at equality us = chain-quiet us
operation-quiet at distinctness us = pairs-quiet us
operation-quiet at at_most_op us = chain-quiet us
operation-quiet at below_op us = chain-quiet us
operation-quiet at at_least_op us = chain-quiet us
operation-quiet at above_op us = chain-quiet us
operation-quiet at _ us = refl

operator-met : (at : Place) (op : Operator) (us : List Unfolded) (x : Option Fault) → first_fault us ≡ x → (b : Bool) → takes op us ≡ b →
    or_next x (first_met (unless_met x (cond b (operation_events at op us) (met (ill_formed at) ∷ [])))) ≡ fault_of (unless_refused x (cond b (unfolded_operation at op us) (refused (ill_formed at))))
operator-met at op us (Some x) e b t = refl
operator-met at op us None e true t = operation-met at op us e t
operator-met at op us None e false t = refl

operator-quiet : (at : Place) (op : Operator) (us : List Unfolded) (x : Option Fault) (b : Bool) → asked_in (unless_met x (cond b (operation_events at op us) (met (ill_formed at) ∷ []))) ≡ []
operator-quiet at op us (Some x) b = refl
operator-quiet at op us None true = operation-quiet at op us
operator-quiet at op us None false = refl

apply-tells : (at : Place) (op : Operator) (us : List Unfolded) (ws : List Work) → Each Tells us ws → Tells (as_tree.apply at op us) (as_work.apply at op ws)
apply-tells at op us ws h = record {
  outcome = ap (operation_tree at op) (outcomes us ws h);
  fault = met-both (events_of ws) (operator_events at op (map outcome_of ws)) ∙ ap (λ x. or_next x (first_met (operator_events at op (map outcome_of ws)))) (events-met us ws h)
      ∙ ap (λ vs. or_next (first_fault us) (first_met (operator_events at op vs))) (outcomes us ws h) ∙ operator-met at op us (first_fault us) refl (takes op us) refl;
  quiet = asked-both (events_of ws) (operator_events at op (map outcome_of ws)) ∙ ap (λ x. x ++ asked_in (operator_events at op (map outcome_of ws))) (events-quiet us ws h)
      ∙ operator-quiet at op (map outcome_of ws) (first_fault (map outcome_of ws)) (takes op (map outcome_of ws));
}

-- a `let` or a call: its bindings or arguments, and then its body
body-tells : (us : List Unfolded) (ws : List Work) (u : Unfolded) (w : Work) → Each Tells us ws → Tells u w →
    Tells (checked us u) (record { events = reached ∷ events_of ws ++ w.events; outcome = checked (map outcome_of ws) w.outcome })
body-tells us ws u w h k = record {
  outcome = ap (λ vs. checked vs w.outcome) (outcomes us ws h) ∙ ap (checked us) k.outcome;
  fault = met-both (events_of ws) w.events ∙ ap (λ x. or_next x (first_met w.events)) (events-met us ws h) ∙ ap (or_next (first_fault us)) k.fault ∙ sym (checked-fault (first_fault us) u);
  quiet = asked-both (events_of ws) w.events ∙ ap (λ x. x ++ asked_in w.events) (events-quiet us ws h) ∙ k.quiet;
}

pub tells_respects : Respects Tells as_tree as_work
tells_respects = record {
  literal = λ at digits more_digits. record { outcome = refl; fault = refl; quiet = refl };
  named = λ at u w h. record { outcome = h.outcome; fault = ending-met w.outcome ∙ ap fault_of h.outcome; quiet = ending-quiet w.outcome };
  annotated = λ at u w h. record { outcome = h.outcome; fault = h.fault; quiet = h.quiet };
  apply = apply-tells;
  bind = λ at names us ws u w h k. body-tells us ws u w h k;
  call = λ at us ws u w h k. body-tells us ws u w h k;
  nothing = λ at why. record { outcome = refl; fault = refl; quiet = refl };
}

-- ---- forms

comparison-met : (b : Bool) (c : Comparison) → first_met (cond b [] (subtract_events c.at c.left c.right)) ≡ fault_of (cond b (term c.left) (subtract_tree c.at c.left c.right))
comparison-met true c = refl
comparison-met false c = ending-met (subtract_tree c.at c.left c.right)

comparison-quiet : (b : Bool) (c : Comparison) → asked_in (cond b [] (subtract_events c.at c.left c.right)) ≡ []
comparison-quiet true c = refl
comparison-quiet false c = ending-quiet (subtract_tree c.at c.left c.right)

comparisons-both : (xs ys : List Comparison) → comparisons_fault (xs ++ ys) ≡ or_next (comparisons_fault xs) (comparisons_fault ys)
comparisons-both [] ys = refl
comparisons-both (c ∷ xs) ys = ap (or_next (comparison_fault c)) (comparisons-both xs ys) ∙ sym (or-assoc (comparison_fault c) (comparisons_fault xs) (comparisons_fault ys))

mutual
  form-met : (f : Form Comparison) → first_met (form_events f) ≡ comparisons_fault (form_atoms f)
  form-met yes_form = refl
  form-met no_form = refl
  form-met (atom_is c) = met-both (comparison_events c) (asked (atom_of c) ∷ formed (atom_is (atom_of c)) ∷ []) ∙ ap (λ x. or_next x None) (comparison-met (is_zero c.right) c)
  form-met (bool_is axis v) = refl
  form-met (all_form fs) = met-both (forms_events fs) (formed (all_form (forms_map atom_of fs)) ∷ []) ∙ or-none (first_met (forms_events fs)) ∙ forms-met fs
  form-met (any_form fs) = met-both (forms_events fs) (formed (any_form (forms_map atom_of fs)) ∷ []) ∙ or-none (first_met (forms_events fs)) ∙ forms-met fs

  forms-met : (fs : Forms Comparison) → first_met (forms_events fs) ≡ comparisons_fault (forms_atoms fs)
  forms-met no_forms = refl
  forms-met (more_forms f fs) = met-both (form_events f) (forms_events fs) ∙ ap (λ x. or_next x (first_met (forms_events fs))) (form-met f)
      ∙ ap (or_next (comparisons_fault (form_atoms f))) (forms-met fs) ∙ sym (comparisons-both (form_atoms f) (forms_atoms fs))

mutual
  form-asks : (f : Form Comparison) → asked_in (form_events f) ≡ form_atoms (form_map atom_of f)
  form-asks yes_form = refl
  form-asks no_form = refl
  form-asks (atom_is c) = asked-both (comparison_events c) (asked (atom_of c) ∷ formed (atom_is (atom_of c)) ∷ [])
      ∙ ap (λ x. x ++ (atom_of c ∷ [])) (comparison-quiet (is_zero c.right) c)
  form-asks (bool_is axis v) = refl
  form-asks (all_form fs) = asked-both (forms_events fs) (formed (all_form (forms_map atom_of fs)) ∷ []) ∙ append-nil (asked_in (forms_events fs)) ∙ forms-ask fs
  form-asks (any_form fs) = asked-both (forms_events fs) (formed (any_form (forms_map atom_of fs)) ∷ []) ∙ append-nil (asked_in (forms_events fs)) ∙ forms-ask fs

  forms-ask : (fs : Forms Comparison) → asked_in (forms_events fs) ≡ forms_atoms (forms_map atom_of fs)
  forms-ask no_forms = refl
  forms-ask (more_forms f fs) = asked-both (form_events f) (forms_events fs) ∙ ap (λ x. x ++ asked_in (forms_events fs)) (form-asks f)
      ∙ ap (λ x. form_atoms (form_map atom_of f) ++ x) (forms-ask fs)

-- ---- assertions

formula-met : (u : Unfolded) → or_next (fault_of u) (first_met (form_events (truth_of u))) ≡ tree_fault u
formula-met (term t) = refl
formula-met (formula p n) = form-met p
formula-met (either c d a b) = refl
formula-met (refused x) = refl

assertion-met : (u : Unfolded) (w : Work) → Tells u w → first_met (assertion_events w) ≡ tree_fault u
assertion-met u w h = met-both w.events (form_events (truth_of w.outcome)) ∙ ap (λ x. or_next x (first_met (form_events (truth_of w.outcome)))) h.fault
    ∙ ap (λ v. or_next (fault_of u) (first_met (form_events (truth_of v)))) h.outcome ∙ formula-met u

assertion-asks : (u : Unfolded) (w : Work) → Tells u w → asked_in (assertion_events w) ≡ form_atoms (form_map atom_of (truth_of u))
assertion-asks u w h = asked-both w.events (form_events (truth_of w.outcome)) ∙ ap (λ x. x ++ asked_in (form_events (truth_of w.outcome))) h.quiet
    ∙ form-asks (truth_of w.outcome) ∙ ap (λ v. form_atoms (form_map atom_of (truth_of v))) h.outcome

-- ---- the walk

-- what is known of a walk from this stand over these events
abbrev Ends : Stand → List Event → Walked → Type 0
Ends s es (stands s') = (first_met es ≡ None) × (s'.atoms ≡ firsts s.atoms (asked_in es))
Ends s es (stops at (unfolds_not x)) = first_met es ≡ Some x
Ends s es (stops at _) = Unit {0}

-- a limit is no fault of the unfolding
room-ends : (b : Bool) (at : Place) (f : BuildingFault) (s s' : Stand) (es : List Event) → first_met es ≡ None → s'.atoms ≡ firsts s.atoms (asked_in es) →
    ((x : Fault) → f ≡ unfolds_not x → ⊥) → Ends s es (if_room b at f s')
room-ends true at f s s' es h k m = (h, k)
room-ends false at (unfolds_not x) s s' es h k m = absurd (m x refl)
room-ends false at too_large s s' es h k m = tt
room-ends false at too_many_nodes s s' es h k m = tt
room-ends false at too_many_atoms s s' es h k m = tt
room-ends false at too_many_forms s s' es h k m = tt
room-ends false at (lacks_bound x) s s' es h k m = tt
room-ends false at (bound_beyond x) s s' es h k m = tt

tree-ends : (b : Bool) (at : Place) (s : Stand) (t : Term) → Ends s (made t ∷ []) (cond b (stands s) (if_room (nat_lt (length s.trees) most_trees) at too_many_nodes (with_tree s t)))
tree-ends true at s t = (refl, refl)
tree-ends false at s t = room-ends (nat_lt (length s.trees) most_trees) at too_many_nodes s (with_tree s t) (made t ∷ []) refl refl (λ x e. cc)

atom-known : (b : Bool) (s : Stand) (a : Atom) → b ≡ true → s.atoms ≡ cond b s.atoms (s.atoms ++ (a ∷ []))
atom-known true s a e = refl
atom-known false s a e = cc

atom-ends : (b : Bool) → (at : Place) (s : Stand) (a : Atom) → already a s.atoms ≡ b → Ends s (asked a ∷ []) (cond b (stands s) (if_room (nat_lt (length s.atoms) most_atoms) at too_many_atoms (with_atom s a)))
atom-ends true at s a e = (refl, sym (ap (λ c. cond c s.atoms (s.atoms ++ (a ∷ []))) e))
atom-ends false at s a e = room-ends (nat_lt (length s.atoms) most_atoms) at too_many_atoms s (with_atom s a) (asked a ∷ []) refl (sym (ap (λ c. cond c s.atoms (s.atoms ++ (a ∷ []))) e)) (λ x e. cc)

form-ends : (b : Bool) (at : Place) (s : Stand) (f : Form ℕ) (g : Form Atom) → Ends s (formed g ∷ []) (cond b (stands s) (if_room (nat_lt (all_sizes s.forms + form_size f) (suc most_forms)) at too_many_forms (with_form s f)))
form-ends true at s f g = (refl, refl)
form-ends false at s f g = room-ends (nat_lt (all_sizes s.forms + form_size f) (suc most_forms)) at too_many_forms s (with_form s f) (formed g ∷ []) refl refl (λ x e. cc)

event-ends : (at : Place) (s : Stand) (e : Event) → Ends s (e ∷ []) (after_event at s e)
event-ends at s reached = room-ends (nat_lt s.size most_size) at too_large s (larger s) (reached ∷ []) refl refl (λ x e. cc)
event-ends at s (made t) = tree-ends (has_tree t s.trees) at s t
event-ends at s (asked a) = atom-ends (already a s.atoms) at s a refl
event-ends at s (formed f) = form-ends (has_form (form_map (number_in s.atoms) f) s.forms) at s (form_map (number_in s.atoms) f) f
event-ends at s (met x) = refl

pub firsts_both : (seen xs ys : List Atom) → firsts seen (xs ++ ys) ≡ firsts (firsts seen xs) ys
firsts_both seen [] ys = refl
firsts_both seen (a ∷ xs) ys = firsts_both (cond (already a seen) seen (seen ++ (a ∷ []))) xs ys

-- one walk behind another
ends-both : (s s' : Stand) (es fs : List Event) (w : Walked) → (first_met es ≡ None) × (s'.atoms ≡ firsts s.atoms (asked_in es)) → Ends s' fs w → Ends s (es ++ fs) w
ends-both s s' es fs (stands s'') h k = (
  met-both es fs ∙ ap (λ x. or_next x (first_met fs)) h.0 ∙ k.0,
  k.1 ∙ ap (λ xs. firsts xs (asked_in fs)) h.1 ∙ sym (firsts_both s.atoms (asked_in es) (asked_in fs)) ∙ ap (firsts s.atoms) (sym (asked-both es fs)),
)
ends-both s s' es fs (stops at (unfolds_not x)) h k = met-both es fs ∙ ap (λ x. or_next x (first_met fs)) h.0 ∙ k
ends-both s s' es fs (stops at too_large) h k = tt
ends-both s s' es fs (stops at too_many_nodes) h k = tt
ends-both s s' es fs (stops at too_many_atoms) h k = tt
ends-both s s' es fs (stops at too_many_forms) h k = tt
ends-both s s' es fs (stops at (lacks_bound x)) h k = tt
ends-both s s' es fs (stops at (bound_beyond x)) h k = tt

-- a walk that stopped stays so
stopped : (s : Stand) (es fs : List Event) (at : Place) (x : BuildingFault) → Ends s es (stops at x) → Ends s (es ++ fs) (stops at x)
stopped s es fs at (unfolds_not x) h = met-both es fs ∙ ap (λ x. or_next x (first_met fs)) h
stopped s es fs at too_large h = tt
stopped s es fs at too_many_nodes h = tt
stopped s es fs at too_many_atoms h = tt
stopped s es fs at too_many_forms h = tt
stopped s es fs at (lacks_bound x) h = tt
stopped s es fs at (bound_beyond x) h = tt

goes-ends : (s : Stand) (es fs : List Event) (w : Walked) (f : Stand → Walked) → Ends s es w → ((s' : Stand) → Ends s' fs (f s')) → Ends s (es ++ fs) (goes_on f w)
goes-ends s es fs (stands s') f h k = ends-both s s' es fs (f s') h (k s')
goes-ends s es fs (stops at x) f h k = stopped s es fs at x h

pub events_end : (at : Place) (s : Stand) (es : List Event) → Ends s es (after_events at s es)
events_end at s [] = (refl, refl)
events_end at s (e ∷ es) = goes-ends s (e ∷ []) es (after_event at s e) (λ s'. after_events at s' es) (event-ends at s e) (λ s'. events_end at s' es)

-- ---- all assertions

abbrev all_of : List Work → List Event
all_of [] = []
all_of (w ∷ ws) = assertion_events w ++ all_of ws

assertions-end : (s : Stand) (places : List Place) (ws : List Work) → length places ≡ length ws → Ends s (all_of ws) (after_assertions s places ws)
assertions-end s [] [] e = (refl, refl)
assertions-end s (at ∷ places) (w ∷ ws) e =
    goes-ends s (assertion_events w) (all_of ws) (after_events at s (assertion_events w)) (λ s'. after_assertions s' places ws) (events_end at s (assertion_events w))
    (λ s'. assertions-end s' places ws (suc_inj e))
assertions-end s (at ∷ places) [] e = absurd (suc-ne-zero (length places) e)
assertions-end s [] (w ∷ ws) e = absurd (suc-ne-zero (length ws) (sym e))

claims-long : {V : Type 0} (M : Meanings V) (names : Names V) (vs : List V) (script : List Command) → length (claim_places script) ≡ length (claims M names vs script)
claims-long M names vs [] = refl
claims-long M names [] (declare at x sort ∷ rest) = claims-long M ((x, value (M.nothing at (unknown x))) ∷ names) [] rest
claims-long M names (v ∷ vs) (declare at x sort ∷ rest) = claims-long M ((x, value v) ∷ names) vs rest
claims-long M names vs (define at f params sort body ∷ rest) = claims-long M ((f, defined M names params body) ∷ names) vs rest
claims-long M names vs (claim at e ∷ rest) = ap suc (claims-long M names vs rest)
claims-long M names vs (minimize at t ∷ rest) = ap suc (claims-long M names vs rest)
claims-long M names vs (check at ∷ rest) = claims-long M names vs rest
claims-long M names vs (ineffective at ∷ rest) = claims-long M names vs rest

constants-tell : (n : ℕ) (sorts : List Sort) → Each Tells (numbered constant_tree n sorts) (numbered constant_work n sorts)
constants-tell n [] = tt
constants-tell n (real_sort ∷ sorts) = (record { outcome = refl; fault = refl; quiet = refl }, constants-tell (suc n) sorts)
constants-tell n (bool_sort ∷ sorts) = (record { outcome = refl; fault = refl; quiet = refl }, constants-tell (suc n) sorts)

-- each assertion's work is that of its tree
pub works_tell : (script : List Command) → Each Tells (trees script) (works script)
works_tell script = claims_alike Tells as_tree as_work tells_respects [] [] tt (numbered constant_tree 0 (sorts_of script)) (numbered constant_work 0 (sorts_of script)) (constants-tell 0 (sorts_of script)) script

all-met-in : (us : List Unfolded) (ws : List Work) → Each Tells us ws → first_met (all_of ws) ≡ trees_fault us
all-met-in [] [] h = refl
all-met-in (u ∷ us) (w ∷ ws) h = met-both (assertion_events w) (all_of ws) ∙ ap (λ x. or_next x (first_met (all_of ws))) (assertion-met u w h.0) ∙ ap (or_next (tree_fault u)) (all-met-in us ws h.1)
all-met-in [] (w ∷ ws) h = elim h [ ]
all-met-in (u ∷ us) [] h = elim h [ ]

all-ask-in : (us : List Unfolded) (ws : List Work) → Each Tells us ws → asked_in (all_of ws) ≡ forms_atoms (forms_map atom_of (forms_of truth_of us))
all-ask-in [] [] h = refl
all-ask-in (u ∷ us) (w ∷ ws) h = asked-both (assertion_events w) (all_of ws) ∙ ap (λ x. x ++ asked_in (all_of ws)) (assertion-asks u w h.0)
    ∙ ap (λ x. form_atoms (form_map atom_of (truth_of u)) ++ x) (all-ask-in us ws h.1)
all-ask-in [] (w ∷ ws) h = elim h [ ]
all-ask-in (u ∷ us) [] h = elim h [ ]

-- what is known where all assertions were walked
abbrev pub Walks : List Command → Walked → Type 0
Walks script (stands s) = (unfolding_fault script ≡ None) × (s.atoms ≡ script_atoms script)
Walks script (stops at (unfolds_not x)) = unfolding_fault script ≡ Some x
Walks script (stops at _) = Unit {0}

walks-of : (script : List Command) (w : Walked) → Ends nothing_made (all_of (works script)) w → Walks script w
walks-of script (stands s) h = (
  sym (all-met-in (trees script) (works script) (works_tell script)) ∙ h.0,
  h.1 ∙ ap (firsts []) (all-ask-in (trees script) (works script) (works_tell script)),
)
walks-of script (stops at (unfolds_not x)) h = sym (all-met-in (trees script) (works script) (works_tell script)) ∙ h
walks-of script (stops at too_large) h = tt
walks-of script (stops at too_many_nodes) h = tt
walks-of script (stops at too_many_atoms) h = tt
walks-of script (stops at too_many_forms) h = tt
walks-of script (stops at (lacks_bound x)) h = tt
walks-of script (stops at (bound_beyond x)) h = tt

-- the walk over the assertions ends where there is no fault of unfolding, or stops at the first
pub assertions_walk : (script : List Command) → Walks script (after_assertions nothing_made (claim_places script) (works script))
assertions_walk script = walks-of script (after_assertions nothing_made (claim_places script) (works script))
    (assertions-end nothing_made (claim_places script) (works script) (claims-long as_work [] (numbered constant_work 0 (sorts_of script)) script))

-- ---- a script without a fault

root-stands : (script : List Command) (w : Walked) → Walks script w → (s' : Stand) → goes_on (after_root script) w ≡ stands s' → unfolding_fault script ≡ None
root-stands script (stands s) h s' e = h.0
root-stands script (stops at' x') h s' e = cc

bounds-none : (x : Option (Constant × BoundFault)) → fault_of_bounds x ≡ None → x ≡ None
bounds-none None e = refl
bounds-none (Some x) e = cc

pub faultless_walked : (w : Walked) (x : Option (Constant × BoundFault)) → fault_or w (fault_of_bounds x) ≡ None → ((s : Stand) × (w ≡ stands s)) × (x ≡ None)
faultless_walked (stands s) x e = ((s, refl), bounds-none x e)
faultless_walked (stops at f) x e = cc

pub faultless_unfolds : (bound : Option ℕ) (script : List Command) → building_fault bound script ≡ None → (unfolding_fault script ≡ None) × (bound_fault bound script ≡ None)
faultless_unfolds bound script e = let f = faultless_walked (walked script) (bound_fault bound script) e in
    (root-stands script (after_assertions nothing_made (claim_places script) (works script)) (assertions_walk script) f.0.0 f.0.1, f.1)
