-- The unfolding of expressions: a third meaning beside their value and their bounds.
use Rattle.std.specs.Prelude.{ℕ, length, List, [], ◌∷◌, Bool, true, false, ◌&&◌, ◌||◌, Option, Some, None, nat_eq, nat_le, cond}
use Rattle.dyadic.specs.Fraction.{zero_fraction}
use Rattle.script_model.specs.Sexp.{Place}
use Rattle.script_model.specs.Reading.{Operator, truth, falsehood, negation, conjunction, disjunction, implication, exclusive, equality, distinctness, choice, minus, plus, times, divide, at_most_op, below_op, at_least_op, above_op, Meanings}
use Rattle.script_model.specs.Meaning.{neighbours, pairs}
use Rattle.poly_graph.specs.Term.{Term, constant, Kind, le, ge, eq}
use Rattle.poly_graph.specs.Form.{Form, yes_form, no_form, atom_is, all_form, any_form, Forms, no_forms, more_forms}
use Rattle.dyadic.specs.Lowest.{reduced}
use Rattle.script_forms.specs.Terms.{Fault, ill_formed, Comparison, Unfolded, term, formula, refused, either, add_tree, all_steps, subtraction_tree, product_tree, quotient_tree, hold_either}

-- ---- parts

-- of what is no formula: no accepted script asks
abbrev pub truth_of : Unfolded → Form Comparison
truth_of (formula p n) = p
truth_of u = no_form

abbrev pub negation_form : Unfolded → Form Comparison
negation_form (formula p n) = n
negation_form u = no_form

abbrev pub term_in : Unfolded → Term
term_in (term t) = t
term_in u = constant zero_fraction

abbrev pub forms_of : (Unfolded → Form Comparison) → List Unfolded → Forms Comparison
forms_of f [] = no_forms
forms_of f (u ∷ rest) = more_forms (f u) (forms_of f rest)

abbrev pub two : Form Comparison → Form Comparison → Forms Comparison
two f g = more_forms f (more_forms g no_forms)

-- ---- comparisons of two terms, which stand in their forms

abbrev pub compare : Place → Kind → Term → Term → Form Comparison
compare at kind t u = atom_is (record { at = at; left = t; right = u; kind = kind })

abbrev pub at_most_terms : Place → Term → Term → Unfolded
at_most_terms at t u = formula (compare at le t u) (compare at ge t u)

abbrev pub at_least_terms : Place → Term → Term → Unfolded
at_least_terms at t u = formula (compare at ge t u) (compare at le t u)

-- that two terms differ says nothing where each atom is loosened
abbrev pub equal_terms : Place → Term → Term → Unfolded
equal_terms at t u = formula (compare at eq t u) yes_form

-- ---- connectives, the parts of each form in the order in which they are made

abbrev pub and_of : List Unfolded → Unfolded
and_of us = formula (all_form (forms_of truth_of us)) (any_form (forms_of negation_form us))

abbrev pub or_of : List Unfolded → Unfolded
or_of us = formula (any_form (forms_of truth_of us)) (all_form (forms_of negation_form us))

abbrev pub not_of : Unfolded → Unfolded
not_of u = formula (negation_form u) (truth_of u)

abbrev pub implies_two : Unfolded → Unfolded → Unfolded
implies_two a b = formula (any_form (two (negation_form a) (truth_of b))) (all_form (two (truth_of a) (negation_form b)))

-- from the right
abbrev pub implies_of : List Unfolded → Unfolded
implies_of [] = formula yes_form no_form
implies_of (a ∷ []) = a
implies_of (a ∷ b ∷ rest) = implies_two a (implies_of (b ∷ rest))

abbrev pub xor_of : Unfolded → Unfolded → Unfolded
xor_of a b = formula
    (any_form (two (all_form (two (truth_of a) (negation_form b))) (all_form (two (negation_form a) (truth_of b)))))
    (any_form (two (all_form (two (truth_of a) (truth_of b))) (all_form (two (negation_form a) (negation_form b)))))

-- from the left
abbrev pub xor_from : Unfolded → List Unfolded → Unfolded
xor_from a [] = a
xor_from a (b ∷ rest) = xor_from (xor_of a b) rest

abbrev pub xor_all : List Unfolded → Unfolded
xor_all [] = formula yes_form no_form
xor_all (a ∷ rest) = xor_from a rest

abbrev pub choice_form : List Unfolded → Unfolded
choice_form (c ∷ a ∷ b ∷ _) = formula
    (any_form (two (all_form (two (truth_of c) (truth_of a))) (all_form (two (negation_form c) (truth_of b)))))
    (any_form (two (all_form (two (truth_of c) (negation_form a))) (all_form (two (negation_form c) (negation_form b)))))
choice_form _ = formula yes_form no_form

-- ---- Real `ite`: what is said of it is the Bool `ite` of what is said of its arms

abbrev pub lift_form : (Term → Unfolded) → Unfolded → Unfolded
lift_form f (either c d a b) = choice_form (formula c d ∷ lift_form f a ∷ lift_form f b ∷ [])
lift_form f u = f (term_in u)

-- the first one is lifted first
abbrev pub compare_two : (Term → Term → Unfolded) → Unfolded → Unfolded → Unfolded
compare_two f u v = lift_form (λ t. lift_form (f t) v) u

abbrev pub at_most_two : Place → Unfolded → Unfolded → Unfolded
at_most_two at = compare_two (at_most_terms at)

abbrev pub at_least_two : Place → Unfolded → Unfolded → Unfolded
at_least_two at = compare_two (at_least_terms at)

abbrev pub equal_two : Place → Unfolded → Unfolded → Unfolded
equal_two at = compare_two (equal_terms at)

abbrev pub differ_two : Place → Unfolded → Unfolded → Unfolded
differ_two at u v = not_of (equal_two at u v)

-- by the sort of its first arm
abbrev pub choice_two : Unfolded → Unfolded → Unfolded → Unfolded
choice_two c (formula p n) b = choice_form (c ∷ formula p n ∷ b ∷ [])
choice_two c a b = either (truth_of c) (negation_form c) a b

abbrev pub choice_tree : List Unfolded → Unfolded
choice_tree (c ∷ a ∷ b ∷ _) = choice_two c a b
choice_tree _ = formula yes_form no_form

abbrev pub not_first : List Unfolded → Unfolded
not_first [] = formula yes_form no_form
not_first (u ∷ rest) = not_of u

-- a chain of two is its pair, a longer one holds where each pair does
abbrev pub chain : List Unfolded → Unfolded
chain (u ∷ []) = u
chain us = and_of us

-- by the sort of the first argument
abbrev pub equality_form : Place → List Unfolded → Unfolded
equality_form at (formula p n ∷ rest) = chain (neighbours (λ a b. not_of (xor_of a b)) (formula p n ∷ rest))
equality_form at us = chain (neighbours (equal_two at) us)

-- of Reals without an `ite`: that they differ is true, and its negation is that some pair is equal
abbrev pub different : List Unfolded → Unfolded
different us = formula yes_form (any_form (forms_of truth_of us))

abbrev pub distinctness_form : Place → List Unfolded → Unfolded
distinctness_form at (formula p n ∷ rest) = and_of (pairs xor_of (formula p n ∷ rest))
distinctness_form at us = cond (hold_either us) (and_of (pairs (differ_two at) us)) (different (pairs (equal_two at) us))

-- an operator at arguments without a fault
abbrev pub unfolded_operation : Place → Operator → List Unfolded → Unfolded
unfolded_operation at truth us = formula yes_form no_form
unfolded_operation at falsehood us = formula no_form yes_form
unfolded_operation at negation us = not_first us
unfolded_operation at conjunction us = and_of us
unfolded_operation at disjunction us = or_of us
unfolded_operation at implication us = implies_of us
unfolded_operation at exclusive us = xor_all us
unfolded_operation at equality us = equality_form at us
unfolded_operation at distinctness us = distinctness_form at us
unfolded_operation at choice us = choice_tree us
unfolded_operation at minus us = subtraction_tree at us
unfolded_operation at plus us = all_steps (add_tree at) us
unfolded_operation at times us = product_tree at us
unfolded_operation at divide us = quotient_tree at us
unfolded_operation at at_most_op us = chain (neighbours (at_most_two at) us)
unfolded_operation at below_op us = chain (neighbours (at_most_two at) us)
unfolded_operation at at_least_op us = chain (neighbours (at_least_two at) us)
unfolded_operation at above_op us = chain (neighbours (at_least_two at) us)

-- ---- which arguments an operator takes

-- a term, or a Real `ite` of such
abbrev pub is_real_tree : Unfolded → Bool
is_real_tree (term t) = true
is_real_tree (either c d a b) = is_real_tree a && is_real_tree b
is_real_tree u = false

abbrev pub are_terms : List Unfolded → Bool
are_terms [] = true
are_terms (u ∷ rest) = is_real_tree u && are_terms rest

abbrev pub are_formulas : List Unfolded → Bool
are_formulas [] = true
are_formulas (formula p n ∷ rest) = are_formulas rest
are_formulas (_ ∷ rest) = false

abbrev pub at_least_long : ℕ → List Unfolded → Bool
at_least_long n us = nat_le n (length us)

-- a Real `ite`
abbrev pub picks_terms : List Unfolded → Bool
picks_terms (formula p n ∷ rest) = are_terms rest && nat_eq (length rest) 2
picks_terms us = false

abbrev pub takes : Operator → List Unfolded → Bool
takes truth us = nat_eq (length us) 0
takes falsehood us = nat_eq (length us) 0
takes negation us = are_formulas us && nat_eq (length us) 1
takes conjunction us = are_formulas us && at_least_long 1 us
takes disjunction us = are_formulas us && at_least_long 1 us
takes implication us = are_formulas us && at_least_long 2 us
takes exclusive us = are_formulas us && at_least_long 2 us
takes equality us = (are_formulas us || are_terms us) && at_least_long 2 us
takes distinctness us = (are_formulas us || are_terms us) && at_least_long 2 us
takes choice us = (are_formulas us && nat_eq (length us) 3) || picks_terms us
takes minus us = are_terms us && at_least_long 1 us
takes plus us = are_terms us && at_least_long 1 us
takes times us = are_terms us && at_least_long 1 us
takes op us = are_terms us && at_least_long 2 us

-- ---- the first fault, in reading order

abbrev pub first_fault : List Unfolded → Option Fault
first_fault [] = None
first_fault (refused x ∷ rest) = Some x
first_fault (u ∷ rest) = first_fault rest

abbrev pub unless_refused : Option Fault → Unfolded → Unfolded
unless_refused (Some x) u = refused x
unless_refused None u = u

-- the first fault of these, else u
abbrev pub checked : List Unfolded → Unfolded → Unfolded
checked us u = unless_refused (first_fault us) u

abbrev pub operation_tree : Place → Operator → List Unfolded → Unfolded
operation_tree at op us = checked us (cond (takes op us) (unfolded_operation at op us) (refused (ill_formed at)))

-- an annotation unfolds to its term, a `let` and a call to their body, where their names stand for what they are given
abbrev pub as_tree : Meanings Unfolded
as_tree = record {
  literal = λ at q. term (constant (reduced q));
  named = λ at u. u;
  apply = operation_tree;
  annotated = λ at u. u;
  bind = λ at names us u. checked us u;
  call = λ at us u. checked us u;
  nothing = λ at why. refused (ill_formed at);
}
