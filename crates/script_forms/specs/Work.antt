-- What the builder does with an expression, in reading order: a meaning beside its unfolding.
use Rattle.std.specs.Prelude.{List, [], ◌∷◌, ◌++◌, map, Option, Some, None, cond}
use Rattle.script_model.specs.Sexp.{Place}
use Rattle.script_model.specs.Reading.{Operator, equality, distinctness, minus, plus, times, divide, at_most_op, below_op, at_least_op, above_op, Meanings}
use Rattle.script_model.specs.Meaning.{neighbours, pairs}
use Rattle.poly_graph.specs.Term.{Term, constant, multiply, square, Atom}
use Rattle.poly_graph.specs.Form.{Form, yes_form, no_form, atom_is, bool_is, all_form, any_form, Forms, no_forms, more_forms, forms_map}
use Rattle.script_forms.specs.Terms.{Fault, ill_formed, divisor_not_constant, Comparison, Unfolded, term, refused, either, hold_either, behind_first, is_nought, inverse_of, is_zero, negate_tree, add_tree, multiply_tree, divide_tree, subtract_tree, step, Times, once, twice, twice_and_once, once_more, power, repeats, gathered, factors}
use Rattle.script_forms.specs.Unfolded.{as_tree, truth_of, takes, first_fault}
use Rattle.script_forms.specs.Atoms.{atom_of}

-- an expression is reached, a tree is made, an atom is asked for, a node of a form is made, a fault is met
pub data Event : Type 0 where
  reached : Event
  made : Term → Event
  asked : Atom → Event
  formed : Form Atom → Event
  met : Fault → Event

-- what is done, and what comes of it
pub record Work : Type 0 where
  pub events : List Event
  pub outcome : Unfolded

abbrev pub outcome_of : Work → Unfolded
outcome_of w = w.outcome

-- the works of several expressions, one after the other
abbrev pub events_of : List Work → List Event
events_of [] = []
events_of (w ∷ ws) = w.events ++ events_of ws

-- ---- Real expressions: every tree that is made on the way, used or not

-- a tree that comes of a step or stands for a name, or a fault
abbrev pub ending : Unfolded → List Event
ending (term t) = made t ∷ []
ending (refused x) = met x ∷ []
ending u = []

-- a difference makes the opposite, and a quotient the inverse of its divisor
abbrev pub subtract_events : Place → Term → Term → List Event
subtract_events at t u = made (negate_tree u) ∷ ending (subtract_tree at t u)

abbrev pub inverse_events : Term → List Event
inverse_events (constant q) = cond (is_nought q) [] (made (constant (inverse_of q)) ∷ [])
inverse_events t = []

abbrev pub divide_events : Place → Term → Term → List Event
divide_events at t u = inverse_events u ++ ending (divide_tree at t u)

abbrev pub add_events : Place → Term → Term → List Event
add_events at t u = ending (add_tree at t u)

abbrev pub multiply_events : Place → Term → Term → List Event
multiply_events at t u = ending (multiply_tree at t u)

-- of what is done with each arm of a Real `ite`, which counts as one expression more
abbrev pub lift_events : (Term → List Event) → Unfolded → List Event
lift_events g (term t) = g t
lift_events g (either c d a b) = reached ∷ lift_events g a ++ lift_events g b
lift_events g u = []

-- of a step that is taken
abbrev pub step_events : (Term → Term → List Event) → Unfolded → Unfolded → List Event
step_events g u v = lift_events (λ t. lift_events (g t) v) u

-- of several arguments, from left to right
abbrev pub steps_events : (Term → Term → Unfolded) → (Term → Term → List Event) → Unfolded → List Unfolded → List Event
steps_events f g t [] = []
steps_events f g t (u ∷ rest) = step_events g t u ++ steps_events f g (step f t u) rest

abbrev pub all_events : (Term → Term → Unfolded) → (Term → Term → List Event) → List Unfolded → List Event
all_events f g [] = []
all_events f g (t ∷ rest) = steps_events f g t rest

abbrev pub subtraction_events : Place → List Unfolded → List Event
subtraction_events at (u ∷ []) = lift_events (λ t. made (negate_tree t) ∷ []) u
subtraction_events at us = all_events (subtract_tree at) (subtract_events at) us

-- a power makes the power that it is the square of, then the square, and then the factor times that
abbrev pub power_events : Times → Term → List Event
power_events once t = []
power_events (twice n) t = power_events n t ++ (made (square (power n t)) ∷ [])
power_events (twice_and_once n) t = power_events n t ++ (made (square (power n t)) ∷ made (multiply t (square (power n t))) ∷ [])

-- of a factor that stood so often, and those behind it
abbrev pub powers_events_from : Term → Times → List Unfolded → List Event
powers_events_from t n (term u ∷ rest) = cond (repeats t u) (powers_events_from t (once_more n) rest) (power_events n t ++ powers_events_from u once rest)
powers_events_from t n us = power_events n t

abbrev pub powers_events : List Unfolded → List Event
powers_events (term t ∷ rest) = powers_events_from t once rest
powers_events us = []

-- all powers, and then their product from left to right
abbrev pub product_events : Place → List Unfolded → List Event
product_events at us = cond (hold_either us) [] (powers_events (gathered us)) ++ all_events (multiply_tree at) (multiply_events at) (factors us)

abbrev pub quotient_events : Place → List Unfolded → List Event
quotient_events at us = cond (hold_either (behind_first us)) (met (divisor_not_constant at) ∷ []) (all_events (divide_tree at) (divide_events at) us)

-- a comparison makes nothing yet; each Real `ite` that is lifted out of it counts
abbrev pub compare_events : Unfolded → Unfolded → List Event
compare_events u v = step_events (λ t x. []) u v

abbrev pub together : List (List Event) → List Event
together [] = []
together (es ∷ rest) = es ++ together rest

-- an operator at arguments without a fault: one of Bools makes nothing yet
abbrev pub operation_events : Place → Operator → List Unfolded → List Event
operation_events at minus us = subtraction_events at us
operation_events at plus us = all_events (add_tree at) (add_events at) us
operation_events at times us = product_events at us
operation_events at divide us = quotient_events at us
operation_events at equality us = together (neighbours compare_events us)
operation_events at distinctness us = together (pairs compare_events us)
operation_events at at_most_op us = together (neighbours compare_events us)
operation_events at below_op us = together (neighbours compare_events us)
operation_events at at_least_op us = together (neighbours compare_events us)
operation_events at above_op us = together (neighbours compare_events us)
operation_events at op us = []

-- after a fault of the arguments nothing is done
abbrev pub unless_met : Option Fault → List Event → List Event
unless_met (Some x) es = []
unless_met None es = es

abbrev pub operator_events : Place → Operator → List Unfolded → List Event
operator_events at op us = unless_met (first_fault us) (cond (takes op us) (operation_events at op us) (met (ill_formed at) ∷ []))

-- ---- expressions

-- Each literal, name, application, `let` and annotation is reached before its parts. A name's tree, an argument and
-- a binding are not walked again where they are used; the body of a definition is, at each call.
abbrev pub as_work : Meanings Work
as_work = record {
  literal = λ at q. record { events = reached ∷ ending (as_tree.literal at q); outcome = as_tree.literal at q };
  named = λ at w. record { events = reached ∷ ending w.outcome; outcome = w.outcome };
  apply = λ at op ws. record {
    events = reached ∷ events_of ws ++ operator_events at op (map outcome_of ws);
    outcome = as_tree.apply at op (map outcome_of ws);
  };
  annotated = λ at w. record { events = reached ∷ w.events; outcome = w.outcome };
  bind = λ at names ws w. record { events = reached ∷ events_of ws ++ w.events; outcome = as_tree.bind at names (map outcome_of ws) w.outcome };
  call = λ at ws w. record { events = reached ∷ events_of ws ++ w.events; outcome = as_tree.call at (map outcome_of ws) w.outcome };
  nothing = λ at why. record { events = met (ill_formed at) ∷ []; outcome = refused (ill_formed at) };
}

-- ---- the form of an assertion, its parts first

-- the term of a comparison is made when its form is asked for
abbrev pub comparison_events : Comparison → List Event
comparison_events c = cond (is_zero c.right) [] (subtract_events c.at c.left c.right)

abbrev mutual
  pub form_events : Form Comparison → List Event
  form_events yes_form = formed yes_form ∷ []
  form_events no_form = formed no_form ∷ []
  form_events (atom_is c) = comparison_events c ++ (asked (atom_of c) ∷ formed (atom_is (atom_of c)) ∷ [])
  form_events (bool_is axis v) = formed (bool_is axis v) ∷ []
  form_events (all_form fs) = forms_events fs ++ (formed (all_form (forms_map atom_of fs)) ∷ [])
  form_events (any_form fs) = forms_events fs ++ (formed (any_form (forms_map atom_of fs)) ∷ [])

  pub forms_events : Forms Comparison → List Event
  forms_events no_forms = []
  forms_events (more_forms f fs) = form_events f ++ forms_events fs

-- an assertion is unfolded whole, and then its form is made
abbrev pub assertion_events : Work → List Event
assertion_events w = w.events ++ form_events (truth_of w.outcome)
