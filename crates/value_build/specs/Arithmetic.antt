-- The arithmetic operators, step by step.
use Rattle.std.specs.Prelude.{◌≡◌, ℕ, ◌+◌, ◌<◌, List, [], ◌∷◌, ◌++◌, length, Bool, true, false}
use Rattle.script_model.specs.Sexp.{Place}
use Rattle.script_model.specs.Reading.{Operator, minus, plus, times, divide}
use Rattle.poly_graph.specs.Term.{Term}
use Rattle.script_forms.specs.Terms.{Unfolded, term, add_tree, subtract_tree, multiply_tree, divide_tree, steps, Times, powers_from, powers}
use Rattle.script_forms.specs.Work.{Event, add_events, subtract_events, multiply_events, divide_events, steps_events, powers_events_from, powers_events}
use Rattle.script_forms.specs.Walk.{after_events}
use Rattle.term_build.specs.Built.{BuilderModel, stand_of}
use Rattle.term_build.specs.Does.{IsTree}
use Rattle.term_build.specs.Settled.{Extends}
use Rattle.term_build.specs.Pairs.{tree_at, trees_at}
use Rattle.term_build.specs.Steps.{count}
use Rattle.value_build.specs.Weights.{term_at}
use Rattle.value_build.specs.declared.arithmetic.Step.{Step}
use Rattle.value_build.specs.declared.arithmetic.Step.TheVariants.{Add, Subtract, Multiply, Divide}

abbrev pub operator_of_step : Step → Operator
operator_of_step Add = plus
operator_of_step Subtract = minus
operator_of_step Multiply = times
operator_of_step Divide = divide

abbrev pub tree_of_step : Step → Place → Term → Term → Unfolded
tree_of_step Add = add_tree
tree_of_step Subtract = subtract_tree
tree_of_step Multiply = multiply_tree
tree_of_step Divide = divide_tree

abbrev pub events_of_step : Step → Place → Term → Term → List Event
events_of_step Add = add_events
events_of_step Subtract = subtract_events
events_of_step Multiply = multiply_events
events_of_step Divide = divide_events

abbrev pub is_difference : Step → Bool
is_difference Subtract = true
is_difference step = false

abbrev pub is_product : Step → Bool
is_product Multiply = true
is_product step = false

-- numbers of nodes
abbrev pub AreNodes : BuilderModel → List ℕ → Type 0
AreNodes m [] = Unit {0}
AreNodes m (k ∷ ks) = (k < length m.nodes) × AreNodes m ks

-- what is left, after some of the steps, goes on to the same
pub record IsFolding (step : Step) (at : Place) (old now : BuilderModel) (first : ℕ) (rest : List ℕ) (so_far : ℕ) (left : List ℕ) : Type 0 where
  pub sorts : now.sorts ≡ old.sorts
  pub stand : Extends (stand_of old) (stand_of now)
  pub below : AreNodes old left
  pub value : Term
  pub there : IsTree now value so_far
  pub walk : (claim : Place) →
      after_events claim (stand_of old) (steps_events (tree_of_step step at) (events_of_step step at) (tree_at (stand_of old).trees first) (trees_at (stand_of old).trees rest))
      ≡ after_events claim (stand_of now) (steps_events (tree_of_step step at) (events_of_step step at) (term value) (trees_at (stand_of old).trees left))
  pub same : steps (tree_of_step step at) (tree_at (stand_of old).trees first) (trees_at (stand_of old).trees rest) ≡ steps (tree_of_step step at) (term value) (trees_at (stand_of old).trees left)

-- what is left, after some of the powers, goes on to the same; the factor is the tree that `from` begins with
pub record IsPowering (old now : BuilderModel) (nodes : List ℕ) (factor : ℕ) (from left made : List ℕ) : Type 0 where
  pub sorts : now.sorts ≡ old.sorts
  pub stand : Extends (stand_of old) (stand_of now)
  pub here : factor < length old.nodes
  pub below : AreNodes old left
  pub often : Times
  pub counted : count often + length left ≡ length from
  pub there : AreNodes now made
  pub walk : (claim : Place) →
      after_events claim (stand_of old) (powers_events (trees_at (stand_of old).trees nodes))
      ≡ after_events claim (stand_of now) (powers_events_from (term_at (stand_of old).trees factor) often (trees_at (stand_of old).trees left))
  pub same : powers (trees_at (stand_of old).trees nodes) ≡ trees_at (stand_of now).trees made ++ powers_from (term_at (stand_of old).trees factor) often (trees_at (stand_of old).trees left)
