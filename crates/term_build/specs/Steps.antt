-- What the steps of terms answer.
use Rattle.std.specs.Prelude.{◌≡◌, ℕ, suc, ◌*◌, List, Bool, IsTrue, IsFalse, Option, Some, None, Result, Ok, Err, slice_index_or, cond}
use Rattle.dyadic.specs.Fraction.{Fraction, zero_fraction, sum_of, product_of}
use Rattle.dyadic.specs.Lowest.{reduced, sum_fits, product_fits}
use Rattle.dyadic.specs.Views.{fraction_of_frac}
use Rattle.dyadic.specs.declared.frac.Frac.{Frac}
use Rattle.script_model.specs.Sexp.{Place}
use Rattle.poly_graph.specs.Term.{Term, constant, variable, add, multiply, square, Node, constant_node, variable_node}
use Rattle.script_forms.specs.Terms.{Unfolded, term, constant_or, same_term, Times, once, twice, twice_and_once}
use Rattle.script_forms.specs.Work.{Event}
use Rattle.script_forms.specs.Walk.{after_events}
use Rattle.term_build.specs.Built.{BuilderModel, stand_of}
use Rattle.term_build.specs.Does.{Does, IsTree}
use Rattle.term_build.specs.declared.stop.Stop.{Stop}

-- the tree of a node
abbrev pub tree_of : BuilderModel → ℕ → Term
tree_of m k = slice_index_or (stand_of m).trees k (constant zero_fraction)

-- the builder does what these events say
abbrev pub Emits : {X : Type 0} → BuilderModel → BuilderModel → List Event → Result X Stop → (X → Type 0) → Type 0
Emits old new es r P = Does old new (λ claim s. after_events claim s es) r P

-- node k is the tree that this unfolded to
abbrev pub IsTreeOf : BuilderModel → Unfolded → ℕ → Type 0
IsTreeOf m u k = (t : Term) × (u ≡ term t) × IsTree m t k

-- how often a factor stands
abbrev pub count : Times → ℕ
count once = 1
count (twice n) = 2 * count n
count (twice_and_once n) = suc (2 * count n)

abbrev pub as_constant : Term → Option Fraction
as_constant (constant q) = Some q
as_constant t = None

abbrev pub node_constant : Node → Option Fraction
node_constant (constant_node q) = Some q
node_constant n = None

abbrev pub as_variable : Term → Option ℕ
as_variable (variable axis) = Some axis
as_variable t = None

abbrev pub node_variable : Node → Option ℕ
node_variable (variable_node axis) = Some axis
node_variable n = None

-- two, where both are there
abbrev pub both_of : Option Fraction → Option Fraction → Option (Fraction × Fraction)
both_of (Some p) (Some q) = Some (p, q)
both_of p q = None

-- two constants
abbrev pub constants : Term → Term → Option (Fraction × Fraction)
constants (constant p) (constant q) = Some (p, q)
constants t u = None

abbrev pub two_fractions : Frac × Frac → Fraction × Fraction
two_fractions (p, q) = (fraction_of_frac p, fraction_of_frac q)

-- the result of a step of constants, where it is narrow enough
abbrev pub Folds : {E : Type 0} → Result Frac E → Bool → Fraction → Type 0
Folds (Ok r) fits q = IsTrue fits × (fraction_of_frac r ≡ reduced q)
Folds (Err e) fits q = IsFalse fits

abbrev pub added : Place → Term → Term → Option (Fraction × Fraction) → Unfolded
added at t u None = term (add t u)
added at t u (Some (p, q)) = constant_or at (sum_fits p q) (sum_of p q)

abbrev pub multiplied : Place → Term → Term → Option (Fraction × Fraction) → Unfolded
multiplied at t u None = term (cond (same_term t u) (square t) (multiply t u))
multiplied at t u (Some (p, q)) = constant_or at (product_fits p q) (product_of p q)
