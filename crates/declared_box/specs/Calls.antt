-- What the calls answer, in values of the code.
use Rattle.std.specs.Prelude.{◌≡◌, ℕ, List, [], ◌∷◌, ◌++◌, All, MatchResult, Option, Result, Vec, length, map}
use Rattle.std.specs.Global.{Global}
use Rattle.dyadic.specs.Views.{fraction_of_frac}
use Rattle.dyadic.specs.declared.frac.Frac.{Frac}
use Rattle.script_model.specs.Declared.{Bound, DeclaredInterval, one_side}
use Rattle.script_model.specs.Script.{sort_of_constant}
use Rattle.script_fault.specs.declared.fault.ReadError.{ReadError}
use Rattle.poly_graph.specs.Problem as problem
use Rattle.poly_graph.specs.Problem.{IsDeclared, sorts_of_axes}
use Rattle.poly_graph.specs.ProblemViews.{axis_of}
use Rattle.poly_graph.specs.declared.axis.Axis.{Axis}
use Rattle.declared_box.specs.Axes.{IsAxesAnswer, constant_of}
use Rattle.declared_box.specs.Interval.{AreTightest, tightened}
use Rattle.declared_box.specs.Same.{SameBounds}
use Rattle.declared_box.specs.Sweep.{intervals_after, tightened_at}
use Rattle.declared_box.specs.Table.{IsAdded, all_of}
use Rattle.declared_box.specs.Views.{interval_of, node_of, side_of}
use Rattle.declared_box.specs.declared.axes.Constant.{Constant}
use Rattle.declared_box.specs.declared.interval.Interval.{Interval}
use Rattle.declared_box.specs.declared.table.BoundNode.{BoundNode}
use Rattle.declared_box.specs.declared.table.Side.{Side}

-- ---- the table

abbrev pub bound_on : ℕ → Side → Frac → List Bound
bound_on axis side value = one_side (side_of side) axis (fraction_of_frac value)

-- the list stands at the end, under the number that is answered, or nothing is added
abbrev pub AddsList : {E : Type 0} → List (List Bound) → List (List Bound) → List Bound → Result ℕ E → Type 0
AddsList old new bs r = MatchResult r (IsAdded old new bs) (λ _. new ≡ old)

abbrev pub AddsNode : {E : Type 0} → Vec BoundNode Global → Vec BoundNode Global → BoundNode → Result ℕ E → Type 0
AddsNode old new node r = MatchResult r (λ k. (k ≡ length old.items) × (new.items ≡ old.items ++ (node ∷ []))) (λ _. new.items ≡ old.items)

-- ---- intervals

abbrev pub tightened_by : Side → Frac → Interval → DeclaredInterval
tightened_by side value i = tightened (side_of side) (fraction_of_frac value) (interval_of i)

abbrev pub intervals_of : List Interval → List DeclaredInterval
intervals_of is = map interval_of is

-- with a bound more on this axis
abbrev pub tightened_on : ℕ → Side → Frac → List Interval → List DeclaredInterval
tightened_on axis side value is = tightened_at axis (side_of side) (fraction_of_frac value) (intervals_of is)

-- after a node
abbrev pub tightened_after : BoundNode → List Interval → List DeclaredInterval
tightened_after node is = intervals_after (node_of node) (intervals_of is)

-- for so many axes, by the bounds of these lists
abbrev pub AreTightestBy : List (List Bound) → List ℕ → ℕ → Vec Interval Global → Type 0
AreTightestBy lists roots axes is = AreTightest (all_of lists roots) axes (intervals_of is.items)

-- ---- axes

-- by whatever bounds are the same as those of these lists
abbrev pub AnswersBy : List (List Bound) → List ℕ → Option ℕ → List Constant → Result (Vec Axis Global) ReadError → Type 0
AnswersBy lists roots bound constants r = (bs : List Bound) → SameBounds (all_of lists roots) bs → IsAxesAnswer bound bs (map constant_of constants) r

abbrev pub AreDeclared : Vec Axis Global → Type 0
AreDeclared axes = All (λ (a : problem.Axis). IsDeclared a.declared) (map axis_of axes.items)

abbrev pub HaveSortsOf : List Constant → Vec Axis Global → Type 0
HaveSortsOf constants axes = sorts_of_axes (map axis_of axes.items) ≡ map sort_of_constant (map constant_of constants)
