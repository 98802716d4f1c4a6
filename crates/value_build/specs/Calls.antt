-- What the calls answer, in values of the code: what is made, or a part of it (what a builder has made, a sketch, a table of
-- bounds), as it was and as it is then.
use Rattle.std.specs.Prelude.{◌≡◌, ℕ, List, ◌++◌, Bool, false, length, Result, Vec}
use Rattle.std.specs.Global.{Global}
use Rattle.std.specs.declared.alloc.AllocError.{AllocError}
use Rattle.dyadic.specs.Lowest.{reduced}
use Rattle.dyadic.specs.Views.{fraction_of_frac}
use Rattle.dyadic.specs.declared.frac.Frac.{Frac}
use Rattle.smt_sexp.specs.Views.{place_of}
use Rattle.script_fault.specs.declared.place.Place.{Place}
use Rattle.script_model.specs.Declared.{Bound, at_most_bounds, known, one_side}
use Rattle.script_model.specs.Reading.{literal_value}
use Rattle.poly_graph.specs.Term.{Term, constant}
use Rattle.poly_graph.specs.Views.{kind_of}
use Rattle.poly_graph.specs.declared.node.Kind.{Kind}
use Rattle.script_forms.specs.Terms.{Unfolded, all_steps, multiply_tree, powers, steps, term}
use Rattle.script_forms.specs.Unfolded.{unfolded_operation}
use Rattle.script_forms.specs.Work.{all_events, ending, multiply_events, operation_events, powers_events, steps_events}
use Rattle.sort_check.specs.Views.{operator_of}
use Rattle.sort_check.specs.declared.operators.Operator.{Operator}
use Rattle.term_build.specs.Built.{BuilderModel, stand_of}
use Rattle.term_build.specs.Calls.{Computes, drawn}
use Rattle.term_build.specs.Pairs.{compared, tree_at, trees_at}
use Rattle.term_build.specs.Steps.{Emits, IsTreeOf, tree_of}
use Rattle.term_build.specs.declared.connectives.Pair.{Pair}
use Rattle.term_build.specs.declared.sketch.Arm.{Arm}
use Rattle.term_build.specs.declared.sketch.SketchNode as code
use Rattle.term_build.specs.declared.stop.Stop.{Stop}
use Rattle.declared_box.specs.Views.{side_of}
use Rattle.declared_box.specs.declared.table.Side.{Side}
use Rattle.value_build.specs.Arithmetic.{AreNodes, events_of_step, operator_of_step, tree_of_step}
use Rattle.value_build.specs.Arms.{ArmsMake, Calculates, Folds, LiftsOne, LiftsTwo, Links, LinksEach, LinksWith, SaysAll, SaysTwo, arm_bounds, events_of_leaf, tree_of_leaf}
use Rattle.value_build.specs.Bounds.{AddsBounds, bounds_of_kind, chained_bounds, first_bounds, weight_of}
use Rattle.value_build.specs.Chains.{AddsComparisons, AddsConnected, ComparesEach, ConnectsEach, two_of}
use Rattle.value_build.specs.Making.{Making, Steps}
use Rattle.value_build.specs.Operators.{ArmsDo, BoolsDo, ComparesAll, DiffersAll, RealsDo, are_arms, are_picked, bool_operation, given_bounds, takes_of}
use Rattle.value_build.specs.Values.{IsValue}
use Rattle.value_build.specs.Weights.{weights}
use Rattle.value_build.specs.declared.arithmetic.Step.{Step}
use Rattle.value_build.specs.declared.arms.Comparing.{Comparing}
use Rattle.value_build.specs.declared.bounds.Weight.{Weight}
use Rattle.value_build.specs.declared.chains.Spread.{Spread}
use Rattle.value_build.specs.declared.lift.Leaf.{Leaf}
use Rattle.value_build.specs.declared.value.Value.{Value}

abbrev pub Sketch : Type 0
Sketch = Vec code.SketchNode Global

-- the numbers of the lists of a table
abbrev pub Numbers : Type 0
Numbers = Vec ℕ Global

abbrev pub BoundLists : Type 0
BoundLists = List (List Bound)

-- ---- literals and constants

-- the fraction is that of these digits, and those after the point
abbrev pub IsLiteral : List ℕ → List ℕ → Frac → Type 0
IsLiteral digits decimals q = fraction_of_frac q ≡ reduced (literal_value digits decimals)

abbrev pub MakesLiteral : Making → Making → List ℕ → List ℕ → Result Value Stop → Type 0
MakesLiteral old new digits decimals r =
    let q = literal_value digits decimals in let u = term (constant (reduced q)) in Steps old new (ending u) r (IsValue new u (known q))

abbrev pub number_term : Frac → Term
number_term number = constant (fraction_of_frac number)

-- ---- arithmetic of trees

abbrev pub ComputesStep : Step → BuilderModel → BuilderModel → Place → ℕ → ℕ → Result ℕ Stop → Type 0
ComputesStep step old new at a b r = Computes (events_of_step step) (tree_of_step step) old new at a b r

-- from the left, of a first tree and others
abbrev pub FoldsTrees : Step → BuilderModel → BuilderModel → Place → ℕ → List ℕ → Result ℕ Stop → Type 0
FoldsTrees step old new at first rest r =
    let ts = (stand_of old).trees in let f = tree_of_step step (place_of at) in let g = events_of_step step (place_of at) in
    Emits old new (steps_events f g (tree_at ts first) (trees_at ts rest)) r (IsTreeOf new (steps f (tree_at ts first) (trees_at ts rest)))

-- these nodes are these trees
abbrev pub AreTreesOf : BuilderModel → List Unfolded → Numbers → Type 0
AreTreesOf m us ks = (trees_at (stand_of m).trees ks.items ≡ us) × AreNodes m ks.items

-- the powers of trees, where each that stands in a row with others is one with them
abbrev pub MakesPowers : BuilderModel → BuilderModel → List ℕ → Result Numbers Stop → Type 0
MakesPowers old new nodes r = let us = trees_at (stand_of old).trees nodes in Emits old new (powers_events us) r (AreTreesOf new (powers us))

-- the product of the powers of trees
abbrev pub MultipliesPowers : BuilderModel → BuilderModel → Place → List ℕ → Result ℕ Stop → Type 0
MultipliesPowers old new at nodes r =
    let us = trees_at (stand_of old).trees nodes in let f = multiply_tree (place_of at) in
    Emits old new (powers_events us ++ all_events f (multiply_events (place_of at)) (powers us)) r (IsTreeOf new (all_steps f (powers us)))

-- what the operator makes of trees
abbrev pub CalculatesTrees : Step → BuilderModel → BuilderModel → Place → List ℕ → Result ℕ Stop → Type 0
CalculatesTrees step old new at nodes r =
    let us = trees_at (stand_of old).trees nodes in let op = operator_of_step step in
    Emits old new (operation_events (place_of at) op us) r (IsTreeOf new (unfolded_operation (place_of at) op us))

-- ---- arithmetic of arms

abbrev pub ComputesLeaf : Leaf → BuilderModel → BuilderModel → Place → ℕ → ℕ → Result ℕ Stop → Type 0
ComputesLeaf leaf old new at first second r = Computes (events_of_leaf leaf) (tree_of_leaf leaf) old new at first second r

abbrev pub LiftsArm : BuilderModel → Sketch → BuilderModel → Sketch → Place → Leaf → ℕ → Arm → Result Arm Stop → Type 0
LiftsArm m s m' s' at leaf first arm r = LiftsOne m (drawn s) m' (drawn s') (place_of at) leaf (tree_of m first) arm r

abbrev pub LiftsArms : BuilderModel → Sketch → BuilderModel → Sketch → Place → Step → Arm → Arm → Result Arm Stop → Type 0
LiftsArms m s m' s' at step arm second r = LiftsTwo m (drawn s) m' (drawn s') (place_of at) step arm second r

-- from the left, of a first arm and values
abbrev pub FoldsIn : BuilderModel → Sketch → BuilderModel → Sketch → Place → Step → Arm → List Value → Result Arm Stop → Type 0
FoldsIn m s m' s' at step first rest r = Folds m (drawn s) m' (drawn s') (place_of at) step first rest r

-- what the operator makes of a first value and others
abbrev pub Yields : BuilderModel → Sketch → BuilderModel → Sketch → Place → Step → Value → List Value → Result Arm Stop → Type 0
Yields m s m' s' at step first rest r = Calculates m (drawn s) m' (drawn s') (place_of at) step first rest r

abbrev pub ValuesMake : Making → Making → Place → Step → List Value → Result Value Stop → Type 0
ValuesMake old new at step values r = ArmsMake old new (place_of at) (operator_of_step step) values r

abbrev pub TreesMake : Making → Making → Place → Step → List ℕ → Result Value Stop → Type 0
TreesMake old new at step nodes r = RealsDo old new (place_of at) (operator_of_step step) nodes r

-- ---- bounds of comparisons

abbrev pub AddsPart : {X : Type 0} → BoundLists → BoundLists → Numbers → Numbers → List Bound → Result X AllocError → Type 0
AddsPart lists lists' parts parts' bs r = AddsBounds lists lists' parts.items parts'.items bs r

abbrev pub bound_of : Side → ℕ → Frac → List Bound
bound_of side axis value = one_side (side_of side) axis (fraction_of_frac value)

abbrev pub bounds_at_most : Weight → Weight → List Bound
bounds_at_most a b = at_most_bounds (weight_of a) (weight_of b)

abbrev pub bounds_of : Kind → Weight → Weight → List Bound
bounds_of kind a b = bounds_of_kind (kind_of kind) (weight_of a) (weight_of b)

-- of a tree and the first of those behind it
abbrev pub bounds_with : BuilderModel → Kind → ℕ → List ℕ → List Bound
bounds_with m kind first later = first_bounds (kind_of kind) (stand_of m).trees first later

-- of each two neighbours
abbrev pub bounds_along : BuilderModel → Kind → List ℕ → List Bound
bounds_along m kind nodes = chained_bounds (kind_of kind) (weights (stand_of m).trees nodes)

-- of two arms
abbrev pub bounds_between : BuilderModel → Kind → Arm → Arm → List Bound
bounds_between m kind first second = arm_bounds (kind_of kind) (stand_of m).trees first second

-- of an operator at Bool arguments, whose lists have these numbers
abbrev pub bounds_given : Operator → BoundLists → Numbers → List Bound
bounds_given operator lists numbers = given_bounds (operator_of operator) lists numbers.items

-- ---- comparisons of trees

abbrev pub ComparesWith : {X : Type 0} → Kind → Place → Sketch → Sketch → ℕ → List ℕ → Vec Pair Global → Vec Pair Global → Result X AllocError → Type 0
ComparesWith kind at s s' first others made made' r =
    AddsComparisons (compared (kind_of kind) (place_of at)) (drawn s) (drawn s') first others made.items made'.items r

abbrev pub ComparesSpread : Spread → Kind → Place → Sketch → Sketch → List ℕ → Result (Vec Pair Global) AllocError → Type 0
ComparesSpread spread kind at s s' nodes r = ComparesEach (λ ps. ps.items) spread (compared (kind_of kind) (place_of at)) (drawn s) (drawn s') nodes r

abbrev pub ConnectsWith : {X : Type 0} → Spread → Sketch → Sketch → Pair → List Pair → Vec Pair Global → Vec Pair Global → Result X AllocError → Type 0
ConnectsWith spread s s' first others made made' r = AddsConnected (two_of spread) (drawn s) (drawn s') first others made.items made'.items r

abbrev pub ConnectsSpread : Spread → Sketch → Sketch → List Pair → Result (Vec Pair Global) AllocError → Type 0
ConnectsSpread spread s s' pairs r = ConnectsEach (λ ps. ps.items) spread (two_of spread) (drawn s) (drawn s') pairs r

-- a chain of comparisons
abbrev pub Chains : Making → Making → Kind → Place → List ℕ → Result Value Stop → Type 0
Chains old new kind at nodes r = ComparesAll old new (kind_of kind) (place_of at) nodes r

-- that each two differ
abbrev pub Differ : Making → Making → Place → List ℕ → Result Value Stop → Type 0
Differ old new at nodes r = DiffersAll old new (place_of at) nodes r

-- ---- comparisons of arms

abbrev pub SaysArms : BuilderModel → Sketch → BuilderModel → Sketch → Kind → Place → Arm → Arm → Result Pair Stop → Type 0
SaysArms m s m' s' kind at arm second r = SaysTwo m (drawn s) m' (drawn s') (kind_of kind) (place_of at) arm second r

abbrev pub LinksTwo : Making → Making → Comparing → Value → Value → Result Value Stop → Type 0
LinksTwo old new how first second r = Links old new how.spread (kind_of how.kind) (place_of how.at) first second r

-- of a first value with each of others, behind the links before
abbrev pub LinksOthers : {X : Type 0} → Making → Making → Comparing → Value → List Value → Vec Value Global → Vec Value Global → Result X Stop → Type 0
LinksOthers old new how first others links links' r =
    LinksWith old new how.spread (kind_of how.kind) (place_of how.at) first others links.items links'.items r

-- of each two values that belong together, behind the links before
abbrev pub LinksValues : {X : Type 0} → Making → Making → Comparing → List Value → Vec Value Global → Vec Value Global → Result X Stop → Type 0
LinksValues old new how values links links' r =
    LinksEach old new how.spread (kind_of how.kind) (place_of how.at) values links.items links'.items r

abbrev pub ComparesValues : Making → Making → Comparing → List Value → Result Value Stop → Type 0
ComparesValues old new how values r = SaysAll old new how.spread (kind_of how.kind) (place_of how.at) values r

-- ---- operators

-- of Bool arguments
abbrev pub operation_of : Operator → List Unfolded → Unfolded
operation_of operator us = bool_operation (operator_of operator) us

-- whether it takes values that are neither all Real nor all Bool
abbrev pub takes_arms : Operator → List Value → Bool
takes_arms operator values = takes_of (operator_of operator) (are_arms values) false (are_picked values) (length values)

abbrev pub TreesDo : Making → Making → Place → Operator → List ℕ → Result Value Stop → Type 0
TreesDo old new at operator nodes r = RealsDo old new (place_of at) (operator_of operator) nodes r

abbrev pub PairsDo : Making → Making → Operator → List Pair → Numbers → Result Value Stop → Type 0
PairsDo old new operator pairs numbers r = BoolsDo old new (operator_of operator) pairs numbers.items r

abbrev pub OverArms : Making → Making → Place → Operator → List Value → Result Value Stop → Type 0
OverArms old new at operator values r = ArmsDo old new (place_of at) (operator_of operator) values r
