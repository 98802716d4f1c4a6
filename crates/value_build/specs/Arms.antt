-- What is done with the arms of Real values.
use Rattle.std.specs.Prelude.{◌≡◌, ℕ, List, [], ◌∷◌, ◌++◌, map, length, Bool, true, false, Option, Some, None, Result, Ok, Err}
use Rattle.script_model.specs.Sexp.{Place}
use Rattle.script_model.specs.Declared.{Bound, Bounding, bounds, bounds_in, concat}
use Rattle.script_model.specs.Reading.{Operator}
use Rattle.poly_graph.specs.Term.{Term, Kind, le, ge, eq}
use Rattle.script_forms.specs.Terms.{Unfolded, term, negate_tree, lift_tree, step, steps}
use Rattle.script_forms.specs.Unfolded.{unfolded_operation, chain, and_of, not_of, at_most_terms, at_least_terms, equal_terms}
use Rattle.script_forms.specs.Work.{Event, made, lift_events, step_events, steps_events, compare_events, together, operation_events}
use Rattle.term_build.specs.Built.{BuilderModel, stand_of}
use Rattle.term_build.specs.Sketch.{SketchNode, choice_sketch, IsSketch}
use Rattle.term_build.specs.Pairs.{Grown, Draws, compared}
use Rattle.term_build.specs.Steps.{Emits}
use Rattle.term_build.specs.declared.connectives.Pair.{Pair}
use Rattle.term_build.specs.declared.sketch.Arm.{Arm}
use Rattle.term_build.specs.declared.sketch.Arm.TheVariants as arm
use Rattle.term_build.specs.declared.stop.Stop.{Stop}
use Rattle.term_build.specs.declared.stop.Stop.TheVariants as stop
use Rattle.value_build.specs.Arithmetic.{operator_of_step, tree_of_step, events_of_step}
use Rattle.value_build.specs.Bounds.{bounds_of_kind, chained_bounds}
use Rattle.value_build.specs.Weights.{weights}
use Rattle.value_build.specs.Chains.{spread_over}
use Rattle.value_build.specs.declared.chains.Spread.{Spread}
use Rattle.value_build.specs.declared.chains.Spread.TheVariants.{Next, Later}
use Rattle.value_build.specs.Making.{Making, making, Steps}
use Rattle.value_build.specs.Values.{IsArm, IsValue, AreValues}
use Rattle.value_build.specs.declared.arithmetic.Step.{Step}
use Rattle.value_build.specs.declared.arithmetic.Step.TheVariants.{Divide}
use Rattle.value_build.specs.declared.lift.Leaf.{Leaf}
use Rattle.value_build.specs.declared.lift.Leaf.TheVariants as leaf
use Rattle.value_build.specs.declared.value.Value.{Value}
use Rattle.value_build.specs.declared.value.Value.TheVariants as values

-- ---- values as arms

abbrev pub arm_of : Value → Arm
arm_of (values.Real k) = arm.Tree k
arm_of (values.Choice k) = arm.Choice k
arm_of (values.Bool p n) = arm.Tree 0

abbrev pub value_of : Arm → Value
value_of (arm.Tree k) = values.Real k
value_of (arm.Choice k) = values.Choice k

abbrev pub AreArms : BuilderModel → List SketchNode → List Unfolded → List Arm → Type 0
AreArms m ds [] [] = Unit {0}
AreArms m ds (u ∷ us) (x ∷ xs) = IsArm m ds u x × AreArms m ds us xs
AreArms m ds [] (x ∷ xs) = ⊥
AreArms m ds (u ∷ us) [] = ⊥

-- there is an expression that the arm stands for
abbrev pub IsSomeArm : BuilderModel → List SketchNode → Arm → Type 0
IsSomeArm m ds x = (u : Unfolded) × IsArm m ds u x

-- ---- arithmetic

-- what is done with the tree of one arm, where a first tree is given
abbrev pub tree_of_leaf : Leaf → Place → Term → Term → Unfolded
tree_of_leaf leaf.Opposite at t u = term (negate_tree u)
tree_of_leaf (leaf.Of s) at t u = tree_of_step s at t u

abbrev pub events_of_leaf : Leaf → Place → Term → Term → List Event
events_of_leaf leaf.Opposite at t u = made (negate_tree u) ∷ []
events_of_leaf (leaf.Of s) at t u = events_of_step s at t u

-- the sketch has grown and is one still, and the arm stands for this
pub record IsLifted (m : BuilderModel) (ds ds' : List SketchNode) (u : Unfolded) (x : Arm) : Type 0 where
  pub grown : Grown ds ds'
  pub sketch : IsSketch m ds'
  pub arm : IsArm m ds' u x

abbrev pub Lifts : BuilderModel → List SketchNode → BuilderModel → List SketchNode → List Event → Unfolded → Result Arm Stop → Type 0
Lifts m ds m' ds' es u r = Emits m m' es r (IsLifted m' ds ds' u)

-- with each arm of this one
abbrev pub LiftsOne : BuilderModel → List SketchNode → BuilderModel → List SketchNode → Place → Leaf → Term → Arm → Result Arm Stop → Type 0
LiftsOne m ds m' ds' at l t x r = (u : Unfolded) → IsArm m ds u x → Lifts m ds m' ds' (lift_events (events_of_leaf l at t) u) (lift_tree (tree_of_leaf l at t) u) r

-- with each arm of the first one and each of the second one
abbrev pub LiftsTwo : BuilderModel → List SketchNode → BuilderModel → List SketchNode → Place → Step → Arm → Arm → Result Arm Stop → Type 0
LiftsTwo m ds m' ds' at s x y r = (u v : Unfolded) → IsArm m ds u x → IsArm m ds v y → Lifts m ds m' ds' (step_events (events_of_step s at) u v) (step (tree_of_step s at) u v) r

abbrev pub LiftsAll : BuilderModel → List SketchNode → BuilderModel → List SketchNode → Place → Step → Arm → List Arm → Result Arm Stop → Type 0
LiftsAll m ds m' ds' at s x xs r = (u : Unfolded) (us : List Unfolded) → IsArm m ds u x → AreArms m ds us xs →
    Lifts m ds m' ds' (steps_events (tree_of_step s at) (events_of_step s at) u us) (steps (tree_of_step s at) u us) r

-- ---- comparisons

abbrev pub terms_of : Kind → Place → Term → Term → Unfolded
terms_of le = at_most_terms
terms_of ge = at_least_terms
terms_of eq = equal_terms

-- the sketch has grown and is one still, and the pair draws this
pub record IsSaid (m : BuilderModel) (ds ds' : List SketchNode) (u : Unfolded) (p : Pair) : Type 0 where
  pub grown : Grown ds ds'
  pub sketch : IsSketch m ds'
  pub drawn : Draws (stand_of m).trees ds' u p

abbrev pub IsPairAnswer : BuilderModel → List SketchNode → BuilderModel → List SketchNode → List Event → Unfolded → Result Pair Stop → Type 0
IsPairAnswer m ds m' ds' es u r = Emits m m' es r (IsSaid m' ds ds' u)

abbrev pub SaysTwo : BuilderModel → List SketchNode → BuilderModel → List SketchNode → Kind → Place → Arm → Arm → Result Pair Stop → Type 0
SaysTwo m ds m' ds' kind at x y r = (u v : Unfolded) → IsArm m ds u x → IsArm m ds v y → IsPairAnswer m ds m' ds' (compare_events u v) (compared kind at u v) r

-- ---- values

abbrev pub AreSomeValues : BuilderModel → List SketchNode → List Value → Type 0
AreSomeValues m ds vs = (lists : List (List Bound)) × (us : List Unfolded) × (bs : List Bounding) × AreValues (making m ds lists) us bs vs

abbrev pub IsSomeValue : BuilderModel → List SketchNode → Value → Type 0
IsSomeValue m ds v = (lists : List (List Bound)) × (u : Unfolded) × (b : Bounding) × IsValue (making m ds lists) u b v

abbrev pub hold_choice : List Value → Bool
hold_choice [] = false
hold_choice (values.Choice k ∷ vs) = true
hold_choice (v ∷ vs) = hold_choice vs

abbrev pub is_quotient : Step → Bool
is_quotient Divide = true
is_quotient s = false

-- steps from the left
abbrev pub Folds : BuilderModel → List SketchNode → BuilderModel → List SketchNode → Place → Step → Arm → List Value → Result Arm Stop → Type 0
Folds m ds m' ds' at s x vs r = (lists : List (List Bound)) (u : Unfolded) (us : List Unfolded) (bs : List Bounding) → IsArm m ds u x → AreValues (making m ds lists) us bs vs →
    Lifts m ds m' ds' (steps_events (tree_of_step s at) (events_of_step s at) u us) (steps (tree_of_step s at) u us) r

abbrev pub Calculates : BuilderModel → List SketchNode → BuilderModel → List SketchNode → Place → Step → Value → List Value → Result Arm Stop → Type 0
Calculates m ds m' ds' at s v vs r = (lists : List (List Bound)) (u : Unfolded) (us : List Unfolded) (b : Bounding) (bs : List Bounding) → IsValue (making m ds lists) u b v → AreValues (making m ds lists) us bs vs →
    Lifts m ds m' ds' (operation_events at (operator_of_step s) (u ∷ us)) (unfolded_operation at (operator_of_step s) (u ∷ us)) r

-- ---- what two values say

-- of two trees there are bounds
abbrev pub arm_bounds : Kind → List Term → Arm → Arm → List Bound
arm_bounds kind ts (arm.Tree i) (arm.Tree j) = chained_bounds kind (weights ts (i ∷ j ∷ []))
arm_bounds kind ts x y = []

-- that they compare so, or that they differ
abbrev pub linked : Spread → Kind → Place → Unfolded → Unfolded → Unfolded
linked Next kind at u v = compared kind at u v
linked Later kind at u v = not_of (compared kind at u v)

abbrev pub link_bounds : Spread → Kind → Bounding → Bounding → Bounding
link_bounds Next kind b c = bounds (bounds_of_kind kind b c)
link_bounds Later kind b c = bounds []

abbrev pub Links : Making → Making → Spread → Kind → Place → Value → Value → Result Value Stop → Type 0
Links old new s kind at v w r = (u x : Unfolded) (b c : Bounding) → IsValue old u b v → IsValue old x c w →
    Steps old new (compare_events u x) r (IsValue new (linked s kind at u x) (link_bounds s kind b c))

-- of a first value with each of others, behind what was linked
abbrev pub LinksWith : {X : Type 0} → Making → Making → Spread → Kind → Place → Value → List Value → List Value → List Value → Result X Stop → Type 0
LinksWith old new s kind at v vs links links' r = (u : Unfolded) (b : Bounding) (us : List Unfolded) (bs : List Bounding) (ls : List Unfolded) (cs : List Bounding) →
    IsValue old u b v → AreValues old us bs vs → AreValues old ls cs links →
    Steps old new (together (map (compare_events u) us)) r
    (λ _. AreValues new (ls ++ map (linked s kind at u) us) (cs ++ map (link_bounds s kind b) bs) links')

abbrev pub LinksEach : {X : Type 0} → Making → Making → Spread → Kind → Place → List Value → List Value → List Value → Result X Stop → Type 0
LinksEach old new s kind at vs links links' r = (us : List Unfolded) (bs : List Bounding) (ls : List Unfolded) (cs : List Bounding) →
    AreValues old us bs vs → AreValues old ls cs links →
    Steps old new (together (spread_over s compare_events us)) r
    (λ _. AreValues new (ls ++ spread_over s (linked s kind at) us) (cs ++ spread_over s (link_bounds s kind) bs) links')

-- ---- a Real `ite`

abbrev pub Picks : List SketchNode → List SketchNode → Value → Value → Value → Result Value Stop → Type 0
Picks ds ds' v w x (Ok (values.Choice k)) = (p : Pair) × (n : ℕ) × (v ≡ values.Bool p n) × (ds' ≡ ds ++ (choice_sketch p (arm_of w) (arm_of x) ∷ [])) × (k ≡ length ds)
Picks ds ds' v w x (Ok y) = ⊥
Picks ds ds' v w x (Err e) = e ≡ stop.Memory

abbrev pub PicksOf : List SketchNode → List SketchNode → List Value → Result Value Stop → Type 0
PicksOf ds ds' (v ∷ w ∷ x ∷ []) (Ok y) = Picks ds ds' v w x (Ok y)
PicksOf ds ds' vs (Ok y) = ⊥
PicksOf ds ds' vs (Err e) = (e ≡ stop.Memory) × (ds' ≡ [])

-- ---- several

-- the only one of a chain
abbrev pub only_of : Spread → List Value → Option Value
only_of Next (v ∷ []) = Some v
only_of s vs = None

-- the only one of a chain, else all of them
abbrev pub joined : Spread → List Unfolded → Unfolded
joined Next us = chain us
joined Later us = and_of us

abbrev pub Joins : Making → Making → Spread → List Value → Result Value Stop → Type 0
Joins old new s links r = (us : List Unfolded) (bs : List Bounding) → AreValues old us bs links →
    Steps old new [] r (IsValue new (joined s us) (bounds (concat (map bounds_in bs))))

-- comparisons of each two that belong together
abbrev pub SaysAll : Making → Making → Spread → Kind → Place → List Value → Result Value Stop → Type 0
SaysAll old new s kind at vs r = (us : List Unfolded) (bs : List Bounding) → AreValues old us bs vs →
    Steps old new (together (spread_over s compare_events us)) r
    (IsValue new (joined s (spread_over s (linked s kind at) us)) (bounds (concat (map bounds_in (spread_over s (link_bounds s kind) bs)))))

-- an arithmetic operator
abbrev pub ArmsMake : Making → Making → Place → Operator → List Value → Result Value Stop → Type 0
ArmsMake old new at op vs r = (us : List Unfolded) (bs : List Bounding) → AreValues old us bs vs →
    Steps old new (operation_events at op us) r (λ v. (k : ℕ) × (v ≡ values.Choice k) × IsArm new.made new.drawn (unfolded_operation at op us) (arm.Choice k))
