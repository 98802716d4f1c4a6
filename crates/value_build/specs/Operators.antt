-- What operators make of values, sort by sort.
use Rattle.std.specs.Prelude.{◌≡◌, ℕ, List, [], ◌∷◌, length, Bool, true, false, ◌&&◌, ◌||◌, nat_eq, nat_le, Result}
use Rattle.script_model.specs.Sexp.{Place}
use Rattle.script_model.specs.Reading.{Operator, truth, falsehood, negation, conjunction, disjunction, implication, exclusive, equality, distinctness, choice, minus, plus, times}
use Rattle.script_model.specs.Declared.{Bound, Bounding, bounds, bounding_operation}
use Rattle.script_model.specs.Meaning.{neighbours, pairs}
use Rattle.poly_graph.specs.Term.{Kind, eq}
use Rattle.poly_graph.specs.Form.{yes_form, no_form}
use Rattle.script_forms.specs.Terms.{Unfolded, formula}
use Rattle.script_forms.specs.Unfolded.{takes, unfolded_operation, chain, different, not_first, and_of, or_of, implies_of, xor_all, xor_of, choice_form}
use Rattle.script_forms.specs.Work.{operation_events}
use Rattle.term_build.specs.Built.{BuilderModel, stand_of}
use Rattle.term_build.specs.Sketch.{SketchNode}
use Rattle.term_build.specs.Pairs.{DrawsEach, compared, trees_at, same_of}
use Rattle.term_build.specs.declared.connectives.Pair.{Pair}
use Rattle.term_build.specs.declared.stop.Stop.{Stop}
use Rattle.declared_box.specs.Table.{all_of}
use Rattle.value_build.specs.Making.{Making, Steps}
use Rattle.value_build.specs.Values.{IsValue, AreValues, Lists}
use Rattle.value_build.specs.Weights.{WeighsEach}
use Rattle.value_build.specs.Bounds.{chained_bounds}
use Rattle.value_build.specs.declared.value.Value.{Value}
use Rattle.value_build.specs.declared.value.Value.TheVariants as values

-- ---- values of one sort

abbrev pub are_real : List Value → Bool
are_real [] = true
are_real (values.Real k ∷ vs) = are_real vs
are_real (v ∷ vs) = false

abbrev pub are_bool : List Value → Bool
are_bool [] = true
are_bool (values.Bool p n ∷ vs) = are_bool vs
are_bool (v ∷ vs) = false

abbrev pub node_number : Value → ℕ
node_number (values.Real k) = k
node_number v = 0

abbrev pub pair_number : Value → Pair
pair_number (values.Bool p n) = p
pair_number v = record { truth = 0; negation = 0 }

abbrev pub list_number : Value → ℕ
list_number (values.Bool p n) = n
list_number v = 0

-- trees and Real `ite`s
abbrev pub are_arms : List Value → Bool
are_arms [] = true
are_arms (values.Bool p n ∷ vs) = false
are_arms (v ∷ vs) = are_arms vs

-- the arguments of a Real `ite`
abbrev pub are_picked : List Value → Bool
are_picked (values.Bool p n ∷ vs) = are_arms vs && nat_eq (length vs) 2
are_picked vs = false

-- whether the operator takes so many arguments, all of which are Real or Bool, or are those of a Real `ite`
abbrev pub takes_of : Operator → Bool → Bool → Bool → ℕ → Bool
takes_of truth reals bools picked n = nat_eq n 0
takes_of falsehood reals bools picked n = nat_eq n 0
takes_of negation reals bools picked n = bools && nat_eq n 1
takes_of conjunction reals bools picked n = bools && nat_le 1 n
takes_of disjunction reals bools picked n = bools && nat_le 1 n
takes_of implication reals bools picked n = bools && nat_le 2 n
takes_of exclusive reals bools picked n = bools && nat_le 2 n
takes_of equality reals bools picked n = (bools || reals) && nat_le 2 n
takes_of distinctness reals bools picked n = (bools || reals) && nat_le 2 n
takes_of choice reals bools picked n = (bools && nat_eq n 3) || picked
takes_of minus reals bools picked n = reals && nat_le 1 n
takes_of plus reals bools picked n = reals && nat_le 1 n
takes_of times reals bools picked n = reals && nat_le 1 n
takes_of op reals bools picked n = reals && nat_le 2 n

-- ---- Real arguments

-- an operator is applied to the trees of these nodes
abbrev pub RealsDo : Making → Making → Place → Operator → List ℕ → Result Value Stop → Type 0
RealsDo old new at op ks r = (bs : List Bounding) → WeighsEach (stand_of old.made).trees ks bs → takes op (trees_at (stand_of old.made).trees ks) ≡ true →
    Steps old new (operation_events at op (trees_at (stand_of old.made).trees ks)) r (IsValue new (unfolded_operation at op (trees_at (stand_of old.made).trees ks)) (bounding_operation op bs))

-- a chain of comparisons
abbrev pub ComparesAll : Making → Making → Kind → Place → List ℕ → Result Value Stop → Type 0
ComparesAll old new kind at ks r = (bs : List Bounding) → WeighsEach (stand_of old.made).trees ks bs →
    Steps old new [] r (IsValue new (chain (neighbours (compared kind at) (trees_at (stand_of old.made).trees ks))) (bounds (chained_bounds kind bs)))

-- that each two differ
abbrev pub DiffersAll : Making → Making → Place → List ℕ → Result Value Stop → Type 0
DiffersAll old new at ks r =
    Steps old new [] r (IsValue new (different (pairs (compared eq at) (trees_at (stand_of old.made).trees ks))) (bounds []))

-- ---- Bool arguments

abbrev pub bool_equality : List Unfolded → Unfolded
bool_equality us = chain (neighbours same_of us)

abbrev pub bool_distinctness : List Unfolded → Unfolded
bool_distinctness us = and_of (pairs xor_of us)

-- of a first one and later ones
abbrev pub distinct_from : Unfolded → List Unfolded → Unfolded
distinct_from u us = bool_distinctness (u ∷ us)

-- an operator at Bool arguments; no other is asked for
abbrev pub bool_operation : Operator → List Unfolded → Unfolded
bool_operation truth us = formula yes_form no_form
bool_operation negation us = not_first us
bool_operation conjunction us = and_of us
bool_operation disjunction us = or_of us
bool_operation implication us = implies_of us
bool_operation exclusive us = xor_all us
bool_operation equality us = bool_equality us
bool_operation distinctness us = bool_distinctness us
bool_operation choice us = choice_form us
bool_operation op us = formula no_form yes_form

-- the bounds of the arguments are those of a conjunction alone
abbrev pub given_bounds : Operator → List (List Bound) → List ℕ → List Bound
given_bounds conjunction lists ns = all_of lists ns
given_bounds op lists ns = []

-- the pairs draw formulas
abbrev pub ArePairs : BuilderModel → List SketchNode → List Pair → Type 0
ArePairs m ds ps = (us : List Unfolded) × DrawsEach (stand_of m).trees ds us ps

-- the lists have the bounds of Bool expressions
abbrev pub ListsEach : List (List Bound) → List ℕ → List Bounding → Type 0
ListsEach lists [] [] = Unit {0}
ListsEach lists (n ∷ ns) (b ∷ bs) = ((xs : List Bound) × (b ≡ bounds xs) × Lists lists n xs) × ListsEach lists ns bs
ListsEach lists _ _ = ⊥

-- an operator is applied to what these pairs and lists are
abbrev pub BoolsDo : Making → Making → Operator → List Pair → List ℕ → Result Value Stop → Type 0
BoolsDo old new op ps ns r = (at : Place) (us : List Unfolded) (bs : List Bounding) → DrawsEach (stand_of old.made).trees old.drawn us ps → ListsEach old.bounds ns bs → takes op us ≡ true →
    Steps old new (operation_events at op us) r (IsValue new (unfolded_operation at op us) (bounding_operation op bs))

-- ---- Real arguments that hold an `ite`, or the arguments of one

abbrev pub ArmsDo : Making → Making → Place → Operator → List Value → Result Value Stop → Type 0
ArmsDo old new at op vs r = (us : List Unfolded) (bs : List Bounding) → AreValues old us bs vs → takes op us ≡ true →
    Steps old new (operation_events at op us) r (IsValue new (unfolded_operation at op us) (bounding_operation op bs))
