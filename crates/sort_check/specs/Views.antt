-- How what a check of sorts finds is seen.
use Rattle.std.specs.Prelude.{◌≡◌, ℕ, List, [], ◌∷◌, ◌++◌, map, Option, Some, None, option_map, Result, Ok, Err, codes}
use Rattle.std.specs.Borrow.{Bor}
use Rattle.std.specs.Str.{bytes_eq}
use Rattle.std.specs.HashMap.{HashMap, get_by}
use Rattle.script_model.specs.Reading.{Operator, truth, falsehood, negation, conjunction, disjunction, implication, exclusive, equality, distinctness, choice, minus, plus, times, divide, at_most_op, below_op, at_least_op, above_op, found, operators, Names, Named, value}
use Rattle.dyadic.specs.Point.{real_sort}
use Rattle.script_model.specs.Sexp.{Place}
use Rattle.script_model.specs.Script.{Parameter}
use Rattle.sort_check.specs.Sorts.{SortFault, unknown_symbol, redeclared, sort_mismatch, left_out_form, too_many_axes, Sorted, of_sort, ill, signature, parameter_names, operator_sort, fit, if_takes, one_real, roots, square_root}
use Rattle.smt_sexp.specs.Views.{place_of}
use Rattle.smt_script.specs.Views.{sort_of, parameter_of}
use Rattle.smt_script.specs.declared.command.Sort as code_sort
use Rattle.smt_script.specs.declared.command.Parameter as code_parameter
use Rattle.sort_check.specs.declared.stop.Fault.{Fault}
use Rattle.sort_check.specs.declared.stop.Fault.TheVariants as faults
use Rattle.sort_check.specs.declared.stop.Stop.{Stop}
use Rattle.sort_check.specs.declared.stop.Stop.TheVariants as stops
use Rattle.sort_check.specs.declared.operators.Operator as code_operator
use Rattle.sort_check.specs.declared.operators.Operator.TheVariants as op
use Rattle.sort_check.specs.declared.names.Known.{Known}
use Rattle.sort_check.specs.declared.names.Known.TheVariants as known
use Rattle.sort_check.specs.declared.names.Head.{Head}
use Rattle.sort_check.specs.declared.names.Head.TheVariants as head
use Rattle.sort_check.specs.declared.scope.Theory.{Theory}
use Rattle.sort_check.specs.declared.scope.Theory.TheVariants as theories

abbrev pub fault_of : Fault → SortFault
fault_of (faults.UnknownSymbol name) = unknown_symbol name.now
fault_of (faults.Redeclared name) = redeclared name.now
fault_of faults.SortMismatch = sort_mismatch
fault_of faults.LeftOut = left_out_form
fault_of faults.TooManyAxes = too_many_axes

-- the sort that is said, or its fault, or memory
abbrev pub IsSortAnswer : Result code_sort.Sort Stop → Sorted → Type 0
IsSortAnswer (Ok s) said = said ≡ of_sort (sort_of s)
IsSortAnswer (Err (stops.Fault at f)) said = said ≡ ill (place_of at) (fault_of f)
IsSortAnswer (Err stops.Memory) said = Unit {0}

abbrev pub operator_of : code_operator.Operator → Operator
operator_of op.True = truth
operator_of op.False = falsehood
operator_of op.Not = negation
operator_of op.And = conjunction
operator_of op.Or = disjunction
operator_of op.Implies = implication
operator_of op.Xor = exclusive
operator_of op.Equal = equality
operator_of op.Distinct = distinctness
operator_of op.Choice = choice
operator_of op.Minus = minus
operator_of op.Plus = plus
operator_of op.Times = times
operator_of op.Divide = divide
operator_of op.AtMost = at_most_op
operator_of op.Below = below_op
operator_of op.AtLeast = at_least_op
operator_of op.Above = above_op

-- the operators of Reals
abbrev pub later_operators : List (List ℕ × Operator)
later_operators =
    (codes "-", minus) ∷ (codes "+", plus) ∷ (codes "*", times) ∷ (codes "/", divide) ∷ (codes "<=", at_most_op) ∷ (codes "<", below_op) ∷ (codes ">=", at_least_op) ∷ (codes ">", above_op) ∷ []

abbrev pub sort_seen : code_sort.Sort → Sorted
sort_seen s = of_sort (sort_of s)

abbrev pub sorts_seen : List code_sort.Sort → List Sorted
sorts_seen ss = map sort_seen ss

abbrev pub named_of : Known → Named Sorted
named_of (known.Value s) = value (of_sort (sort_of s))
named_of (known.Function params s) = signature (map parameter_of params.now) (sort_of s)
named_of known.Root = square_root

-- the names that a theory knows before the first command
abbrev pub theory_names : Theory → Names Sorted
theory_names theories.Reals = []
theory_names theories.Roots = roots

-- the top's names stand for what these say
abbrev pub Knows : {S : Type 0} → HashMap (Bor (List ℕ)) Known S → Names Sorted → Type 0
Knows top names = (x : List ℕ) → option_map named_of (get_by (λ k. bytes_eq x k.now) top) ≡ found x names

-- the names of bindings or parameters before others
abbrev pub around : List code_parameter.Parameter → Names Sorted → Names Sorted
around locals names = parameter_names (map parameter_of locals) ++ names

-- what a name stands for
abbrev pub Heads : Option Head → List ℕ → Names Sorted → Type 0
Heads None x names = (found x operators ≡ None) × (found x names ≡ None)
Heads (Some (head.Operator o)) x names = found x operators ≡ Some (operator_of o)
Heads (Some (head.Known k)) x names = (found x operators ≡ None) × (found x names ≡ Some (named_of k))

-- the names of these, the last first, before others
abbrev pub names_back : List Parameter → List (List ℕ) → List (List ℕ)
names_back [] before = before
names_back (p ∷ ps) before = names_back ps (p.name ∷ before)

-- the sort of a call at arguments of these sorts
abbrev pub head_sort : Place → Head → List Sorted → Sorted
head_sort at (head.Operator o) ss = operator_sort at (operator_of o) ss
head_sort at (head.Known (known.Value s)) ss = ill at sort_mismatch
head_sort at (head.Known (known.Function params s)) ss = if_takes at (fit (map parameter_of params.now) ss) (sort_of s)
head_sort at (head.Known known.Root) ss = if_takes at (one_real ss) real_sort

abbrev pub names_of : List Parameter → List (List ℕ)
names_of [] = []
names_of (p ∷ ps) = p.name ∷ names_of ps

-- the sort of a name alone
abbrev pub bare_sort : Place → Head → Sorted
bare_sort at (head.Operator o) = operator_sort at (operator_of o) []
bare_sort at (head.Known (known.Value s)) = of_sort (sort_of s)
bare_sort at (head.Known (known.Function params s)) = if_takes at (fit (map parameter_of params.now) []) (sort_of s)
bare_sort at (head.Known known.Root) = ill at sort_mismatch
