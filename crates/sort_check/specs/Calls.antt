-- What the calls answer, in values of the code: for whatever names the top's table stands for, and with those of locals before
-- them.
use Rattle.std.specs.Prelude.{◌≡◌, ℕ, Err, List, Option, Result, Vec, option_map}
use Rattle.std.specs.Borrow.{Bor}
use Rattle.std.specs.HashMap.{HashMap}
use Rattle.script_model.specs.Reading.{Names, application, found, group_meaning, leaf_meaning, meaning, meanings, name_meaning, operators}
use Rattle.script_model.specs.Script.{Command}
use Rattle.script_model.specs.Sexp as sexp
use Rattle.script_fault.specs.Answers.{IsFaultOrMemory}
use Rattle.script_fault.specs.declared.place.Place.{Place}
use Rattle.script_fault.specs.declared.fault.ReadError.{ReadError}
use Rattle.smt_sexp.specs.Arena.{expression_at, rest_of}
use Rattle.smt_sexp.specs.Views.{leaf_of, place_of}
use Rattle.smt_sexp.specs.declared.leaf.Leaf.{Leaf}
use Rattle.smt_sexp.specs.declared.sexps.Sexps.{Sexps}
use Rattle.smt_script.specs.Views.{sort_of}
use Rattle.smt_script.specs.declared.command.Parameter.{Parameter}
use Rattle.smt_script.specs.declared.command.Sort.{Sort}
use Rattle.sort_check.specs.Forms.{Lists, let_at}
use Rattle.sort_check.specs.Levels.{terms_fault}
use Rattle.sort_check.specs.Sorts.{Finding, Sorted, operator_sort, sorting, wants}
use Rattle.sort_check.specs.Steps.{FindsFault, Steps}
use Rattle.sort_check.specs.SortAnswers.{finding_fault}
use Rattle.sort_check.specs.Views.{Heads, Knows, IsSortAnswer, around, named_of, operator_of, sorts_seen}
use Rattle.sort_check.specs.declared.names.Head.{Head}
use Rattle.sort_check.specs.declared.names.Known.{Known}
use Rattle.sort_check.specs.declared.operators.Operator.{Operator}
use Rattle.sort_check.specs.declared.stop.Stop.{Stop}

-- what names of the top stand for, by a hash of type S
abbrev pub Top : Type 0 → Type 0
Top S = HashMap (Bor (List ℕ)) Known S

-- ---- names

-- what a name stands for that is no operator
abbrev pub LooksUp : {S : Type 0} → Top S → List Parameter → List ℕ → Option Known → Type 0
LooksUp top locals x r = (names : Names Sorted) → Knows top names → option_map named_of r ≡ found x (around locals names)

abbrev pub LooksUpHead : {S : Type 0} → Top S → List Parameter → List ℕ → Option Head → Type 0
LooksUpHead top locals x r = (names : Names Sorted) → Knows top names → Heads r x (around locals names)

-- ---- sorts of expressions, by the names that stand around them

abbrev pub sort_of_expression : Sexps → ℕ → Names Sorted → Sorted
sort_of_expression sexps at names = meaning sorting names (expression_at sexps at)

abbrev pub sort_of_group : Sexps → Place → ℕ → Names Sorted → Sorted
sort_of_group sexps place inside names = group_meaning sorting names (place_of place) (rest_of sexps inside)

-- of a name at its arguments
abbrev pub sort_of_call : Sexps → Place → List ℕ → ℕ → Names Sorted → Sorted
sort_of_call sexps place name args names =
    application sorting names (place_of place) name (found name operators) (meanings sorting names (rest_of sexps args))

abbrev pub sorts_of_arguments : Sexps → ℕ → Names Sorted → List Sorted
sorts_of_arguments sexps start names = meanings sorting names (rest_of sexps start)

abbrev pub sort_of_let : Sexps → Place → ℕ → Names Sorted → Sorted
sort_of_let sexps place at names = let_at names (place_of place) (rest_of sexps at)

abbrev pub sort_of_leaf : Place → Leaf → Names Sorted → Sorted
sort_of_leaf place leaf names = leaf_meaning sorting names (place_of place) (leaf_of leaf)

-- of a name alone
abbrev pub sort_of_name : Place → List ℕ → Names Sorted → Sorted
sort_of_name place name names = name_meaning sorting names (place_of place) name (found name operators)

abbrev pub sort_of_operator : Place → Operator → List Sort → Sorted
sort_of_operator place operator sorts = operator_sort (place_of place) (operator_of operator) (sorts_seen sorts)

abbrev pub SaysSort : {S : Type 0} → Top S → List Parameter → (Names Sorted → Sorted) → Result Sort Stop → Type 0
SaysSort top locals f r = (names : Names Sorted) → Knows top names → IsSortAnswer r (f (around locals names))

abbrev pub ListsSorts : {S A : Type 0} → Top S → List Parameter → (Names Sorted → List Sorted) → Result (Vec Sort A) Stop → Type 0
ListsSorts top locals f r = (names : Names Sorted) → Knows top names → Lists r (f (around locals names))

-- ---- faults

-- by the names of the top
abbrev pub FindsAmong : {S : Type 0} → Top S → (Names Sorted → Finding) → Result (Unit {0}) Stop → Type 0
FindsAmong top f r = (names : Names Sorted) → Knows top names → FindsFault r (f names)

-- by the names that stand around an expression
abbrev pub FindsWithin : {S : Type 0} → Top S → List Parameter → (Names Sorted → Finding) → Result (Unit {0}) Stop → Type 0
FindsWithin top locals f r = (names : Names Sorted) → Knows top names → FindsFault r (f (around locals names))

-- of an expression that is to have a sort
abbrev pub wanted_sort : Sexps → ℕ → Sort → Names Sorted → Finding
wanted_sort sexps at sort names = wants (sexp.place_of (expression_at sexps at)) (sort_of sort) (meaning sorting names (expression_at sexps at))

-- of terms that are asked for, from a place on
abbrev pub faults_asked : Sexps → ℕ → Names Sorted → Finding
faults_asked sexps start names = terms_fault names (rest_of sexps start)

-- a command, after so many constants
abbrev pub StepsFrom : {S : Type 0} → Top S → Top S → ℕ → Command → Result ℕ Stop → Type 0
StepsFrom top top' count c r = (names : Names Sorted) → Knows top names → Steps top' count names c r

-- what stops a check, with a name of its own
abbrev pub IsOwned : Stop → ReadError → Type 0
IsOwned stop r = (finding : Finding) → FindsFault (Err stop) finding → IsFaultOrMemory r (finding_fault finding)
