-- The sorts of expressions, and their first fault.
use Rattle.std.specs.Prelude.{ℕ, suc, List, [], ◌∷◌, ◌++◌, Bool, true, false, cond, ◌&&◌, ◌||◌, Option, Some, None, nat_eq, nat_le, nat_lt, length, codes}
use Rattle.std.specs.Str.{bytes_eq}
use Rattle.script_model.specs.Sexp.{Place, place_of}
use Rattle.script_model.specs.Reading.{Operator, truth, falsehood, negation, conjunction, disjunction, implication, exclusive, equality, distinctness, choice, minus, plus, times, divide, operators, found, Reason, malformed, left_out, unknown, Label, Meanings, Names, Named, value, function, meaning}
use Rattle.dyadic.specs.Point.{Sort, real_sort, bool_sort}
use Rattle.script_model.specs.Script.{Command, declare, define, claim, minimize, Parameter}

pub data SortFault : Type 0 where
  unknown_symbol redeclared : List ℕ → SortFault
  sort_mismatch : SortFault
  -- a form that is left out of the language
  left_out_form : SortFault
  too_many_axes : SortFault

-- a sort, or the first fault
pub data Sorted : Type 0 where
  of_sort : Sort → Sorted
  ill : Place → SortFault → Sorted
  -- a call whose arguments have other sorts than the parameters; the call says where
  mismatched : Sorted

-- the first fault of these
abbrev pub first_ill : List Sorted → Option Sorted
first_ill [] = None
first_ill (of_sort s ∷ rest) = first_ill rest
first_ill (x ∷ rest) = Some x

abbrev pub or_first : Option Sorted → Sorted → Sorted
or_first (Some x) y = x
or_first None y = y

abbrev pub is_real : Sorted → Bool
is_real (of_sort real_sort) = true
is_real _ = false

abbrev pub is_bool : Sorted → Bool
is_bool (of_sort bool_sort) = true
is_bool _ = false

abbrev pub all_of : (Sorted → Bool) → List Sorted → Bool
all_of p [] = true
all_of p (x ∷ rest) = p x && all_of p rest

abbrev pub if_takes : Place → Bool → Sort → Sorted
if_takes at true s = of_sort s
if_takes at false s = ill at sort_mismatch

abbrev pub long : ℕ → List Sorted → Bool
long n ss = nat_le n (length ss)

-- the sort of an operator at arguments of these sorts
abbrev pub operator_sort : Place → Operator → List Sorted → Sorted
operator_sort at truth ss = if_takes at (nat_eq (length ss) 0) bool_sort
operator_sort at falsehood ss = if_takes at (nat_eq (length ss) 0) bool_sort
operator_sort at negation ss = if_takes at (all_of is_bool ss && nat_eq (length ss) 1) bool_sort
operator_sort at conjunction ss = if_takes at (all_of is_bool ss && long 1 ss) bool_sort
operator_sort at disjunction ss = if_takes at (all_of is_bool ss && long 1 ss) bool_sort
operator_sort at implication ss = if_takes at (all_of is_bool ss && long 2 ss) bool_sort
operator_sort at exclusive ss = if_takes at (all_of is_bool ss && long 2 ss) bool_sort
operator_sort at equality ss = if_takes at ((all_of is_bool ss || all_of is_real ss) && long 2 ss) bool_sort
operator_sort at distinctness ss = if_takes at ((all_of is_bool ss || all_of is_real ss) && long 2 ss) bool_sort
operator_sort at choice (c ∷ a ∷ b ∷ []) = cond (is_bool c && is_real a && is_real b) (of_sort real_sort) (if_takes at (is_bool c && is_bool a && is_bool b) bool_sort)
operator_sort at choice ss = ill at sort_mismatch
operator_sort at minus ss = if_takes at (all_of is_real ss && long 1 ss) real_sort
operator_sort at plus ss = if_takes at (all_of is_real ss && long 1 ss) real_sort
operator_sort at times ss = if_takes at (all_of is_real ss && long 1 ss) real_sort
operator_sort at divide ss = if_takes at (all_of is_real ss && long 2 ss) real_sort
operator_sort at op ss = if_takes at (all_of is_real ss && long 2 ss) bool_sort

abbrev pub name_in : List ℕ → List (List ℕ) → Bool
name_in x [] = false
name_in x (y ∷ ys) = bytes_eq x y || name_in x ys

abbrev pub is_operator : Option Operator → Bool
is_operator None = false
is_operator (Some op) = true

-- the name is a theory symbol, or stands among those before it in its list
abbrev pub is_taken : List (List ℕ) → List ℕ → Bool
is_taken before x = is_operator (found x operators) || name_in x before

abbrev pub first_of_two : Sorted → Sorted → Sorted
first_of_two (of_sort s) y = y
first_of_two x y = x

abbrev pub of_name : List (List ℕ) → Label → Sorted → Sorted
of_name before x s = cond (is_taken before x.name) (ill x.at (redeclared x.name)) s

-- the bindings of a `let` from left to right, each its name and then its expression, and then the body
abbrev pub binding_sort : List (List ℕ) → List Label → List Sorted → Sorted → Sorted
binding_sort before (x ∷ names) (s ∷ ss) body = first_of_two (of_name before x s) (binding_sort (x.name ∷ before) names ss body)
binding_sort before names ss body = or_first (first_ill ss) body

abbrev pub placed_call : Place → Sorted → Sorted
placed_call at mismatched = ill at sort_mismatch
placed_call at s = s

-- a name that is not known is an unknown symbol, but `sqrt` is left out
abbrev pub because : Place → Reason → Sorted
because at malformed = ill at sort_mismatch
because at left_out = ill at left_out_form
because at (unknown x) = cond (bytes_eq x (codes "sqrt")) (ill at left_out_form) (ill at (unknown_symbol x))

-- the head first, then the arguments from left to right, then the expression itself
abbrev pub sorting : Meanings Sorted
sorting = record {
  literal = λ at q. of_sort real_sort;
  named = λ at s. s;
  apply = λ at op ss. or_first (first_ill ss) (operator_sort at op ss);
  annotated = λ at s. s;
  bind = λ at names ss s. binding_sort [] names ss s;
  call = λ at ss s. or_first (first_ill ss) (placed_call at s);
  nothing = because;
}

-- ---- commands

abbrev pub same_sort : Sort → Sort → Bool
same_sort real_sort real_sort = true
same_sort bool_sort bool_sort = true
same_sort _ _ = false

abbrev pub is_of : Sort → Sorted → Bool
is_of s (of_sort t) = same_sort s t
is_of s _ = false

-- arguments of these sorts fit the parameters
abbrev pub fit : List Parameter → List Sorted → Bool
fit [] [] = true
fit (p ∷ params) (s ∷ ss) = is_of p.sort s && fit params ss
fit _ _ = false

abbrev pub signature : List Parameter → Sort → Named Sorted
signature params s = function (λ ss. cond (fit params ss) (of_sort s) mismatched)

-- one argument, a Real
abbrev pub one_real : List Sorted → Bool
one_real (s ∷ []) = is_real s
one_real ss = false

-- what `sqrt` stands for before the first command of a script with square roots: a function of one Real to Real
abbrev pub square_root : Named Sorted
square_root = function (λ ss. cond (one_real ss) (of_sort real_sort) mismatched)

abbrev pub roots : Names Sorted
roots = (codes "sqrt", square_root) ∷ []

abbrev pub parameter_names : List Parameter → Names Sorted
parameter_names [] = []
parameter_names (p ∷ params) = (p.name, value (of_sort p.sort)) ∷ parameter_names params

-- a theory symbol, or a name of the top
abbrev pub known : List ℕ → Names Sorted → Bool
known x [] = is_operator (found x operators)
known x (n ∷ rest) = bytes_eq x n.0 || known x rest

abbrev pub Finding : Type 0
Finding = Option (Place × SortFault)

-- the expression at this place is to have this sort
abbrev pub wants : Place → Sort → Sorted → Finding
wants at s (ill at' f) = Some (at', f)
wants at s (of_sort t) = cond (same_sort s t) None (Some (at, sort_mismatch))
wants at s mismatched = Some (at, sort_mismatch)

abbrev pub then_on : Finding → Finding → Finding
then_on (Some x) y = Some x
then_on None y = y

abbrev pub new_name : Place → List ℕ → Names Sorted → Finding
new_name at x names = cond (known x names) (Some (at, redeclared x)) None

-- the first parameter whose name is taken
abbrev pub taken_parameter : List (List ℕ) → List Parameter → Finding
taken_parameter before [] = None
taken_parameter before (p ∷ params) =
    cond (is_taken before p.name) (Some (p.at, redeclared p.name)) (taken_parameter (p.name ∷ before) params)

-- so many constants are declared before this one, of 1,024 at most
abbrev pub room_for : ℕ → Place → Finding
room_for n at = cond (nat_lt n 1024) None (Some (at, too_many_axes))

-- the first fault of the names and sorts of commands, after n declared constants, where these names are known
abbrev pub sort_fault_from : ℕ → Names Sorted → List Command → Finding
sort_fault_from n names [] = None
sort_fault_from n names (declare at x s ∷ rest) =
    then_on (new_name at x names) (then_on (room_for n at) (sort_fault_from (suc n) ((x, value (of_sort s)) ∷ names) rest))
sort_fault_from n names (define at f params s body ∷ rest) =
    then_on (new_name at f names) (then_on (taken_parameter [] params)
    (then_on (wants (place_of body) s (meaning sorting (parameter_names params ++ names) body)) (sort_fault_from n ((f, signature params s) ∷ names) rest)))
sort_fault_from n names (claim at e ∷ rest) = then_on (wants (place_of e) bool_sort (meaning sorting names e)) (sort_fault_from n names rest)
sort_fault_from n names (minimize at t ∷ rest) = then_on (wants (place_of t) real_sort (meaning sorting names t)) (sort_fault_from n names rest)
sort_fault_from n names (_ ∷ rest) = sort_fault_from n names rest

-- the first fault of a script's names and sorts, where these names are known before its first command
abbrev pub sort_fault_in : Names Sorted → List Command → Finding
sort_fault_in theory script = sort_fault_from 0 theory script

-- where none are
abbrev pub sort_fault : List Command → Finding
sort_fault script = sort_fault_in [] script
