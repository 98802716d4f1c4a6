-- One recursion over expressions, for every meaning that an expression has: its value, its pair of truth
-- values, its term and form, its bounds. It unfolds `let`, definitions and annotations by an environment.
use Rattle.std.specs.Prelude.{ℕ, List, [], ◌∷◌, ◌++◌, ◌^◌, cond, pos, Option, Some, None, length, codes}
use Rattle.std.specs.Str.{bytes_eq}
use Rattle.std.specs.Str.Parse.{digits_value}
use Rattle.dyadic.specs.Fraction.{Fraction}
use Rattle.script_model.specs.Sexp.{Place, Leaf, numeral, decimal, symbol, reserved, Sexp, leaf, group, Sexps, none, more, Reserved, bang, let_word}

-- the operators of Core and Reals
pub data Operator : Type 0 where
  truth falsehood negation conjunction disjunction implication exclusive equality distinctness choice : Operator
  minus plus times divide at_most_op below_op at_least_op above_op : Operator

-- their symbols
abbrev pub operators : List (List ℕ × Operator)
operators =
    (codes "true", truth) ∷ (codes "false", falsehood) ∷ (codes "not", negation) ∷ (codes "and", conjunction) ∷
    (codes "or", disjunction) ∷ (codes "=>", implication) ∷ (codes "xor", exclusive) ∷ (codes "=", equality) ∷
    (codes "distinct", distinctness) ∷ (codes "ite", choice) ∷ (codes "-", minus) ∷ (codes "+", plus) ∷
    (codes "*", times) ∷ (codes "/", divide) ∷ (codes "<=", at_most_op) ∷ (codes "<", below_op) ∷
    (codes ">=", at_least_op) ∷ (codes ">", above_op) ∷ []

-- what stands first under a name
abbrev pub found : {A : Type 0} → List ℕ → List (List ℕ × A) → Option A
found name [] = None
found name (entry ∷ rest) = cond (bytes_eq name entry.0) (Some entry.1) (found name rest)

-- what a numeral or a decimal stands for
abbrev pub literal_value : List ℕ → List ℕ → Fraction
literal_value digits fraction_digits = record {
  num = pos (digits_value 10 (digits ++ fraction_digits));
  den = 10 ^ length fraction_digits;
}

-- why an expression has no meaning
pub data Reason : Type 0 where
  -- it has no form, its head is left out of the language, or its name is not known
  malformed left_out : Reason
  unknown : List ℕ → Reason

-- a name where it stands
pub record Label : Type 0 where
  pub at : Place
  pub name : List ℕ

-- what a kind of meaning says, with the place of the expression: of literals; of a name alone that stands for
-- this; of operators at their arguments; of an annotation round a term; of a `let` that binds these names to these,
-- with its body's meaning; of a name's call at these arguments, with the meaning of the function's body there; of
-- what has no meaning
pub record Meanings (V : Type 0) : Type 0 where
  pub literal : Place → Fraction → V
  pub named : Place → V → V
  pub apply : Place → Operator → List V → V
  pub annotated : Place → V → V
  pub bind : Place → List Label → List V → V → V
  pub call : Place → List V → V → V
  pub nothing : Place → Reason → V

-- what a name stands for: a value, or a function of its arguments' values
pub data Named (V : Type 0) : Type 0 where
  value : V → Named V
  function : (List V → V) → Named V

-- what names stand for, the nearest first
abbrev pub Names : Type 0 → Type 0
Names V = List (List ℕ × Named V)

-- a name alone that is no operator: what it stands for, and a function without its arguments
abbrev pub value_named : {V : Type 0} → Meanings V → Place → List ℕ → Option (Named V) → V
value_named M at name (Some (value v)) = M.named at v
value_named M at name (Some (function f)) = M.call at [] (f [])
value_named M at name None = M.nothing at (unknown name)

-- a name alone
abbrev pub name_meaning : {V : Type 0} → Meanings V → Names V → Place → List ℕ → Option Operator → V
name_meaning M names at name (Some op) = M.apply at op []
name_meaning M names at name None = value_named M at name (found name names)

-- a name at its arguments, of which there are some: only a function has a meaning there
abbrev pub call_named : {V : Type 0} → Meanings V → Place → List ℕ → Option (Named V) → List V → V
call_named M at name None args = M.nothing at (unknown name)
call_named M at name (Some (function f)) args = M.call at args (f args)
call_named M at name (Some (value v)) args = M.call at args (M.nothing at malformed)

-- a known name in parentheses without arguments has no form
abbrev pub bare_named : {V : Type 0} → Meanings V → Place → List ℕ → Option (Named V) → V
bare_named M at name None = M.nothing at (unknown name)
bare_named M at name (Some _) = M.nothing at malformed

-- a name in parentheses with its arguments
abbrev pub application : {V : Type 0} → Meanings V → Names V → Place → List ℕ → Option Operator → List V → V
application M names at name (Some op) [] = M.nothing at malformed
application M names at name (Some op) (a ∷ args) = M.apply at op (a ∷ args)
application M names at name None [] = bare_named M at name (found name names)
application M names at name None (a ∷ args) = call_named M at name (found name names) (a ∷ args)

-- a string, a keyword or a reserved word is no term
abbrev pub leaf_meaning : {V : Type 0} → Meanings V → Names V → Place → Leaf → V
leaf_meaning M names at (numeral digits) = M.literal at (literal_value digits [])
leaf_meaning M names at (decimal digits fraction_digits) = M.literal at (literal_value digits fraction_digits)
leaf_meaning M names at (symbol name) = name_meaning M names at name (found name operators)
leaf_meaning M names at _ = M.nothing at malformed

-- the heads that are left out of the language
abbrev pub reserved_reason : Reserved → Reason
reserved_reason bang = malformed
reserved_reason let_word = malformed
reserved_reason _ = left_out

-- the names that the bindings of a `let` bind, where each is a pair of a symbol and an expression
abbrev pub one_name : Sexp → Option (List Label) → Option (List Label)
one_name (group _ (more (leaf at (symbol name)) (more e none))) (Some names) = Some (record { at = at; name = name } ∷ names)
one_name _ _ = None

abbrev pub bound_names : Sexps → Option (List Label)
bound_names none = Some []
bound_names (more b rest) = one_name b (bound_names rest)

-- a `let` whose bindings are formed and not none
abbrev pub let_meaning : {V : Type 0} → Meanings V → Place → Option (List Label) → List V → V → V
let_meaning M at (Some (name ∷ names)) vs body = M.bind at (name ∷ names) vs body
let_meaning M at _ vs body = M.nothing at malformed

-- the values among what names stand for
abbrev pub named_value : {V : Type 0} → List ℕ × Named V → List V
named_value (name, value v) = v ∷ []
named_value (name, function f) = []

abbrev pub values_bound : {V : Type 0} → Names V → List V
values_bound [] = []
values_bound (entry ∷ rest) = named_value entry ++ values_bound rest

abbrev mutual
  pub meaning : {V : Type 0} → Meanings V → Names V → Sexp → V
  meaning M names (leaf at l) = leaf_meaning M names at l
  meaning M names (group at items) = group_meaning M names at items

  -- an expression in parentheses
  pub group_meaning : {V : Type 0} → Meanings V → Names V → Place → Sexps → V
  group_meaning M names at (more (leaf _ (reserved let_word)) (more (group _ bindings) (more body none))) =
      let_meaning M at (bound_names bindings) (values_bound (binding_meanings M names bindings)) (meaning M (binding_meanings M names bindings ++ names) body)
  group_meaning M names at (more (leaf _ (reserved bang)) (more term attributes)) = M.annotated at (meaning M names term)
  group_meaning M names at (more (leaf _ (reserved word)) args) = M.nothing at (reserved_reason word)
  group_meaning M names at (more (leaf _ (symbol name)) args) =
      application M names at name (found name operators) (meanings M names args)
  group_meaning M names at _ = M.nothing at malformed

  pub meanings : {V : Type 0} → Meanings V → Names V → Sexps → List V
  meanings M names none = []
  meanings M names (more e rest) = meaning M names e ∷ meanings M names rest

  -- the bindings of a `let`, each read outside it
  pub binding_meanings : {V : Type 0} → Meanings V → Names V → Sexps → Names V
  binding_meanings M names (more (group _ (more (leaf _ (symbol name)) (more e none))) rest) =
      (name, value (meaning M names e)) ∷ binding_meanings M names rest
  binding_meanings M names _ = []
