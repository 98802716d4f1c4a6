-- Expressions in which each `let`, call of a definition and annotation is replaced by what it stands for, so that declared constants alone are named.
use Rattle.std.specs.Prelude.{ℕ, List, [], ◌∷◌, ◌++◌, Bool, true, false, cond, ◌&&◌, ◌||◌, Option, Some, None, is_some, codes}
use Rattle.script_model.specs.Sexp.{Place, Leaf, numeral, decimal, symbol, reserved, Sexp, leaf, group, Sexps, none, more, bang, let_word}
use Rattle.script_model.specs.Reading.{Operator, divide, choice, operators, found, bound_names, Label}
use Rattle.script_model.specs.Meaning.{from_left}
use Rattle.script_model.specs.Script.{Parameter}

mutual
  pub data Tree : Type 0 where
    -- a literal, a declared constant, or an operator alone, as `true`
    atomic : Place → Leaf → Tree
    -- an operator at its arguments
    applied : Place → List ℕ → Trees → Tree
    -- a square root
    root : Place → Tree → Tree
    -- a quotient whose divisor is not constant
    quotient : Place → Tree → Tree → Tree
    -- what has no form: no accepted script asks
    formless : Place → Tree

  pub data Trees : Type 0 where
    no_trees : Trees
    more_trees : Tree → Trees → Trees

abbrev pub trees_of : List Tree → Trees
trees_of [] = no_trees
trees_of (t ∷ ts) = more_trees t (trees_of ts)

-- what a name stands for: a tree, or a function that makes one of its arguments, for the place of its call
pub data Known : Type 0 where
  tree : Tree → Known
  function : (Place → List Tree → Tree) → Known

-- what names stand for, the nearest first
abbrev pub Names : Type 0
Names = List (List ℕ × Known)

-- ---- what a tree holds

abbrev pub is_choice : Option Operator → Bool
is_choice (Some choice) = true
is_choice _ = false

-- a literal, or an operator alone
abbrev pub is_number_leaf : Leaf → Bool
is_number_leaf (symbol name) = is_some (found name operators)
is_number_leaf l = true

abbrev mutual
  -- it names no constant and holds no root
  pub is_number : Tree → Bool
  is_number (atomic at l) = is_number_leaf l
  is_number (applied at name ts) = are_numbers ts
  is_number (quotient at t d) = is_number t && is_number d
  is_number t = false

  pub are_numbers : Trees → Bool
  are_numbers no_trees = true
  are_numbers (more_trees t ts) = is_number t && are_numbers ts

abbrev mutual
  -- an `ite` stands in it
  pub holds_choice : Tree → Bool
  holds_choice (atomic at l) = false
  holds_choice (applied at name ts) = is_choice (found name operators) || hold_choice ts
  holds_choice (root at t) = holds_choice t
  holds_choice (quotient at t d) = holds_choice t || holds_choice d
  holds_choice (formless at) = false

  pub hold_choice : Trees → Bool
  hold_choice no_trees = false
  hold_choice (more_trees t ts) = holds_choice t || hold_choice ts

abbrev mutual
  -- a root stands in it
  pub holds_root : Tree → Bool
  holds_root (atomic at l) = false
  holds_root (applied at name ts) = hold_root ts
  holds_root (root at t) = true
  holds_root (quotient at t d) = holds_root t || holds_root d
  holds_root (formless at) = false

  pub hold_root : Trees → Bool
  hold_root no_trees = false
  hold_root (more_trees t ts) = holds_root t || hold_root ts

-- ---- quotients

abbrev pub divide_two : Place → List ℕ → Tree → Tree → Tree
divide_two at name t d = cond (is_number d) (applied at name (more_trees t (more_trees d no_trees))) (quotient at t d)

-- by several divisors from left to right, where one of them is no number
abbrev pub divided : Place → List ℕ → List Tree → Tree
divided at name [] = formless at
divided at name (t ∷ ds) = cond (are_numbers (trees_of ds)) (applied at name (trees_of (t ∷ ds))) (from_left (divide_two at name) t ds)

-- ---- what an expression is as a tree

abbrev pub operator_tree : Place → List ℕ → Operator → List Tree → Tree
operator_tree at name divide ts = divided at name ts
operator_tree at name op ts = applied at name (trees_of ts)

abbrev pub name_tree : Place → Option Known → Tree
name_tree at None = formless at
name_tree at (Some (tree t)) = t
name_tree at (Some (function f)) = f at []

abbrev pub symbol_tree : Names → Place → List ℕ → Option Operator → Tree
symbol_tree names at name (Some op) = atomic at (symbol name)
symbol_tree names at name None = name_tree at (found name names)

abbrev pub leaf_tree : Names → Place → Leaf → Tree
leaf_tree names at (numeral digits) = atomic at (numeral digits)
leaf_tree names at (decimal digits decimals) = atomic at (decimal digits decimals)
leaf_tree names at (symbol name) = symbol_tree names at name (found name operators)
leaf_tree names at l = formless at

abbrev pub call_tree : Place → Option Known → List Tree → Tree
call_tree at (Some (function f)) args = f at args
call_tree at x args = formless at

-- a name in parentheses with its arguments
abbrev pub application_tree : Names → Place → List ℕ → Option Operator → List Tree → Tree
application_tree names at name op [] = formless at
application_tree names at name (Some op) (t ∷ ts) = operator_tree at name op (t ∷ ts)
application_tree names at name None (t ∷ ts) = call_tree at (found name names) (t ∷ ts)

abbrev pub let_tree : Place → Option (List Label) → Tree → Tree
let_tree at (Some (name ∷ names)) t = t
let_tree at x t = formless at

abbrev mutual
  pub tree_of : Names → Sexp → Tree
  tree_of names (leaf at l) = leaf_tree names at l
  tree_of names (group at items) = group_tree names at items

  pub group_tree : Names → Place → Sexps → Tree
  group_tree names at (more (leaf _ (reserved let_word)) (more (group _ bindings) (more body none))) =
      let_tree at (bound_names bindings) (tree_of (binding_trees names bindings ++ names) body)
  group_tree names at (more (leaf _ (reserved bang)) (more term attributes)) = tree_of names term
  group_tree names at (more (leaf _ (reserved word)) args) = formless at
  group_tree names at (more (leaf _ (symbol name)) args) = application_tree names at name (found name operators) (all_trees names args)
  group_tree names at _ = formless at

  pub all_trees : Names → Sexps → List Tree
  all_trees names none = []
  all_trees names (more e rest) = tree_of names e ∷ all_trees names rest

  -- the bindings of a `let`, each read outside it
  pub binding_trees : Names → Sexps → Names
  binding_trees names (more (group _ (more (leaf _ (symbol name)) (more e none))) rest) = (name, tree (tree_of names e)) ∷ binding_trees names rest
  binding_trees names _ = []

-- ---- definitions

-- parameters stand for their arguments
abbrev pub bound_trees : List Parameter → List Tree → Names
bound_trees [] args = []
bound_trees (p ∷ params) [] = []
bound_trees (p ∷ params) (t ∷ args) = (p.name, tree t) ∷ bound_trees params args

abbrev pub definition : Names → List Parameter → Sexp → Known
definition names params body = function (λ at args. tree_of (bound_trees params args ++ names) body)

-- `sqrt`, a function of one Real
abbrev pub sqrt_name : List ℕ
sqrt_name = codes "sqrt"

abbrev pub sqrt_tree : Place → List Tree → Tree
sqrt_tree at (t ∷ []) = root at t
sqrt_tree at ts = formless at

-- what names stand for before the first command
abbrev pub theory_names : Names
theory_names = (sqrt_name, function sqrt_tree) ∷ []
