-- The roots and quotients of a script's assertions that become constants of their own.
use Rattle.std.specs.Prelude.{ℕ, suc, List, [], ◌∷◌, ◌++◌, Bool, true, false, cond, not, ◌&&◌, ◌||◌, Option, Some, None, codes}
use Rattle.std.specs.Fmt.{decimal as digits_of}
use Rattle.std.specs.Str.{bytes_eq}
use Rattle.script_model.specs.Sexp.{Place, Leaf, numeral, decimal, symbol, reserved, string, keyword}
use Rattle.script_model.specs.Script.{Command, declare, define, claim, minimize, check, ineffective}
use Rattle.script_roots.specs.Tree.{Tree, atomic, applied, root, quotient, formless, Trees, no_trees, more_trees, Names, tree, definition, tree_of, theory_names, is_number, holds_choice, holds_root}
use Rattle.script_roots.specs.Ranges.{Ranges, avoids_nought, enclosed}

-- ---- the trees of a script

-- an assertion or a goal, with its command's place
pub record Asserted : Type 0 where
  pub at : Place
  pub is_goal : Bool
  pub tree : Tree

-- of commands behind which these names are known
abbrev pub asserted_from : Names → List Command → List Asserted
asserted_from names [] = []
asserted_from names (declare at x sort ∷ rest) = asserted_from ((x, tree (atomic at (symbol x))) ∷ names) rest
asserted_from names (define at f params sort body ∷ rest) = asserted_from ((f, definition names params body) ∷ names) rest
asserted_from names (claim at e ∷ rest) = record { at = at; is_goal = false; tree = tree_of names e } ∷ asserted_from names rest
asserted_from names (minimize at t ∷ rest) = record { at = at; is_goal = true; tree = tree_of names t } ∷ asserted_from names rest
asserted_from names (check at ∷ rest) = asserted_from names rest
asserted_from names (ineffective at ∷ rest) = asserted_from names rest

abbrev pub asserted : List Command → List Asserted
asserted script = asserted_from theory_names script

-- ---- one and the same tree, wherever it stands

abbrev pub same_leaf : Leaf → Leaf → Bool
same_leaf (numeral ds) (numeral es) = bytes_eq ds es
same_leaf (decimal ds fs) (decimal es gs) = bytes_eq ds es && bytes_eq fs gs
same_leaf (symbol x) (symbol y) = bytes_eq x y
-- no terms
same_leaf (reserved _) (reserved _) = true
same_leaf (string _) (string _) = true
same_leaf (keyword _) (keyword _) = true
same_leaf _ _ = false

abbrev mutual
  pub same_tree : Tree → Tree → Bool
  same_tree (atomic _ l) (atomic _ m) = same_leaf l m
  same_tree (applied _ name ts) (applied _ other us) = bytes_eq name other && same_trees ts us
  same_tree (root _ t) (root _ u) = same_tree t u
  same_tree (quotient _ t d) (quotient _ u e) = same_tree t u && same_tree d e
  same_tree (formless _) (formless _) = true
  same_tree _ _ = false

  pub same_trees : Trees → Trees → Bool
  same_trees no_trees no_trees = true
  same_trees (more_trees t ts) (more_trees u us) = same_tree t u && same_trees ts us
  same_trees _ _ = false

-- ---- roots and quotients

-- A constant can stand for a quotient: its divisor is no number, no `ite` stands in it, no root stands in its divisor, and the divisor's values are not 0.
abbrev pub stands_alone : Ranges → Tree → Tree → Bool
stands_alone ranges t d = not (is_number d) && not (holds_choice t) && not (holds_choice d) && not (holds_root d) && avoids_nought (enclosed ranges d)

abbrev mutual
  -- those of a tree in reading order, inner ones first
  pub fresh_in : Ranges → Tree → List Tree
  fresh_in ranges (atomic at l) = []
  fresh_in ranges (applied at name ts) = all_fresh ranges ts
  fresh_in ranges (root at t) = fresh_in ranges t ++ root at t ∷ []
  fresh_in ranges (quotient at t d) = fresh_in ranges t ++ fresh_in ranges d ++ cond (stands_alone ranges t d) (quotient at t d ∷ []) []
  fresh_in ranges (formless at) = []

  pub all_fresh : Ranges → Trees → List Tree
  all_fresh ranges no_trees = []
  all_fresh ranges (more_trees t ts) = fresh_in ranges t ++ all_fresh ranges ts

abbrev pub fresh_of : Ranges → List Asserted → List Tree
fresh_of ranges [] = []
fresh_of ranges (a ∷ rest) = fresh_in ranges a.tree ++ fresh_of ranges rest

abbrev pub has_tree : Tree → List Tree → Bool
has_tree t [] = false
has_tree t (u ∷ rest) = same_tree t u || has_tree t rest

-- each tree once, where it first stands, after those that were seen
abbrev pub once : List Tree → List Tree → List Tree
once seen [] = seen
once seen (t ∷ rest) = once (cond (has_tree t seen) seen (seen ++ t ∷ [])) rest

-- ---- their names

-- A bar comes first, which stands in no name of a script; it is not printed.
abbrev pub root_name : ℕ → List ℕ
root_name k = codes "|sqrt(" ++ digits_of k ++ codes ")"

abbrev pub quotient_name : ℕ → List ℕ
quotient_name k = codes "|quotient(" ++ digits_of k ++ codes ")"

-- the trees for which constants stand, each with the constant's name
abbrev pub Table : Type 0
Table = List (List ℕ × Tree)

-- after so many roots and quotients
abbrev pub named_from : ℕ → ℕ → List Tree → Table
named_from r q [] = []
named_from r q (root at t ∷ rest) = (root_name r, root at t) ∷ named_from (suc r) q rest
named_from r q (t ∷ rest) = (quotient_name q, t) ∷ named_from r (suc q) rest

abbrev pub table_of : Ranges → List Asserted → Table
table_of ranges claims = named_from 0 0 (once [] (fresh_of ranges claims))

-- the name of the constant that stands for a tree
abbrev pub name_for : Table → Tree → Option (List ℕ)
name_for [] t = None
name_for (entry ∷ rest) t = cond (same_tree t entry.1) (Some entry.0) (name_for rest t)

-- ---- what is left out

abbrev pub first_place : Option Place → Option Place → Option Place
first_place (Some at) later = Some at
first_place None later = later

abbrev mutual
  -- the first root in whose argument an `ite` stands
  pub choice_in_root : Tree → Option Place
  choice_in_root (atomic at l) = None
  choice_in_root (applied at name ts) = choice_in_roots ts
  choice_in_root (root at t) = first_place (choice_in_root t) (cond (holds_choice t) (Some at) None)
  choice_in_root (quotient at t d) = first_place (choice_in_root t) (choice_in_root d)
  choice_in_root (formless at) = None

  pub choice_in_roots : Trees → Option Place
  choice_in_roots no_trees = None
  choice_in_roots (more_trees t ts) = first_place (choice_in_root t) (choice_in_roots ts)

abbrev mutual
  -- the first root or quotient
  pub fresh_place : Tree → Option Place
  fresh_place (atomic at l) = None
  fresh_place (applied at name ts) = first_fresh ts
  fresh_place (root at t) = Some at
  fresh_place (quotient at t d) = Some at
  fresh_place (formless at) = None

  pub first_fresh : Trees → Option Place
  first_fresh no_trees = None
  first_fresh (more_trees t ts) = first_place (fresh_place t) (first_fresh ts)

-- a goal holds neither
abbrev pub left_out_in : Asserted → Option Place
left_out_in a = cond a.is_goal (fresh_place a.tree) (choice_in_root a.tree)

abbrev pub left_out_of : List Asserted → Option Place
left_out_of [] = None
left_out_of (a ∷ rest) = first_place (left_out_in a) (left_out_of rest)

-- where the script has a root of an `ite`, or a goal with a root or a quotient
abbrev pub left_out : List Command → Option Place
left_out script = left_out_of (asserted script)
