-- What holds of each tree that an expression can be holds of the trees of a script's assertions.
use Rattle.std.proofs.Common.{◌≡◌, ℕ, List, [], ◌∷◌, ◌++◌, Bool, true, false, cond, Option, Some, None, bytes_eq, refl}
use Rattle.std.specs.List.{AllByRecursion}
use Rattle.script_model.specs.Sexp.{Place, Leaf, numeral, decimal, symbol, reserved, string, keyword, Sexp, leaf, group, Sexps, none, more, bang, let_word}
use Rattle.script_model.specs.Reading.{Operator, divide, operators, found, bound_names, Label}
use Rattle.script_model.specs.Meaning.{from_left}
use Rattle.script_model.specs.Script.{Command, declare, define, claim, minimize, check, ineffective, Parameter, Constant, constants_of}
use Rattle.script_roots.specs.Tree as tree
use Rattle.script_roots.specs.Tree.{Tree, atomic, applied, root, quotient, formless, no_trees, more_trees, trees_of, Known, is_number, are_numbers, divide_two, operator_tree, name_tree, symbol_tree, leaf_tree, call_tree, application_tree, let_tree, tree_of, group_tree, all_trees, binding_trees, bound_trees, definition, sqrt_tree, theory_names}
use Rattle.script_roots.specs.Fresh.{Asserted, asserted_from, asserted}

-- what an expression can be, besides a declared constant
pub record IsKept (P : Tree → Type 0) : Type 0 where
  pub numeral : (at : Place) (digits : List ℕ) → P (atomic at (numeral digits))
  pub decimal : (at : Place) (digits decimals : List ℕ) → P (atomic at (decimal digits decimals))
  pub operator : (at : Place) (name : List ℕ) (op : Operator) → found name operators ≡ Some op → P (atomic at (symbol name))
  pub applied : (at : Place) (name : List ℕ) (op : Operator) → found name operators ≡ Some op → (ts : List Tree) → AllByRecursion P ts → P (applied at name (trees_of ts))
  pub root : (at : Place) (t : Tree) → P t → P (root at t)
  pub quotient : (at : Place) (t d : Tree) → P t → P d → P (quotient at t d)
  pub formless : (at : Place) → P (formless at)

module _ (P : Tree → Type 0) (K : IsKept P) where
  abbrev All : List Tree → Type 0
  All ts = AllByRecursion P ts

  abbrev KeptName : Known → Type 0
  KeptName (tree.tree t) = P t
  KeptName (tree.function h) = (at : Place) (ts : List Tree) → AllByRecursion P ts → P (h at ts)

  abbrev KeptNames : tree.Names → Type 0
  KeptNames [] = Unit {0}
  KeptNames (entry ∷ rest) = KeptName entry.1 × KeptNames rest

  abbrev KeptFound : Option Known → Type 0
  KeptFound None = Unit {0}
  KeptFound (Some k) = KeptName k

  first-kept : (b : Bool) (k : Known) (o : Option Known) → KeptName k → KeptFound o → KeptFound (cond b (Some k) o)
  first-kept true k o h r = h
  first-kept false k o h r = r

  found-kept : (x : List ℕ) (names : tree.Names) → KeptNames names → KeptFound (found x names)
  found-kept x [] h = tt
  found-kept x (entry ∷ rest) h = first-kept (bytes_eq x entry.0) entry.1 (found x rest) h.0 (found-kept x rest h.1)

  name-kept : (at : Place) (k : Option Known) → KeptFound k → P (name_tree at k)
  name-kept at None h = K.formless at
  name-kept at (Some (tree.tree t)) h = h
  name-kept at (Some (tree.function f)) h = h at [] tt

  symbol-kept : (names : tree.Names) → KeptNames names → (at : Place) (name : List ℕ) (op : Option Operator) → found name operators ≡ op → P (symbol_tree names at name op)
  symbol-kept names h at name (Some op) e = K.operator at name op e
  symbol-kept names h at name None e = name-kept at (found name names) (found-kept name names h)

  leaf-kept : (names : tree.Names) → KeptNames names → (at : Place) (l : Leaf) → P (leaf_tree names at l)
  leaf-kept names h at (numeral digits) = K.numeral at digits
  leaf-kept names h at (decimal digits decimals) = K.decimal at digits decimals
  leaf-kept names h at (symbol name) = symbol-kept names h at name (found name operators) refl
  leaf-kept names h at (reserved word) = K.formless at
  leaf-kept names h at (string text) = K.formless at
  leaf-kept names h at (keyword text) = K.formless at

  two-kept : (at : Place) (name : List ℕ) → found name operators ≡ Some divide → (t d : Tree) (b : Bool) → P t → P d →
      P (cond b (applied at name (more_trees t (more_trees d no_trees))) (quotient at t d))
  two-kept at name e t d true h k = K.applied at name divide e (t ∷ d ∷ []) (h, (k, tt))
  two-kept at name e t d false h k = K.quotient at t d h k

  each-divisor : (at : Place) (name : List ℕ) → found name operators ≡ Some divide → (t : Tree) (ds : List Tree) → P t → All ds → P (from_left (divide_two at name) t ds)
  each-divisor at name e t [] h k = h
  each-divisor at name e t (d ∷ ds) h k = each-divisor at name e (divide_two at name t d) ds (two-kept at name e t d (is_number d) h k.0) k.1

  either-way : (at : Place) (name : List ℕ) → found name operators ≡ Some divide → (t : Tree) (ds : List Tree) (b : Bool) → P t → All ds →
      P (cond b (applied at name (trees_of (t ∷ ds))) (from_left (divide_two at name) t ds))
  either-way at name e t ds true h k = K.applied at name divide e (t ∷ ds) (h, k)
  either-way at name e t ds false h k = each-divisor at name e t ds h k

  operator-kept : (at : Place) (name : List ℕ) (op : Operator) → found name operators ≡ Some op → (t : Tree) (ts : List Tree) → P t → All ts → P (operator_tree at name op (t ∷ ts))
  operator-kept at name divide e t ts h k = either-way at name e t ts (are_numbers (trees_of ts)) h k
  operator-kept at name op e t ts h k = K.applied at name op e (t ∷ ts) (h, k)

  call-kept : (at : Place) (k : Option Known) (ts : List Tree) → KeptFound k → All ts → P (call_tree at k ts)
  call-kept at (Some (tree.function f)) ts h k = h at ts k
  call-kept at (Some (tree.tree t)) ts h k = K.formless at
  call-kept at None ts h k = K.formless at

  application-kept : (names : tree.Names) → KeptNames names → (at : Place) (name : List ℕ) (op : Option Operator) → found name operators ≡ op → (ts : List Tree) → All ts →
      P (application_tree names at name op ts)
  application-kept names h at name (Some op) e [] k = K.formless at
  application-kept names h at name None e [] k = K.formless at
  application-kept names h at name (Some op) e (t ∷ ts) k = operator-kept at name op e t ts k.0 k.1
  application-kept names h at name None e (t ∷ ts) k = call-kept at (found name names) (t ∷ ts) (found-kept name names h) k

  let-kept : (at : Place) (o : Option (List Label)) (t : Tree) → P t → P (let_tree at o t)
  let-kept at (Some (name ∷ names)) t h = h
  let-kept at (Some []) t h = K.formless at
  let-kept at None t h = K.formless at

  mutual
    tree-kept : (names : tree.Names) → KeptNames names → (e : Sexp) → P (tree_of names e)
    tree-kept names h (leaf at l) = leaf-kept names h at l
    tree-kept names h (group at items) = group-kept names h at items

    group-kept : (names : tree.Names) → KeptNames names → (at : Place) (items : Sexps) → P (group_tree names at items)
    group-kept names h at (more (leaf _ (reserved let_word)) (more (group _ bindings) (more body none))) =
        let-kept at (bound_names bindings) (tree_of (binding_trees names bindings ++ names) body)
        (tree-kept (binding_trees names bindings ++ names) (bindings-kept names h bindings) body)
    group-kept names h at (more (leaf _ (reserved bang)) (more e attributes)) = tree-kept names h e
    group-kept names h at (more (leaf _ (reserved word)) args) = K.formless at
    group-kept names h at (more (leaf _ (symbol name)) args) =
        application-kept names h at name (found name operators) refl (all_trees names args) (all-trees-kept names h args)
    group-kept names h at _ = K.formless at

    all-trees-kept : (names : tree.Names) → KeptNames names → (es : Sexps) → AllByRecursion P (all_trees names es)
    all-trees-kept names h none = tt
    all-trees-kept names h (more e rest) = (tree-kept names h e, all-trees-kept names h rest)

    bindings-kept : (names : tree.Names) → KeptNames names → (es : Sexps) → KeptNames (binding_trees names es ++ names)
    bindings-kept names h (more (group _ (more (leaf _ (symbol name)) (more e none))) rest) = (tree-kept names h e, bindings-kept names h rest)
    bindings-kept names h _ = h

  arguments-kept : (names : tree.Names) → KeptNames names → (params : List Parameter) (ts : List Tree) → All ts → KeptNames (bound_trees params ts ++ names)
  arguments-kept names h [] ts k = h
  arguments-kept names h (p ∷ params) [] k = h
  arguments-kept names h (p ∷ params) (t ∷ ts) k = (k.0, arguments-kept names h params ts k.1)

  -- a constant, wherever it is declared
  abbrev pub IsKeptConstant : Constant → Type 0
  IsKeptConstant c = (at : Place) → P (atomic at (symbol c.name))

  from-kept : (names : tree.Names) → KeptNames names → (script : List Command) → AllByRecursion IsKeptConstant (constants_of script) →
      AllByRecursion (λ (a : Asserted). P a.tree) (asserted_from names script)
  from-kept names h [] k = tt
  from-kept names h (declare at x sort ∷ rest) k = from-kept ((x, tree.tree (atomic at (symbol x))) ∷ names) (k.0 at, h) rest k.1
  from-kept names h (define at f params sort body ∷ rest) k =
      from-kept ((f, definition names params body) ∷ names)
      ((λ at' ts l. tree-kept (bound_trees params ts ++ names) (arguments-kept names h params ts l) body), h) rest k
  from-kept names h (claim at e ∷ rest) k = (tree-kept names h e, from-kept names h rest k)
  from-kept names h (minimize at t ∷ rest) k = (tree-kept names h t, from-kept names h rest k)
  from-kept names h (check at ∷ rest) k = from-kept names h rest k
  from-kept names h (ineffective at ∷ rest) k = from-kept names h rest k

  root-kept : (at : Place) (ts : List Tree) → All ts → P (sqrt_tree at ts)
  root-kept at (t ∷ []) h = K.root at t h.0
  root-kept at [] h = K.formless at
  root-kept at (t ∷ u ∷ ts) h = K.formless at

  pub asserted_kept : (script : List Command) → AllByRecursion IsKeptConstant (constants_of script) → AllByRecursion (λ (a : Asserted). P a.tree) (asserted script)
  asserted_kept script k = from-kept theory_names (root-kept, tt) script k
