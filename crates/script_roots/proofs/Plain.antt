-- The tree of an expression means what the expression means.
use Rattle.std.proofs.Common.{◌≡◌, ℕ, List, [], ◌∷◌, ◌++◌, map, Bool, true, false, cond, codes, Option, Some, None, bytes_eq, refl, ap, ap₂, sym, ◌∙◌, subst}
use Rattle.std.proofs.lemmas.Slice.Eq.{bytes_eq-Decides}
use Rattle.dyadic.specs.Fraction.{Fraction}
use Rattle.script_model.specs.Sexp.{Place, Leaf, numeral, decimal, symbol, reserved, Sexp, leaf, group, Sexps, none, more, bang, let_word}
use Rattle.script_model.specs.Reading.{Reason, malformed, unknown, reserved_reason, bound_names, let_meaning, Operator, truth, disjunction, at_most_op, divide, operators, found, literal_value, Meanings, Named, value, function, Names, meaning, group_meaning, meanings, binding_meanings, values_bound, leaf_meaning, name_meaning, application, value_named, call_named, bare_named, Label}
use Rattle.script_model.specs.Meaning.{from_left}
use Rattle.script_model.specs.Script.{Command, declare, define, claim, minimize, check, ineffective, Parameter, Constant, constants_of, bound_to, defined, claims}
use Rattle.script_roots.specs.Tree as tree
use Rattle.script_roots.specs.Tree.{Tree, atomic, applied, quotient, Trees, no_trees, more_trees, trees_of, Known, is_number, are_numbers, divide_two, divided, operator_tree, name_tree, symbol_tree, leaf_tree, call_tree, application_tree, let_tree, tree_of, group_tree, all_trees, binding_trees, bound_trees, definition}
use Rattle.script_roots.specs.Fresh.{Asserted, asserted_from}
use Rattle.script_roots.specs.Laws.{tree_meaning, trees_meaning}

-- a meaning of which places, names alone, annotations, `let` and calls change nothing, and that has one meaning for all that has none
pub record IsTransparent {V : Type 0} (M : Meanings V) : Type 0 where
  pub literal : (at at' : Place) (q : Fraction) → M.literal at q ≡ M.literal at' q
  pub named : (at : Place) (v : V) → M.named at v ≡ v
  pub annotated : (at : Place) (v : V) → M.annotated at v ≡ v
  pub apply : (at at' : Place) (op : Operator) (vs : List V) → M.apply at op vs ≡ M.apply at' op vs
  pub bind : (at : Place) (names : List Label) (vs : List V) (v : V) → M.bind at names vs v ≡ v
  pub call : (at : Place) (vs : List V) (v : V) → M.call at vs v ≡ v
  pub nothing : (at at' : Place) (why why' : Reason) → M.nothing at why ≡ M.nothing at' why'
  -- by several divisors from left to right
  pub divides : (at : Place) (v w : V) (ws : List V) → M.apply at divide (v ∷ w ∷ ws) ≡ from_left (λ a b. M.apply at divide (a ∷ b ∷ [])) v (w ∷ ws)

pub same_name : (x y : List ℕ) → bytes_eq x y ≡ true → x ≡ y
same_name x y h = (bytes_eq-Decides x y).0 h

pub itself : (x : List ℕ) → bytes_eq x x ≡ true
itself x = (bytes_eq-Decides x x).1 refl

-- each of these constants that is no operator's name has its value under these names, and what is unknown has none
abbrev pub AreKnown : {V : Type 0} → Names V → List Constant → List V → Type 0
AreKnown C [] vs = Unit {0}
AreKnown C (c ∷ constants) [] = (found c.name operators ≡ None → found c.name C ≡ None) × AreKnown C constants []
AreKnown C (c ∷ constants) (v ∷ vs) = (found c.name operators ≡ None → found c.name C ≡ Some (value v)) × AreKnown C constants vs

-- what a goal's claim means, where the goal means v
abbrev pub goal_means : {V : Type 0} → Meanings V → Place → V → V
goal_means M at v = M.apply at disjunction (M.apply at at_most_op (v ∷ M.literal at (literal_value (codes "0") []) ∷ []) ∷ M.apply at truth [] ∷ [])

-- what an assertion or a goal means, where its tree means v
abbrev pub asserted_means : {V : Type 0} → Meanings V → Asserted → V → V
asserted_means M a v = cond a.is_goal (goal_means M a.at v) v

module _ {V : Type 0} (M : Meanings V) (T : IsTransparent M) (g : V → V) (C : Names V) where
  abbrev Of : Tree → V
  Of t = tree_meaning M g C t

  abbrev OfAll : List Tree → List V
  OfAll ts = trees_meaning M g C (trees_of ts)

  -- ---- names

  -- the value is the tree's, and the function gives what the function of trees gives, wherever it is called
  abbrev pub IsAs : Named V → Known → Type 0
  IsAs (value v) (tree.tree t) = v ≡ tree_meaning M g C t
  IsAs (function f) (tree.function h) = (at : Place) (ts : List Tree) → f (trees_meaning M g C (trees_of ts)) ≡ tree_meaning M g C (h at ts)
  IsAs _ _ = ⊥

  -- a function of trees is unknown where it gives what has no meaning
  abbrev pub IsAsFound : Option (Named V) → Option Known → Type 0
  IsAsFound None None = Unit {0}
  IsAsFound (Some n) (Some k) = IsAs n k
  IsAsFound None (Some (tree.function h)) = (at : Place) (ts : List Tree) → M.nothing at malformed ≡ tree_meaning M g C (h at ts)
  IsAsFound _ _ = ⊥

  -- what a name stands for here and there, if it is no operator
  abbrev pub AreAs : Names V → tree.Names → Type 0
  AreAs names trees = (x : List ℕ) → found x operators ≡ None → IsAsFound (found x names) (found x trees)

  first-as : (x y : List ℕ) (b : Bool) → bytes_eq x y ≡ b → found x operators ≡ None → (n : Named V) (k : Known) → (found y operators ≡ None → IsAs n k) →
      (ns : Option (Named V)) (ks : Option Known) → IsAsFound ns ks → IsAsFound (cond b (Some n) ns) (cond b (Some k) ks)
  first-as x y true e o n k h ns ks r = h (subst (λ z. found z operators ≡ None) (same_name x y e) o)
  first-as x y false e o n k h ns ks r = r

  pub more_as : (y : List ℕ) (n : Named V) (k : Known) (names : Names V) (trees : tree.Names) → (found y operators ≡ None → IsAs n k) → AreAs names trees →
      AreAs ((y, n) ∷ names) ((y, k) ∷ trees)
  more_as y n k names trees h r x o = first-as x y (bytes_eq x y) refl o n k h (found x names) (found x trees) (r x o)

  value-as : (at : Place) (name : List ℕ) (n : Option (Named V)) (k : Option Known) → IsAsFound n k → value_named M at name n ≡ Of (name_tree at k)
  value-as at name None None h = T.nothing at at (unknown name) malformed
  value-as at name (Some (value v)) (Some (tree.tree t)) h = T.named at v ∙ h
  value-as at name (Some (function f)) (Some (tree.function k)) h = T.call at [] (f []) ∙ h at []
  value-as at name None (Some (tree.function k)) h = T.nothing at at (unknown name) malformed ∙ h at []
  value-as at name (Some (value v)) (Some (tree.function k)) h = elim h [ ]
  value-as at name (Some (function f)) (Some (tree.tree t)) h = elim h [ ]
  value-as at name None (Some (tree.tree t)) h = elim h [ ]
  value-as at name (Some n) None h = elim h [ ]

  call-as : (at : Place) (name : List ℕ) (n : Option (Named V)) (k : Option Known) (t : Tree) (ts : List Tree) → IsAsFound n k →
      call_named M at name n (OfAll (t ∷ ts)) ≡ Of (call_tree at k (t ∷ ts))
  call-as at name None None t ts h = T.nothing at at (unknown name) malformed
  call-as at name (Some (value v)) (Some (tree.tree u)) t ts h = T.call at (OfAll (t ∷ ts)) (M.nothing at malformed)
  call-as at name (Some (function f)) (Some (tree.function k)) t ts h = T.call at (OfAll (t ∷ ts)) (f (OfAll (t ∷ ts))) ∙ h at (t ∷ ts)
  call-as at name None (Some (tree.function k)) t ts h = T.nothing at at (unknown name) malformed ∙ h at (t ∷ ts)
  call-as at name (Some (value v)) (Some (tree.function k)) t ts h = elim h [ ]
  call-as at name (Some (function f)) (Some (tree.tree u)) t ts h = elim h [ ]
  call-as at name None (Some (tree.tree u)) t ts h = elim h [ ]
  call-as at name (Some n) None t ts h = elim h [ ]

  bare-as : (at : Place) (name : List ℕ) (n : Option (Named V)) → bare_named M at name n ≡ M.nothing at malformed
  bare-as at name None = T.nothing at at (unknown name) malformed
  bare-as at name (Some n) = refl

  -- ---- operators

  applied-as : (at : Place) (name : List ℕ) (op : Operator) (t : Tree) (ts : Trees) → found name operators ≡ Some op →
      Of (applied at name (more_trees t ts)) ≡ M.apply at op (Of t ∷ trees_meaning M g C ts)
  applied-as at name op t ts e = ap (λ o. application M C at name o (Of t ∷ trees_meaning M g C ts)) e

  two-as : (at : Place) (name : List ℕ) (t d : Tree) (b : Bool) → found name operators ≡ Some divide →
      Of (cond b (applied at name (more_trees t (more_trees d no_trees))) (quotient at t d)) ≡ M.apply at divide (Of t ∷ Of d ∷ [])
  two-as at name t d true e = applied-as at name divide t (more_trees d no_trees) e
  two-as at name t d false e = refl

  each-divisor : (at : Place) (name : List ℕ) → found name operators ≡ Some divide → (t : Tree) (ds : List Tree) →
      Of (from_left (divide_two at name) t ds) ≡ from_left (λ a b. M.apply at divide (a ∷ b ∷ [])) (Of t) (OfAll ds)
  each-divisor at name e t [] = refl
  each-divisor at name e t (d ∷ ds) = each-divisor at name e (divide_two at name t d) ds ∙
      ap (λ v. from_left (λ a b. M.apply at divide (a ∷ b ∷ [])) v (OfAll ds)) (two-as at name t d (is_number d) e)

  either-way : (at : Place) (name : List ℕ) → found name operators ≡ Some divide → (t d : Tree) (ds : List Tree) (b : Bool) →
      Of (cond b (applied at name (trees_of (t ∷ d ∷ ds))) (from_left (divide_two at name) t (d ∷ ds))) ≡ M.apply at divide (OfAll (t ∷ d ∷ ds))
  either-way at name e t d ds true = applied-as at name divide t (trees_of (d ∷ ds)) e
  either-way at name e t d ds false = each-divisor at name e t (d ∷ ds) ∙ sym (T.divides at (Of t) (Of d) (OfAll ds))

  divided-as : (at : Place) (name : List ℕ) → found name operators ≡ Some divide → (t : Tree) (ds : List Tree) →
      Of (divided at name (t ∷ ds)) ≡ M.apply at divide (OfAll (t ∷ ds))
  divided-as at name e t [] = applied-as at name divide t no_trees e
  divided-as at name e t (d ∷ ds) = either-way at name e t d ds (are_numbers (trees_of (d ∷ ds)))

  operator-as : (at : Place) (name : List ℕ) (op : Operator) → found name operators ≡ Some op → (t : Tree) (ts : List Tree) →
      Of (operator_tree at name op (t ∷ ts)) ≡ M.apply at op (OfAll (t ∷ ts))
  operator-as at name divide e t ts = divided-as at name e t ts
  operator-as at name op e t ts = applied-as at name op t (trees_of ts) e

  -- ---- expressions

  name-as : (names : Names V) (trees : tree.Names) → AreAs names trees → (at : Place) (name : List ℕ) (op : Option Operator) → found name operators ≡ op →
      name_meaning M names at name op ≡ Of (symbol_tree trees at name op)
  name-as names trees h at name (Some op) e = sym (ap (λ o. name_meaning M C at name o) e)
  name-as names trees h at name None e = value-as at name (found name names) (found name trees) (h name e)

  leaf-as : (names : Names V) (trees : tree.Names) → AreAs names trees → (at : Place) (l : Leaf) → leaf_meaning M names at l ≡ Of (leaf_tree trees at l)
  leaf-as names trees h at (numeral digits) = refl
  leaf-as names trees h at (decimal digits decimals) = refl
  leaf-as names trees h at (symbol name) = name-as names trees h at name (found name operators) refl
  leaf-as names trees h at _ = refl

  application-as : (names : Names V) (trees : tree.Names) → AreAs names trees → (at : Place) (name : List ℕ) (op : Option Operator) → found name operators ≡ op →
      (ts : List Tree) → application M names at name op (OfAll ts) ≡ Of (application_tree trees at name op ts)
  application-as names trees h at name (Some op) e [] = refl
  application-as names trees h at name (Some op) e (t ∷ ts) = sym (operator-as at name op e t ts)
  application-as names trees h at name None e [] = bare-as at name (found name names)
  application-as names trees h at name None e (t ∷ ts) = call-as at name (found name names) (found name trees) t ts (h name e)

  let-as : (at : Place) (o : Option (List Label)) (vs : List V) (v : V) (t : Tree) → v ≡ Of t → let_meaning M at o vs v ≡ Of (let_tree at o t)
  let-as at (Some (name ∷ names)) vs v t h = T.bind at (name ∷ names) vs v ∙ h
  let-as at (Some []) vs v t h = refl
  let-as at None vs v t h = refl

  mutual
    pub tree_means : (names : Names V) (trees : tree.Names) → AreAs names trees → (e : Sexp) → meaning M names e ≡ tree_meaning M g C (tree_of trees e)
    tree_means names trees h (leaf at l) = leaf-as names trees h at l
    tree_means names trees h (group at items) = group-as names trees h at items

    group-as : (names : Names V) (trees : tree.Names) → AreAs names trees → (at : Place) (items : Sexps) →
        group_meaning M names at items ≡ tree_meaning M g C (group_tree trees at items)
    group-as names trees h at (more (leaf _ (reserved let_word)) (more (group _ bindings) (more body none))) =
        let-as at (bound_names bindings) (values_bound (binding_meanings M names bindings)) (meaning M (binding_meanings M names bindings ++ names) body)
        (tree_of (binding_trees trees bindings ++ trees) body)
        (tree_means (binding_meanings M names bindings ++ names) (binding_trees trees bindings ++ trees) (bindings-as names trees h bindings) body)
    group-as names trees h at (more (leaf _ (reserved bang)) (more e attributes)) = T.annotated at (meaning M names e) ∙ tree_means names trees h e
    group-as names trees h at (more (leaf _ (reserved word)) args) = T.nothing at at (reserved_reason word) malformed
    group-as names trees h at (more (leaf _ (symbol name)) args) =
        ap (λ vs. application M names at name (found name operators) vs) (all-as names trees h args) ∙
        application-as names trees h at name (found name operators) refl (all_trees trees args)
    group-as names trees h at _ = refl

    all-as : (names : Names V) (trees : tree.Names) → AreAs names trees → (es : Sexps) → meanings M names es ≡ trees_meaning M g C (trees_of (all_trees trees es))
    all-as names trees h none = refl
    all-as names trees h (more e rest) = ap₂ (λ v vs. v ∷ vs) (tree_means names trees h e) (all-as names trees h rest)

    bindings-as : (names : Names V) (trees : tree.Names) → AreAs names trees → (es : Sexps) → AreAs (binding_meanings M names es ++ names) (binding_trees trees es ++ trees)
    bindings-as names trees h (more (group _ (more (leaf _ (symbol name)) (more e none))) rest) =
        more_as name (value (meaning M names e)) (tree.tree (tree_of trees e)) (binding_meanings M names rest ++ names) (binding_trees trees rest ++ trees)
        (λ o. tree_means names trees h e) (bindings-as names trees h rest)
    bindings-as names trees h _ = h

  -- ---- scripts

  arguments-as : (names : Names V) (trees : tree.Names) → AreAs names trees → (params : List Parameter) (ts : List Tree) →
      AreAs (bound_to params (OfAll ts) ++ names) (bound_trees params ts ++ trees)
  arguments-as names trees h [] ts = h
  arguments-as names trees h (p ∷ params) [] = h
  arguments-as names trees h (p ∷ params) (t ∷ ts) =
      more_as p.name (value (Of t)) (tree.tree t) (bound_to params (OfAll ts) ++ names) (bound_trees params ts ++ trees) (λ o. refl) (arguments-as names trees h params ts)

  definition-as : (names : Names V) (trees : tree.Names) → AreAs names trees → (params : List Parameter) (body : Sexp) →
      IsAs (defined M names params body) (definition trees params body)
  definition-as names trees h params body at ts =
      tree_means (bound_to params (OfAll ts) ++ names) (bound_trees params ts ++ trees) (arguments-as names trees h params ts) body

  abbrev pub assertion_means : Asserted → V
  assertion_means a = asserted_means M a (tree_meaning M g C a.tree)

  constant-as : (at : Place) (x : List ℕ) (v : V) → (found x operators ≡ None → found x C ≡ Some (value v)) → found x operators ≡ None → v ≡ Of (atomic at (symbol x))
  constant-as at x v h o = sym (ap (λ p. name_meaning M C at x p) o ∙ ap (λ n. value_named M at x n) (h o) ∙ T.named at v)

  unknown-as : (at : Place) (x : List ℕ) → (found x operators ≡ None → found x C ≡ None) → found x operators ≡ None → M.nothing at (unknown x) ≡ Of (atomic at (symbol x))
  unknown-as at x h o = sym (ap (λ p. name_meaning M C at x p) o ∙ ap (λ n. value_named M at x n) (h o))

  -- the assertions of a script mean what their trees mean
  pub claims_mean : (names : Names V) (trees : tree.Names) → AreAs names trees → (vs : List V) (script : List Command) → AreKnown C (constants_of script) vs →
      claims M names vs script ≡ map assertion_means (asserted_from trees script)
  claims_mean names trees h vs [] k = refl
  claims_mean names trees h [] (declare at x sort ∷ rest) k =
      claims_mean ((x, value (M.nothing at (unknown x))) ∷ names) ((x, tree.tree (atomic at (symbol x))) ∷ trees)
      (more_as x (value (M.nothing at (unknown x))) (tree.tree (atomic at (symbol x))) names trees (unknown-as at x k.0) h) [] rest k.1
  claims_mean names trees h (v ∷ vs) (declare at x sort ∷ rest) k =
      claims_mean ((x, value v) ∷ names) ((x, tree.tree (atomic at (symbol x))) ∷ trees)
      (more_as x (value v) (tree.tree (atomic at (symbol x))) names trees (constant-as at x v k.0) h) vs rest k.1
  claims_mean names trees h vs (define at f params sort body ∷ rest) k =
      claims_mean ((f, defined M names params body) ∷ names) ((f, definition trees params body) ∷ trees)
      (more_as f (defined M names params body) (definition trees params body) names trees (λ o. definition-as names trees h params body) h) vs rest k
  claims_mean names trees h vs (claim at e ∷ rest) k = ap₂ (λ v ws. v ∷ ws) (tree_means names trees h e) (claims_mean names trees h vs rest k)
  claims_mean names trees h vs (minimize at t ∷ rest) k = ap₂ (λ v ws. goal_means M at v ∷ ws) (tree_means names trees h t) (claims_mean names trees h vs rest k)
  claims_mean names trees h vs (check at ∷ rest) k = claims_mean names trees h vs rest k
  claims_mean names trees h vs (ineffective at ∷ rest) k = claims_mean names trees h vs rest k
