-- The clauses of a form name what the problem has, and helpers that there are.
use Rattle.std.proofs.Common.{◌≡◌, refl, ℕ, zero, suc, ◌<◌, List, [], ◌∷◌, length, Bool, true, false, cond, IsTrue, Option, Some, None, nat_lt, ltb→lt, arith}
use Rattle.std.specs.Prelude.{slice_get, All}
use Rattle.std.specs.List.{list_all}
use Rattle.std.specs.Bool.{passes}
use Rattle.std.proofs.lemmas.List.Elements.{All-append}
use Rattle.std.proofs.lemmas.Option.{slice_get_within}
use Rattle.dyadic.proofs.Equal.{both_true}
use Rattle.poly_graph.specs.FormGraph.{FormNode, yes_node, no_node, atom_node, bool_node, all_node, any_node, forms_in_order}
use Rattle.poly_graph.specs.ProblemViews.{Parts}
use Rattle.clause_search.specs.declared.literal.Variable.{Variable}
use Rattle.clause_search.specs.declared.literal.Variable.TheVariants.{Atom, BoolIs, Helper}
use Rattle.clause_search.specs.declared.literal.Literal.{Literal}
use Rattle.clause_search.specs.Clauses.{IsVariableOf}
use Rattle.clause_search.specs.Encoding.{is_bool_axis, variable_in, variable_at, literal, literals_at, pairs_at, clauses_in, clauses_at, first_clauses, encoding}
use Rattle.clause_search.proofs.Order.{after_children}
use Rattle.clause_search.proofs.Sorts.{test_sorts}

each-none : {X : Type 0} (P : X → Type 0) → All P []
each-none P k d l = absurd (omega arith)

each-more : {X : Type 0} (P : X → Type 0) (x : X) (xs : List X) → P x → All P xs → All P (x ∷ xs)
each-more P x xs h f zero d l = h
each-more P x xs h f (suc k) d l = f k d (omega arith)

module _ (p : Parts) (ordered : IsTrue (forms_in_order 0 p.forms)) where
  abbrev Named : Literal → Type 0
  Named l = IsVariableOf p (length p.forms) l.variable

  abbrev AllNamed : List Literal → Type 0
  AllNamed clause = All Named clause

  variable-named : (k : ℕ) → k < length p.forms → (o : Option FormNode) → IsVariableOf p (length p.forms) (variable_in p k o)
  variable-named k h None = h
  variable-named k h (Some yes_node) = h
  variable-named k h (Some no_node) = h
  variable-named k h (Some (all_node ks)) = h
  variable-named k h (Some (any_node ks)) = h
  variable-named k h (Some (atom_node j)) = by-test (nat_lt j (length p.atoms)) refl
    where
      by-test : (b : Bool) → nat_lt j (length p.atoms) ≡ b → IsVariableOf p (length p.forms) (cond b (Atom j) (Helper k))
      by-test true e = ltb→lt j (length p.atoms) (passes _ e)
      by-test false e = h
  variable-named k h (Some (bool_node i v)) = by-test (is_bool_axis p.axes i) refl
    where
      by-test : (b : Bool) → is_bool_axis p.axes i ≡ b → IsVariableOf p (length p.forms) (cond b (BoolIs i v) (Helper k))
      by-test true e = test_sorts p.axes i e
      by-test false e = h

  pub named_at : (k : ℕ) → k < length p.forms → IsVariableOf p (length p.forms) (variable_at p k)
  named_at k h = variable-named k h (slice_get p.forms k)

  literals-named : (positive : Bool) (ks : List ℕ) (k : ℕ) → k < length p.forms → IsTrue (list_all (λ c. nat_lt c k) ks) → AllNamed (literals_at p positive ks)
  literals-named positive [] k l h = each-none Named
  literals-named positive (c ∷ ks) k l h =
      let e = both_true (nat_lt c k) (list_all (λ c. nat_lt c k) ks) h in
      let low : c < k = ltb→lt c k (passes _ e.0) in
      each-more Named (literal (variable_at p c) positive) (literals_at p positive ks) (named_at c (omega arith)) (literals-named positive ks k l e.1)

  pairs-named : (first : Literal) (positive : Bool) (ks : List ℕ) (k : ℕ) → Named first → k < length p.forms → IsTrue (list_all (λ c. nat_lt c k) ks) → All AllNamed (pairs_at p first positive ks)
  pairs-named first positive [] k f l h = each-none AllNamed
  pairs-named first positive (c ∷ ks) k f l h =
      let e = both_true (nat_lt c k) (list_all (λ c. nat_lt c k) ks) h in
      let low : c < k = ltb→lt c k (passes _ e.0) in
      each-more AllNamed (first ∷ (literal (variable_at p c) positive ∷ [])) (pairs_at p first positive ks)
      (each-more Named first (literal (variable_at p c) positive ∷ []) f (each-more Named (literal (variable_at p c) positive) [] (named_at c (omega arith)) (each-none Named)))
      (pairs-named first positive ks k f l e.1)

  one : (clause : List Literal) → AllNamed clause → All AllNamed (clause ∷ [])
  one clause h = each-more AllNamed clause [] h (each-none AllNamed)

  unit : (v : Variable) (positive : Bool) → IsVariableOf p (length p.forms) v → All AllNamed ((literal v positive ∷ []) ∷ [])
  unit v positive h = one (literal v positive ∷ []) (each-more Named (literal v positive) [] h (each-none Named))

  node-named : (k : ℕ) (o : Option FormNode) → slice_get p.forms k ≡ o → All AllNamed (clauses_in p k o)
  node-named k None e = each-none AllNamed
  node-named k (Some yes_node) e = unit (Helper k) true (slice_get_within p.forms k yes_node e)
  node-named k (Some no_node) e = unit (Helper k) false (slice_get_within p.forms k no_node e)
  node-named k (Some (atom_node j)) e = each-none AllNamed
  node-named k (Some (bool_node i v)) e = each-none AllNamed
  node-named k (Some (all_node ks)) e =
      let l : k < length p.forms = slice_get_within p.forms k (all_node ks) e in
      let low : IsTrue (list_all (λ c. nat_lt c k) ks) = after_children p.forms k (all_node ks) ordered e in
      All-append AllNamed (pairs_at p (literal (Helper k) false) true ks) ((literal (Helper k) true ∷ literals_at p false ks) ∷ []) (pairs-named (literal (Helper k) false) true ks k l l low)
      (one (literal (Helper k) true ∷ literals_at p false ks) (each-more Named (literal (Helper k) true) (literals_at p false ks) l (literals-named false ks k l low)))
  node-named k (Some (any_node ks)) e =
      let l : k < length p.forms = slice_get_within p.forms k (any_node ks) e in
      let low : IsTrue (list_all (λ c. nat_lt c k) ks) = after_children p.forms k (any_node ks) ordered e in
      All-append AllNamed (pairs_at p (literal (Helper k) true) false ks) ((literal (Helper k) false ∷ literals_at p true ks) ∷ []) (pairs-named (literal (Helper k) true) false ks k l l low)
      (one (literal (Helper k) false ∷ literals_at p true ks) (each-more Named (literal (Helper k) false) (literals_at p true ks) l (literals-named true ks k l low)))

  first-named : (n : ℕ) → All AllNamed (first_clauses p n)
  first-named zero = each-none AllNamed
  first-named (suc n) = All-append AllNamed (first_clauses p n) (clauses_at p n) (first-named n) (node-named n (slice_get p.forms n) refl)

  pub encoding_named : p.root < length p.forms → All (λ (clause : List Literal). All (λ (l : Literal). IsVariableOf p (length p.forms) l.variable) clause) (encoding p)
  encoding_named l = All-append AllNamed (first_clauses p (length p.forms)) ((literal (variable_at p p.root) true ∷ []) ∷ []) (first-named (length p.forms)) (unit (variable_at p p.root) true (named_at p.root l))
