-- One and the same tree has one meaning.
use Rattle.std.proofs.Common.{◌≡◌, ℕ, List, [], ◌∷◌, true, Option, Some, None, bytes_eq, refl, ap, ap₂, sym, ◌∙◌, true≢false}
use Rattle.script_model.specs.Sexp.{Place, Leaf, numeral, decimal, symbol, reserved, string, keyword}
use Rattle.script_model.specs.Reading.{malformed, unknown, Operator, operators, found, literal_value, Meanings, Named, value, function, Names, name_meaning, leaf_meaning, application, value_named, call_named, bare_named, divide}
use Rattle.script_roots.specs.Tree.{Tree, atomic, applied, root, quotient, formless, Trees, no_trees, more_trees}
use Rattle.script_roots.specs.Fresh.{same_leaf, same_tree, same_trees}
use Rattle.script_roots.specs.Laws.{tree_meaning, trees_meaning}
use Rattle.script_roots.proofs.Plain.{IsTransparent, same_name}
use Rattle.dyadic.proofs.Equal.{both_true}

module _ {V : Type 0} (M : Meanings V) (T : IsTransparent M) (g : V → V) (C : Names V) where
  value-anywhere : (at at' : Place) (name : List ℕ) (n : Option (Named V)) → value_named M at name n ≡ value_named M at' name n
  value-anywhere at at' name (Some (value v)) = T.named at v ∙ sym (T.named at' v)
  value-anywhere at at' name (Some (function f)) = T.call at [] (f []) ∙ sym (T.call at' [] (f []))
  value-anywhere at at' name None = T.nothing at at' (unknown name) (unknown name)

  name-anywhere : (at at' : Place) (name : List ℕ) (op : Option Operator) → name_meaning M C at name op ≡ name_meaning M C at' name op
  name-anywhere at at' name (Some op) = T.apply at at' op []
  name-anywhere at at' name None = value-anywhere at at' name (found name C)

  call-anywhere : (at at' : Place) (name : List ℕ) (n : Option (Named V)) (vs : List V) → call_named M at name n vs ≡ call_named M at' name n vs
  call-anywhere at at' name None vs = T.nothing at at' (unknown name) (unknown name)
  call-anywhere at at' name (Some (function f)) vs = T.call at vs (f vs) ∙ sym (T.call at' vs (f vs))
  call-anywhere at at' name (Some (value v)) vs =
      T.call at vs (M.nothing at malformed) ∙ T.nothing at at' malformed malformed ∙ sym (T.call at' vs (M.nothing at' malformed))

  bare-anywhere : (at at' : Place) (name : List ℕ) (n : Option (Named V)) → bare_named M at name n ≡ bare_named M at' name n
  bare-anywhere at at' name None = T.nothing at at' (unknown name) (unknown name)
  bare-anywhere at at' name (Some n) = T.nothing at at' malformed malformed

  application-anywhere : (at at' : Place) (name : List ℕ) (op : Option Operator) (vs : List V) → application M C at name op vs ≡ application M C at' name op vs
  application-anywhere at at' name (Some op) [] = T.nothing at at' malformed malformed
  application-anywhere at at' name (Some op) (v ∷ vs) = T.apply at at' op (v ∷ vs)
  application-anywhere at at' name None [] = bare-anywhere at at' name (found name C)
  application-anywhere at at' name None (v ∷ vs) = call-anywhere at at' name (found name C) (v ∷ vs)

  same-leaf : (at at' : Place) (l m : Leaf) → same_leaf l m ≡ true → leaf_meaning M C at l ≡ leaf_meaning M C at' m
  same-leaf at at' (numeral ds) (numeral es) h =
      T.literal at at' (literal_value ds []) ∙ ap (λ xs. M.literal at' (literal_value xs [])) (same_name ds es h)
  same-leaf at at' (decimal ds fs) (decimal es gs) h = let k = both_true (bytes_eq ds es) (bytes_eq fs gs) h in
      T.literal at at' (literal_value ds fs) ∙ ap₂ (λ xs ys. M.literal at' (literal_value xs ys)) (same_name ds es k.0) (same_name fs gs k.1)
  same-leaf at at' (symbol x) (symbol y) h =
      name-anywhere at at' x (found x operators) ∙ ap (λ z. name_meaning M C at' z (found z operators)) (same_name x y h)
  same-leaf at at' (reserved w) (reserved v) h = T.nothing at at' malformed malformed
  same-leaf at at' (string s) (string t) h = T.nothing at at' malformed malformed
  same-leaf at at' (keyword s) (keyword t) h = T.nothing at at' malformed malformed
  same-leaf at at' _ _ h = absurd (true≢false (sym h))

  mutual
    pub same_means : (t u : Tree) → same_tree t u ≡ true → tree_meaning M g C t ≡ tree_meaning M g C u
    same_means (atomic at l) (atomic at' m) h = same-leaf at at' l m h
    same_means (applied at x ts) (applied at' y us) h = let k = both_true (bytes_eq x y) (same_trees ts us) h in
        application-anywhere at at' x (found x operators) (trees_meaning M g C ts) ∙
        ap₂ (λ z vs. application M C at' z (found z operators) vs) (same_name x y k.0) (all_same_mean ts us k.1)
    same_means (root at t) (root at' u) h = ap g (same_means t u h)
    same_means (quotient at t d) (quotient at' u e) h = let k = both_true (same_tree t u) (same_tree d e) h in
        T.apply at at' divide (tree_meaning M g C t ∷ tree_meaning M g C d ∷ []) ∙
        ap₂ (λ v w. M.apply at' divide (v ∷ w ∷ [])) (same_means t u k.0) (same_means d e k.1)
    same_means (formless at) (formless at') h = T.nothing at at' malformed malformed
    same_means _ _ h = absurd (true≢false (sym h))

    all_same_mean : (ts us : Trees) → same_trees ts us ≡ true → trees_meaning M g C ts ≡ trees_meaning M g C us
    all_same_mean no_trees no_trees h = refl
    all_same_mean (more_trees t ts) (more_trees u us) h = let k = both_true (same_tree t u) (same_trees ts us) h in
        ap₂ (λ v vs. v ∷ vs) (same_means t u k.0) (all_same_mean ts us k.1)
    all_same_mean _ _ h = absurd (true≢false (sym h))
