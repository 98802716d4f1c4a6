-- Lists of factors, gathered: how many there are.
use Rattle.std.proofs.Common.{◌≡◌, ℕ, suc, ◌+◌, List, [], ◌∷◌, ◌++◌, length, Bool, true, false, cond, refl, ap, sym, ◌∙◌, arith}
use Rattle.poly_graph.specs.Term.{Term}
use Rattle.script_forms.specs.Terms.{Unfolded, stands_again, beside, gathered, gathered_with}
use Rattle.term_build.specs.Pairs.{tree_at, trees_at}

pub trees_both : (ts : List Term) (ks js : List ℕ) → trees_at ts (ks ++ js) ≡ trees_at ts ks ++ trees_at ts js
trees_both ts [] js = refl
trees_both ts (k ∷ ks) js = ap (λ us. tree_at ts k ∷ us) (trees_both ts ks js)

pub length_trees : (ts : List Term) (ks : List ℕ) → length (trees_at ts ks) ≡ length ks
length_trees ts [] = refl
length_trees ts (k ∷ ks) = ap suc (length_trees ts ks)

pub length_beside : (u : Unfolded) (vs : List Unfolded) → length (beside u vs) ≡ suc (length vs)
length_beside u [] = refl
length_beside u (v ∷ vs) = go (stands_again v u) (length_beside u vs)
  where
    go : (b : Bool) → length (beside u vs) ≡ suc (length vs) → length (cond b (v ∷ u ∷ vs) (v ∷ beside u vs)) ≡ suc (suc (length vs))
    go true e = refl
    go false e = ap suc e

length-gathered : (vs us : List Unfolded) → length (gathered_with vs us) ≡ length vs + length us
length-gathered vs [] = omega arith
length-gathered vs (u ∷ us) = omega (arith, length-gathered (beside u vs) us, length_beside u vs)

length-all : (us : List Unfolded) → length (gathered_with [] us) ≡ length us
length-all us = omega (arith, length-gathered [] us)

-- as many as there were
pub length_factors : (ts : List Term) (ks js : List ℕ) → trees_at ts js ≡ gathered (trees_at ts ks) → length js ≡ length ks
length_factors ts ks js e = sym (length_trees ts js) ∙ ap (λ (us : List Unfolded). length us) e ∙ length-all (trees_at ts ks) ∙ length_trees ts ks
